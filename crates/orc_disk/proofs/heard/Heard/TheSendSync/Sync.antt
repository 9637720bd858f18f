-- The list is known to proofs alone, so it may be lent to other threads.
use denote.Param.Send.{IsSync, part_keyless}
use Rattle.orc_disk.specs.contracts.heard.Heard.{the_row}
use Rattle.orc_disk.proofs.heard.Heard.TheSendSync.Send.{send}

pub sync : IsSync the_row
sync = record { shared = λ d b o κ q. part_keyless the_row send q d b o }
