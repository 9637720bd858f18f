-- With which status the program ends.
use Rattle.std.specs.Prelude.{ℕ, Result}
use Rattle.std.specs.declared.result.Result.TheVariants.{Ok, Err}
use Rattle.orc_run.specs.declared.stop.Done.{Done}
use Rattle.orc_run.specs.declared.stop.Stop.{Stop}
use Rattle.orc_run.specs.declared.stop.Stop.TheVariants.{Bundle, Usage, ReadFault, WriteFault, JournalFault, Memory, Foreign, Full, NotJournal, Damaged}

abbrev pub stop_status : Stop → ℕ
stop_status (Bundle line rule) = 1
stop_status Usage = 2
stop_status ReadFault = 3
stop_status WriteFault = 4
stop_status JournalFault = 5
stop_status Memory = 6
stop_status (Foreign at) = 7
stop_status (Full len) = 8
stop_status NotJournal = 9
stop_status (Damaged at) = 10

abbrev pub status_of : Result Done Stop → ℕ
status_of (Ok done) = 0
status_of (Err stop) = stop_status stop
