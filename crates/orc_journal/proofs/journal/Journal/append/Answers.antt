-- What is so of the block of an entry is so of the entry.
use Rattle.std.proofs.Common.{rules}
use Rattle.orc_journal.proofs.journal.Journal.append.Goals as goal

pub returns-in-Some-clause-failed : goal.returns-in-Some-clause-failed
returns-in-Some-clause-failed g c failed = c.put_block.ensures.failed failed c.args.entry.now (record { bytes = search rules; fields = c.requires.entry })

pub returns-in_ok-block-in-None-clause-failed : goal.returns-in_ok-block-in-None-clause-failed
returns-in_ok-block-in-None-clause-failed g c failed = c.put_block-in-None.ensures.failed failed c.args.entry.now (record { bytes = search rules; fields = c.requires.entry })
