-- What is known of the disk is known of the journal on it.
use Rattle.std.proofs.Common.{rules}
use Rattle.orc_journal.proofs.journal.Journal.attach.Goals as goal

pub returns-in-Ok-clause-opened : goal.returns-in-Ok-clause-opened
returns-in-Ok-clause-opened g c =
    let is = c.in-Ok.ensures.opened in
    record {
      synced = is.synced;
      looked = is.looked;
      file = is.file;
      heard = is.heard;
      read = search rules;
      fresh = search rules;
      room = is.room;
      becomes = search rules;
      holds = record { unspent = search rules; start = search rules; len = search rules; limit = c.requires.limit; file = search rules; durable = is.durable };
      limited = search rules;
      writable = search rules;
      ordered = search rules;
      since = is.since;
      leaves = is.leaves;
      puts = is.puts;
      put_by = search rules;
      course = is.course;
    }
