-- By the lemmas on rows of appends.
use Rattle.orc_journal.proofs.AppendRows.{AppendsEach-one, AppendsEach-more, armed_behind, did_until_stop, nearer_until_fault, did_until_fault, images_behind}
use Rattle.orc_journal.proofs.laws.add_up.Goals as goal

pub returns : goal.returns
returns g c =
    let disk = g.D.Disk.disk in
    let law = g.met.D.Disk in
    record {
      one = AppendsEach-one disk;
      more = AppendsEach-more disk law.goes_on law.counts law.counts_ops;
      stopped = λ decls a b end added entry each stops.
          let at = armed_behind disk law.goes_on law.counts law.counts_ops decls a b end added entry each stops in
          (at.0, at.1, did_until_stop disk law.goes_on law.counts law.counts_ops decls a b end added entry each stops);
      failed = λ decls a b end added entry each fails. (
        nearer_until_fault disk law.goes_on law.counts law.counts_ops decls a b end added entry each fails,
        did_until_fault disk law.goes_on law.counts law.counts_ops decls a b end added entry each fails,
      );
      images = images_behind disk;
    }
