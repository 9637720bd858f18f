use Rattle.std.proofs.Common.{◌∙◌, ap, refl, Err}
use Rattle.orc_hub.proofs.hub.Hub.write.Goals as goal

pub returns-in-Err-DiskFault-clause-failed : goal.returns-in-Err-DiskFault-clause-failed
returns-in-Err-DiskFault-clause-failed g c = λ _.
    let is = c.in-Err-DiskFault.is ∙ ap Err c.in-Err-DiskFault.field-0-is in
    record {
      failed = c.append.ensures.failed is;
      fits = c.append.ensures.fits is;
      leaves = c.append.ensures.leaves is;
      down = refl;
      decls = refl;
      answers = refl;
    }
