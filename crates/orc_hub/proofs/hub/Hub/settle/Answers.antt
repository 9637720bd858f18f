use Rattle.std.proofs.Common.{◌∙◌, ap, Err}
use Rattle.orc_hub.proofs.hub.Hub.settle.Goals as goal

pub returns-in-Err-DiskFault : goal.returns-in-Err-DiskFault
returns-in-Err-DiskFault g c = c.write.ensures.failed (c.in-Err-DiskFault.is ∙ ap Err c.in-Err-DiskFault.field-0-is)
