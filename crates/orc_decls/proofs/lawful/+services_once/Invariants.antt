use Rattle.std.proofs.Common.{length}
use Rattle.orc_decls.proofs.lawful.+services_once.Given as goal

abbrev pub decreases-services_once : goal.decreases-services_once
decreases-services_once l = length l.actions.now
