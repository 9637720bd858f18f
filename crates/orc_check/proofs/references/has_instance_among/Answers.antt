use Rattle.std.proofs.Common.{sym}
use Rattle.orc_check.proofs.references.has_instance_among.Goals as goal

pub returns-then-has_listed : goal.returns-then-has_listed
returns-then-has_listed c = sym (c.has_listed.ensures c.if-has_listed.true)
