use Rattle.std.proofs.Common.{ap, is_some, sym, ◌∙◌}
use Rattle.std.specs.FinMap.{from_sorted}
use Rattle.orc_refs.specs.Stores.{ids_in}
use Rattle.orc_refs.proofs.PathLaws.{no_ids}
use Rattle.orc_refs.proofs.plan.ids_at.Goals as goal

pub returns-in-None : goal.returns-in-None
returns-in-None c = sym (no_ids (ids_in (from_sorted c.args.backs.now) c.args.path.now) (λ some. sym (ap is_some c.in-None.is) ∙ c.requires some))
