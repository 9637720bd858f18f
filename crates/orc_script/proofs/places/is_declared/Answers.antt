use Rattle.std.proofs.Common.{◌∙◌, ap, is_some}
use Rattle.orc_script.proofs.Placed.{place_found}
use Rattle.orc_script.proofs.places.is_declared.Goals as goal

pub returns : goal.returns
returns c = c.is_some.ensures ∙ ap is_some c.number_of.ensures.place ∙ place_found c.args.name.now c.args.decls.now.names
