use Rattle.std.proofs.Common.{sym, ap, ◌∙◌}
use Rattle.serde_json.specs.View.{view}
use Rattle.orc_template.specs.Said.{json_value}
use Rattle.orc_template.proofs.Texts.{json_is}
use Rattle.orc_template.proofs.template.Template.json.Goals as goal

pub returns : goal.returns
returns c = sym (json_is c.args.self.now (view c.self.inside.json) (ap json_value (sym c.self.view_is) ∙ c.self.invariant))
