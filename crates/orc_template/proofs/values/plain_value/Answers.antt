use Rattle.serde_json.specs.View.{view}
use Rattle.orc_value.specs.Json.{canon_of_json}
use Rattle.orc_template.proofs.Forms.{fitted_so}
use Rattle.orc_template.proofs.values.plain_value.Goals as goal

pub returns-clause-value : goal.returns-clause-value
returns-clause-value c = fitted_so (canon_of_json c.args.kind.now (view c.args.value.now)) c.from_json.result c.fitted.result c.from_json.ensures.answer c.fitted.ensures.value
