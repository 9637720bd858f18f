use Rattle.orc_json.proofs.TypedHas.{has_json}
use Rattle.orc_json.proofs.laws.typed_has_json.Goals as goal

pub returns : goal.returns
returns c = has_json
