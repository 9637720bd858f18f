use Rattle.orc_json.proofs.Whole.{json_is_read}
use Rattle.orc_json.proofs.laws.json_is_read.Goals as goal

pub returns : goal.returns
returns c = json_is_read
