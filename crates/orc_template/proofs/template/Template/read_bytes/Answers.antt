use Rattle.std.proofs.Common.{subst}
use Rattle.std.specs.Prelude.{Option, MatchOption}
use Rattle.serde_json.specs.View.{view}
use Rattle.serde_json.specs.declared.value.Value.{Value}
use Rattle.orc_json.specs.Readings.{IsJson, IsNoJson}
use Rattle.orc_template.proofs.template.Template.read_bytes.Goals as goal

pub checked-requires : goal.checked-requires
checked-requires c =
    let bytes = c.args.bytes.now in
    subst (λ (o : Option Value). MatchOption o (IsNoJson bytes) (λ value. IsJson bytes (view value))) c.in-Some.is c.in_ok-json.ensures
