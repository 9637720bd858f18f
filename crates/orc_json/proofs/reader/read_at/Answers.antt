use Rattle.std.proofs.Common.{subst}
use Rattle.std.specs.Prelude.{Option, MatchOption}
use Rattle.serde_json.specs.View.{view}
use Rattle.serde_json.specs.declared.value.Value.{Value}
use Rattle.orc_json.specs.Readings.{outcome, IsJson, IsNoJson, IsOutcome}
use Rattle.orc_json.specs.declared.reading.Reading.{Reading}
use Rattle.orc_json.proofs.Given.{settled}
use Rattle.orc_json.proofs.reader.read_at.Goals as goal

pub returns-in_ok-gather-in-Some : goal.returns-in_ok-gather-in-Some
returns-in_ok-gather-in-Some c =
    let bytes = c.args.bytes.now in
    let json = subst (λ (o : Option Value). MatchOption o (IsNoJson bytes) (λ value. IsJson bytes (view value))) c.in-Some.is c.in_ok-value.ensures in
    let held = subst (λ (r : Reading). IsOutcome (outcome r) c.settle.result) c.in_ok-gather-in-Some.ensures c.settle.ensures in
    settled c.args.schema.now c.args.at.now bytes (view c.in-Some.value) json c.settle.result held
