use Rattle.std.proofs.Common.{◌≢◌, length, Option, sym, ap, ◌∙◌}
use Rattle.std.specs.Prelude.{is_ok}
use Rattle.serde_json.specs.Data.{Items}
use Rattle.orc_value.specs.Json.{canon_of_items}
use Rattle.orc_value.proofs.JsonLaws.{canon_of_items-other}
use Rattle.orc_value.proofs.json.is_null_item.Goals as goal

pub returns-then-items-ne1 : goal.returns-then-items-ne1
returns-then-items-ne1 c =
    let other : length c.in-Some.items.now.items ≢ 1 = λ e. c.if-items-ne1.true (ap length c.as_slice-items.ensures.value ∙ e) in
    sym (canon_of_items-other c.in-Some.items.now.items other) ∙ ap (λ (o : Option Items). is_ok (canon_of_items o)) c.in-Some.ensures
