-- The names that answers hand out, where an answer is noted.
use Rattle.std.proofs.Common.{◌≡◌, ℕ, Bool, true, false, nat_eq, List, Option, None, Some, refl, sym, ap, ◌∙◌, eqb-true, eq-eqb}
use Rattle.std.specs.Prelude.{slice_get, slice_set}
use Rattle.std.specs.Option.{option_map_or}
use Rattle.std.proofs.lemmas.Bool.{false≢true}
use Rattle.std.proofs.lemmas.Option.{same_Some}
use Rattle.orc_call.specs.declared.answer.Answer.{Answer}
use Rattle.orc_rules.specs.declared.asked.Asked.{Asked}
use Rattle.orc_rules.proofs.Slots.{set_length}
use Rattle.orc_hub_parts.specs.Askers.{noted_at, noted_one}
use Rattle.orc_hub_parts.specs.inside.Named.{AreNamed}
use Rattle.orc_hub_parts.proofs.Indexing.{get_other, get_set}

pub noted_named : (slots : List Asked) (names : List (Option (List ℕ))) (place : ℕ) (answer : Answer) → AreNamed slots names → AreNamed (noted_at place answer slots) names
noted_named slots names place answer own = on (slice_get slots place) refl
  where
    on : (o : Option Asked) → slice_get slots place ≡ o
        → AreNamed (option_map_or (λ (one : Asked). slice_set slots place (noted_one answer one)) o slots) names
    on None is = own
    on (Some one) is = record {
      count = own.count ∙ sym (set_length slots place (noted_one answer one));
      named = λ j y at open_there. named_now j y at open_there (nat_eq j place) refl;
    }
      where
        named_now : (j : ℕ) (y : Asked) → slice_get (slice_set slots place (noted_one answer one)) j ≡ Some y → y.is_open ≡ true
            → (b : Bool) → nat_eq j place ≡ b → slice_get names j ≡ Some (Some y.caller)
        named_now j y at open_there true e =
            let here : j ≡ place = eqb-true j place e in
            let same : noted_one answer one ≡ y =
            same_Some (noted_one answer one) y
            (sym (get_set slots place one (noted_one answer one) is) ∙ ap (slice_get (slice_set slots place (noted_one answer one))) (sym here) ∙ at) in
            ap (slice_get names) here ∙ own.named place one is (ap (λ (x : Asked). x.is_open) same ∙ open_there)
            ∙ ap (λ (x : Asked). Some (Some x.caller)) same
        named_now j y at open_there false e =
            own.named j y
            (sym (get_other slots place j (noted_one answer one) (λ same. false≢true (sym e ∙ eq-eqb j place (sym same)))) ∙ at) open_there
