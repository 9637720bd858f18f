-- What is written where the schema lets it stand leaves a configuration of items that may be written.
use Rattle.std.proofs.Common.{◌≡◌, ℕ, zero, suc, ◌<◌, ◌≤◌, true, false, ◌||◌, nat_lt, List, [], ◌∷◌, inl, inr, length, take, None, Some, refl, sym, subst, ◌∙◌, arith}
use Rattle.std.specs.List.{list_any, flat_map}
use Rattle.std.specs.FinMap.{empty, get, get-empty}
use Rattle.std.proofs.lemmas.Bool.{or_from, or_parts, false≢true}
use Rattle.std.proofs.lemmas.Bool.Decides.{nat_tests}
use Rattle.std.proofs.lemmas.List.{length-append}
use Rattle.std.proofs.lemmas.Option.{same_Some}
use Rattle.orc_path.specs.Steps.{PathStep, ends_in_keys, is_path}
use Rattle.orc_path.specs.Items.{fits}
use Rattle.orc_path.specs.Limits.{is_long_path, is_long_step}
use Rattle.orc_path.specs.Order.{path_cmp}
use Rattle.orc_path.specs.Texts.{path_text, step_text}
use Rattle.orc_path.specs.Configurations.{Config, IsWay, put_item}
use Rattle.orc_path.specs.declared.item.Item.{Item}
use Rattle.orc_path.specs.declared.limits.TheConstants.{PATH_STEPS, PATH_LEN}
use Rattle.orc_path.specs.declared.item.Item.TheVariants.{Entry}
use Rattle.orc_path.proofs.ConfigurationLaws.{IsConfig-empty, IsConfig-put_item, put_item_cases}
use Rattle.orc_schema_nodes.specs.Schemas.{SchemaTable}
use Rattle.orc_template.specs.Laws.{MayStand, IsConfigUnder}
use Rattle.orc_template.proofs.TypedWays.{way_typed}

-- Limits --------------------------------------------------------------------------------------------------------------

within : (limit less n : ℕ) → less ≤ n → nat_lt limit n ≡ false → nat_lt limit less ≡ false
within limit less n h k = grind (arith, nat_tests)

front_less : (n : ℕ) (p : List PathStep) → length (take n p) ≤ length p
front_less zero p = omega arith
front_less (suc n) [] = omega arith
front_less (suc n) (step ∷ later) = let rest = front_less n later in omega (arith, rest)

steps_less : (n : ℕ) (p : List PathStep) → length (flat_map step_text (take n p)) ≤ length (flat_map step_text p)
steps_less zero p = omega arith
steps_less (suc n) [] = omega arith
steps_less (suc n) (step ∷ later) =
    let rest = steps_less n later in
    let front = length-append (step_text step) (flat_map step_text (take n later)) in
    let whole = length-append (step_text step) (flat_map step_text later) in
    omega (arith, rest, front, whole)

text_less : (n : ℕ) (p : List PathStep) → 0 < n → length (path_text (take n p)) ≤ length (path_text p)
text_less zero p some = absurd (omega (arith, some))
text_less (suc n) [] some = omega arith
text_less (suc n) (step ∷ later) some =
    let rest = steps_less n later in
    let front = length-append (step_text step) (flat_map step_text (take n later)) in
    let whole = length-append (step_text step) (flat_map step_text later) in
    omega (arith, rest, front, whole)

none_long : (n : ℕ) (p : List PathStep) → list_any is_long_step p ≡ false → list_any is_long_step (take n p) ≡ false
none_long zero p h = refl
none_long (suc n) [] h = refl
none_long (suc n) (step ∷ later) h =
    let parts = or_parts (is_long_step step) (list_any is_long_step later) h in
    or_from (is_long_step step) (list_any is_long_step (take n later)) parts.0 (none_long n later parts.1)

front_short : (n : ℕ) (p : List PathStep) → 0 < n → is_long_path p ≡ false → is_long_path (take n p) ≡ false
front_short n p some h =
    let one = or_parts (nat_lt PATH_STEPS (length p)) (nat_lt PATH_LEN (length (path_text p)) || list_any is_long_step p) h in
    let two = or_parts (nat_lt PATH_LEN (length (path_text p))) (list_any is_long_step p) one.1 in
    or_from (nat_lt PATH_STEPS (length (take n p))) (nat_lt PATH_LEN (length (path_text (take n p))) || list_any is_long_step (take n p))
    (within PATH_STEPS (length (take n p)) (length p) (front_less n p) one.0)
    (or_from (nat_lt PATH_LEN (length (path_text (take n p)))) (list_any is_long_step (take n p))
    (within PATH_LEN (length (path_text (take n p))) (length (path_text p)) (text_less n p some) two.0) (none_long n p two.1))

some_steps : (w : List PathStep) → ends_in_keys w ≡ true → 0 < length w
some_steps [] h = absurd (false≢true h)
some_steps (step ∷ later) h = omega arith

way_short : (p w : List PathStep) → IsWay w p → is_long_path p ≡ false → is_long_path w ≡ false
way_short p w way h = subst (λ (q : List PathStep). is_long_path q ≡ false) (sym way.begins) (front_short (length w) p (some_steps w way.keyed) h)

-- Configurations ------------------------------------------------------------------------------------------------------

pub nothing_written : (s : SchemaTable) → IsConfigUnder s empty
nothing_written s = record {
  whole = IsConfig-empty;
  items = λ path item e. let not_so : None ≡ Some item = sym (get-empty path_cmp path) ∙ e in absurd cc;
}

way_writable : (s : SchemaTable) (p : List PathStep) (item : Item) (w : List PathStep) → MayStand s p item → IsWay w p → MayStand s w Entry
way_writable s p item w h way = record { short = way_short p w way h.short; typed = way_typed s p item w h.typed way; value = refl }

pub put_written : (s : SchemaTable) (m : Config) (p : List PathStep) (put : Item) → IsConfigUnder s m → is_path p ≡ true → fits p put ≡ true → MayStand s p put
    → IsConfigUnder s (put_item m p put)
put_written s m p put c path fit here = record { whole = IsConfig-put_item m p put c.whole path fit; items = items }
  where
    items : (q : List PathStep) (item : Item) → get (put_item m p put) q ≡ Some item → MayStand s q item
    items q item e = elim (put_item_cases m p put q) [
      | inl at ↦ subst (λ (x : List PathStep). MayStand s x item) (sym at.0) (subst (λ (x : Item). MayStand s p x) (same_Some put item (sym at.1 ∙ e)) here)
      | inr away ↦ elim away [
        | inl way ↦ subst (λ (x : Item). MayStand s q x) (same_Some Entry item (sym way.1 ∙ e)) (way_writable s p put q here way.0)
        | inr same ↦ c.items q item (sym same ∙ e)
      ]
    ]
