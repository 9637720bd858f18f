-- Where a valid configuration was changed, each breach of the new one is among what is looked at.
use Rattle.std.proofs.Common.{◌≡◌, ◌≢◌, ◌⊎◌, ℕ, ◌+◌, map, inl, inr, Bool, true, false, not, ◌&&◌, nat_lt, List, [], ◌∷◌, ◌++◌, length, take, Some, None, refl, sym, ap, subst, ◌∙◌, arith, is_some}
use Rattle.std.specs.declared.option.Option.{Option}
use Rattle.std.specs.Prelude.{is_none, if◌then◌else◌}
use Rattle.std.specs.Option.{option_map_or}
use Rattle.std.specs.List.{filter, flat_map, list_any}
use Rattle.std.specs.FinMap.{get, entries}
use Rattle.std.proofs.lemmas.Bool.{false≢true, and_parts, cases_Bool}
use Rattle.std.proofs.lemmas.List.{length-append}
use Rattle.std.proofs.Math.Seq.{take-append_seam}
use Rattle.orc_path.specs.Configurations.{Config, IsConfig, is_entry_of}
use Rattle.orc_path.specs.declared.item.Item.{Item}
use Rattle.orc_schema_nodes.specs.Schemas.{SchemaTable, Ascends, path_names}
use Rattle.orc_schema_nodes.specs.declared.line.LeafNode.{LeafNode}
use Rattle.orc_schema_nodes.specs.declared.line.Node.{Node}
use Rattle.orc_schema_nodes.specs.declared.line.Node.TheVariants.{Container, List as ListOf, Leaf, LeafList}
use Rattle.orc_schema_nodes.specs.declared.line.SchemaLine.{SchemaLine}
use Rattle.orc_change.specs.Differences.{has_item}
use Rattle.orc_check.specs.Validity.{Breach, breach_if, goes_down, plain_steps, is_place, places, reached, is_of_kind, has_canonical_last_keys, values_of, lacks_instance, row_breaches, count_breaches, is_missing, node_breaches, line_breaches, place_breaches, breaches}
use Rattle.orc_check.specs.declared.rules.TheConstants.{KIND, KEY, MANDATORY, MIN_ELEMENTS, MAX_ELEMENTS, LEAFREF}
use Rattle.orc_revalidate.specs.inside.Looked.{has_row, own_breaches, node_breaches_on}
use Rattle.orc_revalidate.proofs.Members.{In, in_left, in_right, in_parts, in_none, from_flat_map, in_filter, in_map, from_any}
use Rattle.orc_revalidate.proofs.Rowed.{Path, Row, row_in, row_found, has}
use Rattle.orc_revalidate.proofs.Sames.{Names, is_reached, reached_names, IsReached}
use Rattle.orc_revalidate.proofs.Instances.{TakesNone, CoversNone, none_dangles}
use Rattle.orc_revalidate.proofs.Entered.{is_other_entry, same_count}
use Rattle.orc_revalidate.proofs.Fronted.{IsPlaceRow, place_row, node_in, entry_below}

-- ---- lists of breaches without any

front_none : (xs ys : List Breach) → xs ++ ys ≡ [] → xs ≡ []
front_none [] ys e = refl
front_none (x ∷ xs) ys e = cc

back_none : (xs ys : List Breach) → xs ++ ys ≡ [] → ys ≡ []
back_none [] ys e = e
back_none (x ∷ xs) ys e = cc

part_none : {X : Type 0} (f : X → List Breach) (xs : List X) (x : X) → flat_map f xs ≡ [] → In xs x → f x ≡ []
part_none f [] x e h = absurd h
part_none f (y ∷ xs) x e (inl same) = ap f (sym same) ∙ front_none (f y) (flat_map f xs) e
part_none f (y ∷ xs) x e (inr h) = part_none f xs x (back_none (f y) (flat_map f xs) e) h

unbroken : (broken : Bool) (path : Path) (rule : ℕ) → breach_if broken path rule ≡ [] → broken ≡ false
unbroken true path rule e = cc
unbroken false path rule e = refl

is_broken : (broken : Bool) (path : Path) (rule : ℕ) (b : Breach) → In (breach_if broken path rule) b → broken ≡ true
is_broken true path rule b h = refl
is_broken false path rule b h = absurd h

is_not : (b : Bool) → not b ≡ true → b ≡ false
is_not true h = absurd (false≢true h)
is_not false h = refl

-- what was looked at: each row that came or went, with what it may break
pub record Looks (s : SchemaTable) (old new : Config) (seen : List Breach) : Type 0 where
  pub came : (row : Row) → In (entries new) row → has_row old row ≡ false → (b : Breach)
      → In (row_breaches s new row ++ (own_breaches s new row ++ node_breaches_on s new row.0)) b → In seen b
  pub went : (row : Row) → In (entries old) row → has_row new row ≡ false → (b : Breach) → In (node_breaches_on s new row.0) b → In seen b

module _ (s : SchemaTable) (ascends : Ascends s.lines) (old new : Config) (config : IsConfig new) (valid : breaches s old ≡ []) (takes : TakesNone s old new) (covers : CoversNone s old new)
    (seen : List Breach) (looks : Looks s old new seen) where
  -- ---- rows

  rows_valid : flat_map (row_breaches s old) (entries old) ≡ []
  rows_valid = front_none (flat_map (row_breaches s old) (entries old)) (flat_map (place_breaches s old) (places s old)) valid

  places_valid : flat_map (place_breaches s old) (places s old) ≡ []
  places_valid = back_none (flat_map (row_breaches s old) (entries old)) (flat_map (place_breaches s old) (places s old)) valid

  -- a row that stayed breaks nothing
  row_stays : (row : Row) → In (entries old) row → In (entries new) row → row_breaches s new row ≡ []
  row_stays row h stays = three (not (is_of_kind s row)) (not (has_canonical_last_keys s row.0)) (list_any (lacks_instance s old row.0) (values_of s row))
      (list_any (lacks_instance s new row.0) (values_of s row)) (part_none (row_breaches s old) (entries old) row rows_valid h)
      (none_dangles s old new config takes covers row.0 (ap is_some (row_found new row stays)) (values_of s row))
    where
      three : (kind keys was link : Bool) → breach_if kind row.0 KIND ++ (breach_if keys row.0 KEY ++ breach_if was row.0 LEAFREF) ≡ [] → (was ≡ false → link ≡ false)
          → breach_if kind row.0 KIND ++ (breach_if keys row.0 KEY ++ breach_if link row.0 LEAFREF) ≡ []
      three kind keys was link e still =
          let rest = back_none (breach_if kind row.0 KIND) (breach_if keys row.0 KEY ++ breach_if was row.0 LEAFREF) e in
          let none : link ≡ false = still (unbroken was row.0 LEAFREF (back_none (breach_if keys row.0 KEY) (breach_if was row.0 LEAFREF) rest)) in
          let kinds : kind ≡ false = unbroken kind row.0 KIND (front_none (breach_if kind row.0 KIND) (breach_if keys row.0 KEY ++ breach_if was row.0 LEAFREF) e) in
          let key : keys ≡ false = unbroken keys row.0 KEY (front_none (breach_if keys row.0 KEY) (breach_if was row.0 LEAFREF) rest) in
          ap (λ (x : Bool). breach_if x row.0 KIND ++ (breach_if keys row.0 KEY ++ breach_if link row.0 LEAFREF)) kinds
          ∙ ap (λ (x : Bool). breach_if x row.0 KEY ++ breach_if link row.0 LEAFREF) key
          ∙ ap (λ (x : Bool). breach_if x row.0 LEAFREF) none

  of_row : (row : Row) (b : Breach) → In (entries new) row → In (row_breaches s new row) b → In seen b
  of_row row b h there = on (has_row old row) refl
    where
      on : (t : Bool) → has_row old row ≡ t → In seen b
      on true is = absurd (in_none (row_breaches s new row) b (row_stays row (has old row is) h) there)
      on false is = looks.came row h is b (in_left (row_breaches s new row) (own_breaches s new row ++ node_breaches_on s new row.0) b there)

  -- ---- nodes below a place that stayed

  -- what is looked at below the place, where a row came or went
  node_came : (row : Row) (b : Breach) → In (entries new) row → has_row old row ≡ false → In (node_breaches_on s new row.0) b → In seen b
  node_came row b h is there = looks.came row h is b
      (in_right (row_breaches s new row) (own_breaches s new row ++ node_breaches_on s new row.0) b
      (in_right (own_breaches s new row) (node_breaches_on s new row.0) b there))

  module _ (place : Path) (here : In (places s new) place) (line : SchemaLine) (among : In s.lines line) (own : Path) (r : IsReached s place line.names own)
      (b : Breach) (there : In (line_breaches s new place line) b) where
    names : path_names own ≡ line.names
    names = reached_names s place line.names own r

    long : length own ≡ length place + length (plain_steps r.later)
    long = ap length r.is ∙ length-append place (plain_steps r.later)

    -- the leaf that went
    leaf_went : (x : Item) → get old own ≡ Some x → get new own ≡ None → In seen b
    leaf_went x was gone = looks.went (own, x) (row_in old own x was) (ap (λ (o : Option Item). has_item o x) gone) b
        (node_in s new ascends line own place b among names here
        (ap (take (length place)) r.is ∙ take-append_seam place (plain_steps r.later)) (omega (arith, long)) there)

    leaf_missing : (l : LeafNode) → is_missing old own l ≡ false → is_missing new own l ≡ true → In seen b
    leaf_missing l before now = on (get old own) refl (get new own) refl
      where
        lack : is_none (get new own) ≡ true
        lack = (and_parts l.mandatory (is_none (get new own)) (and_parts (is_none l.key) (l.mandatory && is_none (get new own)) now).1).1

        had : is_none (get old own) ≡ true → ⊥
        had none = false≢true (sym before ∙ ap (λ t. is_none l.key && (l.mandatory && t)) (none ∙ sym lack) ∙ now)

        on : (o : Option Item) → get old own ≡ o → (p : Option Item) → get new own ≡ p → In seen b
        on None e p f = absurd (had (ap is_none e))
        on (Some x) e None f = leaf_went x e f
        on (Some x) e (Some y) f = absurd (false≢true (sym (ap is_none f) ∙ lack))

    -- an entry that came or went
    next_of : (later : Names) → own ≡ place ++ plain_steps later → (row : Row) → is_entry_of own row.0 ≡ true → later ≢ [] → In (node_breaches_on s new row.0) b
    next_of [] is row h some = absurd (some refl)
    next_of (next ∷ later) is row h some =
        let below = entry_below place next later own row.0 is h in
        node_in s new ascends line row.0 place b among (below.names ∙ names) here below.front below.short there

    goes_on : r.later ≢ []
    goes_on none = false≢true (sym (ap (goes_down s (path_names place)) none) ∙ r.down)

    entry_there : (row : Row) → is_entry_of own row.0 ≡ true → In (node_breaches_on s new row.0) b
    entry_there row h = next_of r.later r.is row h goes_on

    entry_went : list_any (is_other_entry new own) (entries old) ≡ true → In seen b
    entry_went h =
        let found = from_any (is_other_entry new own) (entries old) h in
        let parts = and_parts (not (has_row new found.one)) (is_entry_of own found.one.0) found.passes in
        looks.went found.one found.among (is_not (has_row new found.one) parts.0) b (entry_there found.one parts.1)

    entry_came : list_any (is_other_entry old own) (entries new) ≡ true → In seen b
    entry_came h =
        let found = from_any (is_other_entry old own) (entries new) h in
        let parts = and_parts (not (has_row old found.one)) (is_entry_of own found.one.0) found.passes in
        node_came found.one b found.among (is_not (has_row old found.one) parts.0) (entry_there found.one parts.1)

    counted : (least : ℕ) (most : Option ℕ) → count_breaches old own least most ≡ [] → In (count_breaches new own least most) b → In seen b
    counted least most before now = on (cases_Bool (list_any (is_other_entry new own) (entries old))) (cases_Bool (list_any (is_other_entry old own) (entries new)))
      where
        on : (list_any (is_other_entry new own) (entries old) ≡ true) ⊎ (list_any (is_other_entry new own) (entries old) ≡ false)
            → (list_any (is_other_entry old own) (entries new) ≡ true) ⊎ (list_any (is_other_entry old own) (entries new) ≡ false) → In seen b
        on (inl went) came = entry_went went
        on (inr went) (inl came) = entry_came came
        on (inr went) (inr came) =
            absurd (in_none (count_breaches new own least most) b
            (ap (λ (n : ℕ). breach_if (nat_lt n least) own MIN_ELEMENTS ++ breach_if (option_map_or (λ m. nat_lt m n) most false) own MAX_ELEMENTS) (sym (same_count old new own went came)) ∙ before)
            now)

    of_node : (node : Node) → node_breaches old node own ≡ [] → In (node_breaches new node own) b → In seen b
    of_node Container before now = absurd now
    of_node (ListOf l) before now = counted l.least l.most before now
    of_node (LeafList l) before now = counted l.least l.most before now
    of_node (Leaf l) before now =
        leaf_missing l (unbroken (is_missing old own l) own MANDATORY before) (is_broken (is_missing new own l) own MANDATORY b now)

  of_line : (place : Path) → In (places s new) place → (line : SchemaLine) → In s.lines line → line_breaches s old place line ≡ [] → (b : Breach)
      → In (line_breaches s new place line) b → In seen b
  of_line place here line among before b there = on (reached s place line.names) refl before there
    where
      on : (o : Option Path) → reached s place line.names ≡ o → option_map_or (node_breaches old line.node) o [] ≡ []
          → In (option_map_or (node_breaches new line.node) o []) b → In seen b
      on None is before now = absurd now
      on (Some own) is before now = of_node place here line among own (is_reached s place line.names own is) b there line.node before now

  of_old_place : (place : Path) → In (places s old) place → In (places s new) place → (b : Breach) → In (place_breaches s new place) b → In seen b
  of_old_place place was here b there =
      let found = from_flat_map (line_breaches s new place) s.lines b there in
      let none : place_breaches s old place ≡ [] = part_none (place_breaches s old) (places s old) place places_valid was in
      of_line place here found.from found.among (part_none (line_breaches s old place) s.lines found.from none found.among) b found.there

  -- ---- places that came

  own_there : (row : Row) (b : Breach) → is_place s row ≡ true → In (place_breaches s new row.0) b → In (own_breaches s new row) b
  own_there row b is there = subst (λ (t : Bool). In (if t then place_breaches s new row.0 else []) b) (sym is) there

  of_place : (place : Path) → In (places s new) place → (b : Breach) → In (place_breaches s new place) b → In seen b
  of_place place here b there = on (place_row s new place here)
    where
      by : (row : Row) → IsPlaceRow s new place row → (t : Bool) → has_row old row ≡ t → In seen b
      by row is true e =
          of_old_place place
          (inr (subst (In (map (λ (x : Row). x.0) (filter (is_place s) (entries old)))) is.at
          (in_map (λ (x : Row). x.0) (filter (is_place s) (entries old)) row (in_filter (is_place s) (entries old) row (has old row e) is.listed))))
          here b there
      by row is false e =
          looks.came row is.among e b
          (in_right (row_breaches s new row) (own_breaches s new row ++ node_breaches_on s new row.0) b
          (in_left (own_breaches s new row) (node_breaches_on s new row.0) b
          (own_there row b is.listed (subst (λ (p : Path). In (place_breaches s new p) b) (sym is.at) there))))

      on : ([] ≡ place) ⊎ ((row : Row) × IsPlaceRow s new place row) → In seen b
      on (inl root) = of_old_place place (inl root) here b there
      on (inr found) = by found.0 found.1 (has_row old found.0) refl

  -- ---- all of them

  pub all_seen : (b : Breach) → In (breaches s new) b → In seen b
  all_seen b h = on (in_parts (flat_map (row_breaches s new) (entries new)) (flat_map (place_breaches s new) (places s new)) b h)
    where
      on : In (flat_map (row_breaches s new) (entries new)) b ⊎ In (flat_map (place_breaches s new) (places s new)) b → In seen b
      on (inl there) =
          let found = from_flat_map (row_breaches s new) (entries new) b there in
          of_row found.from b found.among found.there
      on (inr there) =
          let found = from_flat_map (place_breaches s new) (places s new) b there in
          of_place found.from found.among b found.there
