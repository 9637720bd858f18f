-- Where no instance went and no default was covered, each instance of a leafref's target still is one.
use Rattle.std.proofs.Common.{◌≡◌, ◌⊎◌, ℕ, inl, inr, Bool, true, false, not, ◌&&◌, List, [], ◌∷◌, ◌++◌, map, Some, None, refl, sym, ap, subst, ◌∙◌, is_some, append-nil}
use Rattle.std.specs.declared.option.Option.{Option}
use Rattle.std.specs.Prelude.{is_none, option_and_then, if◌then◌else◌}
use Rattle.std.specs.Option.{option_map_or}
use Rattle.std.specs.List.{filter, list_any}
use Rattle.std.specs.FinMap.{get, entries}
use Rattle.std.proofs.lemmas.Bool.{false≢true, and_parts, and_from, or_left, or_right, or_cases, false_from_ne_true}
use Rattle.orc_path.specs.Configurations.{Config, IsConfig}
use Rattle.orc_path.specs.declared.item.Item.{Item}
use Rattle.orc_path.specs.declared.item.Item.TheVariants as item
use Rattle.orc_value.specs.Canon.{same_text}
use Rattle.orc_schema_nodes.specs.Names.{same_names}
use Rattle.orc_schema_nodes.specs.Schemas.{SchemaTable, path_names, node_at}
use Rattle.orc_schema_nodes.specs.declared.line.Node.{Node}
use Rattle.orc_schema_nodes.specs.declared.line.Node.TheVariants.{Container, List as ListOf, Leaf, LeafList}
use Rattle.orc_schema_nodes.specs.declared.line.Target.{Target}
use Rattle.orc_typed.specs.Typed.{is_in_schema}
use Rattle.orc_check.specs.Validity.{NamedText, last_keys, key_values, entry_values, item_values, values_of, plain_steps, is_place, places, behind, reached, shares, is_value_of, row_has, default_in, has_default, place_lacks, has_instance, target_in, lacks_instance}
use Rattle.orc_change.specs.Differences.{has_item}
use Rattle.orc_revalidate.specs.inside.Looked.{has_row}
use Rattle.orc_revalidate.specs.inside.Led.{is_cut_off, is_at_or_below, may_reach, leads_into, is_led_to, has_default_at}
use Rattle.orc_revalidate.proofs.Members.{In, any_in, from_any, none_in, in_filter, from_filter, in_map, from_map}
use Rattle.orc_revalidate.proofs.Rowed.{Path, Row, row_in, has}
use Rattle.orc_revalidate.proofs.Uncut.{shared_uncut, place_uncut}
use Rattle.orc_revalidate.proofs.Sames.{Names, names_are, behind_own, is_reached, reached_names, IsReached, target_line, IsTargetOf}

-- ---- the values of a row stand at its own node or below it

-- the names go on from these
record GoesOn (names : Names) (held : NamedText) : Type 0 where
  more : Names
  is : held.names ≡ names ++ more

of_key : (names keys texts : Names) (held : NamedText) → In (key_values names keys texts) held → GoesOn names held
of_key names [] texts held h = absurd h
of_key names (key ∷ keys) [] held h = absurd h
of_key names (key ∷ keys) (text ∷ texts) held (inl e) = record { more = key ∷ []; is = ap (λ (x : NamedText). x.names) (sym e) }
of_key names (key ∷ keys) (text ∷ texts) held (inr h) = of_key names keys texts held h

of_value : (names texts : Names) (held : NamedText) → In (map (λ (text : List ℕ). record { names = names; text = text }) texts) held → GoesOn names held
of_value names [] held h = absurd h
of_value names (text ∷ texts) held (inl e) = record { more = []; is = ap (λ (x : NamedText). x.names) (sym e) ∙ sym (append-nil names) }
of_value names (text ∷ texts) held (inr h) = of_value names texts held h

of_entry : (names texts : Names) (node : Option Node) (held : NamedText) → In (option_map_or (entry_values names texts) node []) held → GoesOn names held
of_entry names texts None held h = absurd h
of_entry names texts (Some Container) held h = absurd h
of_entry names texts (Some (ListOf l)) held h = of_key names l.keys texts held h
of_entry names texts (Some (Leaf l)) held h = absurd h
of_entry names texts (Some (LeafList l)) held h = of_value names texts held h

of_item : (s : SchemaTable) (path : Path) (x : Item) (held : NamedText) → In (item_values s path x) held → GoesOn (path_names path) held
of_item s path item.Entry held h = of_entry (path_names path) (last_keys path) (node_at s (path_names path)) held h
of_item s path (item.Leaf text) held (inl e) = record { more = []; is = ap (λ (x : NamedText). x.names) (sym e) ∙ sym (append-nil (path_names path)) }
of_item s path (item.Leaf text) held (inr h) = absurd h

of_row : (s : SchemaTable) (row : Row) (held : NamedText) → In (values_of s row) held → GoesOn (path_names row.0) held
of_row s row held h = on (is_in_schema s row.0 row.1) h
  where
    on : (b : Bool) → In (if b then item_values s row.0 row.1 else []) held → GoesOn (path_names row.0) held
    on true h = of_item s row.0 row.1 held h
    on false h = absurd h

-- a row that has a value of a target stands at its node, or above it
holds_above : (s : SchemaTable) (target : Target) (text : List ℕ) (path : Path) (row : Row) → row_has s target text path row ≡ true → is_at_or_below row.0 target ≡ true
holds_above s target text path row h =
    let found = from_any (is_value_of target.names text) (values_of s row) (and_parts (shares target.shared row.0 path) (list_any (is_value_of target.names text) (values_of s row)) h).1 in
    let held = found.one in
    let goes = of_row s row held found.among in
    let names : held.names ≡ target.names = names_are held.names target.names (and_parts (same_names held.names target.names) (same_text held.text text) found.passes).0 in
    ap (λ (ns : Names). is_some (behind row.0 ns)) (sym names ∙ goes.is) ∙ ap is_some (behind_own row.0 goes.more)

default_there : (names : Names) (text : List ℕ) (o : Option (List ℕ)) → option_map_or (same_text text) o false ≡ true → is_some o ≡ true
default_there names text None h = absurd (false≢true h)
default_there names text (Some own) h = refl

-- ---- instances

module _ (s : SchemaTable) (old new : Config) where
  -- no row went to which, or below which, a leafref may lead from a row that is there
  abbrev pub TakesNone : Type 0
  TakesNone = (row : Row) → In (entries old) row → has_row new row ≡ false → is_led_to s new row.0 ≡ false

  -- no leaf came whose default a leafref may lead to
  abbrev pub CoversNone : Type 0
  CoversNone = (row : Row) → In (entries new) row → has_row old row ≡ false → (has_default_at s row.0 && is_led_to s new row.0) ≡ false

  module _ (config : IsConfig new) (takes : TakesNone) (covers : CoversNone) where
    -- a leafref at a path that is there
    module _ (target : Target) (led : IsTargetOf s target) (text : List ℕ) (path : Path) (there : is_some (get new path) ≡ true) where
      led_from : (own : Path) → may_reach new own target ≡ true → is_led_to s new own ≡ true
      led_from own h =
          any_in (leads_into new own) s.lines led.line led.among (ap (λ (o : Option Target). option_map_or (may_reach new own) o false) led.leads ∙ h)

      reach : (own : Path) → is_at_or_below own target ≡ true → is_cut_off new own target.shared ≡ false → may_reach new own target ≡ true
      reach own at whole = and_from (is_at_or_below own target) (not (is_cut_off new own target.shared)) at (ap not whole)

      -- a row that the leafref may lead to stayed
      stayed : (row : Row) → In (entries old) row → may_reach new row.0 target ≡ true → In (entries new) row
      stayed row h at = on (has_row new row) refl
        where
          on : (b : Bool) → has_row new row ≡ b → In (entries new) row
          on true is = has new row is
          on false is = absurd (false≢true (sym (takes row h is) ∙ led_from row.0 at))

      row_still : list_any (row_has s target text path) (entries old) ≡ true → list_any (row_has s target text path) (entries new) ≡ true
      row_still h =
          let found = from_any (row_has s target text path) (entries old) h in
          let share = (and_parts (shares target.shared found.one.0 path) (list_any (is_value_of target.names text) (values_of s found.one)) found.passes).0 in
          any_in (row_has s target text path) (entries new) found.one
          (stayed found.one found.among
          (reach found.one.0 (holds_above s target text path found.one found.passes) (shared_uncut new config path there found.one.0 target.shared share)))
          found.passes

      place_still : (place : Path) → In (places s old) place → may_reach new place target ≡ true → In (places s new) place
      place_still place (inl e) at = inl e
      place_still place (inr h) at =
          let found = from_map (λ (row : Row). row.0) (filter (is_place s) (entries old)) place h in
          let parts = from_filter (is_place s) (entries old) found.source found.among in
          let above : may_reach new found.source.0 target ≡ true = ap (λ (p : Path). may_reach new p target) found.is ∙ at in
          inr (subst (In (map (λ (row : Row). row.0) (filter (is_place s) (entries new)))) found.is
          (in_map (λ (row : Row). row.0) (filter (is_place s) (entries new)) found.source
          (in_filter (is_place s) (entries new) found.source (stayed found.source parts.0 above) parts.1)))

      -- a leaf that is missing, and whose default counts, is still missing
      still_missing : has_default s target.names text ≡ true → (place own : Path) → IsReached s place target.names own → shares target.shared own path ≡ true
          → is_none (get old own) ≡ true → is_none (get new own) ≡ true
      still_missing counts place own r share missing = on (get new own) refl
        where
          names : path_names own ≡ target.names
          names = reached_names s place target.names own r

          lacked : (o : Option Item) (x : Item) → is_none o ≡ true → has_item o x ≡ false
          lacked None x h = refl
          lacked (Some y) x h = absurd (false≢true h)

          has_one : has_default_at s own ≡ true
          has_one = ap (λ (ns : Names). is_some (option_and_then default_in (node_at s ns))) names
              ∙ default_there target.names text (option_and_then default_in (node_at s target.names)) counts

          at : is_at_or_below own target ≡ true
          at = ap (λ (ns : Names). is_some (behind own ns)) (sym names ∙ sym (append-nil (path_names own))) ∙ ap is_some (behind_own own [])

          on : (o : Option Item) → get new own ≡ o → is_none o ≡ true
          on None is = refl
          on (Some x) is =
              let led = led_from own (reach own at (shared_uncut new config path there own target.shared share)) in
              absurd (false≢true (sym (covers (own, x) (row_in new own x is) (lacked (get old own) x missing))
              ∙ and_from (has_default_at s own) (is_led_to s new own) has_one led))

      lacks_still : has_default s target.names text ≡ true → (place : Path) → place_lacks s old target path place ≡ true
          → (may_reach new place target ≡ true) × (place_lacks s new target path place ≡ true)
      lacks_still counts place h = on (reached s place target.names) refl h
        where
          on : (o : Option Path) → reached s place target.names ≡ o
              → option_map_or (λ own. is_none (get old own) && shares target.shared own path) o false ≡ true
              → (may_reach new place target ≡ true) × (place_lacks s new target path place ≡ true)
          on None is h = absurd (false≢true h)
          on (Some own) is h =
              let r = is_reached s place target.names own is in
              let parts = and_parts (is_none (get old own)) (shares target.shared own path) h in (
                reach place (ap is_some r.at) (place_uncut new config path there place (plain_steps r.later) target.shared
                    (ap (λ (p : Path). shares target.shared p path) (sym r.is) ∙ parts.1)),
                ap (λ (o : Option Path). option_map_or (λ (p : Path). is_none (get new p) && shares target.shared p path) o false) is
                    ∙ and_from (is_none (get new own)) (shares target.shared own path) (still_missing counts place own r parts.1 parts.0) parts.1,
              )

      default_still : (has_default s target.names text && list_any (place_lacks s old target path) (places s old)) ≡ true
          → (has_default s target.names text && list_any (place_lacks s new target path) (places s new)) ≡ true
      default_still h =
          let parts = and_parts (has_default s target.names text) (list_any (place_lacks s old target path) (places s old)) h in
          let found = from_any (place_lacks s old target path) (places s old) parts.1 in
          let still = lacks_still parts.0 found.one found.passes in
          and_from (has_default s target.names text) (list_any (place_lacks s new target path) (places s new)) parts.0
          (any_in (place_lacks s new target path) (places s new) found.one (place_still found.one found.among still.0) still.1)

      instance_still : has_instance s old target text path ≡ true → has_instance s new target text path ≡ true
      instance_still h = on (or_cases (list_any (row_has s target text path) (entries old)) (has_default s target.names text && list_any (place_lacks s old target path) (places s old)) h)
        where
          on : (list_any (row_has s target text path) (entries old) ≡ true) ⊎ ((has_default s target.names text && list_any (place_lacks s old target path) (places s old)) ≡ true)
              → has_instance s new target text path ≡ true
          on (inl h) = or_left (list_any (row_has s target text path) (entries new)) (has_default s target.names text && list_any (place_lacks s new target path) (places s new)) (row_still h)
          on (inr h) = or_right (list_any (row_has s target text path) (entries new)) (has_default s target.names text && list_any (place_lacks s new target path) (places s new)) (default_still h)

    -- ---- values that lead there

    not_lost : (path : Path) → is_some (get new path) ≡ true → (held : NamedText) → lacks_instance s old path held ≡ false → lacks_instance s new path held ≡ true → ⊥
    not_lost path there held before now = on (option_and_then target_in (node_at s held.names)) refl before now
      where
        was : (b : Bool) → not b ≡ false → b ≡ true
        was true h = refl
        was false h = absurd (false≢true (sym h))

        is_not : (b : Bool) → not b ≡ true → b ≡ false
        is_not true h = absurd (false≢true h)
        is_not false h = refl

        on : (o : Option Target) → option_and_then target_in (node_at s held.names) ≡ o
            → option_map_or (λ target. not (has_instance s old target held.text path)) o false ≡ false
            → option_map_or (λ target. not (has_instance s new target held.text path)) o false ≡ true → ⊥
        on None is before now = false≢true now
        on (Some target) is before now =
            let had : has_instance s old target held.text path ≡ true = was (has_instance s old target held.text path) before in
            let still = instance_still target (target_line s held.names target is) held.text path there had in
            false≢true (sym (is_not (has_instance s new target held.text path) now) ∙ still)

    pub none_dangles : (path : Path) → is_some (get new path) ≡ true → (all : List NamedText) → list_any (lacks_instance s old path) all ≡ false → list_any (lacks_instance s new path) all ≡ false
    none_dangles path there all h = false_from_ne_true (list_any (lacks_instance s new path) all) (λ now.
        let found = from_any (lacks_instance s new path) all now in
        not_lost path there found.one (none_in (lacks_instance s old path) all found.one h found.among) found.passes)
