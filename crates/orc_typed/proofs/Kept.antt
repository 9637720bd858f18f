-- What canonical forms are and keep.
use Rattle.std.proofs.Common.{◌≡◌, ℕ, suc, ltb, Bool, true, false, cond, ◌&&◌, ◌||◌, not, List, [], ◌∷◌, ◌++◌, length, refl, sym, ap, subst, ◌∙◌, IsTrue}
use Rattle.std.specs.Prelude.{Option, Some, None, Result, Ok, Err, is_some, nat_eq, option_map, option_and_then}
use Rattle.std.specs.Option.{option_map_or}
use Rattle.std.specs.Result.{result_ok}
use Rattle.std.specs.List.{list_all}
use Rattle.std.proofs.lemmas.Bool.{and_parts, and_from, or_right, false≢true}
use Rattle.orc_text.specs.Characters.{is_plain_text}
use Rattle.orc_path.specs.Alphabet.{is_qualified, is_identifier, is_key}
use Rattle.orc_path.specs.Items.{fits}
use Rattle.orc_path.specs.Steps.{PathStep, is_first_step, is_later_step, is_path, ends_in_keys}
use Rattle.orc_path.specs.declared.item.Item.{Item}
use Rattle.orc_path.specs.declared.item.Item.TheVariants as item
use Rattle.orc_value.specs.Canon.{canon_of}
use Rattle.orc_value.specs.declared.kind.Kind.{Kind}
use Rattle.orc_value.proofs.CanonLaws.{canon_of-again, is_canonical-Decides}
use Rattle.orc_schema_nodes.specs.Schemas.{SchemaTable, path_names, node_at, kind_in, kind_at_path}
use Rattle.orc_schema_nodes.specs.declared.line.Node.{Node}
use Rattle.orc_schema_nodes.specs.declared.line.Node.TheVariants.{Container, List as ListOf, Leaf, LeafList}
use Rattle.orc_typed.specs.Typed.{kinds_at, stands_at, stand, carries, is_carried, is_in_schema, canonical_text, canonical_keys, canonical_steps, canonical_value, is_canonical_text, are_canonical_keys, has_canonical_keys, are_canonical_steps, is_canonical_value, is_typed}
use Rattle.orc_typed.specs.Laws.{AreCanonicalOf, KeepsPlace, has_plain_text}
use Rattle.orc_typed.proofs.PlainTexts.{canon_of-plain}

-- ---- texts

canonical_text-own : (kind : Option Kind) (text own : List ℕ) → canonical_text kind text ≡ Some own
    → (is_canonical_text kind own ≡ true) × (is_plain_text own ≡ true)
canonical_text-own None text own h = cc
canonical_text-own (Some kind) text own h = by (canon_of kind text) refl h
  where
    by : (verdict : Result (List ℕ) ℕ) → canon_of kind text ≡ verdict → result_ok verdict ≡ Some own
        → (is_canonical_text (Some kind) own ≡ true) × (is_plain_text own ≡ true)
    by (Ok t) e h =
        let same : t ≡ own = cc in
        let made : canon_of kind text ≡ Ok own = e ∙ ap Ok same in
        ((is_canonical-Decides kind own).1 (canon_of-again kind text own made), canon_of-plain kind text own made)
    by (Err rule) e h = cc

is_canonical_text-own : (kind : Option Kind) (text : List ℕ) → is_canonical_text kind text ≡ true → canonical_text kind text ≡ Some text
is_canonical_text-own None text h = absurd (false≢true h)
is_canonical_text-own (Some kind) text h = ap result_ok ((is_canonical-Decides kind text).0 h)

-- ---- keys

record KeysKept (kinds : List (Option Kind)) (keys own : List (List ℕ)) : Type 0 where
  pub canonical : are_canonical_keys kinds own ≡ true
  pub plain : list_all is_key own ≡ true
  pub count : length own ≡ length keys

canonical_keys-own : (kinds : List (Option Kind)) (keys own : List (List ℕ)) → canonical_keys kinds keys ≡ Some own → KeysKept kinds keys own
canonical_keys-own kinds [] own h =
    let same : [] ≡ own = cc in
    subst (KeysKept kinds []) same (record { canonical = refl; plain = refl; count = refl })
canonical_keys-own [] (key ∷ later) own h = cc
canonical_keys-own (kind ∷ kinds) (key ∷ later) own h = by (canonical_text kind key) refl (canonical_keys kinds later) refl (canonical_keys-own kinds later) h
  where
    by : (text : Option (List ℕ)) → canonical_text kind key ≡ text → (rest : Option (List (List ℕ))) → canonical_keys kinds later ≡ rest
        → ((texts : List (List ℕ)) → canonical_keys kinds later ≡ Some texts → KeysKept kinds later texts)
        → option_and_then (λ t. option_map (λ ts. t ∷ ts) rest) text ≡ Some own → KeysKept (kind ∷ kinds) (key ∷ later) own
    by None te rest re go h = cc
    by (Some t) te None re go h = cc
    by (Some t) te (Some ts) re go h =
        let same : t ∷ ts ≡ own = cc in
        let first = canonical_text-own kind key t te in
        let more = go ts re in
        subst (KeysKept (kind ∷ kinds) (key ∷ later)) same (record {
          canonical = and_from (is_canonical_text kind t) (are_canonical_keys kinds ts) first.0 more.canonical;
          plain = and_from (is_key t) (list_all is_key ts) first.1 more.plain;
          count = ap suc more.count;
        })

-- what canonical keys are made of
pub keys_plain : (kinds : List (Option Kind)) (keys own : List (List ℕ)) → Some own ≡ canonical_keys kinds keys → IsTrue (list_all is_key own)
keys_plain kinds keys own h = (canonical_keys-own kinds keys own (sym h)).plain

are_canonical_keys-own : (kinds : List (Option Kind)) (keys : List (List ℕ)) → are_canonical_keys kinds keys ≡ true → canonical_keys kinds keys ≡ Some keys
are_canonical_keys-own kinds [] h = refl
are_canonical_keys-own [] (key ∷ later) h = absurd (false≢true h)
are_canonical_keys-own (kind ∷ kinds) (key ∷ later) h =
    let parts = and_parts (is_canonical_text kind key) (are_canonical_keys kinds later) h in
    ap (λ o. option_and_then (λ t. option_map (λ ts. t ∷ ts) (canonical_keys kinds later)) o) (is_canonical_text-own kind key parts.0)
    ∙ ap (λ o. option_map (λ ts. key ∷ ts) o) (are_canonical_keys-own kinds later parts.1)

-- ---- steps

record StepsKept (s : SchemaTable) (above : List (List ℕ)) (steps own : List PathStep) : Type 0 where
  pub names : path_names own ≡ path_names steps
  pub stand : stand s above own ≡ stand s above steps
  pub canonical : are_canonical_steps s above own ≡ true
  pub ends : ends_in_keys own ≡ ends_in_keys steps
  pub later : list_all is_later_step steps ≡ true → list_all is_later_step own ≡ true
  pub path : is_path steps ≡ true → is_path own ≡ true

none_kept : (s : SchemaTable) (above : List (List ℕ)) → StepsKept s above [] []
none_kept s above = record { names = refl; stand = refl; canonical = refl; ends = refl; later = λ h. h; path = λ h. h }

ends_kept : (first own_first : PathStep) (later own : List PathStep) → length own_first.keys ≡ length first.keys → path_names own ≡ path_names later
    → ends_in_keys own ≡ ends_in_keys later → ends_in_keys (own_first ∷ own) ≡ ends_in_keys (first ∷ later)
ends_kept first own_first [] [] count names ends = ap (λ n. ltb 0 n) count
ends_kept first own_first [] (x ∷ xs) count names ends = cc
ends_kept first own_first (x ∷ xs) [] count names ends = cc
ends_kept first own_first (x ∷ xs) (y ∷ ys) count names ends = ends

module _ (s : SchemaTable) (above : List (List ℕ)) (step : PathStep) (later : List PathStep) where
  abbrev names : List (List ℕ)
  names = above ++ step.node ∷ []

  one_more : (keys : List (List ℕ)) (rest : List PathStep) → KeysKept (kinds_at s names) step.keys keys → StepsKept s names later rest
      → StepsKept s above (step ∷ later) (record { node = step.node; keys = keys } ∷ rest)
  one_more keys rest first more = record {
    names = ap (λ ns. step.node ∷ ns) more.names;
    stand = ap (λ n. (is_some (node_at s names) && nat_eq n (length (kinds_at s names))) && stand s names rest) first.count
        ∙ ap (λ b. stands_at s names step && b) more.stand;
    canonical = and_from (are_canonical_keys (kinds_at s names) keys) (are_canonical_steps s names rest) first.canonical more.canonical;
    ends = ends_kept step (record { node = step.node; keys = keys }) later rest first.count more.names more.ends;
    later = λ h.
        let parts = and_parts (is_later_step step) (list_all is_later_step later) h in
        let own = and_parts (is_identifier step.node) (list_all is_key step.keys) parts.0 in
        and_from _ _ (and_from (is_identifier step.node) (list_all is_key keys) own.0 first.plain) (more.later parts.1);
    path = λ h.
        let parts = and_parts (is_first_step step) (list_all is_later_step later) h in
        let own = and_parts (is_qualified step.node) (list_all is_key step.keys) parts.0 in
        and_from _ _ (and_from (is_qualified step.node) (list_all is_key keys) own.0 first.plain) (more.later parts.1);
  }

canonical_steps-own : (s : SchemaTable) (above : List (List ℕ)) (steps own : List PathStep) → canonical_steps s above steps ≡ Some own → StepsKept s above steps own
canonical_steps-own s above [] own h =
    let same : [] ≡ own = cc in
    subst (StepsKept s above []) same (none_kept s above)
canonical_steps-own s above (step ∷ later) own h =
    by (canonical_keys (kinds_at s (above ++ step.node ∷ [])) step.keys) refl (canonical_steps s (above ++ step.node ∷ []) later) refl
    (canonical_steps-own s (above ++ step.node ∷ []) later) h
  where
    by : (keys : Option (List (List ℕ))) → canonical_keys (kinds_at s (above ++ step.node ∷ [])) step.keys ≡ keys
        → (rest : Option (List PathStep)) → canonical_steps s (above ++ step.node ∷ []) later ≡ rest
        → ((steps : List PathStep) → canonical_steps s (above ++ step.node ∷ []) later ≡ Some steps → StepsKept s (above ++ step.node ∷ []) later steps)
        → option_and_then (λ first. option_map (λ more. first ∷ more) rest) (option_map (λ ks. record { node = step.node; keys = ks }) keys) ≡ Some own
        → StepsKept s above (step ∷ later) own
    by None ke rest re go h = cc
    by (Some keys) ke None re go h = cc
    by (Some keys) ke (Some rest) re go h =
        let same : record { node = step.node; keys = keys } ∷ rest ≡ own = cc in
        subst (StepsKept s above (step ∷ later)) same
        (one_more s above step later keys rest (canonical_keys-own (kinds_at s (above ++ step.node ∷ [])) step.keys keys ke) (go rest re))

pub path_kept : (s : SchemaTable) (path own : List PathStep) → Some own ≡ canonical_steps s [] path → IsTrue (is_path path) → IsTrue (is_path own)
path_kept s path own h = (canonical_steps-own s [] path own (sym h)).path

are_canonical_steps-own : (s : SchemaTable) (above : List (List ℕ)) (steps : List PathStep) → are_canonical_steps s above steps ≡ true
    → canonical_steps s above steps ≡ Some steps
are_canonical_steps-own s above [] h = refl
are_canonical_steps-own s above (step ∷ later) h =
    let names = above ++ step.node ∷ [] in
    let parts = and_parts (has_canonical_keys s names step) (are_canonical_steps s names later) h in
    ap (λ o. option_and_then (λ first. option_map (λ more. first ∷ more) (canonical_steps s names later)) (option_map (λ ks. record { node = step.node; keys = ks }) o))
    (are_canonical_keys-own (kinds_at s names) step.keys parts.0)
    ∙ ap (λ o. option_map (λ more. step ∷ more) o) (are_canonical_steps-own s names later parts.1)

-- ---- items

record ValueKept (kind : Option Kind) (it own : Item) : Type 0 where
  pub canonical : is_canonical_value kind own ≡ true
  pub plain : has_plain_text own ≡ true
  pub carried : (node : Node) → carries node own ≡ carries node it
  pub fit : (path own_path : List PathStep) → path_names own_path ≡ path_names path → ends_in_keys own_path ≡ ends_in_keys path
      → fits own_path own ≡ fits path it

entry_fits : (path own : List PathStep) → path_names own ≡ path_names path → ends_in_keys own ≡ ends_in_keys path → fits own item.Entry ≡ fits path item.Entry
entry_fits [] [] names ends = refl
entry_fits [] (x ∷ xs) names ends = cc
entry_fits (x ∷ xs) [] names ends = cc
entry_fits (x ∷ xs) (y ∷ ys) names ends = ends

leaf_fits : (text own_text : List ℕ) (path own : List PathStep) → path_names own ≡ path_names path → ends_in_keys own ≡ ends_in_keys path
    → fits own (item.Leaf own_text) ≡ fits path (item.Leaf text)
leaf_fits text own_text [] [] names ends = refl
leaf_fits text own_text [] (x ∷ xs) names ends = cc
leaf_fits text own_text (x ∷ xs) [] names ends = cc
leaf_fits text own_text (x ∷ xs) (y ∷ ys) names ends = ap not ends

leaf_carried : (text own_text : List ℕ) (node : Node) → carries node (item.Leaf own_text) ≡ carries node (item.Leaf text)
leaf_carried text own_text Container = refl
leaf_carried text own_text (ListOf l) = refl
leaf_carried text own_text (Leaf l) = refl
leaf_carried text own_text (LeafList l) = refl

canonical_value-own : (kind : Option Kind) (it own : Item) → canonical_value kind it ≡ Some own → ValueKept kind it own
canonical_value-own kind item.Entry own h =
    let same : item.Entry ≡ own = cc in
    subst (ValueKept kind item.Entry) same (record { canonical = refl; plain = refl; carried = λ node. refl; fit = entry_fits })
canonical_value-own kind (item.Leaf text) own h = by (canonical_text kind text) refl h
  where
    by : (found : Option (List ℕ)) → canonical_text kind text ≡ found → option_map item.Leaf found ≡ Some own → ValueKept kind (item.Leaf text) own
    by None e h = cc
    by (Some t) e h =
        let same : item.Leaf t ≡ own = cc in
        let is = canonical_text-own kind text t e in
        subst (ValueKept kind (item.Leaf text)) same
        (record { canonical = is.0; plain = is.1; carried = leaf_carried text t; fit = leaf_fits text t })

is_canonical_value-own : (kind : Option Kind) (it : Item) → is_canonical_value kind it ≡ true → canonical_value kind it ≡ Some it
is_canonical_value-own kind item.Entry h = refl
is_canonical_value-own kind (item.Leaf text) h = ap (λ o. option_map item.Leaf o) (is_canonical_text-own kind text h)

carried_kept : (s : SchemaTable) (path own : List PathStep) (it own_it : Item) → path_names own ≡ path_names path
    → ((node : Node) → carries node own_it ≡ carries node it) → is_carried s own own_it ≡ is_carried s path it
carried_kept s [] [] it own_it names same = refl
carried_kept s [] (x ∷ xs) it own_it names same = cc
carried_kept s (x ∷ xs) [] it own_it names same = cc
carried_kept s (x ∷ xs) (y ∷ ys) it own_it names same =
    ap (λ ns. option_map_or (λ node. carries node own_it) (node_at s ns) false) names ∙ at (node_at s (path_names (x ∷ xs)))
  where
    at : (found : Option Node) → option_map_or (λ node. carries node own_it) found false ≡ option_map_or (λ node. carries node it) found false
    at None = refl
    at (Some node) = same node

-- ---- laws

module _ (s : SchemaTable) (path own : List PathStep) (it own_it : Item) (are : AreCanonicalOf s path it own own_it) where
  plain_path : s.plain ≡ true → path ≡ own
  plain_path e =
      let is : Some path ≡ Some own = sym (ap (λ b. cond b (Some path) (canonical_steps s [] path)) e) ∙ are.at in
      cc

  plain_item : s.plain ≡ true → it ≡ own_it
  plain_item e =
      let is : Some it ≡ Some own_it = sym (ap (λ b. cond b (Some it) (canonical_value (kind_at_path s path) it)) e) ∙ are.item in
      cc

  steps_kept : s.plain ≡ false → StepsKept s [] path own
  steps_kept e = canonical_steps-own s [] path own (sym (ap (λ b. cond b (Some path) (canonical_steps s [] path)) e) ∙ are.at)

  value_kept : s.plain ≡ false → ValueKept (kind_at_path s path) it own_it
  value_kept e =
      canonical_value-own (kind_at_path s path) it own_it
      (sym (ap (λ b. cond b (Some it) (canonical_value (kind_at_path s path) it)) e) ∙ are.item)

  unchanged : KeepsPlace s path it path it
  unchanged = record { names = refl; in_schema = refl; is_one = λ h. h; fit = refl; value = λ h. h }

  in_schema_kept : StepsKept s [] path own → ValueKept (kind_at_path s path) it own_it → is_in_schema s own own_it ≡ is_in_schema s path it
  in_schema_kept steps value =
      ap (λ b. s.plain || (b && is_carried s own own_it)) steps.stand
      ∙ ap (λ b. s.plain || (stand s [] path && b)) (carried_kept s path own it own_it steps.names value.carried)

  pub keeps : KeepsPlace s path it own own_it
  keeps = by s.plain refl
    where
      by : (plain : Bool) → s.plain ≡ plain → KeepsPlace s path it own own_it
      by true e =
          subst (λ p. KeepsPlace s path it p own_it) (plain_path e)
          (subst (λ i. KeepsPlace s path it path i) (plain_item e) unchanged)
      by false e =
          let steps = steps_kept e in
          let value = value_kept e in
          record {
            names = steps.names;
            in_schema = in_schema_kept steps value;
            is_one = steps.path;
            fit = value.fit path own steps.names steps.ends;
            value = λ _. value.plain;
          }

  pub is_typed-own : is_in_schema s path it ≡ true → is_typed s own own_it ≡ true
  is_typed-own inside = by s.plain refl
    where
      by : (plain : Bool) → s.plain ≡ plain → is_typed s own own_it ≡ true
      by true e =
          ap (λ b. b || (is_in_schema s own own_it && (are_canonical_steps s [] own && is_canonical_value (kind_at_path s own) own_it))) e
      by false e =
          let steps = steps_kept e in
          let value = value_kept e in
          let kind : kind_at_path s own ≡ kind_at_path s path = ap (λ ns. option_and_then kind_in (node_at s ns)) steps.names in
          or_right s.plain _
          (and_from _ _ (in_schema_kept steps value ∙ inside)
          (and_from _ _ steps.canonical (ap (λ k. is_canonical_value k own_it) kind ∙ value.canonical)))

module _ (s : SchemaTable) (path : List PathStep) (it : Item) where
  pub own_of_typed : is_typed s path it ≡ true → AreCanonicalOf s path it path it
  own_of_typed typed = by s.plain refl
    where
      by : (plain : Bool) → s.plain ≡ plain → AreCanonicalOf s path it path it
      by true e = record {
        at = ap (λ b. cond b (Some path) (canonical_steps s [] path)) e;
        item = ap (λ b. cond b (Some it) (canonical_value (kind_at_path s path) it)) e;
      }
      by false e =
          let tests = is_in_schema s path it && (are_canonical_steps s [] path && is_canonical_value (kind_at_path s path) it) in
          let all : tests ≡ true = sym (ap (λ b. b || tests) e) ∙ typed in
          let parts = and_parts (is_in_schema s path it) _ all in
          let forms = and_parts (are_canonical_steps s [] path) _ parts.1 in
          record {
            at = ap (λ b. cond b (Some path) (canonical_steps s [] path)) e ∙ are_canonical_steps-own s [] path forms.0;
            item = ap (λ b. cond b (Some it) (canonical_value (kind_at_path s path) it)) e ∙ is_canonical_value-own (kind_at_path s path) it forms.1;
          }
