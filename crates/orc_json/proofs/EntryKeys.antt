-- The keys of an entry, one after another.
use Rattle.std.proofs.Common.{◌≡◌, ℕ, true, List, [], ◌∷◌, ◌++◌, Option, Some, None, sym, ap, subst, ◌∙◌}
use Rattle.std.specs.Prelude.{unwrap_or, option_map, option_and_then}
use Rattle.std.proofs.lemmas.List.{map-append}
use Rattle.serde_json.specs.Data.{Data, Members, object}
use Rattle.orc_path.specs.Items.{fits}
use Rattle.orc_path.specs.Steps.{PathStep}
use Rattle.orc_path.specs.declared.item.Item.TheVariants.{Entry}
use Rattle.orc_schema_nodes.specs.Schemas.{SchemaTable, path_names}
use Rattle.orc_json.specs.Findings.{states, breaks, below, entry_key, key_texts, entry_keys, entry_object, members_at, entry_at}
use Rattle.orc_json.specs.declared.fault.TheConstants.{KEY}
use Rattle.orc_json.proofs.Found.{entry_fits}

-- an entry with its keys has one at least, so an entry fits where they say
pub keyed_fits : (at : List PathStep) (name : List ℕ) (s : SchemaTable) (names : List (List ℕ)) (d : Data) (keys texts : List (List ℕ))
    → entry_keys s names d keys ≡ Some texts → fits (below at name texts) Entry ≡ true
keyed_fits at name s names d [] texts h = cc
keyed_fits at name s names d (key ∷ later) texts h = on (entry_key s names d key) (key_texts s names d later) h
  where
    on : (o : Option (List ℕ)) (os : Option (List (List ℕ))) → option_and_then (λ text. option_map (λ ts. text ∷ ts) os) o ≡ Some texts → fits (below at name texts) Entry ≡ true
    on None os h = cc
    on (Some text) None h = cc
    on (Some text) (Some ts) h =
        subst (λ (x : List (List ℕ)). fits (below at name x) Entry ≡ true) (ap (λ (o : Option (List (List ℕ))). unwrap_or o []) h) (entry_fits at name text ts)

names_below : (at : List PathStep) (name : List ℕ) → path_names (below at name []) ≡ path_names at ++ name ∷ []
names_below at name = map-append (λ (step : PathStep). step.node) at _

module _ (s : SchemaTable) (keys : List (List ℕ)) (at : List PathStep) (name : List ℕ) (d : Data) (ms : Members) (is : d ≡ object ms) (steps : List PathStep) (steps_are : steps ≡ below at name []) where
  entry_is : (o : Option (List (List ℕ))) → entry_keys s (path_names steps) d keys ≡ o → entry_at s keys at name d ≡ entry_object at name o (λ place. members_at s keys place ms)
  entry_is o h =
      ap (entry_at s keys at name) is
      ∙ ap (λ o. entry_object at name o (λ place. members_at s keys place ms))
      (ap (λ names. entry_keys s names (object ms) keys) (sym (ap path_names steps_are ∙ names_below at name)) ∙ ap (λ x. entry_keys s (path_names steps) x keys) (sym is) ∙ h)

  pub entry_found : (texts : List (List ℕ)) → entry_keys s (path_names steps) d keys ≡ Some texts
      → entry_at s keys at name d ≡ states (below at name texts) Entry ∷ members_at s keys (below at name texts) ms
  entry_found texts h = entry_is (Some texts) h

  pub entry_missing : entry_keys s (path_names steps) d keys ≡ None → entry_at s keys at name d ≡ breaks (below at name []) KEY ∷ []
  entry_missing h = entry_is None h
