-- The keys of a typed entry stand in its object.
use Rattle.std.proofs.Common.{◌≡◌, ◌≢◌, ℕ, true, false, List, [], ◌∷◌, ◌++◌, map, length, Option, Some, None, refl, sym, ap, ◌∙◌, arith}
use Rattle.std.specs.Prelude.{option_map, option_and_then, Result, Ok, Err}
use Rattle.std.specs.List.{AllByRecursion, IsDistinct, Contains}
use Rattle.std.specs.Option.{option_map_or}
use Rattle.std.specs.Result.{result_ok}
use Rattle.std.proofs.lemmas.Bool.{and_parts, and_from, false≢true}
use Rattle.std.proofs.lemmas.Slice.Eq.{bytes_eq-Decides}
use Rattle.std.proofs.lemmas.Map.Keys.{IsDistinct-head, IsDistinct-tail}
use Rattle.std.proofs.lemmas.Map.Views.{Contains-from_any}
use Rattle.serde_json.specs.Data.{Data, object, Members}
use Rattle.serde_json.specs.Find.{get_member}
use Rattle.serde_json.proofs.Views.{get_member-put, get_member-put_other}
use Rattle.orc_value.specs.declared.kind.Kind.{Kind}
use Rattle.orc_value.specs.Canon.{canon_of, is_canonical, gives_text, same_text}
use Rattle.orc_value.specs.Json.{json_of, canon_of_json}
use Rattle.orc_schema_nodes.specs.Schemas.{SchemaTable}
use Rattle.orc_typed.specs.Typed.{kind_of_names, are_canonical_keys}
use Rattle.orc_json.specs.Findings.{key_kind, entry_key, key_texts, entry_keys, is_key_name}
use Rattle.orc_json.specs.Written.{are_keys, with_key_member, with_key_members}
use Rattle.orc_json.proofs.JsonBack.{json_back}

pub same : (a b : List ℕ) → same_text a b ≡ true → a ≡ b
same a b h = (bytes_eq-Decides a b).0 h

-- a text that is its own canonical text
pub canonical-is : (kind : Kind) (text : List ℕ) → is_canonical kind text ≡ true → canon_of kind text ≡ Ok text
canonical-is kind text h = on (canon_of kind text) h
  where
    on : (r : Result (List ℕ) ℕ) → gives_text text r ≡ true → r ≡ Ok text
    on (Ok canonical) h = ap Ok (same canonical text h)
    on (Err rule) h = absurd (false≢true h)

-- the name of a key is one of the keys
pub key_is_one : (keys : List (List ℕ)) (name : List ℕ) → is_key_name keys name ≡ true → Contains keys name
key_is_one keys name h = Contains-from_any same name keys h

module _ (s : SchemaTable) (names : List (List ℕ)) where
  -- the keys of a typed step are those of its entry
  pub are_keys-typed : (keys texts : List (List ℕ)) → length texts ≡ length keys
      → are_canonical_keys (map (λ key. kind_of_names s (names ++ key ∷ [])) keys) texts ≡ true → are_keys s names keys texts ≡ true
  are_keys-typed [] [] e h = refl
  are_keys-typed [] (text ∷ texts) e h = absurd (omega (arith, e))
  are_keys-typed (key ∷ keys) [] e h = absurd (omega (arith, e))
  are_keys-typed (key ∷ keys) (text ∷ texts) e h =
      let parts = and_parts (option_map_or (λ kind. is_canonical kind text) (key_kind s names key) false) _ h in
      and_from _ _ parts.0 (are_keys-typed keys texts (omega (arith, e)) parts.1)

  -- each key has its text in the value
  abbrev HasEach : Data → List (List ℕ) → List (List ℕ) → Type 0
  HasEach d [] [] = Unit {0}
  HasEach d (key ∷ keys) (text ∷ texts) = (entry_key s names d key ≡ Some text) × HasEach d keys texts
  HasEach d [] (text ∷ texts) = ⊥
  HasEach d (key ∷ keys) [] = ⊥

  each-texts : (d : Data) (keys texts : List (List ℕ)) → HasEach d keys texts → key_texts s names d keys ≡ Some texts
  each-texts d [] [] h = refl
  each-texts d [] (text ∷ texts) h = absurd h
  each-texts d (key ∷ keys) [] h = absurd h
  each-texts d (key ∷ keys) (text ∷ texts) h =
      ap (λ (o : Option (List ℕ)). option_and_then (λ t. option_map (λ ts. t ∷ ts) (key_texts s names d keys)) o) h.0
      ∙ ap (λ (o : Option (List (List ℕ))). option_map (λ ts. text ∷ ts) o) (each-texts d keys texts h.1)

  -- a key that is put stays where others are put
  one-stays : (key other text : List ℕ) (kind : Option Kind) (ms : Members) → same_text key other ≡ false
      → get_member key (with_key_member kind other text ms) ≡ get_member key ms
  one-stays key other text None ms apart = refl
  one-stays key other text (Some kind) ms apart =
      get_member-put_other key other (json_of kind text) ms (λ is. false≢true (sym apart ∙ (bytes_eq-Decides key other).1 is))

  stays : (key : List ℕ) (keys texts : List (List ℕ)) (ms : Members) → AllByRecursion (λ y. same_text key y ≡ false) keys
      → get_member key (with_key_members s names keys texts ms) ≡ get_member key ms
  stays key [] texts ms apart = refl
  stays key (other ∷ keys) [] ms apart = refl
  stays key (other ∷ keys) (text ∷ texts) ms apart =
      stays key keys texts (with_key_member (key_kind s names other) other text ms) apart.1
      ∙ one-stays key other text (key_kind s names other) ms apart.0

  put-found : (key text : List ℕ) (ms : Members) (kind : Option Kind) → option_map_or (λ k. is_canonical k text) kind false ≡ true
      → option_and_then (λ k. option_and_then (λ value. result_ok (canon_of_json k value)) (get_member key (with_key_member kind key text ms))) kind ≡ Some text
  put-found key text ms None h = absurd (false≢true h)
  put-found key text ms (Some kind) h =
      ap (λ (o : Option Data). option_and_then (λ value. result_ok (canon_of_json kind value)) o) (get_member-put key (json_of kind text) ms)
      ∙ ap result_ok (json_back kind text (canonical-is kind text h))

  each-put : (keys texts : List (List ℕ)) (ms : Members) → IsDistinct same_text keys → are_keys s names keys texts ≡ true
      → HasEach (object (with_key_members s names keys texts ms)) keys texts
  each-put [] [] ms differ h = tt
  each-put [] (text ∷ texts) ms differ h = absurd (false≢true h)
  each-put (key ∷ keys) [] ms differ h = absurd (false≢true h)
  each-put (key ∷ keys) (text ∷ texts) ms differ h =
      let parts = and_parts (option_map_or (λ kind. is_canonical kind text) (key_kind s names key) false) _ h in
      let put_in = with_key_member (key_kind s names key) key text ms in
      let found : entry_key s names (object (with_key_members s names keys texts put_in)) key ≡ Some text =
      ap (λ (o : Option Data). option_and_then (λ k. option_and_then (λ value. result_ok (canon_of_json k value)) o) (key_kind s names key))
      (stays key keys texts put_in (IsDistinct-head same_text key keys differ))
      ∙ put-found key text ms (key_kind s names key) parts.0 in
      (found, each-put keys texts put_in (IsDistinct-tail same_text key keys differ) parts.1)

  -- the keys of an entry are read in its object
  pub keys-found : (keys texts : List (List ℕ)) (ms : Members) → keys ≢ [] → IsDistinct same_text keys → are_keys s names keys texts ≡ true
      → entry_keys s names (object (with_key_members s names keys texts ms)) keys ≡ Some texts
  keys-found [] texts ms any differ h = absurd (any refl)
  keys-found (key ∷ keys) texts ms any differ h =
      each-texts (object (with_key_members s names (key ∷ keys) texts ms)) (key ∷ keys) texts (each-put (key ∷ keys) texts ms differ h)
