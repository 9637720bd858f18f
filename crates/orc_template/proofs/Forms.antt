-- The forms of a JSON value.
use Rattle.std.proofs.Common.{◌≡◌, ℕ, Bool, false, cond, List, [], ◌∷◌, length, ◌==◌, Option, Some, None, Result, Ok, Err, codes, refl, sym, ap, subst, ◌∙◌}
use Rattle.std.specs.Option.{option_map}
use Rattle.serde_json.specs.Data.{Data, null, boolean, number, string, array, object, Items}
use Rattle.serde_json.specs.Find.{get, as_str, as_array}
use Rattle.orc_path.specs.Limits.{is_long_value}
use Rattle.orc_value.specs.Canon.{canon_of, Answers}
use Rattle.orc_value.specs.Json.{canon_of_json}
use Rattle.orc_value.specs.declared.fault.ValueFault.{ValueFault}
use Rattle.orc_value.specs.declared.fault.ValueFault.TheVariants as value
use Rattle.orc_value.specs.declared.kind.Kind.{Kind}
use Rattle.orc_expr.specs.declared.read.Read.{Read}
use Rattle.orc_template.specs.Values.{Scene, done, then_done, string_done, fitted, lexical, value_done, more_keys, keys_done, GivesValue}
use Rattle.orc_schema_nodes.specs.Schemas.{SchemaTable}
use Rattle.std.proofs.lemmas.Bool.{false≢true}
use Rattle.orc_template.specs.inside.Fitted.{FitsAnswer}
use Rattle.orc_template.specs.declared.fault.TheConstants.{BAD_LEAF}
use Rattle.orc_template.specs.declared.fault.Halt.{Halt}
use Rattle.orc_template.specs.Blocks.{no_block, blocks_of, blocks_listed, blocks_inside}
use Rattle.orc_template.proofs.Inside.{inside_by, inside_is}

-- what is found behind a reference
pub mapped_some : {A B : Type 0} (f : A → B) (o : Option A) (p : Option B) (x : A) → option_map f o ≡ p → o ≡ Some x → p ≡ Some (f x)
mapped_some f o p x h is = sym h ∙ ap (option_map f) is

pub mapped_none : {A B : Type 0} (f : A → B) (o : Option A) (p : Option B) → option_map f o ≡ p → o ≡ None → p ≡ None
mapped_none f o p h is = sym h ∙ ap (option_map f) is

-- a string stands for its text, and all else for itself
module _ (scene : Scene) (kind : Kind) (reads : List Read) where
  pub value_string : (d : Data) (t : List ℕ) → as_str d ≡ Some t → then_done (string_done scene t reads) (λ text. done (lexical kind text)) ≡ value_done scene kind d reads
  value_string null t h = let never : ⊥ = cc in absurd never
  value_string (boolean b) t h = let never : ⊥ = cc in absurd never
  value_string (number n) t h = let never : ⊥ = cc in absurd never
  value_string (string s) t h = let same : t ≡ s = cc in ap (λ x. then_done (string_done scene x reads) (λ text. done (lexical kind text))) same
  value_string (array ds) t h = let never : ⊥ = cc in absurd never
  value_string (object ms) t h = let never : ⊥ = cc in absurd never

  pub value_plain : (d : Data) → as_str d ≡ None → done (fitted (canon_of_json kind d)) reads ≡ value_done scene kind d reads
  value_plain null h = refl
  value_plain (boolean b) h = refl
  value_plain (number n) h = refl
  value_plain (string s) h = let never : ⊥ = cc in absurd never
  value_plain (array ds) h = refl
  value_plain (object ms) h = refl

-- the blocks of an array
pub listed_some : (d : Data) (ds : Items) → as_array d ≡ Some ds → blocks_of ds ≡ blocks_listed d
listed_some null ds h = let never : ⊥ = cc in absurd never
listed_some (boolean b) ds h = let never : ⊥ = cc in absurd never
listed_some (number n) ds h = let never : ⊥ = cc in absurd never
listed_some (string s) ds h = let never : ⊥ = cc in absurd never
listed_some (array xs) ds h = let same : ds ≡ xs = cc in ap blocks_of same
listed_some (object ms) ds h = let never : ⊥ = cc in absurd never

pub listed_none : (d : Data) → as_array d ≡ None → no_block ≡ blocks_listed d
listed_none null h = refl
listed_none (boolean b) h = refl
listed_none (number n) h = refl
listed_none (string s) h = refl
listed_none (array xs) h = let never : ⊥ = cc in absurd never
listed_none (object ms) h = refl

-- the blocks inside are those of the member
pub inside_some : (d found : Data) → get (codes "blocks") d ≡ Some found → blocks_listed found ≡ blocks_inside d
inside_some d found h = sym (inside_is d ∙ ap inside_by h)

pub inside_none : (d : Data) → get (codes "blocks") d ≡ None → no_block ≡ blocks_inside d
inside_none d h = sym (inside_is d ∙ ap inside_by h)

-- what is made of the answer for a canonical text
pub fitted_so : (due : Result (List ℕ) ℕ) (found : Result (List ℕ) ValueFault) (r : Result (List ℕ) Halt) → Answers due found → FitsAnswer found r → GivesValue (fitted due) r
fitted_so due (Ok text) r is h = subst (λ (x : Result (List ℕ) ℕ). GivesValue (fitted x) r) (sym is) h
fitted_so due (Err (value.BadValue rule)) r is h = subst (λ (x : Result (List ℕ) ℕ). GivesValue (fitted x) r) (sym is) h
fitted_so due (Err value.Memory) r is h = subst (GivesValue (fitted due)) (sym h) tt

pub lexical_so : (kind : Kind) (text : List ℕ) (found : Result (List ℕ) ValueFault) (r : Result (List ℕ) Halt) → is_long_value text ≡ false → Answers (canon_of kind text) found → FitsAnswer found r
    → GivesValue (lexical kind text) r
lexical_so kind text found r short is h =
    subst (λ (t : Bool). GivesValue (cond t (Err BAD_LEAF) (fitted (canon_of kind text))) r) (sym short) (fitted_so (canon_of kind text) found r is h)

-- a list with keys has an entry's keys from the first one on
pub keys_begin : (scene : Scene) (s : SchemaTable) (path : List (List ℕ)) (d : Data) (keys : List (List ℕ)) (reads : List Read) → (length keys == 0) ≡ false
    → more_keys scene s path d [] keys reads ≡ keys_done scene s path d keys reads
keys_begin scene s path d [] reads h = absurd (false≢true (sym h))
keys_begin scene s path d (key ∷ later) reads h = refl
