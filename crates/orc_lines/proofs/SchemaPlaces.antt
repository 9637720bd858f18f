-- The place of a name among names.
use Rattle.std.proofs.Common.{◌≡◌, ◌<◌, ℕ, List, Bool, true, false, cond, nat_lt, length, Option, Some, None, is_some, refl, ap, arith, ltb-true}
use Rattle.std.specs.List.{position_or_len}
use Rattle.std.specs.Option.{option_map_or}
use Rattle.std.proofs.lemmas.Bool.{false≢true}
use Rattle.orc_decls.specs.Devices.{is_same_text}
use Rattle.orc_decls.specs.Names.{place_of}
pub use Rattle.orc_decls.proofs.SchemaPlaces.{one_more, within_more, some_first, schema_placed, schema_found}

pub some_same : (a b : ℕ) → Some a ≡ Some b → a ≡ b
some_same a b h = ap (λ (o : Option ℕ). option_map_or (λ n. n) o 0) h

pub no_some : (b : ℕ) → None ≡ Some b → ⊥
no_some b h = false≢true (ap (λ (o : Option ℕ). is_some o) h)

pub place_within : (ns : List (List ℕ)) (name : List ℕ) (n : ℕ) → place_of ns name ≡ Some n → n < length ns
place_within ns name n h = on (nat_lt k (length ns)) refl h where
  k : ℕ
  k = position_or_len (is_same_text name) ns

  on : (t : Bool) → nat_lt k (length ns) ≡ t → cond t (Some k) None ≡ Some n → n < length ns
  on true is h = let same = some_same k n h in let below = ltb-true k (length ns) is in omega arith
  on false is h = absurd (no_some n h)
