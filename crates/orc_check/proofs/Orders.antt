-- Keys in order.
use Rattle.std.proofs.Common.{◌≡◌, ◌≤◌, ℕ, List, [], ◌∷◌, length, Greater, refl, arith}
use Rattle.std.specs.Cmp.Lexicographic.{slice_cmp}
use Rattle.orc_path.specs.Order.{text_cmp}

-- a list of keys comes after the empty one
pub more_keys : (keys : List (List ℕ)) → 1 ≤ length keys → Greater ≡ slice_cmp text_cmp keys []
more_keys [] l = absurd (omega arith)
more_keys (k ∷ ks) l = refl
