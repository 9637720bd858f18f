-- What stands between the slashes of a path.
use Rattle.std.proofs.Common.{◌≡◌, ℕ, ◌<◌, List, [], ◌∷◌, length, refl, arith}
use Rattle.std.specs.List.{list_all, slice_split}
use Rattle.std.proofs.lemmas.List.Splits.{length-slice_split}
use Rattle.orc_types.specs.Paths.{is_step_mark, is_reference, are_names}

some_names : (parts : List (List ℕ)) → 0 < length parts → are_names parts ≡ list_all is_reference parts
some_names [] h = absurd (omega arith)
some_names (part ∷ parts) h = refl

-- something stands there in any case
pub are_names-split : (text : List ℕ) → are_names (slice_split is_step_mark text) ≡ list_all is_reference (slice_split is_step_mark text)
are_names-split text = some_names (slice_split is_step_mark text) (omega (arith, length-slice_split is_step_mark text))
