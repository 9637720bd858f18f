-- Edits that are done one after another.
use Rattle.std.proofs.Common.{◌≡◌, ℕ, ◌+◌, ◌<◌, List, [], ◌∷◌, length, drop, get_or, refl, sym, ap, ◌∙◌}
use Rattle.orc_path.specs.Configurations.{Config}
use Rattle.orc_tree.proofs.Changed.{one_less}
use Rattle.orc_refs.specs.Moves.{edited}
use Rattle.orc_refs.specs.declared.moves.BaseEdit.{BaseEdit}
use Rattle.orc_refs.specs.declared.moves.BaseEdit.TheVariants as edit

edited_first : (x : BaseEdit) (xs : List BaseEdit) (m : Config) → edited (x ∷ xs) m ≡ edited xs (edited (x ∷ []) m)
edited_first (edit.Put put) xs m = refl
edited_first (edit.Remove path) xs m = refl

pub edited-more : (xs : List BaseEdit) (i : ℕ) (x : BaseEdit) (old new all : Config) → i < length xs → x ≡ get_or xs i x → new ≡ edited (x ∷ []) old → edited (drop i xs) old ≡ all
    → edited (drop (i + 1) xs) new ≡ all
edited-more xs i x old new all within is done so =
    ap (edited (drop (i + 1) xs)) done ∙ sym (edited_first x (drop (i + 1) xs) old) ∙ sym (ap (λ l. edited l old) (one_less xs i x within is)) ∙ so
