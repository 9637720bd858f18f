-- Parts that are read one by one.
use Rattle.std.proofs.Common.{◌≡◌, ℕ, List, [], ◌∷◌, ◌++◌, Option, Some, None, refl, sym, ap, ◌∙◌}
use Rattle.std.specs.Prelude.{option_map}
use Rattle.std.proofs.lemmas.List.{append_assoc, append-nil}
use Rattle.std.specs.Prelude.{map}
use Rattle.std.specs.List.{slice_split}
use Rattle.orc_types.specs.Ranges.{Range, is_bar, all_of, part_of, parts_of}

-- what was read, before what is still to be read
abbrev pub behind : {X : Type 0} → List X → Option (List X) → Option (List X)
behind front rest = option_map (λ more. front ++ more) rest

pub behind-one : {X : Type 0} (front : List X) (x : X) (rest : Option (List X)) → behind (front ++ x ∷ []) rest ≡ behind front (option_map (λ xs. x ∷ xs) rest)
behind-one front x None = refl
behind-one front x (Some xs) = ap Some (append_assoc front (x ∷ []) xs)

-- one part more
pub one_more : {X : Type 0} (front : List X) (x : X) (o : Option X) (rest : List (Option X)) (whole : Option (List X)) → o ≡ Some x → behind front (all_of (o ∷ rest)) ≡ whole → behind (front ++ x ∷ []) (all_of rest) ≡ whole
one_more front x o rest whole is h = behind-one front x (all_of rest) ∙ (ap (λ t. behind front (all_of (t ∷ rest))) (sym is) ∙ h)

pub none_is_left : {X : Type 0} (front : List X) (whole : Option (List X)) → behind front (Some []) ≡ whole → Some front ≡ whole
none_is_left front whole h = ap Some (sym (append-nil front)) ∙ h

-- ---- the parts between bars: `front` was read, and `rest` is left

abbrev Reads : Range → List Range → List ℕ → Option (List Range) → Type 0
Reads ends front rest whole = behind front (parts_of ends rest) ≡ whole

cut : (ends : Range) (front : List Range) (rest : List ℕ) (parts : List (List ℕ)) (whole : Option (List Range)) → slice_split is_bar rest ≡ parts → Reads ends front rest whole → behind front (all_of (map (part_of ends) parts)) ≡ whole
cut ends front rest parts whole is h = ap (λ ps. behind front (all_of (map (part_of ends) ps))) (sym is) ∙ h

pub next_part : (ends : Range) (front : List Range) (rest part more : List ℕ) (r : Range) (whole : Option (List Range)) → slice_split is_bar rest ≡ part ∷ slice_split is_bar more → Some r ≡ part_of ends part → Reads ends front rest whole → Reads ends (front ++ r ∷ []) more whole
next_part ends front rest part more r whole split is h =
    one_more front r (part_of ends part) (map (part_of ends) (slice_split is_bar more)) whole (sym is) (cut ends front rest (part ∷ slice_split is_bar more) whole split h)

pub last_part : (ends : Range) (front : List Range) (rest : List ℕ) (r : Range) (whole : Option (List Range)) → slice_split is_bar rest ≡ rest ∷ [] → Some r ≡ part_of ends rest → Reads ends front rest whole → Some (front ++ r ∷ []) ≡ whole
last_part ends front rest r whole split is h =
    none_is_left (front ++ r ∷ []) whole (one_more front r (part_of ends rest) [] whole (sym is) (cut ends front rest (rest ∷ []) whole split h))
