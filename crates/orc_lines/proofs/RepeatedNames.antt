-- A name that stands twice.
use Rattle.std.proofs.Common.{◌≡◌, ◌<◌, ◌+◌, ℕ, List, Bool, true, ◌||◌, length, get_or, drop, ap, sym, ◌∙◌, subst}
use Rattle.std.proofs.lemmas.List.{at_drop_more}
use Rattle.orc_lines.specs.Names.{is_among, repeats_behind, with_name}

-- the next of the names is among those before it
pub twice_here : (before all : List (List ℕ)) (i : ℕ) (name : List ℕ) (whole : Bool) → i < length all → name ≡ get_or all i name
    → is_among before name ≡ true → repeats_behind before (drop i all) ≡ whole → true ≡ whole
twice_here before all i name whole within is named so_far =
    let next = get_or all i name in
    let known : is_among before next ≡ true = subst (λ (n : List ℕ). is_among before n ≡ true) is named in
    sym (ap (λ (b : Bool). b || repeats_behind (with_name before next) (drop (i + 1) all)) known)
    ∙ sym (at_drop_more (repeats_behind before) all i name within) ∙ so_far
