-- Where the text of a name is refused.
use Rattle.std.proofs.Common.{◌≡◌, ℕ, suc, ◌+◌, ◌<◌, ◌≤◌, add-one, Bool, true, false, ◌||◌, List, [], ◌∷◌, ◌++◌, Some, None, Option, length, take, get_or, refl, sym, ap, subst, ◌∙◌, append_assoc, append-nil}
use Rattle.std.specs.Option.{option_and_then}
use Rattle.std.proofs.lemmas.List.{take_all}
use Rattle.std.proofs.Math.Seq.{take-suc}
use Rattle.orc_path.specs.Alphabet.{is_identifier, is_qualified, is_node_name}
use Rattle.orc_path.specs.Texts.{IsNameText, CanBegin, IsBadAt}
use Rattle.orc_path.specs.inside.Reading.{name_mode, is_name_end, IsNamePart}
use Rattle.orc_path.proofs.Runs.{name_modes, name_modes-append}
use Rattle.orc_path.specs.declared.mode.Mode.{Mode}
use Rattle.orc_path.specs.declared.mode.Mode.TheVariants.{Start, Slash, Module, Colon, Inside, Next, Key, Escape, Closed}
use Rattle.orc_path.proofs.Parts.{none_given, name_step}
use Rattle.orc_path.proofs.Stops.{given_before, bad_at, bad_end}
use Rattle.orc_path.proofs.Again.{identifier_again, qualified_again}

-- whether a name may end after these bytes
abbrev may_end : Option Mode → Bool
may_end None = false
may_end (Some m) = is_name_end m

-- there is a mode after the bytes
abbrev Takes : List ℕ → Type 0
Takes xs = (m : Mode) × (name_modes Slash xs ≡ Some m)

reads_by : (o : Option Mode) (m m' : Mode) (n : List ℕ) (b : ℕ) (bs : List ℕ) → name_mode m b ≡ o → IsNamePart [] m n
    → ((k : Mode) → name_modes k bs ≡ Some m' → IsNamePart [] k (n ++ b ∷ []) → IsNamePart [] m' ((n ++ b ∷ []) ++ bs))
    → option_and_then (λ k. name_modes k bs) o ≡ Some m' → IsNamePart [] m' (n ++ b ∷ bs)
reads_by None m m' n b bs f part more e = none_given _ m' e
reads_by (Some k) m m' n b bs f part more e = subst (IsNamePart [] m') (append_assoc n (b ∷ []) bs) (more k e (name_step [] m k n b part f))

reads : (m m' : Mode) (n xs : List ℕ) → name_modes m xs ≡ Some m' → IsNamePart [] m n → IsNamePart [] m' (n ++ xs)
reads m m' n [] e part = let same : m ≡ m' = cc in subst (λ k. IsNamePart [] k (n ++ [])) same (subst (IsNamePart [] m) (sym (append-nil n)) part)
reads m m' n (b ∷ bs) e part = reads_by (name_mode m b) m m' n b bs refl part (λ k h p. reads k m' (n ++ b ∷ []) bs h p) e

either : (a b : Bool) → b ≡ true → (a || b) ≡ true
either true b h = refl
either false b h = h

part_whole : (m : Mode) (n : List ℕ) → IsNamePart [] m n → is_name_end m ≡ true → is_node_name n ≡ true
part_whole Module n part e = ap (λ t. t || is_qualified n) part.1
part_whole Inside n part e = either (is_identifier n) (is_qualified n) part
part_whole Start n part e = absurd part
part_whole Slash n part e = let not_so : ⊥ = cc in absurd not_so
part_whole Colon n part e = let not_so : ⊥ = cc in absurd not_so
part_whole Next n part e = let not_so : ⊥ = cc in absurd not_so
part_whole Key n part e = absurd part
part_whole Escape n part e = absurd part
part_whole Closed n part e = absurd part

-- what is read as a name is one
pub name_whole : (m : Mode) (xs : List ℕ) → name_modes Slash xs ≡ Some m → is_name_end m ≡ true → is_node_name xs ≡ true
name_whole m xs e end = part_whole m xs (reads Slash m [] xs e (refl, refl)) end

again_by : (t : Bool) (xs : List ℕ) → is_identifier xs ≡ t → (t || is_qualified xs) ≡ true → may_end (name_modes Slash xs) ≡ true
again_by true xs e h = ap may_end (identifier_again xs e)
again_by false xs e h = ap may_end (qualified_again xs h)

-- a name is read as one
name_again : (xs : List ℕ) → is_node_name xs ≡ true → may_end (name_modes Slash xs) ≡ true
name_again xs h = again_by (is_identifier xs) xs refl h

end_given : (o : Option Mode) → may_end o ≡ true → (m : Mode) × (o ≡ Some m)
end_given None e = let not_so : ⊥ = cc in absurd not_so
end_given (Some m) e = (m, refl)

-- bytes that bring the reader to the end of a name
abbrev ending : Mode → List ℕ
ending Slash = 97 ∷ []
ending Module = []
ending Colon = 97 ∷ []
ending Inside = []
ending Next = 97 ∷ []
ending Start = []
ending Key = []
ending Escape = []
ending Closed = []

ends : (m : Mode) (n : List ℕ) → IsNamePart [] m n → may_end (name_modes m (ending m)) ≡ true
ends Slash n part = refl
ends Module n part = refl
ends Colon n part = refl
ends Inside n part = refl
ends Next n part = refl
ends Start n part = absurd part
ends Key n part = absurd part
ends Escape n part = absurd part
ends Closed n part = absurd part

name_of : (o : Option Mode) (xs : List ℕ) → name_modes Slash xs ≡ o → may_end o ≡ true → is_node_name xs ≡ true
name_of None xs e h = let not_so : ⊥ = cc in absurd not_so
name_of (Some m) xs e h = name_whole m xs e h

takes_begins : (xs : List ℕ) → Takes xs → CanBegin IsNameText xs
takes_begins xs (m, e) = (
  ending m,
  name_of (name_modes Slash (xs ++ ending m)) (xs ++ ending m) refl
      (ap may_end (name_modes-append Slash xs (ending m) ∙ ap (option_and_then (λ k. name_modes k (ending m))) e) ∙ ends m xs (reads Slash m [] xs e (refl, refl))),
)

-- the beginning of a name is read
begun_taken : (xs : List ℕ) → CanBegin IsNameText xs → Takes xs
begun_taken xs b =
    let whole = end_given (name_modes Slash (xs ++ b.0)) (name_again (xs ++ b.0) b.1) in
    given_before (name_modes Slash xs) (λ k. name_modes k b.0) whole.0 (sym (name_modes-append Slash xs b.0) ∙ whole.1)

one_more : (xs ys : List ℕ) (at : ℕ) (m : Mode) → ys ≡ xs → at < length ys → name_modes Slash (take at xs) ≡ Some m → name_modes Slash (take (suc at) xs) ≡ option_and_then (λ k. Some k) (name_mode m (get_or ys at 0))
one_more xs ys at m same within e =
    ap (λ zs. name_modes Slash (take (suc at) zs)) (sym same)
    ∙ ap (name_modes Slash) (take-suc ys at 0 within)
    ∙ name_modes-append Slash (take at ys) (get_or ys at 0 ∷ [])
    ∙ ap (option_and_then (λ k. name_modes k (get_or ys at 0 ∷ []))) (ap (λ zs. name_modes Slash (take at zs)) same ∙ e)

-- a byte that the reader takes
pub name_taken_at : (xs ys : List ℕ) (at : ℕ) (m k : Mode) → ys ≡ xs → at < length ys → name_modes Slash (take at xs) ≡ Some m → name_mode m (get_or ys at 0) ≡ Some k → name_modes Slash (take (at + 1) xs) ≡ Some k
name_taken_at xs ys at m k same within e goes = ap (λ n. name_modes Slash (take n xs)) (add-one at) ∙ one_more xs ys at m same within e ∙ ap (option_and_then (λ l. Some l)) goes

-- a byte that it does not take
pub name_refused_at : (xs ys : List ℕ) (at : ℕ) (m : Mode) → ys ≡ xs → at < length ys → name_modes Slash (take at xs) ≡ Some m → name_mode m (get_or ys at 0) ≡ None → IsBadAt IsNameText xs at
name_refused_at xs ys at m same within e refused =
    bad_at IsNameText xs at (subst (λ zs. at < length zs) same within) (takes_begins (take at xs) (m, e))
    (λ b. let t = begun_taken (take (suc at) xs) b in none_given ⊥ t.0 (sym (one_more xs ys at m same within e ∙ ap (option_and_then (λ k. Some k)) refused) ∙ t.1))

-- a text that ends where no name may end
pub name_unfinished : (xs : List ℕ) (m : Mode) → name_modes Slash xs ≡ Some m → is_name_end m ≡ false → IsBadAt IsNameText xs (length xs)
name_unfinished xs m e end = bad_end IsNameText xs (takes_begins xs (m, e)) (λ t. unlike (sym (name_again xs t) ∙ ap may_end e ∙ end))
  where
    unlike : true ≡ false → ⊥
    unlike h = cc

-- all bytes were read
pub name_read_whole : (xs ys : List ℕ) (at : ℕ) (m : Mode) → ys ≡ xs → length ys ≤ at → name_modes Slash (take at xs) ≡ Some m → name_modes Slash xs ≡ Some m
name_read_whole xs ys at m same end e = ap (name_modes Slash) (sym (take_all at xs (subst (λ zs. length zs ≤ at) same end))) ∙ e
