-- Where a text is bad: it stops being the beginning of one.
use Rattle.std.proofs.Common.{◌≡◌, ℕ, suc, ◌<◌, List, [], ◌∷◌, ◌++◌, Some, None, Option, length, length-append, take, drop, refl, sym, ap, subst, ◌∙◌, arith, append_assoc, append-nil}
use Rattle.std.specs.Option.{option_and_then}
use Rattle.std.proofs.lemmas.List.{take-append-drop, take-take}
use Rattle.std.proofs.Math.Seq.{take-length, take-append_seam}
use Rattle.orc_path.specs.Texts.{CanBegin, IsBadAt}
use Rattle.orc_path.proofs.Parts.{none_given}

module _ (IsText : List ℕ → Type 0) where
  -- what begins a longer beginning
  pub can_begin_front : (xs ys : List ℕ) → CanBegin IsText (xs ++ ys) → CanBegin IsText xs
  can_begin_front xs ys b = (ys ++ b.0, subst IsText (append_assoc xs ys b.0) b.1)

  pub can_begin_text : (xs : List ℕ) → IsText xs → CanBegin IsText xs
  can_begin_text xs t = ([], subst IsText (sym (append-nil xs)) t)

  -- the text is bad at a place where the prefix up to it begins a good one and the prefix with a byte more begins none
  pub bad_at : (xs : List ℕ) (at : ℕ) → at < length xs → CanBegin IsText (take at xs) → (CanBegin IsText (take (suc at) xs) → ⊥) → IsBadAt IsText xs at
  bad_at xs at within here not_so = record {
    within = omega arith;
    begins = here;
    longest = λ n lt le b. not_so (from n lt b);
    none = λ t. not_so (can_begin_front (take (suc at) xs) (drop (suc at) xs) (subst (CanBegin IsText) (sym (take-append-drop (suc at) xs)) (can_begin_text xs t)));
  }
    where
      from : (n : ℕ) → at < n → CanBegin IsText (take n xs) → CanBegin IsText (take (suc at) xs)
      from n lt b =
          subst (CanBegin IsText) (take-take (suc at) n xs (omega arith))
          (can_begin_front (take (suc at) (take n xs)) (drop (suc at) (take n xs)) (subst (CanBegin IsText) (sym (take-append-drop (suc at) (take n xs))) b))

  -- a text of three parts, a beginning, a byte and a rest, is bad at the byte where the first two begin no good text
  pub bad_behind : (begun : List ℕ) (byte : ℕ) (rest : List ℕ) → CanBegin IsText begun → (CanBegin IsText (begun ++ byte ∷ []) → ⊥) → IsBadAt IsText ((begun ++ byte ∷ []) ++ rest) (length begun)
  bad_behind begun byte rest here not_so =
      bad_at ((begun ++ byte ∷ []) ++ rest) (length begun) (let l = length-append (begun ++ byte ∷ []) rest in let k = long in omega arith)
      (subst (CanBegin IsText) (sym (ap (take (length begun)) (append_assoc begun (byte ∷ []) rest) ∙ take-append_seam begun (byte ∷ rest))) here)
      (λ b. not_so (subst (CanBegin IsText) one_more b))
    where
      long : length (begun ++ byte ∷ []) ≡ suc (length begun)
      long = let l = length-append begun (byte ∷ []) in omega arith

      one_more : take (suc (length begun)) ((begun ++ byte ∷ []) ++ rest) ≡ begun ++ byte ∷ []
      one_more = ap (λ n. take n ((begun ++ byte ∷ []) ++ rest)) (sym long) ∙ take-append_seam (begun ++ byte ∷ []) rest

  -- a text that ends too early is bad at its end
  pub bad_end : (xs : List ℕ) → CanBegin IsText xs → (IsText xs → ⊥) → IsBadAt IsText xs (length xs)
  bad_end xs here not_so = record {
    within = omega arith;
    begins = subst (CanBegin IsText) (sym (take-length xs)) here;
    longest = λ n lt le b. absurd (omega arith);
    none = not_so;
  }

pub given_before : {A B : Type 0} (o : Option A) (f : A → Option B) (b : B) → option_and_then f o ≡ Some b → (a : A) × (o ≡ Some a)
given_before None f b e = none_given _ b e
given_before (Some a) f b e = (a, refl)
