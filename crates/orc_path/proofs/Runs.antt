-- Reading many bytes.
use Rattle.std.proofs.Common.{◌≡◌, ℕ, List, [], ◌∷◌, ◌++◌, Some, None, Option, refl}
use Rattle.std.specs.Option.{option_and_then}
use Rattle.orc_path.specs.inside.Reading.{name_mode, feed, feed_all}
use Rattle.orc_path.specs.declared.mode.Mode.{Mode}
use Rattle.orc_path.specs.declared.reader.Reader.{Reader}

-- the mode after bytes of a name
abbrev pub name_modes : Mode → List ℕ → Option Mode
name_modes mode [] = Some mode
name_modes mode (b ∷ bs) = option_and_then (λ next. name_modes next bs) (name_mode mode b)

through : {A B C : Type 0} (o : Option A) (first : A → Option B) (second : B → Option C) (joined : A → Option C) → ((a : A) → joined a ≡ option_and_then second (first a))
    → option_and_then joined o ≡ option_and_then second (option_and_then first o)
through None first second joined h = refl
through (Some a) first second joined h = h a

-- to read two texts is to read the one and then the other
pub feed_all-append : (r : Reader) (xs ys : List ℕ) → feed_all r (xs ++ ys) ≡ option_and_then (λ s. feed_all s ys) (feed_all r xs)
feed_all-append r [] ys = refl
feed_all-append r (b ∷ bs) ys = through (feed r b) (λ s. feed_all s bs) (λ s. feed_all s ys) (λ s. feed_all s (bs ++ ys)) (λ s. feed_all-append s bs ys)

pub name_modes-append : (m : Mode) (xs ys : List ℕ) → name_modes m (xs ++ ys) ≡ option_and_then (λ k. name_modes k ys) (name_modes m xs)
name_modes-append m [] ys = refl
name_modes-append m (b ∷ bs) ys = through (name_mode m b) (λ k. name_modes k bs) (λ k. name_modes k ys) (λ k. name_modes k (bs ++ ys)) (λ k. name_modes-append k bs ys)
