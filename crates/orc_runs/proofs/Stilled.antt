-- A `settle` is done: after it nothing is left for a round.
use Rattle.std.proofs.Common.{[], ◌≡◌, false, List, ◌∷◌, ◌++◌, refl, sym, ap, subst, ◌∙◌, append_assoc}
use Rattle.std.proofs.lemmas.Bool.{false≢true}
use Rattle.orc_rules.specs.Events.{Turn}
use Rattle.orc_rules.specs.Worlds.{Setting, World}
use Rattle.orc_runs.specs.Scripts.{Goes, IsOf, IsStill, NoneOf, Part, Part as part, round}

-- of rows of parts that end with the rounds

nil_ends : (ps : List Part) → [] ≡ ps ++ part.Rounds ∷ [] → ⊥
nil_ends [] e = cc
nil_ends (p ∷ ps) e = cc

-- the first part stands before the rounds, or the rounds themselves are all
pub data Begins (one : Part) (parts ps : List Part) : Type 0 where
  in_front : (later : List Part) → ps ≡ one ∷ later → parts ≡ later ++ part.Rounds ∷ [] → Begins one parts ps
  alone : one ≡ part.Rounds → parts ≡ [] → Begins one parts ps

begins : (one : Part) (parts ps : List Part) → one ∷ parts ≡ ps ++ part.Rounds ∷ [] → Begins one parts ps
begins one parts [] e = Begins.alone (let same : one ≡ part.Rounds = cc in same) (let rest : parts ≡ [] = cc in rest)
begins one parts (p ∷ ps) e =
    Begins.in_front ps (let same : one ≡ p = cc in ap (λ (x : Part). x ∷ ps) (sym same)) (let rest : parts ≡ ps ++ part.Rounds ∷ [] = cc in rest)

module _ {D : Type 0} (here : Setting D) where
  no_round : (one : Part) (world : World D) → one ≡ part.Rounds → NoneOf here world one → ⊥
  no_round one world is none = subst (NoneOf here world) is none

  -- where nothing is left of the row nothing came
  ended_there : (world : World D) (turns : List (Turn D)) (last : World D) (parts : List Part) → parts ≡ [] → Goes here false parts world turns last → IsStill here world → IsStill here last
  ended_there world turns last parts none goes still = by world turns last (subst (λ (ps : List Part). Goes here false ps world turns last) none goes) still
    where
      by : (w : World D) (ts : List (Turn D)) (l : World D) → Goes here false [] w ts l → IsStill here w → IsStill here l
      by w ts l (Goes.whole _) own = own
      by w ts l (Goes.broken _ _ is) own = absurd (false≢true is)

  goes_still : (parts : List Part) (world : World D) (turns : List (Turn D)) (last : World D) → Goes here false parts world turns last
      → (ps : List Part) → parts ≡ ps ++ part.Rounds ∷ [] → IsStill here last
  goes_still parts world turns last (Goes.whole _) ps e = absurd (nil_ends ps e)
  goes_still parts world turns last (Goes.broken _ _ is) ps e = absurd (false≢true is)
  goes_still parts world turns last (Goes.once one later turn more _ once is_of called comes goes) ps e = once_by (begins one later ps e) (goes_still later turn.behind more last goes)
    where
      once_by : Begins one later ps → ((qs : List Part) → later ≡ qs ++ part.Rounds ∷ [] → IsStill here last) → IsStill here last
      once_by (Begins.in_front qs is rest) f = f qs rest
      once_by (Begins.alone is rest) f = absurd (subst (λ (p : Part). IsOf p turn.meant) is is_of)
  goes_still parts world turns last (Goes.again one later turn more _ again is_of comes goes) ps e = goes_still (one ∷ later) turn.behind more last goes ps e
  goes_still parts world turns last (Goes.none one later _ _ _ none goes) ps e = none_by (begins one later ps e) (goes_still later world turns last goes)
    where
      none_by : Begins one later ps → ((qs : List Part) → later ≡ qs ++ part.Rounds ∷ [] → IsStill here last) → IsStill here last
      none_by (Begins.in_front qs is rest) f = f qs rest
      none_by (Begins.alone is rest) f = absurd (no_round one world is none)
  goes_still parts world turns last (Goes.round_more later _ _ _ goes) ps e = more_by (begins part.Rounds later ps e) (goes_still (round here.decls ++ part.Rounds ∷ later) world turns last goes)
    where
      more_by : Begins part.Rounds later ps → ((qs : List Part) → round here.decls ++ part.Rounds ∷ later ≡ qs ++ part.Rounds ∷ [] → IsStill here last) → IsStill here last
      more_by (Begins.in_front qs is rest) f =
          f (round here.decls ++ part.Rounds ∷ qs)
          (ap (λ (l : List Part). round here.decls ++ part.Rounds ∷ l) rest ∙ sym (append_assoc (round here.decls) (part.Rounds ∷ qs) (part.Rounds ∷ [])))
      more_by (Begins.alone is rest) f = f (round here.decls) (ap (λ (l : List Part). round here.decls ++ part.Rounds ∷ l) rest)
  goes_still parts world turns last (Goes.still later _ _ _ still goes) ps e = still_by (begins part.Rounds later ps e) (goes_still later world turns last goes)
    where
      still_by : Begins part.Rounds later ps → ((qs : List Part) → later ≡ qs ++ part.Rounds ∷ [] → IsStill here last) → IsStill here last
      still_by (Begins.in_front qs is rest) f = f qs rest
      still_by (Begins.alone is rest) f = ended_there world turns last later rest goes still

  -- the line `settle`
  pub settled_still : (world : World D) (turns : List (Turn D)) (last : World D) → Goes here false (part.Rounds ∷ []) world turns last → IsStill here last
  settled_still world turns last goes = goes_still (part.Rounds ∷ []) world turns last goes [] refl
