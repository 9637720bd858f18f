-- Rows of parts, one after another.
use Rattle.std.proofs.Common.{[], ◌≡◌, Bool, true, false, List, ◌∷◌, ◌++◌, refl, subst, append_assoc}
use Rattle.std.proofs.lemmas.Bool.{false≢true}
use Rattle.orc_rules.specs.Events.{Turn}
use Rattle.orc_rules.specs.Worlds.{Setting, World}
use Rattle.orc_runs.specs.Scripts.{Goes, Part, Part as part, round}

module _ {D : Type 0} (here : Setting D) where
  -- a row, and then another one, up to its end or up to where the run ended
  pub goes_then : (ended : Bool) (first second : List Part) (a b c : World D) (turns later : List (Turn D))
      → Goes here false first a turns b → Goes here ended second b later c → Goes here ended (first ++ second) a (turns ++ later) c
  goes_then ended first second a b c turns later (Goes.whole _) more = more
  goes_then ended first second a b c turns later (Goes.broken _ _ wrong) more = absurd (false≢true wrong)
  goes_then ended first second a b c turns later (Goes.once one rest turn turns' _ single is called comes goes) more =
      Goes.once one (rest ++ second) turn (turns' ++ later) c single is called comes (goes_then ended rest second turn.behind b c turns' later goes more)
  goes_then ended first second a b c turns later (Goes.again one rest turn turns' _ again is comes goes) more =
      Goes.again one (rest ++ second) turn (turns' ++ later) c again is comes (goes_then ended (one ∷ rest) second turn.behind b c turns' later goes more)
  goes_then ended first second a b c turns later (Goes.none one rest _ _ _ none goes) more =
      Goes.none one (rest ++ second) a c (turns ++ later) none (goes_then ended rest second a b c turns later goes more)
  goes_then ended first second a b c turns later (Goes.round_more rest _ _ _ goes) more =
      Goes.round_more (rest ++ second) a c (turns ++ later)
      (subst (λ (ps : List Part). Goes here ended ps a (turns ++ later) c) (append_assoc (round here.decls) (part.Rounds ∷ rest) second)
      (goes_then ended (round here.decls ++ part.Rounds ∷ rest) second a b c turns later goes more))
  goes_then ended first second a b c turns later (Goes.still rest _ _ _ still goes) more =
      Goes.still (rest ++ second) a c (turns ++ later) still (goes_then ended rest second a b c turns later goes more)

  -- a run that ended in a row ended in a longer one
  pub goes_broken : (first second : List Part) (a b : World D) (turns : List (Turn D))
      → Goes here true first a turns b → Goes here true (first ++ second) a turns b
  goes_broken first second a b turns (Goes.whole _) = Goes.broken second a refl
  goes_broken first second a b turns (Goes.broken rest _ is) = Goes.broken (rest ++ second) a is
  goes_broken first second a b turns (Goes.once one rest turn turns' _ single is called comes goes) =
      Goes.once one (rest ++ second) turn turns' b single is called comes (goes_broken rest second turn.behind b turns' goes)
  goes_broken first second a b turns (Goes.again one rest turn turns' _ again is comes goes) =
      Goes.again one (rest ++ second) turn turns' b again is comes (goes_broken (one ∷ rest) second turn.behind b turns' goes)
  goes_broken first second a b turns (Goes.none one rest _ _ _ none goes) =
      Goes.none one (rest ++ second) a b turns none (goes_broken rest second a b turns goes)
  goes_broken first second a b turns (Goes.round_more rest _ _ _ goes) =
      Goes.round_more (rest ++ second) a b turns
      (subst (λ (ps : List Part). Goes here true ps a turns b) (append_assoc (round here.decls) (part.Rounds ∷ rest) second)
      (goes_broken (round here.decls ++ part.Rounds ∷ rest) second a b turns goes))
  goes_broken first second a b turns (Goes.still rest _ _ _ still goes) =
      Goes.still (rest ++ second) a b turns still (goes_broken rest second a b turns goes)
