-- Rows of parts in calls, one call after another.
use Rattle.std.proofs.Common.{[], ◌≡◌, inl, inr, ℕ, true, false, Option, Some, None, List, ◌∷◌, ◌++◌, refl, sym, subst, ◌∙◌}
use Rattle.std.specs.Prelude.{MatchOption, is_some}
use Rattle.std.proofs.lemmas.Bool.{false≢true}
use Rattle.orc_rules.specs.Worlds.{Setting, World as Seen}
use Rattle.orc_runs.specs.Scripts.{Goes, IsCalledFor, Part, comes_again}
use Rattle.orc_scene.specs.Effects.{hub_in}
use Rattle.orc_scene.specs.Courses.{DoesParts, DoesTurn, EndsInParts, MayEndTurn}
use Rattle.orc_scene.specs.Stands.{IsPlaceSeenAs}
use Rattle.orc_scene.specs.declared.stop.WorldStop.{WorldStop}
use Rattle.orc_scene.specs.declared.scene.Place.{Place}
use Rattle.orc_scene.specs.declared.scene.Place.TheVariants.{Up, Down, Ended, Moved}
use Rattle.orc_scene.specs.declared.scene.Scene.{Scene}
use Rattle.orc_scene.proofs.Apiece.{once_ends}
use Rattle.orc_scene.proofs.Goings.{goes_once}
use Rattle.orc_scene.proofs.Lasted.{ended}

module _ {D : Type 0} (here : Setting D) (seen : Seen D) (old middle new : Scene D) (before after : List ℕ) where
  -- one turn is a row
  pub turn_parts : (one : Part) → comes_again one ≡ false → DoesTurn here seen old new before after one → DoesParts here seen old new before after (one ∷ [])
  turn_parts one single does = record {
    turns = does.turn ∷ [];
    next = does.turn.behind;
    goes = subst (λ (world : Seen D). Goes here false (one ∷ []) world (does.turn ∷ []) does.turn.behind) does.first
        (goes_once here false one does.turn single does.is_of (subst (λ (world : Seen D). IsCalledFor here world one) (sym does.first) does.called) does.comes);
    through = does.through;
    prints = does.prints;
  }

  pub turn_ends : (one : Part) → comes_again one ≡ false → (why : WorldStop) → MayEndTurn here seen old new before after one why → EndsInParts here seen old new before after (one ∷ []) why
  turn_ends one single why (inl ends) = record {
    turns = ends.turn ∷ [];
    last = ends.turn.behind;
    goes = subst (λ (world : Seen D). Goes here true (one ∷ []) world (ends.turn ∷ []) ends.turn.behind) ends.first
        (goes_once here true one ends.turn single ends.is_of (subst (λ (world : Seen D). IsCalledFor here world one) (sym ends.first) ends.called) ends.comes);
    because = ends.because;
    ended = ends.ended;
    prints = ends.prints;
  }
  turn_ends one single why (inr ends) = once_ends here seen old new before after (one ∷ []) why ends

-- where no hub is up

-- none is seen
pub none_up : {D : Type 0} (here : Setting D) (seen : Seen D) (place : Place D) → IsPlaceSeenAs here seen place → is_some (hub_in place) ≡ false → seen.hub ≡ None
none_up here seen (Up hub) is down = absurd (false≢true (sym down))
none_up here seen (Down disk decls) is down = is.0
none_up here seen (Ended disk) is down = absurd is
none_up here seen Moved is down = absurd is

-- something is there where this is so of it
pub some_there : {X : Type 0} (P : X → Type 0) (o : Option X) → MatchOption o ⊥ P → is_some o ≡ true
some_there P None none = absurd none
some_there P (Some x) is = refl
