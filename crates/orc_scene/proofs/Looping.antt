-- Turns of one kind, one after another, until none may come.
use Rattle.std.proofs.Common.{[], ◌≡◌, ℕ, List, ◌∷◌, ◌++◌, refl, sym, subst, ◌∙◌, append-nil}
use Rattle.std.proofs.lemmas.Bool.{false≢true}
use Rattle.orc_links.specs.Logs.{noted_on}
use Rattle.orc_rules.specs.Events.{Turn}
use Rattle.orc_rules.specs.Worlds.{Setting, World as Seen}
use Rattle.orc_runs.specs.Runs.{EndsRun}
use Rattle.orc_scene.specs.Courses.{EndAtLast, GoOn, GoesThrough}
use Rattle.orc_scene.specs.Stands.{IsSeenAs}
use Rattle.orc_scene.specs.declared.scene.Scene.{Scene}

-- where no turn ends the run none of them does
pub at_last_none : {D : Type 0} (turns : List (Turn D)) → GoOn turns → EndAtLast turns
at_last_none [] on [] later turn is ends = absurd cc
at_last_none [] on (t ∷ earlier) later turn is ends = absurd cc
at_last_none (x ∷ turns) on [] later turn is ends = let same : x ≡ turn = cc in absurd (on.0 (subst EndsRun (sym same) ends))
at_last_none (x ∷ turns) on (t ∷ earlier) later turn is ends = let rest : turns ≡ earlier ++ turn ∷ later = cc in at_last_none turns on.1 earlier later turn rest ends

module _ {D : Type 0} (here : Setting D) where
  -- nothing came yet
  pub through_none : (seen : Seen D) (world : Scene D) → IsSeenAs here seen world → GoesThrough here world world [] seen
  through_none seen world is = record {
    is = is;
    limit = refl;
    events = sym (append-nil world.events.items.items);
    logs = λ device. sym (append-nil (noted_on world.links.logs device));
    goes_on = tt;
  }
