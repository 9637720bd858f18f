-- No reconciliation is begun in a row of parts that has no beginning of one.
use Rattle.std.proofs.Common.{[], ◌≡◌, ℕ, Bool, ◌∷◌, ◌++◌, sym, subst, ◌∙◌}
use Rattle.std.proofs.lemmas.Bool.{false≢true}
use Rattle.orc_decls.specs.declared.declarations.Decls.{Decls}
use Rattle.orc_disk.specs.Meanings.{DiskMeaning}
use Rattle.orc_hub.specs.Hubs.{record_of}
use Rattle.orc_rules.specs.Worlds.{Setting, World as Seen}
use Rattle.orc_runs.specs.Serving.{IsRested}
use Rattle.orc_scene.specs.Stands.{IsPlaceSeenAs, IsSeenAs, IsSoundScene, IsNotReconciling, run_setting}
use Rattle.orc_scene.specs.declared.scene.Place.{Place}
use Rattle.orc_scene.specs.declared.scene.Place.TheVariants.{Up, Down, Ended, Moved}
use Rattle.orc_scene.specs.declared.scene.Scene.{Scene}

module _ {D : Type 0} (here : Setting D) where
  -- no reconciliation is unfinished where what the rules see rests
  pub unmended_there : (seen : Seen D) (place : Place D) → IsPlaceSeenAs here seen place → IsRested seen → IsNotReconciling place
  unmended_there seen (Up hub) is rested = rested (record_of hub) is.is
  unmended_there seen (Down disk decls) is rested = tt
  unmended_there seen (Ended disk) is rested = absurd is
  unmended_there seen Moved is rested = absurd is

-- what the rules see of a world with this limit they see of a sound one
pub sound_at : {D : Type 0} (disk : DiskMeaning D) (world : Scene D) (limit : ℕ) (decls : Decls) (granted : Bool) (seen : Seen D)
    → world.limit ≡ limit → IsSeenAs (run_setting disk decls limit granted) seen world → IsSoundScene disk world
sound_at disk world limit decls granted seen same is =
    (decls, granted, seen, subst (λ (l : ℕ). IsSeenAs (run_setting disk decls l granted) seen world) (sym same) is)
