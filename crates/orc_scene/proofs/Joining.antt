-- What came in one call of the world, and then in another.
use Rattle.std.proofs.Common.{[], ◌≡◌, ℕ, Bool, ◌∷◌, ◌++◌, subst, ◌∙◌}
use Rattle.orc_decls.specs.declared.declarations.Decls.{Decls}
use Rattle.orc_disk.specs.Meanings.{DiskMeaning}
use Rattle.orc_rules.specs.Worlds.{Setting, World as Seen}
use Rattle.orc_scene.specs.Courses.{InEachView}
use Rattle.orc_scene.specs.Stands.{IsSeenAs, run_setting}
use Rattle.orc_scene.specs.declared.scene.Scene.{Scene}

-- what a call does in each view it does in this one, whose limit is that of a world before it
pub at_limit : {D : Type 0} (disk : DiskMeaning D) (world : Scene D) (IsSo : Setting D → Seen D → Type 0) (limit : ℕ) (decls : Decls) (granted : Bool) (seen : Seen D)
    → InEachView disk world IsSo → world.limit ≡ limit → IsSeenAs (run_setting disk decls limit granted) seen world → IsSo (run_setting disk decls limit granted) seen
at_limit disk world IsSo limit decls granted seen each same =
    subst (λ (l : ℕ). IsSeenAs (run_setting disk decls l granted) seen world → IsSo (run_setting disk decls l granted) seen) same (each decls granted seen)
