-- What a line that the declarations allow names.
use Rattle.std.proofs.Common.{◌≡◌, ◌<◌, ℕ, true, length, sym, ◌∙◌, subst, nat_lt}
use Rattle.std.specs.Prelude.{MatchOption}
use Rattle.std.proofs.lemmas.Bool.{ltb-true}
use Rattle.orc_decls.specs.declared.declarations.Decls.{Decls}
use Rattle.orc_disk.specs.Meanings.{DiskMeaning}
use Rattle.orc_rules.specs.Worlds.{Setting, World as Seen}
use Rattle.orc_scene.specs.Stands.{IsPlaceSeenAs, IsSeenAs, IsSoundScene, decls_in, run_setting}
use Rattle.orc_scene.specs.declared.scene.Place.{Place}
use Rattle.orc_scene.specs.declared.scene.Scene.{Scene}
use Rattle.orc_scene.proofs.Allowed.{decls_there, links_long}

-- what a test says of the declarations it says of those of the setting
pub allowed_there : {D : Type 0} (here : Setting D) (seen : Seen D) (place : Place D) (P : Decls → Type 0) → IsPlaceSeenAs here seen place
    → MatchOption (decls_in place) ⊥ P → P here.decls
allowed_there here seen place P is allowed = subst (λ o. MatchOption o ⊥ P) (decls_there here seen place is) allowed

-- a device that the declarations have has a link
pub device_within : {D : Type 0} (disk : DiskMeaning D) (world : Scene D) (device : ℕ) → IsSoundScene disk world
    → MatchOption (decls_in world.place) ⊥ (λ decls. nat_lt device (length decls.names) ≡ true) → device < length world.links.links
device_within {D = D} disk world device sound allowed =
    let here : Setting D = run_setting disk sound.0 world.limit sound.1 in
    let is : IsSeenAs here sound.2 world = sound.3 in
    let within : nat_lt device (length here.decls.names) ≡ true =
    allowed_there here sound.2 world.place (λ decls. nat_lt device (length decls.names) ≡ true) is.place allowed in
    subst (λ (count : ℕ). device < count) (sym (links_long here sound.2 world is)) (ltb-true device (length here.decls.names) within)
