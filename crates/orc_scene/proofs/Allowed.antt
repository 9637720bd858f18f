-- What a line that the declarations allow names.
use Rattle.std.proofs.Common.{◌≡◌, ◌<◌, ℕ, List, length, sym, ap, ◌∙◌}
use Rattle.std.specs.Prelude.{Some}
use Rattle.std.proofs.lemmas.List.{length-map}
use Rattle.orc_check.specs.declared.acceptance.Accept.{Accept}
use Rattle.orc_decls.specs.Declarations.{accept_of}
use Rattle.orc_decls.specs.declared.declarations.Device.{Device}
use Rattle.orc_node.specs.LinkStates.{LinkState}
use Rattle.orc_rules.specs.Worlds.{Setting, World as Seen}
use Rattle.orc_scene.specs.Stands.{IsPlaceSeenAs, IsSeenAs, decls_in}
use Rattle.orc_scene.specs.declared.scene.Place.{Place}
use Rattle.orc_scene.specs.declared.scene.Place.TheVariants.{Up, Down, Ended, Moved}
use Rattle.orc_scene.specs.declared.scene.Scene.{Scene}

-- the declarations are those of the setting
pub decls_there : {D : Type 0} (here : Setting D) (seen : Seen D) (place : Place D) → IsPlaceSeenAs here seen place → decls_in place ≡ Some here.decls
decls_there here seen (Up hub) is = ap (λ d. Some d) is.decls
decls_there here seen (Down disk decls) is = ap (λ d. Some d) is.1
decls_there here seen (Ended disk) is = absurd is
decls_there here seen Moved is = absurd is

-- there is a link for each declared device
pub links_long : {D : Type 0} (here : Setting D) (seen : Seen D) (world : Scene D) → IsSeenAs here seen world
    → length world.links.links ≡ length here.decls.names
links_long here seen world is =
    sym (length-map world.links.links (λ (link : LinkState). link.node.accept))
    ∙ ap (λ (all : List Accept). length all) is.accepts
    ∙ length-map here.decls.devices (accept_of here.decls.schemas)
    ∙ sym (length-map here.decls.devices (λ (device : Device). device.name))
    ∙ ap (λ (names : List (List ℕ)). length names) (sym is.decls.named)
