-- What lines show of a world.
use Rattle.std.specs.Prelude.{◌≡◌, ℕ, List, MatchOption, Option, codes}
use Rattle.orc_datastore.specs.Metas.{IsMeta}
use Rattle.orc_decls.specs.Devices.{name_of}
use Rattle.orc_links.specs.Logs.{noted_on}
use Rattle.orc_links.specs.Networks.{node_states}
use Rattle.orc_path.specs.Steps.{PathStep}
use Rattle.orc_print.specs.Logs.{log_text}
use Rattle.orc_print.specs.Printed.{IsJsonGroup, meta_group, tree_text}
use Rattle.orc_refs.specs.declared.moves.Meta.{Meta}
use Rattle.orc_runs.specs.Scripts.{schema_on}
use Rattle.orc_scene.specs.Effects.{hub_in}
use Rattle.orc_scene.specs.Stands.{decls_in}
use Rattle.orc_scene.specs.declared.scene.Scene.{Scene}

-- the tree that a device runs, in lines
abbrev pub ShowsDevice : {D : Type 0} → Scene D → ℕ → List ℕ → Type 0
ShowsDevice world device text = MatchOption (decls_in world.place) ⊥ (λ decls.
    text ≡ tree_text (name_of decls.names device) (node_states world.links.links device).running)

-- the tree that a device runs, as JSON
abbrev pub ShowsJsonOf : {D : Type 0} → Scene D → ℕ → List ℕ → Type 0
ShowsJsonOf world device text = MatchOption (decls_in world.place) ⊥ (λ decls.
    IsJsonGroup (name_of decls.names device) (schema_on decls device)
    (node_states world.links.links device).running text)

-- the operations of a device since its log was printed last
abbrev pub ShowsLogOf : {D : Type 0} → Scene D → ℕ → List ℕ → Type 0
ShowsLogOf world device text = MatchOption (decls_in world.place) ⊥ (λ decls.
    text ≡ log_text (name_of decls.names device) (noted_on world.links.logs device))

-- what a hub that is up knows of a path of a device, or that none is up
abbrev pub ShowsMetaOf : {D : Type 0} → Scene D → ℕ → List PathStep → List ℕ → Type 0
ShowsMetaOf world device path text = MatchOption (hub_in world.place) (text ≡ codes "down\n") (λ hub.
    (meta : Option Meta) × IsMeta hub.state.datastore device path meta
    × (text ≡ meta_group (name_of hub.decls.names device) path meta))
