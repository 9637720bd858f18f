-- What is written on one device, put in its place.
use Rattle.std.proofs.Common.{◌≡◌, ℕ, List, [], Option, Some, Result, slice_get, slice_set, sym, ap, subst, ◌∙◌, set-set}
use Rattle.serde_json.specs.Data.{Data}
use Rattle.orc_path.specs.Configurations.{Config}
use Rattle.orc_schema_nodes.specs.Schemas.{SchemaTable}
use Rattle.orc_template.specs.Values.{Scene}
use Rattle.orc_template.specs.Writing.{object_done, Writes}
use Rattle.orc_template.specs.Expansions.{Expanding, put_written, on_tree}
use Rattle.orc_template.specs.inside.Expanding.{Stops}
use Rattle.orc_template.specs.declared.writing.Writing.{Writing}
use Rattle.orc_template.specs.declared.fault.Halt.{Halt}
use Rattle.orc_template.proofs.Handed.{put_so}

pub tree_done : (scene : Scene) (n : ℕ) (config : Data) (s : SchemaTable) (e : Expanding) (tree empty : Config) (new : Writing) (swapped written : List Config) (r : Result (Unit {0}) Halt)
    → slice_get e.written n ≡ Some tree → swapped ≡ slice_set e.written n empty → written ≡ slice_set swapped n new.tree
    → Writes (object_done scene s [] [] config (record { tree = tree; reads = record { reads = e.reads } })) new r
    → Stops (on_tree scene n config s (slice_get e.written n) e) (record { written = written; reads = new.reads.reads }) r
tree_done scene n config s e tree empty new swapped written r taken first second h =
    let back : slice_set e.written n new.tree ≡ written = sym (second ∙ ap (λ (xs : List Config). slice_set xs n new.tree) first ∙ set-set e.written n empty new.tree) in
    subst (λ (o : Option Config). Stops (on_tree scene n config s o e) (record { written = written; reads = new.reads.reads }) r) (sym taken)
    (subst (λ (xs : List Config). Stops (put_written n e.written (object_done scene s [] [] config (record { tree = tree; reads = record { reads = e.reads } }))) (record { written = xs; reads = new.reads.reads }) r) back
    (put_so n e.written (object_done scene s [] [] config (record { tree = tree; reads = record { reads = e.reads } })) new r h))
