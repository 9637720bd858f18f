-- What makes a path of a device's base.
use Rattle.std.proofs.Common.{◌≡◌, Bool, true, false, not, ◌&&◌, ◌||◌, List, [], refl}
use Rattle.std.proofs.lemmas.Bool.{false≢true}
use Rattle.orc_path.specs.Items.{fits}
use Rattle.orc_path.specs.Limits.{is_long_path}
use Rattle.orc_path.specs.Steps.{PathStep, ends_in_keys, is_path}
use Rattle.orc_schema_nodes.specs.Schemas.{SchemaTable}
use Rattle.orc_decls.specs.Calls.{blank_item, is_lawful_item, is_path_under}
use Rattle.orc_typed.specs.Typed.{are_canonical_steps, is_in_schema}
use Rattle.orc_script.specs.inside.Places.{carries_own}
use Rattle.orc_lines.proofs.DataPaths.{lawful_blank}

under_of : (l f i c : Bool) → (true && not l && true && f) && (i && c) ≡ not l && ((f && i) && c)
under_of true f i c = refl
under_of false false i c = refl
under_of false true false c = refl
under_of false true true c = refl

under : (p w l f i c : Bool) → p ≡ true → w ≡ true → (p && not l && w && f) && (i && c) ≡ not l && ((f && i) && c)
under true true l f i c h g = under_of l f i c
under false w l f i c h g = absurd (false≢true h)
under true false l f i c h g = absurd (false≢true g)

pub path_parts : (s : SchemaTable) (path : List PathStep) → is_path path ≡ true → is_path_under s path ≡ not (is_long_path path) && carries_own s path
path_parts s path h =
    under (is_path path) (is_lawful_item (blank_item path)) (is_long_path path) (fits path (blank_item path)) (is_in_schema s path (blank_item path))
    (s.plain || are_canonical_steps s [] path) h (lawful_blank (ends_in_keys path))
