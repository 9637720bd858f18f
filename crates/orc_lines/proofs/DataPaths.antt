-- What makes a path of the data.
use Rattle.std.proofs.Common.{◌≡◌, Bool, true, false, not, ◌&&◌, ◌||◌, cond, List, [], refl, ap}
use Rattle.std.proofs.lemmas.Bool.{false≢true}
use Rattle.orc_text.proofs.Plain.{is_plain_text-nil}
use Rattle.orc_path.specs.Items.{fits}
use Rattle.orc_path.specs.Limits.{is_long_path}
use Rattle.orc_path.specs.Steps.{PathStep, ends_in_keys, is_path}
use Rattle.orc_path.specs.declared.item.Item.TheVariants.{Entry, Leaf}
use Rattle.orc_schema_nodes.specs.Schemas.{SchemaTable}
use Rattle.orc_decls.specs.Calls.{blank_item, is_data_path, is_kept, is_lawful_item}
use Rattle.orc_typed.specs.Typed.{are_canonical_steps, is_in_schema}
use Rattle.orc_lines.specs.inside.Places.{keeps_place}

pub lawful_blank : (t : Bool) → is_lawful_item (cond t Entry (Leaf [])) ≡ true
lawful_blank true = refl
lawful_blank false = ap (λ (b : Bool). b && true) is_plain_text-nil

parts_of : (l f i c k : Bool) → ((true && not l && true && f) && (i && c)) && not k ≡ not l && ((f && i) && (c && not k))
parts_of true f i c k = refl
parts_of false false i c k = refl
parts_of false true false c k = refl
parts_of false true true false k = refl
parts_of false true true true k = refl

parts : (p w l f i c k : Bool) → p ≡ true → w ≡ true
    → ((p && not l && w && f) && (i && c)) && not k ≡ not l && ((f && i) && (c && not k))
parts true true l f i c k h g = parts_of l f i c k
parts false w l f i c k h g = absurd (false≢true h)
parts true false l f i c k h g = absurd (false≢true g)

pub data_path_parts : (s : SchemaTable) (path : List PathStep) → is_path path ≡ true → is_data_path s path ≡ not (is_long_path path) && keeps_place s path
data_path_parts s path h =
    parts (is_path path) (is_lawful_item (blank_item path)) (is_long_path path) (fits path (blank_item path)) (is_in_schema s path (blank_item path))
    (s.plain || are_canonical_steps s [] path) (is_kept path) h (lawful_blank (ends_in_keys path))
