-- What makes the path of a list.
use Rattle.std.proofs.Common.{◌≡◌, ◌-◌, Bool, true, false, not, ◌&&◌, ◌||◌, List, [], length, take, refl, ap, ◌∙◌}
use Rattle.std.specs.Prelude.{nat_lt}
use Rattle.orc_path.specs.Limits.{is_long_path}
use Rattle.orc_path.specs.Steps.{PathStep, ends_in_keys, is_path}
use Rattle.orc_schema_nodes.specs.Schemas.{SchemaTable, node_at, path_names}
use Rattle.orc_decls.specs.Calls.{has_entries, is_list_path}
use Rattle.orc_typed.specs.Typed.{are_canonical_steps, stand}
use Rattle.orc_lines.specs.Items.{names_list}

parts : (l e k p s c h : Bool) → (true && not l && e && not k && (p || (s && (c && h)))) ≡ (not l && ((e && not k && (p || (s && h))) && (p || c)))
parts true e k p s c h = refl
parts false false k p s c h = refl
parts false true true p s c h = refl
parts false true false true s c h = refl
parts false true false false false c h = refl
parts false true false false true true true = refl
parts false true false false true true false = refl
parts false true false false true false true = refl
parts false true false false true false false = refl

pub list_path_parts : (s : SchemaTable) (path : List PathStep) → is_path path ≡ true
    → is_list_path s path ≡ (not (is_long_path path) && (names_list s path && (s.plain || are_canonical_steps s [] path)))
list_path_parts s path h =
    let stands = stand s [] (take (length path - 1) path) in
    let entries = has_entries (node_at s (path_names path)) in
    ap (λ (t : Bool). t && not (is_long_path path) && nat_lt 0 (length path) && not (ends_in_keys path)
    && (s.plain || (stands && (are_canonical_steps s [] path && entries)))) h
    ∙ parts (is_long_path path) (nat_lt 0 (length path)) (ends_in_keys path) s.plain stands (are_canonical_steps s [] path) entries
