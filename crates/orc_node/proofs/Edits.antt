-- An edit that isn't refused fits.
use Rattle.std.proofs.Common.{◌≡◌, Bool, true, false, not, ◌&&◌, ℕ, List, [], ◌∷◌, refl}
use Rattle.std.specs.Prelude.{IsTrue, Option, Some, None}
use Rattle.std.specs.Cmp.{first_so, second_so}
use Rattle.std.proofs.lemmas.Bool.{and_from}
use Rattle.std.specs.List.{list_all}
use Rattle.orc_call.specs.declared.answer.Tag.{Tag}
use Rattle.orc_call.specs.declared.answer.Tag.TheVariants.{InUse, InvalidValue, NoSession}
use Rattle.orc_check.specs.declared.acceptance.Accept.{Accept}
use Rattle.orc_schema_nodes.specs.Schemas.{SchemaTable}
use Rattle.orc_typed.specs.Typed.{is_typed}
use Rattle.orc_path.specs.Items.{fits}
use Rattle.orc_tree.specs.Changes.{change_fits}
use Rattle.orc_tree.specs.declared.change.Change.{Change}
use Rattle.orc_tree.specs.declared.change.Change.TheVariants.{Put, Remove}
use Rattle.orc_tree.specs.declared.change.ChangeSet.{ChangeSet}
use Rattle.orc_device.specs.declared.op.Op.TheVariants.{Edit}
use Rattle.orc_device.specs.Nodes.{NodeState, refuse, op_refusal, is_live, is_held_by_other}
use Rattle.orc_node.specs.Kinds.{change_stands, set_stands, device_kind}

stands_fits : (s : SchemaTable) (changes : List Change) → list_all (change_stands s) changes ≡ true → list_all change_fits changes ≡ true
stands_fits s [] h = refl
stands_fits s (Put path it ∷ later) h =
    and_from (fits path it) (list_all change_fits later) (second_so (is_typed s path it) (fits path it) (first_so (is_typed s path it && fits path it) (list_all (change_stands s) later) h))
    (stands_fits s later (second_so (is_typed s path it && fits path it) (list_all (change_stands s) later) h))
stands_fits s (Remove path ∷ later) h = stands_fits s later (second_so (change_stands s (Remove path)) (list_all (change_stands s) later) h)

edit_bools : (a b c : Bool) → refuse a NoSession (refuse b InUse (refuse (not c) InvalidValue None)) ≡ None → c ≡ true
edit_bools true b c h = cc
edit_bools false true c h = cc
edit_bools false false true h = refl
edit_bools false false false h = cc

pub edit_fits : (accept : Accept) (node : NodeState) (session : ℕ) (set : ChangeSet) → op_refusal (device_kind accept) node session (Edit set) ≡ None → IsTrue (list_all change_fits set.changes)
edit_fits accept node session set h =
    stands_fits accept.schema set.changes (edit_bools (not (is_live node session)) (is_held_by_other node.candidate_lock session) (set_stands accept.schema set) h)
