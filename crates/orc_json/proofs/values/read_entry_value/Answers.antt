use Rattle.std.proofs.Common.{ℕ, true, List, [], sym, ap, subst, ◌∙◌}
use Rattle.std.specs.Prelude.{IsTrue, ◌&&◌}
use Rattle.std.specs.List.{list_all}
use Rattle.orc_path.specs.Alphabet.{is_key}
use Rattle.orc_path.specs.Items.{fits}
use Rattle.orc_path.specs.Steps.{PathStep}
use Rattle.orc_path.specs.declared.item.Item.TheVariants.{Entry}
use Rattle.orc_json.specs.Findings.{below}
use Rattle.orc_json.proofs.Found.{entry_fits}
use Rattle.orc_typed.proofs.PlainTexts.{canon_of-plain}
use Rattle.orc_json.proofs.values.read_entry_value.Goals as goal

pub path_below-requires-clause-keys : goal.path_below-requires-clause-keys
path_below-requires-clause-keys c =
    let plain = canon_of-plain c.args.kind.now c.in-Ok.text c.in-Ok.text c.in-Ok.ensures.canonical in
    subst (λ (keys : List (List ℕ)). IsTrue (list_all is_key keys)) (sym c.in_ok-one_key-in-Ok.ensures) (ap (λ t. t && true) plain)

pub state-requires : goal.state-requires
state-requires c =
    let at = c.args.at.now in
    let name = c.args.name.now in
    subst (λ (path : List PathStep). IsTrue (fits path Entry)) (sym (c.in_ok-path-in-Ok.ensures ∙ ap (below at name) c.in_ok-one_key-in-Ok.ensures)) (entry_fits at name c.in-Ok.text [])
