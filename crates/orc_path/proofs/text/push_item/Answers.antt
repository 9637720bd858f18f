use Rattle.std.proofs.Common.{◌≡◌, ◌++◌, codes, sym, ap, subst, ◌∙◌, append_assoc, rules}
use Rattle.std.specs.Prelude.{OnErr}
use Rattle.std.specs.String.{string_bytes}
use Rattle.std.proofs.lemmas.Result.{on_err_weaker}
use Rattle.orc_path.specs.Items.{item_text}
use Rattle.orc_path.specs.Texts.{path_text, value_text, AddsFront}
use Rattle.orc_path.specs.declared.item.Item.{Item}
use Rattle.orc_path.specs.declared.item.Item.TheVariants.{Leaf}
use Rattle.orc_path.proofs.Fronts.{front_behind}
use Rattle.orc_path.proofs.text.push_item.Goals as goal

-- the path was written, and then a prefix of what stands after it
pub returns-in-Leaf-clause-err : goal.returns-in-Leaf-clause-err
returns-in-Leaf-clause-err c =
    let before = string_bytes c.args.out.now in
    let now = string_bytes c.push_leaf.new.out in
    let value = c.as_str-in-Leaf.result.now in
    let path = path_text c.args.path.now in
    let between : string_bytes c.push_str.new.self ≡ before ++ path = search rules in
    subst (λ (item : Item). OnErr c.push_leaf.result (AddsFront (item_text c.args.path.now item) before now)) (sym (c.in-Leaf.is ∙ ap Leaf (sym c.as_str-in-Leaf.ensures)))
    (on_err_weaker c.push_leaf.result
    (λ front. subst (λ due. AddsFront due before now) (sym (append_assoc path (codes " = ") (value_text value)))
    (front_behind path (codes " = " ++ value_text value) before (string_bytes c.push_str.new.self) now between front))
    c.push_leaf.ensures.err)
