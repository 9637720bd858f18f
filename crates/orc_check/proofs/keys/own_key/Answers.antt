use Rattle.std.proofs.Common.{◌≡◌, ℕ, List, [], ◌∷◌, ◌++◌, take, drop, sym, ap, ◌∙◌, arith}
use Rattle.orc_schema_nodes.specs.Schemas.{node_at}
use Rattle.orc_check.specs.Validity.{goes_down}
use Rattle.orc_check.specs.inside.Named.{is_key_leaf, is_list_of}
use Rattle.orc_check.proofs.keys.own_key.Goals as goal

pub returns : goal.returns
returns c =
    let s = c.args.schema.now in
    let target = c.args.target.now in
    let key = c.in-Some.key.now in
    let front = c.in-Some.front.now in
    let list = c.in-Some-split_last.list.now in
    let before = c.in-Some-split_last.before.now in
    let names_are : c.as_slice-names.result.now ≡ target.names = c.as_slice-names.ensures in
    let front_is : front ≡ before ++ list ∷ [] = c.in-Some-split_last.ensures.cases.0 in (
      key,
      record {
        typed = sym c.is_plain.ensures ∙ c.if-is_plain.false;
        names = sym names_are ∙ c.in-Some.ensures.cases.0 ∙ ap (λ (ns : List (List ℕ)). ns ++ key ∷ []) front_is;
        leaf = ap (λ (ns : List (List ℕ)). is_key_leaf (node_at s ns)) (sym names_are) ∙ ap is_key_leaf (sym c.node_of_names.ensures) ∙ sym c.is_key_leaf.ensures ∙ c.if-not-is_key_leaf.false;
        node = ap (λ (ns : List (List ℕ)). is_list_of key (node_at s ns)) (sym front_is) ∙ ap (is_list_of key) (sym c.node_of_names-2.ensures) ∙ sym c.is_list_of.ensures ∙ c.if-not-is_list_of.false;
        shared = omega arith;
        down = ap (λ (ns : List (List ℕ)). goes_down s (take target.shared ns) (drop target.shared ns)) (sym front_is) ∙ sym c.goes_down.ensures ∙ c.if-not-goes_down.false;
      },
    )
