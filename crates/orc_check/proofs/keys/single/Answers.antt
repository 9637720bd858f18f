use Rattle.std.proofs.Common.{◌≡◌, ℕ, List, [], ◌∷◌, ◌++◌, take, drop, sym, ap, ◌∙◌, arith}
use Rattle.orc_check.specs.Validity.{goes_down}
use Rattle.orc_check.specs.inside.Named.{has_key_named}
use Rattle.orc_check.proofs.keys.single.Goals as goal

pub returns : goal.returns
returns c =
    let s = c.args.schema.now in
    let target = c.args.target.now in
    let last = c.in-Some.list.now in
    let before = c.in-Some.before.now in
    let names_are : c.as_slice-names.result.now ≡ target.names = c.as_slice-names.ensures in
    let cut : target.names ≡ before ++ last ∷ [] = sym names_are ∙ c.in-Some.ensures.cases.0 in
    record {
      typed = sym c.is_plain.ensures ∙ c.if-is_plain.false;
      names = cut;
      own = ap (has_key_named last) (sym c.node_of_names.ensures) ∙ sym c.has_key_named.ensures ∙ c.if-has_key_named.false;
      shared = omega arith;
      down = ap (λ (ns : List (List ℕ)). goes_down s (take target.shared ns) (drop target.shared ns)) (sym c.in-Some.ensures.cases.0) ∙ sym c.goes_down.ensures ∙ c.if-not-goes_down.false;
    }
