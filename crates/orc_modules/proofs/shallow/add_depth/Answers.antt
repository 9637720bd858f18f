use Rattle.std.proofs.Common.{◌≡◌, ◌+◌, sym, ◌∙◌, ap, arith, Bool, true, List, ℕ, cond}
use Rattle.std.specs.Prelude.{Some, codes}
use Rattle.std.specs.List.{find, list_all}
use Rattle.orc_value.specs.Canon.{same_text}
use Rattle.orc_types.specs.Statements.{subs}
use Rattle.orc_modules.specs.Children.{block_part}
use Rattle.orc_modules.specs.Statements.{defines, sub_text}
use Rattle.orc_modules.specs.inside.Blocks.{by_name}
use Rattle.orc_modules.specs.inside.Shallow.{depth_by, AreShallow, is_shallow_part}
use Rattle.orc_modules.proofs.Shallows.{known-more, on_ok}
use Rattle.orc_modules.proofs.shallow.add_depth.Goals as goal

pub returns-then-are_shallow : goal.returns-then-are_shallow
returns-then-are_shallow c =
    let g = c.args.grouping.now in
    let old = depth_by c.args.depths.now in
    let new = depth_by c.put_depth.new.depths in
    let own = by_name c.in_ok-own.own in
    let n = c.deepest-depth.result in
    let own_prefix : List ℕ → Bool = λ p. list_all (λ t. is_shallow_part p own old n t (block_part t)) (subs g) in
    let all : own_prefix (sub_text (codes "prefix") c.args.here.now) ≡ true =
    ap own_prefix (sym c.requires.prefix) ∙ ap (list_all (λ t. is_shallow_part c.args.prefix.now own old n t (block_part t))) (sym c.as_slice-block.ensures) ∙ sym c.are_shallow.ensures ∙ c.if-are_shallow.true in
    on_ok ((q : List ℕ) → new q ≡ cond (same_text c.args.name.now q) (Some (n + 1)) (old q)) (AreShallow c.args.here.now new)
    (λ puts. known-more c.args.here.now g old new own c.args.name.now n (n + 1) c.requires.known c.requires.named
    (λ q. c.in_ok-own.ensures q ∙ ap (find (defines (codes "grouping") q)) c.as_slice-block.ensures) all (omega arith) puts)
    c.put_depth.result c.put_depth.ensures
