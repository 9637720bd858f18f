use Rattle.std.proofs.Common.{◌≡◌, ℕ, ◌+◌, ◌-◌, ◌<◌, length, take, ap, subst, ◌∙◌, sym, arith}
use Rattle.std.specs.Option.{is_some}
use Rattle.std.specs.FinMap.{find}
use Rattle.std.proofs.lemmas.Bool.{and_parts}
use Rattle.orc_path.specs.Order.{path_cmp}
use Rattle.orc_path.specs.Configurations.{has_keys_at, enter_all, ways_up_to}
use Rattle.orc_tree.specs.Pages.{chapters_rows}
use Rattle.orc_tree.proofs.Maps.{map_of, get-of_rows}
use Rattle.orc_tree.proofs.Entering.{present_ways}
use Rattle.orc_tree.proofs.ways.present_steps.Goals as goal

pub returns-then-is_present-clause-entered : goal.returns-then-is_present-clause-entered
returns-then-is_present-clause-entered c =
    let p = c.args.steps.now in
    let at = c.loop-at.at in
    let rows = chapters_rows c.args.chapters.now in
    let within : at - 1 < length p = omega (arith, c.loop-at.invariant.within, c.loop-at-test.true) in
    let back : at - 1 + 1 ≡ at = omega (arith, c.loop-at-test.true) in
    let tests = and_parts (has_keys_at p (at - 1)) (is_some (find path_cmp (take (at - 1 + 1) p) rows)) (sym c.is_present.ensures ∙ c.if-is_present.true) in
    subst (λ (n : ℕ). enter_all (ways_up_to n p) (map_of rows) ≡ map_of rows) back
    (present_ways p (at - 1) (map_of rows) within c.requires.config tests.0 (ap is_some (get-of_rows rows (take (at - 1 + 1) p) c.requires.sorted) ∙ tests.1))
