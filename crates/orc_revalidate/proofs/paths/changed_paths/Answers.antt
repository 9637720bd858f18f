use Rattle.std.proofs.Common.{◌≡◌, ◌≤◌, length, ap, ◌∙◌, rules, arith}
use Rattle.std.proofs.lemmas.List.{take_all}
use Rattle.orc_revalidate.specs.inside.Changed.{changed_paths}
use Rattle.orc_revalidate.proofs.Differing.{paths_are}
use Rattle.orc_revalidate.proofs.paths.changed_paths.Goals as goal

pub returns : goal.returns
returns c =
    let past : length c.args.targets.now ≤ c.loop-target.target-index = search rules in
    paths_are c.args.old.now c.args.new.now c.args.targets.now c.loop-target.paths c.requires.changed
    (c.loop-target.invariant ∙ ap (changed_paths c.args.old.now c.args.new.now) (take_all c.loop-target.target-index c.args.targets.now past))
