use Rattle.std.proofs.Common.{◌≡◌, ◌+◌, ◌<◌, ◌-◌, ◌/◌, List, length, sym, subst, arith}
use Rattle.std.specs.List.{AllWithin}
use Rattle.std.specs.declared.cmp.Ordering.TheVariants.{Less}
use Rattle.orc_path.specs.Steps.{PathStep}
use Rattle.orc_path.specs.Order.{path_cmp}
use Rattle.orc_path.specs.declared.item.Item.{Item}
use Rattle.orc_refs.specs.Moves.{rows_in}
use Rattle.orc_refs.proofs.Halves.{before_here, behind_here, found_here, none_here}
use Rattle.orc_refs.proofs.settle.put_at.Goals as goal

pub loop-low-preserved-in-Less : goal.loop-low-preserved-in-Less
loop-low-preserved-in-Less c =
    let puts = c.args.puts.now in
    let middle = c.loop-low.low + (c.loop-low.high - c.loop-low.low) / 2 in
    let within : middle < length puts = omega arith in
    record {
      order = omega arith;
      within = omega arith;
      before = c.loop-low.invariant.before;
      behind = behind_here puts c.args.path.now middle c.index-puts-middle.result c.requires.sorted within c.index-puts-middle.is (sym c.in-Less.ensures.value);
    }

pub loop-low-preserved : goal.loop-low-preserved
loop-low-preserved c =
    let puts = c.args.puts.now in
    let middle = c.loop-low.low + (c.loop-low.high - c.loop-low.low) / 2 in
    let within : middle < length puts = omega arith in
    record {
      order = omega arith;
      within = omega arith;
      before = before_here puts c.args.path.now middle c.index-puts-middle.result c.requires.sorted within c.index-puts-middle.is (sym c.in-Greater.ensures.value);
      behind = c.loop-low.invariant.behind;
    }

pub returns-in-Equal : goal.returns-in-Equal
returns-in-Equal c =
    let puts = c.args.puts.now in
    let middle = c.loop-low.low + (c.loop-low.high - c.loop-low.low) / 2 in
    let within : middle < length puts = omega arith in
    found_here puts c.args.path.now middle c.index-puts-middle.result c.requires.sorted within c.index-puts-middle.is (sym c.in-Equal.ensures.value)

pub returns : goal.returns
returns c =
    let last : c.loop-low.high ≡ c.loop-low.low = omega arith in
    none_here c.args.puts.now c.args.path.now c.loop-low.low c.loop-low.invariant.before
    (subst (λ n. AllWithin (λ (row : List PathStep × Item). path_cmp c.args.path.now row.0 ≡ Less) (rows_in c.args.puts.now) n (length c.args.puts.now)) last c.loop-low.invariant.behind)
