use Rattle.std.proofs.Common.{◌≡◌, suc, ◌+◌, ◌<◌, ◌-◌, ◌/◌, length, drop, true, false, sym, ap, subst, ◌∙◌, arith}
use Rattle.std.specs.Arc.{arc_value}
use Rattle.std.specs.List.{flat_map}
use Rattle.std.specs.FinMap.Entries.{below_all}
use Rattle.std.specs.declared.alloc.Global.{Global}
use Rattle.std.specs.declared.sync.Arc.{Arc}
use Rattle.orc_path.specs.Order.{path_cmp}
use Rattle.orc_refs.specs.inside.Shelves.{starts_behind}
use Rattle.orc_refs.proofs.PartLaws.{behind_part, before_part}
use Rattle.orc_refs.proofs.RowLaws.{BackRows}
use Rattle.orc_refs.proofs.part.part_for.Goals as goal

pub loop-low-preserved-then-starts_behind : goal.loop-low-preserved-then-starts_behind
loop-low-preserved-then-starts_behind g c =
    let rows : Arc g.row.P.Denot Global → BackRows = λ part. g.P.Part.rows (arc_value part) in
    let parts = c.args.parts.now in
    let q = c.args.path.now in
    let middle = c.loop-low.low + (c.loop-low.high - c.loop-low.low) / 2 in
    let within : middle < length parts = omega arith in
    let part = c.index-parts-middle.result in
    let behind : starts_behind q (rows part) ≡ true = ap (λ p. starts_behind q (g.P.Part.rows p)) (sym c.deref.ensures) ∙ sym c.starts_behind.ensures ∙ c.if-starts_behind.true in
    record {
      order = omega arith;
      within = omega arith;
      before = c.loop-low.invariant.before;
      behind = behind_part rows q parts middle part c.requires.sorted within c.index-parts-middle.is behind;
    }

pub loop-low-preserved : goal.loop-low-preserved
loop-low-preserved g c =
    let rows : Arc g.row.P.Denot Global → BackRows = λ part. g.P.Part.rows (arc_value part) in
    let parts = c.args.parts.now in
    let q = c.args.path.now in
    let middle = c.loop-low.low + (c.loop-low.high - c.loop-low.low) / 2 in
    let within : middle < length parts = omega arith in
    let part = c.index-parts-middle.result in
    let behind : starts_behind q (rows part) ≡ false = ap (λ p. starts_behind q (g.P.Part.rows p)) (sym c.deref.ensures) ∙ sym c.starts_behind.ensures ∙ c.if-starts_behind.false in
    record {
      order = omega arith;
      within = c.loop-low.invariant.within;
      before = before_part rows q parts middle part c.requires.sorted c.requires.full within c.index-parts-middle.is behind;
      behind = c.loop-low.invariant.behind;
    }

pub returns : goal.returns
returns g c =
    let low = c.loop-low.low in
    let last : c.loop-low.high ≡ suc low = omega arith in
    record {
      within = omega arith;
      before = c.loop-low.invariant.before;
      behind = subst (λ n. below_all path_cmp c.args.path.now (flat_map (λ part. g.P.Part.rows (arc_value part)) (drop n c.args.parts.now)) ≡ true) last c.loop-low.invariant.behind;
    }
