use Rattle.std.proofs.Common.{ap, sym, ◌∙◌, arith, length, rules}
use Rattle.std.proofs.lemmas.List.{take_rest, length-drop}
use Rattle.orc_disk.specs.declared.history.Change.TheVariants.{Write}
use Rattle.orc_disk.proofs.KeptLemmas.{changes_of-take, written_count-fits, written_count-more, file_after-content, Leaves-image, settled-synced}
use Rattle.orc_disk.proofs.tear.replayed.Goals as goal

pub step-requires : goal.step-requires
step-requires c =
    let fits = written_count-fits _ _ (Write 0 0) c.args.store.now c.loop-change.from c.loop-change-test.true c.loop-change.invariant.from c.requires in
    omega (arith, fits, ap length (take_rest c.args.store.now c.loop-change.from), length-drop c.loop-change.from c.args.store.now)

pub overflow_add-from : goal.overflow_add-from
overflow_add-from c =
    let fits = written_count-fits _ _ (Write 0 0) c.args.store.now c.loop-change.from c.loop-change-test.true c.loop-change.invariant.from c.requires in
    search (rules, fits, c.count-from.ensures)

pub loop-change-preserved : goal.loop-change-preserved
loop-change-preserved c =
    let inv = c.loop-change.invariant in
    let more = changes_of-take _ _ (Write 0 0) c.args.store.now c.loop-change.from c.loop-change-test.true inv.from in
    let whole = file_after-content _ _ _ _ _ _ inv.whole more c.in_ok-step.ensures.whole in
    record {
      whole = whole;
      torn = Leaves-image _ _ _ _ _ _ _ inv.whole inv.torn more c.in_ok-step.ensures.torn;
      none = λ is. settled-synced _ _ _ _ _ _ _ inv.whole (inv.none is) more (c.in_ok-step.ensures.none is);
      all = λ is. c.in_ok-step.ensures.all is (inv.all is ∙ sym inv.whole) ∙ whole;
      within = omega (arith, written_count-fits _ _ (Write 0 0) c.args.store.now c.loop-change.from c.loop-change-test.true inv.from c.requires, c.count-from.ensures);
      from = omega (arith, inv.from, c.count-from.ensures, written_count-more c.args.changes.now c.loop-change.change-index (Write 0 0) c.loop-change-test.true);
    }
