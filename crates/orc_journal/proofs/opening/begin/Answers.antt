-- On an empty disk any bytes may come.
use Rattle.std.specs.Prelude.{[]}
use Rattle.std.proofs.Common.{inl, inr, refl, rules, ◌∙◌}
use Rattle.std.proofs.lemmas.Result.{err_from_is_err_and}
use Rattle.orc_journal.proofs.Endings.{begun, opened_gated}
use Rattle.orc_journal.proofs.Leaving.{LeavesOpening-refl, LeavesOpening-empty}
use Rattle.orc_journal.proofs.Operations.{fails_among}
use Rattle.orc_journal.proofs.opening.begin.Goals as goal

pub returns-then-len-limit-clause-leaves : goal.returns-then-len-limit-clause-leaves
returns-then-len-limit-clause-leaves g c = LeavesOpening-refl g.D.Disk.disk g.met.D.Disk.only_now c.args.decls.now c.args.disk.now

pub returns-in_err-block-clause-leaves : goal.returns-in_err-block-clause-leaves
returns-in_err-block-clause-leaves g c = LeavesOpening-refl g.D.Disk.disk g.met.D.Disk.only_now c.args.decls.now c.args.disk.now

pub returns-in_err-put_synced-clause-leaves : goal.returns-in_err-put_synced-clause-leaves
returns-in_err-put_synced-clause-leaves g c =
    LeavesOpening-empty g.D.Disk.disk c.args.decls.now c.args.disk.now c.put_synced.new.disk 0 _ c.requires.empty
    c.put_synced.ensures.still_tells c.put_synced.ensures.any_moment c.put_synced.ensures.left

pub returns-in_err-put_synced-clause-failed : goal.returns-in_err-put_synced-clause-failed
returns-in_err-put_synced-clause-failed g c =
    let p = err_from_is_err_and c.from_residual-in_err-put_synced.result c.from_residual-in_err-put_synced.ensures.1 in
    rw (p.1, p.2) (λ is. fails_among g.D.Disk.disk 2 c.args.disk.now c.put_synced.new.disk _ c.in_err-put_synced.ensures.failed)

pub returns-clause-stored : goal.returns-clause-stored
returns-clause-stored g c =
    let content = g.D.Disk.disk.content in
    let opens = begun (content c.args.disk.now) (content c.put_synced.new.disk) _ c.args.decls.now c.new.result.items c.requires.empty (search rules)
    (c.deref.ensures.value ∙ c.in_ok-block.ensures) c.in_ok-put_synced.ensures.done in
    record {
      gated = opened_gated (content c.put_synced.new.disk) c.args.decls.now [] c.new.result.items (search rules) opens;
      becomes = opens;
      durable = c.in_ok-put_synced.ensures.durable;
      counted = search rules;
      puts = 2;
      put_by = inr (inl refl, refl);
      course = c.in_ok-put_synced.ensures.course;
    }

pub returns-clause-leaves : goal.returns-clause-leaves
returns-clause-leaves g c =
    LeavesOpening-empty g.D.Disk.disk c.args.decls.now c.args.disk.now c.put_synced.new.disk 0 _ c.requires.empty
    c.put_synced.ensures.still_tells c.put_synced.ensures.any_moment c.put_synced.ensures.left
