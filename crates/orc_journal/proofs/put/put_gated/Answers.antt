-- The first write leaves the entries as they are, and the second may open the gate.
use Rattle.std.specs.Prelude.{◌≡◌, ℕ, ◌-◌, false, [], ◌∷◌, length}
use Rattle.std.proofs.Common.{arith, sym, subst, ⊎_elim}
use Rattle.std.proofs.lemmas.Option.{IfSome_then}
use Rattle.std.proofs.lemmas.Result.{on_ok_weaker, on_err_weaker}
use Rattle.orc_journal.specs.Appends.{IsBeforeOrAfter, FailsToSync}
use Rattle.orc_journal.specs.inside.Blocks.{IsTornFrom, IsPutShort, IsAppendedShort}
use Rattle.orc_disk.specs.Rows.{row}
use Rattle.orc_disk.proofs.Courses.{FailsAmong-later, FailsAmong-weaker}
use Rattle.orc_disk.proofs.Moments.{joined, weaker}
use Rattle.orc_journal.proofs.LeftBehind.{left_by_first, appended_short}
use Rattle.orc_journal.proofs.Outcomes.{on_err_anyway}
use Rattle.orc_journal.proofs.Puts.{with_entry-done, first_torn, first_written, second_torn, second_written}
use Rattle.orc_journal.proofs.put.put_gated.Goals as goal

pub returns-in_err-put_synced-clause-any_moment : goal.returns-in_err-put_synced-clause-any_moment
returns-in_err-put_synced-clause-any_moment g c decls entries entry puts =
    let disk = g.D.Disk.disk in
    let old = c.args.disk.now in
    weaker disk old c.put_synced.new.disk (IsTornFrom (disk.may_leave old) c.args.at (length c.args.block.now)) (IsBeforeOrAfter decls entries entry)
    (first_torn decls entries entry c.args.at c.args.block.now (disk.content old) puts (disk.may_leave old) c.requires.durable) c.put_synced.ensures.any_moment

pub returns-in_err-put_synced-clause-left : goal.returns-in_err-put_synced-clause-left
returns-in_err-put_synced-clause-left g c decls entries entry puts =
    IfSome_then (g.D.Disk.disk.content c.put_synced.new.disk) c.put_synced.ensures.left
    (first_torn decls entries entry c.args.at c.args.block.now (g.D.Disk.disk.content c.args.disk.now) puts (g.D.Disk.disk.may_leave c.args.disk.now) c.requires.durable)

pub returns-clause-done : goal.returns-clause-done
returns-clause-done g c decls entries entry puts =
    let content = g.D.Disk.disk.content in
    let mid = content c.put_synced.new.disk in
    let staged = first_written decls entries entry c.args.at c.args.block.now (content c.args.disk.now) puts mid c.in_ok-put_synced.ensures.done in
    on_ok_weaker c.put_synced-2.result
    (second_written decls entries entry c.args.at c.args.block.now (content c.args.disk.now) puts mid (content c.put_synced-2.new.disk) staged)
    c.put_synced-2.ensures.done

pub returns-clause-becomes : goal.returns-clause-becomes
returns-clause-becomes g c entry is =
    let content = g.D.Disk.disk.content in
    on_ok_weaker c.put_synced-2.result
    (with_entry-done (content c.args.disk.now) (content c.put_synced.new.disk) (content c.put_synced-2.new.disk) c.args.at c.args.block.now entry is c.in_ok-put_synced.ensures.done)
    c.put_synced-2.ensures.done

pub returns-clause-any_moment : goal.returns-clause-any_moment
returns-clause-any_moment g c decls entries entry puts =
    let disk = g.D.Disk.disk in
    let old = c.args.disk.now in
    let mid = c.put_synced.new.disk in
    let new = c.put_synced-2.new.disk in
    let Q = IsBeforeOrAfter decls entries entry in
    let staged = first_written decls entries entry c.args.at c.args.block.now (disk.content old) puts (disk.content mid) c.in_ok-put_synced.ensures.done in
    let first = weaker disk old mid (IsTornFrom (disk.may_leave old) c.args.at (length c.args.block.now)) Q
    (first_torn decls entries entry c.args.at c.args.block.now (disk.content old) puts (disk.may_leave old) c.requires.durable) c.in_ok-put_synced.ensures.any_moment in
    let second = weaker disk mid new (IsTornFrom (disk.may_leave mid) (c.args.at - 1) 1) Q
    (second_torn decls entries entry c.args.at c.args.block.now (disk.content old) puts (disk.content mid) (disk.may_leave mid) c.in_ok-put_synced.ensures.durable staged) c.put_synced-2.ensures.any_moment in
    joined disk old mid new Q first second

pub returns-clause-left : goal.returns-clause-left
returns-clause-left g c decls entries entry puts =
    let content = g.D.Disk.disk.content in
    let mid = content c.put_synced.new.disk in
    let staged = first_written decls entries entry c.args.at c.args.block.now (content c.args.disk.now) puts mid c.in_ok-put_synced.ensures.done in
    IfSome_then (content c.put_synced-2.new.disk) c.put_synced-2.ensures.left
    (second_torn decls entries entry c.args.at c.args.block.now (content c.args.disk.now) puts mid (g.D.Disk.disk.may_leave c.put_synced.new.disk) c.in_ok-put_synced.ensures.durable staged)

pub returns-clause-course : goal.returns-clause-course
returns-clause-course g c =
    on_ok_weaker c.put_synced-2.result
    (λ led. g.met.D.Disk.goes_on (row 2 false) (row 2 false) c.args.disk.now c.put_synced.new.disk c.put_synced-2.new.disk c.in_ok-put_synced.ensures.course led)
    c.put_synced-2.ensures.course

pub returns-in_err-put_synced-clause-failed : goal.returns-in_err-put_synced-clause-failed
returns-in_err-put_synced-clause-failed g c =
    let disk = g.D.Disk.disk in
    let at = c.args.at in
    let block = c.args.block.now in
    let old = c.args.disk.now in
    let new = c.put_synced.new.disk in
    on_err_anyway c.from_residual.result
    (FailsAmong-weaker disk 2 4 old new (IsPutShort disk at block old new) (IsAppendedShort disk at block old new) (omega arith)
    (λ done fewer short. record {
      left = λ decls entries entry puts. IfSome_then (disk.content new) c.put_synced.ensures.left
          (left_by_first decls entries entry done at block (disk.content old) (disk.may_leave old) c.requires.durable puts fewer);
      cut = short.cut;
      put = short.put;
      syncing = λ which.
          let one : done ≡ 1 = ⊎_elim (λ one. one) (λ three. absurd (omega (arith, three, fewer))) which in
          subst (λ (n : ℕ). FailsToSync disk n old new) (sym one) (short.syncing one);
      opening = λ third. absurd (omega (arith, third, fewer));
      opened = λ three. absurd (omega (arith, three, fewer));
    })
    c.in_err-put_synced.ensures.failed)

pub returns-clause-failed : goal.returns-clause-failed
returns-clause-failed g c =
    let disk = g.D.Disk.disk in
    let at = c.args.at in
    let block = c.args.block.now in
    let old = c.args.disk.now in
    let mid = c.put_synced.new.disk in
    let new = c.put_synced-2.new.disk in
    on_err_weaker c.put_synced-2.result
    (FailsAmong-later disk g.met.D.Disk.goes_on 2 2 old mid new (IsPutShort disk (at - 1) (1 ∷ []) mid new) (IsAppendedShort disk at block old new)
    c.in_ok-put_synced.ensures.course
    (λ done fewer short. appended_short disk g.met.D.Disk.goes_on at block old mid new done c.in_ok-put_synced.ensures.course c.in_ok-put_synced.ensures.done fewer short))
    c.put_synced-2.ensures.failed
