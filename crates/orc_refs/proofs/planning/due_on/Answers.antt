use Rattle.std.proofs.Common.{◌≡◌, true, length, refl, ap, subst, ◌∙◌, arith}
use Rattle.std.specs.FinMap.{from_sorted}
use Rattle.orc_refs.specs.inside.Plans.{HasCause, all_agree, changes_due, rows_due}
use Rattle.orc_refs.proofs.ExactLaws.{Paths}
use Rattle.orc_refs.specs.inside.Marks.{paths_in}
use Rattle.orc_refs.proofs.MarkLaws.{length-paths, some-paths, sorted-paths}
use Rattle.orc_refs.proofs.SettledLaws.{length-rows_due}
use Rattle.orc_refs.proofs.PlannedLaws.{due_is_planned, cause_is, touched_by}
use Rattle.orc_refs.proofs.planning.due_on.Goals as goal

pub returns-in-Ok-clause-planned : goal.returns-in-Ok-clause-planned
returns-in-Ok-clause-planned g c =
    let base = c.args.base.now in
    let tree = c.args.tree.now in
    let edited = c.args.edited.now in
    let backs = c.args.backs.now in
    let ms = c.args.moves.now in
    let rows = c.in_ok-paths.paths.items in
    let es = paths_in rows in
    let is : paths_in c.as_slice.result.now ≡ es = ap paths_in c.as_slice.ensures.value in
    record {
      rows = rows_due (from_sorted backs) ms es;
      planned = due_is_planned base tree edited backs ms es c.in-Ok.due.set.changes (rows_due (from_sorted backs) ms es) c.requires.kept c.requires.config c.requires.start c.requires.distinct c.requires.whole
          (sorted-paths rows ∙ c.in_ok-paths.ensures.sorted) (touched_by base edited c.args.changes.now ms es c.requires.changes (λ p. some-paths p rows ∙ c.in_ok-paths.ensures.paths p))
          (subst (λ (l : Paths). all_agree (from_sorted backs) tree edited ms l ≡ true) is c.in-Ok.ensures.agree)
          (c.in-Ok.ensures.changes ∙ ap (λ (l : Paths). changes_due (from_sorted backs) tree edited ms l) is)
          refl;
      made_are = λ w. c.in-Ok.ensures.rows w ∙ ap (λ (l : Paths). rows_due (from_sorted backs) ms l) is;
    }

pub returns-in-Ok-clause-len : goal.returns-in-Ok-clause-len
returns-in-Ok-clause-len g c = λ w.
    let is : length c.in-Ok.due.rows ≡ length c.in_ok-paths.paths.items =
    ap length (c.in-Ok.ensures.rows w) ∙ length-rows_due (from_sorted c.args.backs.now) c.args.moves.now (paths_in c.as_slice.result.now) ∙ length-paths c.as_slice.result.now ∙ ap length c.as_slice.ensures.value in
    omega (arith, is, c.in_ok-paths.ensures.len, ap length c.requires.changes)

pub returns-clause-clash : goal.returns-clause-clash
returns-clause-clash g c =
    cause_is c.args.base.now c.args.tree.now c.args.edited.now c.args.backs.now c.args.moves.now (paths_in c.in_ok-paths.paths.items) c.in-Err.fault c.requires.kept c.requires.distinct
    (touched_by c.args.base.now c.args.edited.now c.args.changes.now c.args.moves.now (paths_in c.in_ok-paths.paths.items) c.requires.changes (λ p. some-paths p c.in_ok-paths.paths.items ∙ c.in_ok-paths.ensures.paths p))
    (subst (λ (l : Paths). HasCause (from_sorted c.args.backs.now) c.args.tree.now c.args.edited.now c.args.moves.now l c.in-Err.fault) (ap paths_in c.as_slice.ensures.value) c.in-Err.ensures.clash)

pub returns-in-Ok-clause-steps : goal.returns-in-Ok-clause-steps
returns-in-Ok-clause-steps g c = omega (arith, c.due_at.ensures.steps, c.as_slice.ensures.len, c.in_ok-paths.ensures.len, ap length c.requires.changes)

pub returns-clause-steps : goal.returns-clause-steps
returns-clause-steps g c = omega (arith, c.due_at.ensures.steps, c.as_slice.ensures.len, c.in_ok-paths.ensures.len, ap length c.requires.changes)
