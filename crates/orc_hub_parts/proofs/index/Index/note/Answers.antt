use Rattle.std.proofs.Common.{sym, subst, ◌∙◌, List, refl}
use Rattle.std.proofs.lemmas.Result.{on_err_weaker, on_ok_weaker}
use Rattle.orc_hub_parts.proofs.Indexing.{kept_at, noted_at, row_length, whole}
use Rattle.orc_hub_parts.specs.declared.index.Calls.{Calls}
use Rattle.orc_hub_parts.specs.inside.Indexed.{ChangesRow, FindsSame, KeepsCalls, NotesCall, NotesPlace}
use Rattle.orc_hub_parts.proofs.index.Index.note.Goals as goal

pub returns-in-Some-clause-ok : goal.returns-in-Some-clause-ok
returns-in-Some-clause-ok c = on_ok_weaker c.note_at.result
    (λ changes.
    let old = c.args.self.now in
    let rows = c.note_at.new.rows in
    let notes : ChangesRow old.rows rows c.in-Some.k (NotesCall c.args.number c.args.place) =
    subst (λ (items : List Calls). ChangesRow items rows c.in-Some.k (NotesCall c.args.number c.args.place)) c.as_mut_slice.ensures.value changes in
    subst (λ (items : List Calls). NotesPlace old (record { callers = old.callers; rows = items }) c.args.caller.now c.args.number c.args.place)
    (sym (whole old.rows rows (row_length old.rows rows c.in-Some.k (NotesCall c.args.number c.args.place) notes)))
    (noted_at old (record { callers = old.callers; rows = rows }) c.args.caller.now c.in-Some.k c.args.number c.args.place (sym c.place.ensures.place ∙ c.in-Some.is) refl notes))
    c.note_at.ensures.ok

pub returns-in-Some-clause-err : goal.returns-in-Some-clause-err
returns-in-Some-clause-err c = on_err_weaker c.note_at.result
    (λ changes.
    let old = c.args.self.now in
    let rows = c.note_at.new.rows in
    let keeps : ChangesRow old.rows rows c.in-Some.k KeepsCalls =
    subst (λ (items : List Calls). ChangesRow items rows c.in-Some.k KeepsCalls) c.as_mut_slice.ensures.value changes in
    subst (λ (items : List Calls). FindsSame old (record { callers = old.callers; rows = items }))
    (sym (whole old.rows rows (row_length old.rows rows c.in-Some.k KeepsCalls keeps)))
    (kept_at old (record { callers = old.callers; rows = rows }) c.args.caller.now c.in-Some.k (sym c.place.ensures.place ∙ c.in-Some.is) refl keeps))
    c.note_at.ensures.err
