use Rattle.std.proofs.Common.{sym, ap, subst, ◌∙◌, List, length, refl}
use Rattle.orc_hub_parts.proofs.Indexing.{opened_there, row_length, whole}
use Rattle.orc_hub_parts.specs.declared.index.Calls.{Calls}
use Rattle.orc_hub_parts.specs.inside.Indexed.{ChangesRow, NotesOpen, OpensCall}
use Rattle.orc_hub_parts.proofs.index.Index.set_open.Goals as goal

pub returns-clause-opens : goal.returns-clause-opens
returns-clause-opens c =
    let old = c.args.self.now in
    let opens : ChangesRow old.rows c.open_at.new.rows c.in-Some.k (OpensCall c.args.place) =
    subst (λ (rows : List Calls). ChangesRow rows c.open_at.new.rows c.in-Some.k (OpensCall c.args.place)) c.as_mut_slice.ensures.value c.open_at.ensures in
    subst (λ (rows : List Calls). NotesOpen old (record { callers = old.callers; rows = rows }) c.args.caller.now c.args.place)
    (sym (whole old.rows c.open_at.new.rows (row_length old.rows c.open_at.new.rows c.in-Some.k (OpensCall c.args.place) opens)))
    (opened_there old (record { callers = old.callers; rows = c.open_at.new.rows }) c.args.caller.now c.in-Some.k c.args.place
    (sym c.place.ensures.place ∙ c.in-Some.is) refl opens)
