use Rattle.std.proofs.Common.{ℕ, sym, subst, refl}
use Rattle.orc_hub_parts.specs.Numbered.{NotesNumber}
use Rattle.orc_hub_parts.proofs.Pasts.{past_same, past_more, past_ends, decides}
use Rattle.orc_hub_parts.proofs.past.Past.take.Goals as goal

pub returns-in-Some-clause-taken : goal.returns-in-Some-clause-taken
returns-in-Some-clause-taken c = λ ok.
    past_more c.args.decls.now c.args.self.now (record { numbers = c.note.new.self; unsettled = c.note-2.new.unsettled; state = c.commit.new.state }) c.args.before.now c.args.entry.now
    c.requires.past (subst (λ (t : ℕ). NotesNumber c.args.self.now.numbers c.note.new.self t) c.number.ensures c.in_ok-note.ensures) c.in_ok-note-2.ensures
    c.in-Some.call.now (sym c.in-Some.ensures) (c.commit.ensures.history ok) (c.commit.ensures.kept ok)

pub returns-in-Some-clause-illegal : goal.returns-in-Some-clause-illegal
returns-in-Some-clause-illegal c = λ ok. (
  decides c.args.before.now c.args.entry.now c.in-Some.call.now (sym c.in-Some.ensures),
  past_ends c.args.decls.now c.args.self.now c.args.before.now c.args.entry.now c.in-Some.call.now c.requires.past (sym c.in-Some.ensures) (c.commit.ensures.illegal ok),
)

pub returns-in-None-clause-taken : goal.returns-in-None-clause-taken
returns-in-None-clause-taken c = λ ok.
    past_same c.args.decls.now c.args.self.now (record { numbers = c.note.new.self; unsettled = c.note-2.new.unsettled; state = c.args.self.now.state }) c.args.before.now c.args.entry.now
    c.requires.past (subst (λ (t : ℕ). NotesNumber c.args.self.now.numbers c.note.new.self t) c.number.ensures c.in_ok-note.ensures) c.in_ok-note-2.ensures
    (sym c.in-None.ensures) refl
