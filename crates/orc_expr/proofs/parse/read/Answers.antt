use Rattle.std.proofs.Common.{ℕ, ◌+◌, encode_utf8, ◌∙◌, sym, ap, subst}
use Rattle.std.specs.Option.{option_map}
use Rattle.orc_path.proofs.Bools.{if_so, if_not}
use Rattle.orc_expr.specs.Parts.{condition_of}
use Rattle.orc_expr.specs.inside.Reading.{reading_of}
use Rattle.orc_expr.proofs.Parsed.{Stands, stands_first, stands_next, stands_whole, stands_short, fits}
use Rattle.orc_expr.proofs.Taken.{taken_refused}
use Rattle.orc_expr.proofs.parse.read.Goals as goal

pub loop-character-init : goal.loop-character-init
loop-character-init c =
    subst (λ rest. Stands c.args.conditional c.args.text.now 0 rest (reading_of c.new-reader.result)) (sym (ap (λ i. i.rest.now) c.into_iter-character-iterator.ensures.into_iter_gives ∙ c.chars-character-items.ensures.rest))
    (stands_first c.args.conditional c.args.text.now (reading_of c.new-reader.result) c.new-reader.ensures)

pub take-requires : goal.take-requires
take-requires c =
    let l = c.loop-character in
    fits c.args.conditional c.args.text.now l.at l.character-iterator.rest.now (reading_of l.reader) l.invariant

pub returns-then-not-branch-clause-fault : goal.returns-then-not-branch-clause-fault
returns-then-not-branch-clause-fault c =
    let l = c.loop-character in
    taken_refused c.args.conditional c.args.text.now l.at l.character-iterator.rest.now (reading_of l.reader) l.invariant c.in-Some.character c.next.new.self.rest.now
    c.in-Some.ensures.steps.0 (if_not c.in_ok-take.field-0 _ _ c.in_ok-take.ensures c.if-not-branch.true)

pub loop-character-preserved : goal.loop-character-preserved
loop-character-preserved c =
    let l = c.loop-character in
    subst (λ (n : ℕ). Stands c.args.conditional c.args.text.now (l.at + n) c.next.new.self.rest.now (reading_of c.take.new.self)) (sym c.len_utf8.ensures.len)
    (stands_next c.args.conditional c.args.text.now l.at l.character-iterator.rest.now (reading_of l.reader) l.invariant (encode_utf8 c.in-Some.character) c.next.new.self.rest.now
    (reading_of c.take.new.self) c.in-Some.ensures.steps.0 (if_so c.in_ok-take.field-0 _ _ c.in_ok-take.ensures c.if-not-branch.false))

pub returns-in-Some-2-clause-ok : goal.returns-in-Some-2-clause-ok
returns-in-Some-2-clause-ok c =
    let l = c.loop-character in
    stands_whole c.args.conditional c.args.text.now l.at l.character-iterator.rest.now (reading_of l.reader) l.invariant c.in-None.ensures.steps.0.0
    (condition_of c.in-Some-2.cond) (sym c.in_ok-cond.ensures ∙ ap (option_map condition_of) c.in-Some-2.is)

pub returns-in-None-2-clause-fault : goal.returns-in-None-2-clause-fault
returns-in-None-2-clause-fault c =
    let l = c.loop-character in
    stands_short c.args.conditional c.args.text.now l.at l.character-iterator.rest.now (reading_of l.reader) l.invariant c.in-None.ensures.steps.0.0
    (sym c.in_ok-cond.ensures ∙ ap (option_map condition_of) c.in-None-2.is)
