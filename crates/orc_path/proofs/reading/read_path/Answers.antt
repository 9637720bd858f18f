use Rattle.std.proofs.Common.{◌+◌, length, encode_utf8, ◌∙◌, sym, ap, subst}
use Rattle.orc_path.specs.declared.reader.Reader.{Reader}
use Rattle.orc_path.proofs.Bools.{if_so, if_not}
use Rattle.orc_path.proofs.Standing.{stands_first, stands_next, stands_refused, stands_last, IsStanding}
use Rattle.orc_path.proofs.Refused.{unfinished}
use Rattle.orc_path.proofs.PathOf.{path_of-behind}
use Rattle.orc_path.proofs.reading.read_path.Goals as goal

pub loop-character-init : goal.loop-character-init
loop-character-init c = (
  0,
  subst (λ (r : Reader). IsStanding c.args.text.now 0 c.into_iter-character-iterator.result.rest.now r) (sym c.new-reader.ensures)
      (subst (λ rest. IsStanding c.args.text.now 0 rest _) (sym (ap (λ i. i.rest.now) c.into_iter-character-iterator.ensures.into_iter_gives ∙ c.chars-character-items.ensures.rest))
      (stands_first c.args.text.now c.utf8.text)),
)

-- a text that is one has no character that is refused
pub unreachable-requires : goal.unreachable-requires
unreachable-requires c =
    let l = c.loop-character in
    (stands_refused c.args.text.now l.invariant.0 l.character-iterator.rest.now c.next.new.self.rest.now l.reader c.in-Some.character
    l.invariant.1 c.in-Some.ensures.steps.0 (if_not c.in_ok-take.field-0 _ _ c.in_ok-take.ensures c.if-not-branch.true)).none c.requires

pub loop-character-preserved : goal.loop-character-preserved
loop-character-preserved c =
    let l = c.loop-character in (
      l.invariant.0 + length (encode_utf8 c.in-Some.character),
      stands_next c.args.text.now l.invariant.0 l.character-iterator.rest.now c.next.new.self.rest.now l.reader c.in-Some.character
          l.invariant.1 c.in-Some.ensures.steps.0 c.take.new.self (if_so c.in_ok-take.field-0 _ _ c.in_ok-take.ensures c.if-not-branch.false),
    )

-- and it ends where a path may end
pub unreachable-requires-in-None-2 : goal.unreachable-requires-in-None-2
unreachable-requires-in-None-2 c =
    let l = c.loop-character in
    (unfinished c.args.text.now l.reader (stands_last c.args.text.now l.invariant.0 l.character-iterator.rest.now l.reader l.invariant.1 c.in-None.ensures.steps.0.0)
    (sym c.in_ok-path.ensures ∙ c.in-None-2.is)).none c.requires

pub returns : goal.returns
returns c =
    let l = c.loop-character in
    path_of-behind c.args.text.now l.reader c.in-Some-2.path
    (stands_last c.args.text.now l.invariant.0 l.character-iterator.rest.now l.reader l.invariant.1 c.in-None.ensures.steps.0.0) (sym c.in_ok-path.ensures ∙ c.in-Some-2.is)
