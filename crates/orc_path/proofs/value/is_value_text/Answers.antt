use Rattle.std.proofs.Common.{◌∙◌, false, is_some, length, refl, sym, ap}
use Rattle.std.proofs.lemmas.Iterator.{YieldsList-from_chars}
use Rattle.std.proofs.lemmas.Iterator.Consumers.{YieldsList-turn, YieldsList-end}
use Rattle.orc_text.proofs.Characters.{plain_more}
use Rattle.orc_path.specs.inside.ValueReading.{behind}
use Rattle.orc_path.proofs.ValueReads.{nothing_left, none_at, none_read, read_alike}
use Rattle.orc_path.proofs.value.is_value_text.Goals as goal

pub loop-character-init : goal.loop-character-init
loop-character-init c = record {
  goes_on =
      ap (λ i. is_some (behind false i.rest.now)) c.into_iter-character-iterator.ensures.into_iter_gives
      ∙ ap (λ rest. is_some (behind false rest)) c.chars-character-items.ensures.rest;
  plain = refl;
}

pub loop-character-preserved : goal.loop-character-preserved
loop-character-preserved c =
    let l = c.loop-character in record {
      goes_on =
          sym (c.in-Some-next_escaped.ensures c.next.new.self.rest.now)
          ∙ ap (λ rest. is_some (behind l.is_escaped rest)) (sym c.in-Some.ensures.steps.0) ∙ l.invariant.goes_on;
      plain = plain_more l.yielded c.in-Some.character l.invariant.plain c.if-not-is_plain_character.ensures;
    }

pub returns-then-not-is_plain_character : goal.returns-then-not-is_plain_character
returns-then-not-is_plain_character c =
    let text = c.args.text.now in
    let l = c.loop-character in
    let turn = YieldsList-turn (YieldsList-from_chars text c.utf8.text cc) l.yielded _ l.yielded_by _ _ c.in-Some.character c.in-Some.is c.next.ensures.steps in
    none_at text (length l.yielded) c.in-Some.character c.utf8.text turn.0 turn.1 (sym c.if-not-is_plain_character.ensures)

pub returns-in-None-next_escaped : goal.returns-in-None-next_escaped
returns-in-None-next_escaped c =
    let l = c.loop-character in
    none_read c.args.text.now
    (sym l.invariant.goes_on ∙ ap (λ rest. is_some (behind l.is_escaped rest)) c.in-Some.ensures.steps.0 ∙ c.in-None-next_escaped.ensures c.next.new.self.rest.now)

pub returns : goal.returns
returns c =
    let text = c.args.text.now in
    let l = c.loop-character in
    let end = YieldsList-end (YieldsList-from_chars text c.utf8.text cc) l.yielded _ l.yielded_by _ _ c.in-None.is c.next.ensures.steps in
    sym (nothing_left l.is_escaped l.character-iterator.rest.now c.in-None.ensures.steps.0.0)
    ∙ l.invariant.goes_on ∙ read_alike text l.yielded c.utf8.text end.0 l.invariant.plain
