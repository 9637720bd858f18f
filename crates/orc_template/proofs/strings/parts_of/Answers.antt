use Rattle.std.proofs.Common.{◌≡◌, length, ap, ◌∙◌}
use Rattle.std.specs.Option.{option_and_then}
use Rattle.std.specs.Str.{chars}
use Rattle.std.proofs.lemmas.Iterator.{YieldsList-from_chars}
use Rattle.std.proofs.lemmas.Iterator.Consumers.{YieldsList-turn, YieldsList-end}
use Rattle.std.proofs.lemmas.List.{length_push}
use Rattle.std.proofs.lemmas.Result.{IfOk-weaker}
use Rattle.orc_path.proofs.Bools.{if_so, if_not}
use Rattle.orc_template.specs.Strings.{cut_all, cut_end, cut_parts}
use Rattle.orc_template.specs.declared.strings.Cutter.{Cutter}
use Rattle.orc_template.proofs.Cutting.{cut_turn, cut_stops, cut_ends}
use Rattle.orc_template.proofs.strings.parts_of.Goals as goal

pub loop-character-init : goal.loop-character-init
loop-character-init c = ap (λ (k : Cutter). option_and_then cut_end (cut_all k (chars c.args.text.now))) c.new-cutter.ensures

pub returns-then-not-branch : goal.returns-then-not-branch
returns-then-not-branch c =
    let text = c.args.text.now in
    let l = c.loop-character in
    let x = c.in-Some.character in
    let turn = YieldsList-turn (YieldsList-from_chars text c.utf8.text cc) l.yielded _ l.yielded_by _ _ x c.in-Some.is c.next.ensures.steps in
    cut_stops (chars text) (length l.yielded) x turn l.cutter (cut_parts text) (if_not c.in_ok-take.field-0 _ _ c.in_ok-take.ensures c.if-not-branch.true) l.invariant

pub loop-character-preserved : goal.loop-character-preserved
loop-character-preserved c =
    let text = c.args.text.now in
    let l = c.loop-character in
    let x = c.in-Some.character in
    let turn = YieldsList-turn (YieldsList-from_chars text c.utf8.text cc) l.yielded _ l.yielded_by _ _ x c.in-Some.is c.next.ensures.steps in
    cut_turn (chars text) (length l.yielded) x turn l.cutter c.take.new.self (cut_parts text) _ (length_push l.yielded x)
    (if_so c.in_ok-take.field-0 _ _ c.in_ok-take.ensures c.if-not-branch.false) l.invariant

pub returns : goal.returns
returns c =
    let text = c.args.text.now in
    let l = c.loop-character in
    let end = YieldsList-end (YieldsList-from_chars text c.utf8.text cc) l.yielded _ l.yielded_by _ _ c.in-None.is c.next.ensures.steps in
    let whole = cut_ends (chars text) (length l.yielded) l.cutter (cut_parts text) end.1 l.invariant in
    IfOk-weaker c.finish.result (λ parts. parts ≡ cut_end l.cutter) (λ parts. parts ≡ cut_parts text) (λ parts is. is ∙ whole) c.finish.ensures
