use Rattle.std.proofs.Common.{◌++◌, ◌-◌, length, drop, ap, ◌∙◌, arith}
use Rattle.std.proofs.lemmas.Iterator.{YieldsList-from_chars}
use Rattle.std.proofs.lemmas.Iterator.Consumers.{YieldsList-turn, YieldsList-end}
use Rattle.std.proofs.lemmas.List.{length_push}
use Rattle.std.specs.Str.{chars}
use Rattle.std.specs.String.{string_bytes}
use Rattle.orc_diagnose.specs.Quoted.{first_shown}
use Rattle.orc_diagnose.proofs.Shown.{last_written, one_more, all_written}
use Rattle.orc_diagnose.proofs.quoted.push_quoted.Goals as goal

pub returns-then-left-eq0 : goal.returns-then-left-eq0
returns-then-left-eq0 c =
    let t = YieldsList-turn (YieldsList-from_chars c.args.text.now c.utf8.text cc) c.loop-c.yielded _ c.loop-c.yielded_by _ _ c.in-Some.c c.in-Some.is c.next.ensures.steps in
    last_written (chars c.args.text.now) (string_bytes c.loop-c.out) _ _ (length c.loop-c.yielded) c.in-Some.c c.loop-c.left t c.if-left-eq0.true c.loop-c.invariant.2 c.in_ok-push_str.ensures.bytes

pub loop-c-preserved : goal.loop-c-preserved
loop-c-preserved c =
    let t = YieldsList-turn (YieldsList-from_chars c.args.text.now c.utf8.text cc) c.loop-c.yielded _ c.loop-c.yielded_by _ _ c.in-Some.c c.in-Some.is c.next.ensures.steps in
    let on = one_more (chars c.args.text.now) (string_bytes c.loop-c.out) _ _ (length c.loop-c.yielded) c.in-Some.c c.loop-c.left t c.if-left-eq0.false c.loop-c.invariant.2 c.in_ok-push_shown.ensures in
    (tt, tt, ap (λ n. string_bytes c.push_shown.new.out ++ first_shown (c.loop-c.left - 1) (drop n (chars c.args.text.now))) (length_push c.loop-c.yielded c.in-Some.c) ∙ on)

pub returns : goal.returns
returns c =
    let t = YieldsList-end (YieldsList-from_chars c.args.text.now c.utf8.text cc) c.loop-c.yielded _ c.loop-c.yielded_by _ _ c.in-None.is c.next.ensures.steps in
    all_written (chars c.args.text.now) (string_bytes c.loop-c.out) _ (length c.loop-c.yielded) c.loop-c.left (omega (arith, t.1)) c.loop-c.invariant.2
