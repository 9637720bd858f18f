use Rattle.std.proofs.Common.{◌≡◌, sym, ◌∙◌, ap, subst, ◌+◌, ◌-◌, arith}
use Rattle.std.specs.Prelude.{take, drop}
use Rattle.std.specs.List.{position}
use Rattle.std.specs.Str.{IsCharBoundary}
use Rattle.orc_statements.specs.Cutting.{CutsAt}
use Rattle.orc_statements.specs.Cuts.{is_mark}
use Rattle.orc_statements.proofs.Marks.{at_place, boundary_before, boundary_behind, cuts_at, uncut}
use Rattle.orc_statements.proofs.cuts.cut.Goals as goal

pub range-requires-clause-end_boundary : goal.range-requires-clause-end_boundary
range-requires-clause-end_boundary c =
    let at = at_place (is_mark c.args.mark) c.args.text.now c.in-Some.place (c.in-Some.ensures ∙ ap (position (is_mark c.args.mark)) c.as_bytes.ensures.value) in
    subst (IsCharBoundary c.args.text.now) (sym at.1) (boundary_before c.args.mark c.args.text.now at.0)

pub range_from-requires : goal.range_from-requires
range_from-requires c =
    let at = at_place (is_mark c.args.mark) c.args.text.now c.in-Some.place (c.in-Some.ensures ∙ ap (position (is_mark c.args.mark)) c.as_bytes.ensures.value) in
    λ positive. subst (λ i. IsCharBoundary c.args.text.now (i + 1)) (sym at.1) (boundary_behind c.args.mark c.args.text.now at.0 c.utf8.text)

pub returns-in-None-clause-parts : goal.returns-in-None-clause-parts
returns-in-None-clause-parts c = uncut c.args.mark c.args.text.now (c.in-None.ensures ∙ ap (position (is_mark c.args.mark)) c.as_bytes.ensures.value)

pub returns-in-Some-clause-parts : goal.returns-in-Some-clause-parts
returns-in-Some-clause-parts c =
    let at = at_place (is_mark c.args.mark) c.args.text.now c.in-Some.place (c.in-Some.ensures ∙ ap (position (is_mark c.args.mark)) c.as_bytes.ensures.value) in
    let none : c.in-Some.place - 0 ≡ c.in-Some.place = omega arith in
    let front : c.range.result.now ≡ take c.in-Some.place c.args.text.now = c.range.ensures.value ∙ ap (λ n. take n c.args.text.now) none in
    let cut : CutsAt c.args.mark c.args.text.now (take c.in-Some.place c.args.text.now) (drop (c.in-Some.place + 1) c.args.text.now) =
    subst (λ i. CutsAt c.args.mark c.args.text.now (take i c.args.text.now) (drop (i + 1) c.args.text.now)) (sym at.1) (cuts_at c.args.mark c.args.text.now at.0 c.utf8.text) in
    subst (λ t. CutsAt c.args.mark c.args.text.now t c.range_from.result.now) (sym front)
    (subst (λ t. CutsAt c.args.mark c.args.text.now (take c.in-Some.place c.args.text.now) t) (sym c.range_from.ensures.value) cut)
