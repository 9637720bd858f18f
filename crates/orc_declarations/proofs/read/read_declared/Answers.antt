use Rattle.std.proofs.Common.{◌≡◌, false, length, refl, ap, sym, ◌∙◌, arith, eqb-true}
use denote.Enum.Bare.{sameb}
use Rattle.orc_declarations.specs.Declarations.{is_script}
use Rattle.orc_lines.specs.Lines.{lines_of}
use Rattle.orc_lines.specs.contracts.declared.Section.{the_type}
use Rattle.orc_lines.specs.declared.declared.Section.{Section}
use Rattle.orc_lines.specs.declared.declared.Section.TheVariants as section
use Rattle.orc_lines.proofs.LinesOf.{parted}
use Rattle.orc_lines.specs.Answers.{plain_fault}
use Rattle.orc_lines.specs.declared.fault.ExplainedFault.{ExplainedFault}
use Rattle.orc_declarations.proofs.Opened.{goes_on, later_bytes, line_fault, script_faults, script_opens, text_faults, text_opens}
use Rattle.orc_declarations.proofs.read.read_declared.Goals as goal

-- what the code asks of the section
asked : (s : Section) → is_script s ≡ sameb the_type s section.Script
asked section.Header = refl
asked section.Declarations = refl
asked section.Script = refl

pub lines-preserved : goal.lines-preserved
lines-preserved c =
    let line = c.first_line.result.0.now in
    let later = c.first_line.result.1.now in
    let inv = c.lines.invariant in
    let new = c.take_line.new.declared in
    let bytes = parted c.lines.rest.now c.first_line.result.0.now c.first_line.result.1.now c.first_line.ensures.parts in
    let some = c.first_line.ensures.some in
    let rest = inv.1 in
    let count = inv.2 in
    let goes : is_script new.section ≡ false = asked new.section ∙ sym c.eq.ensures ∙ c.if-eq.false in (
      inv.0 ∙ goes_on c.lines.declared new c.lines.at c.lines.number line (lines_of later) (lines_of c.lines.rest.now) c.first_line.ensures.lines c.in_default.ensures.takes false goes,
      omega arith,
      omega arith,
      c.in_default.ensures.small,
      c.in_default.ensures.lawful inv.4,
      goes,
      later_bytes c.args.bytes.now c.lines.rest.now line later c.lines.at inv.6 c.first_line.ensures.parts,
    )

-- what is answered

pub returns-in-Err-clause-answer : goal.returns-in-Err-clause-answer
returns-in-Err-clause-answer c =
    line_fault _ c.lines.declared c.take_line.new.declared c.lines.at c.lines.number c.first_line.result.0.now (lines_of c.first_line.result.1.now)
    (lines_of c.lines.rest.now) c.in-Err.fault c.lines.invariant.0 c.first_line.ensures.lines c.in-Err.ensures.takes
    c.with_lines.result (c.with_lines.ensures ∙ ap (λ (f : ExplainedFault). plain_fault f) c.at_line.ensures)

pub returns-then-eq-clause-answer : goal.returns-then-eq-clause-answer
returns-then-eq-clause-answer c =
    script_opens _ c.lines.declared c.take_line.new.declared c.lines.at c.lines.number c.first_line.result.0.now (lines_of c.first_line.result.1.now)
    (lines_of c.lines.rest.now) c.lines.invariant.0
    c.first_line.ensures.lines c.in_default.ensures.takes (asked c.take_line.new.declared.section ∙ sym c.eq.ensures ∙ c.if-eq.true)
    c.in_ok-check_opening.ensures

pub returns-in_err-check_opening-clause-answer : goal.returns-in_err-check_opening-clause-answer
returns-in_err-check_opening-clause-answer c =
    script_faults _ c.lines.declared c.take_line.new.declared c.lines.at c.lines.number c.first_line.result.0.now (lines_of c.first_line.result.1.now)
    (lines_of c.lines.rest.now) c.lines.invariant.0
    c.first_line.ensures.lines c.in_default.ensures.takes (asked c.take_line.new.declared.section ∙ sym c.eq.ensures ∙ c.if-eq.true)
    c.from_residual-in_err-check_opening.result c.in_err-check_opening.field-0.0 c.from_residual-in_err-check_opening.ensures.1 c.in_err-check_opening.ensures

pub returns-clause-answer : goal.returns-clause-answer
returns-clause-answer c =
    text_opens _ c.lines.declared c.lines.at c.lines.number (length c.args.bytes.now) c.lines.rest.now c.lines.invariant.0
    (eqb-true (length c.lines.rest.now) 0 (sym c.is_empty.ensures ∙ c.lines-test.false)) c.lines.invariant.1
    c.in_ok-check_opening-2.ensures

pub returns-in_err-check_opening-2-clause-answer : goal.returns-in_err-check_opening-2-clause-answer
returns-in_err-check_opening-2-clause-answer c =
    text_faults _ c.lines.declared c.lines.at c.lines.number (length c.args.bytes.now) c.lines.rest.now c.lines.invariant.0
    (eqb-true (length c.lines.rest.now) 0 (sym c.is_empty.ensures ∙ c.lines-test.false)) c.lines.invariant.1
    c.from_residual-in_err-check_opening-2.result c.in_err-check_opening-2.field-0.0 c.from_residual-in_err-check_opening-2.ensures.1 c.in_err-check_opening-2.ensures

-- where the script begins

pub returns-then-eq-clause-within : goal.returns-then-eq-clause-within
returns-then-eq-clause-within c =
    let line = c.first_line.result.0.now in
    let later = c.first_line.result.1.now in
    let inv = c.lines.invariant in
    let bytes = parted c.lines.rest.now line later c.first_line.ensures.parts in
    let some = c.first_line.ensures.some in
    let rest = inv.1 in
    let count = inv.2 in record {
      size = omega arith;
      rest = omega arith;
      later = later_bytes c.args.bytes.now c.lines.rest.now line later c.lines.at inv.6 c.first_line.ensures.parts;
      number = omega arith;
      small = c.in_default.ensures.small;
    }
