use Rattle.std.proofs.Common.{length}
use Rattle.orc_yang.proofs.Spelling.{found_all, only, answered, faults, open_in}
use Rattle.orc_yang.proofs.Parsed.{parsed, parsed_bytes}
use Rattle.orc_yang.proofs.statements.parse.Goals as goal

pub returns-in-Ok-clause-found : goal.returns-in-Ok-clause-found
returns-in-Ok-clause-found c =
    let bytes = c.args.bytes.now in
    let q = c.in-Ok.ensures.cases in
    found_all _ c.read.result bytes (length bytes) q.1 (rw q.0 at c.read.ensures.answer)

pub returns-in-Ok-clause-only : goal.returns-in-Ok-clause-only
returns-in-Ok-clause-only c = λ list s.
    let bytes = c.args.bytes.now in
    let q = c.in-Ok.ensures.cases in
    only _ c.read.result _ list (rw q.0 at c.read.ensures.answer) (answered bytes (length bytes) list s)

pub returns-in-Ok-clause-faults : goal.returns-in-Ok-clause-faults
returns-in-Ok-clause-faults c =
    let bytes = c.args.bytes.now in
    let q = c.in-Ok.ensures.cases in
    faults _ c.read.result bytes q.1 (rw q.0 at c.read.ensures.memory) (rw q.0 at c.read.ensures.answer)

pub returns-in-Ok-clause-unclosed : goal.returns-in-Ok-clause-unclosed
returns-in-Ok-clause-unclosed c =
    let bytes = c.args.bytes.now in
    let q = c.in-Ok.ensures.cases in
    open_in _ c.read.result bytes (length bytes) (rw q.0 at c.read.ensures.answer)

pub returns-in-Ok-clause-answer : goal.returns-in-Ok-clause-answer
returns-in-Ok-clause-answer c =
    let bytes = c.args.bytes.now in
    let q = c.in-Ok.ensures.cases in
    parsed _ c.read.result bytes q.1 (rw q.0 at c.read.ensures.answer)

pub returns-in-Err-clause-answer : goal.returns-in-Err-clause-answer
returns-in-Err-clause-answer c =
    let bytes = c.args.bytes.now in
    rw (c.valid_up_to.ensures, c.in-Err.ensures.valid_len) (parsed_bytes bytes c.in-Err.ensures.cases.0)
