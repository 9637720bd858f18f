use Rattle.std.proofs.Common.{◌∙◌, sym}
use Rattle.orc_value.proofs.IntegerLaws.{read_ok, read_out, read_none}
use Rattle.orc_value.proofs.integers.integer.Goals as goal

pub returns-then-has_integer : goal.returns-then-has_integer
returns-then-has_integer c =
    read_ok c.args.kind.now c.args.text.now c.in-Ok.number c.in-Ok.ensures.value.0 (sym c.has_integer.ensures ∙ c.if-has_integer.true)

pub returns-else-has_integer : goal.returns-else-has_integer
returns-else-has_integer c =
    read_out c.args.kind.now c.args.text.now c.in-Ok.number c.in-Ok.ensures.value.0 (sym c.has_integer.ensures ∙ c.if-has_integer.false)

pub returns-in-Err : goal.returns-in-Err
returns-in-Err c =
    read_none c.args.kind.now c.args.text.now c.no_integer.result c.in-Err.ensures.value.0 (rw c.as_bytes.ensures.value at c.no_integer.ensures)
