use Rattle.std.proofs.Common.{sym, ◌∙◌}
use Rattle.orc_path.proofs.ValueReads.{next_meant, next_none, next_backslash, next_never, next_raw}
use Rattle.orc_path.proofs.value.next_escaped.Goals as goal

pub returns-in-Some : goal.returns-in-Some
returns-in-Some c = λ rest. next_meant c.args.is_escaped c.args.character rest c.in-Some._plain c.if-is_escaped.true (sym c.in-Some.ensures)

pub returns-in-None : goal.returns-in-None
returns-in-None c = λ rest. next_none c.args.is_escaped c.args.character rest c.if-is_escaped.true (sym c.in-None.ensures)

pub returns-then-character-eq92 : goal.returns-then-character-eq92
returns-then-character-eq92 c = λ rest. next_backslash c.args.is_escaped c.args.character rest c.if-is_escaped.false c.if-character-eq92.true

pub returns-then-is_never_raw : goal.returns-then-is_never_raw
returns-then-is_never_raw c = λ rest. next_never c.args.is_escaped c.args.character rest c.if-is_escaped.false (sym c.is_never_raw.ensures ∙ c.if-is_never_raw.true)

pub returns : goal.returns
returns c = λ rest. next_raw c.args.is_escaped c.args.character rest c.if-is_escaped.false c.if-character-eq92.false (sym c.is_never_raw.ensures ∙ c.if-is_never_raw.false)
