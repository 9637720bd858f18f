use Rattle.std.proofs.Common.{sym, ◌∙◌}
use Rattle.orc_path.proofs.ValueReads.{ahead_backslash, ahead_never, ahead_raw}
use Rattle.orc_path.proofs.value.ValueReader.take.Goals as goal

pub returns-then-character-eq92 : goal.returns-then-character-eq92
returns-then-character-eq92 c = λ rest. ahead_backslash c.args.self.now c.args.character rest c.if-self.false c.if-character-eq92.true

pub returns-then-is_never_raw : goal.returns-then-is_never_raw
returns-then-is_never_raw c = λ rest. ahead_never c.args.self.now c.args.character rest c.if-self.false (sym c.is_never_raw.ensures ∙ c.if-is_never_raw.true)

pub returns : goal.returns
returns c =
    λ rest. ahead_raw c.args.self.now c.args.character c.push.new.self rest c.if-self.false c.if-character-eq92.false (sym c.is_never_raw.ensures ∙ c.if-is_never_raw.false) c.in_ok-push.ensures.ok
