use Rattle.std.proofs.Common.{sym}
use Rattle.orc_path.proofs.ValueReads.{ahead_meant, ahead_none}
use Rattle.orc_path.proofs.value.ValueReader.take_escaped.Goals as goal

pub returns-in_ok-push-in-Some : goal.returns-in_ok-push-in-Some
returns-in_ok-push-in-Some c =
    λ rest. ahead_meant c.args.self.now c.args.character c.in-Some.plain c.push.new.self rest c.requires (sym c.in-Some.ensures) c.in_ok-push-in-Some.ensures.ok

pub returns-in-None : goal.returns-in-None
returns-in-None c = λ rest. ahead_none c.args.self.now c.args.character rest c.requires (sym c.in-None.ensures)
