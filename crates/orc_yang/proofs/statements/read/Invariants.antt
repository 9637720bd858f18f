use Rattle.std.proofs.Common.{◌≡◌, ◌≤◌, ◌+◌, ◌*◌, drop, length}
use Rattle.std.specs.Str.{chars, encode_utf8_all}
use Rattle.orc_yang.specs.Text.{placed}
use Rattle.orc_yang.specs.Machine.{run, start}
use Rattle.orc_yang.specs.inside.View.{view}
use Rattle.orc_yang.specs.inside.Wanting.{RunMayTake}
use Rattle.orc_yang.proofs.statements.read.Given as goal

-- the rest, read on from here, gives what the whole gives, and takes memory where the whole does
abbrev pub invariant-loop-code : goal.invariant-loop-code
invariant-loop-code l = record {
  place : l.at + length (encode_utf8_all (drop (length l.yielded) (chars l.text))) ≡ length l.text;
  column : l.column ≤ 8 * l.at + 1;
  wants : RunMayTake (placed l.at l.column (drop (length l.yielded) (chars l.text))) (view l.parser) → RunMayTake (placed 0 1 (chars l.text)) start;
  rest : run (placed l.at l.column (drop (length l.yielded) (chars l.text))) (view l.parser) (length l.text) ≡ run (placed 0 1 (chars l.text)) start (length l.text);
}
