use Rattle.std.proofs.Common.{◌≡◌, ◌++◌, List, ℕ}
use Rattle.std.specs.Option.{option_map}
use Rattle.orc_lines.specs.Lines.{lines_of, block_of}
use Rattle.orc_lines.proofs.lines.block_of.Given as goal

abbrev pub invariant-lines : goal.invariant-lines
invariant-lines l =
    block_of l.count (lines_of l.bytes)
    ≡ option_map (λ (block : List ℕ). l.text.items ++ block) (block_of l.left (lines_of l.rest))

abbrev pub decreases-lines : goal.decreases-lines
decreases-lines l = l.left
