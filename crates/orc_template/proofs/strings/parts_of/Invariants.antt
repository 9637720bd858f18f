use Rattle.std.proofs.Common.{◌≡◌, drop, length}
use Rattle.std.specs.Option.{option_and_then}
use Rattle.std.specs.Str.{chars}
use Rattle.orc_template.specs.Strings.{cut_all, cut_end, cut_parts}
use Rattle.orc_template.proofs.strings.parts_of.Given as goal

-- the characters that are left
abbrev pub invariant-loop-character : goal.invariant-loop-character
invariant-loop-character l = option_and_then cut_end (cut_all l.cutter (drop (length l.yielded) (chars l.text))) ≡ cut_parts l.text
