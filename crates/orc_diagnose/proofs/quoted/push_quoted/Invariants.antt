use Rattle.std.proofs.Common.{◌≡◌, ◌++◌, length, drop}
use Rattle.std.specs.Str.{chars}
use Rattle.std.specs.String.{string_bytes}
use Rattle.orc_diagnose.specs.Quoted.{first_shown}
use Rattle.orc_diagnose.specs.declared.quoted.TheConstants.{SHOWN}
use Rattle.orc_diagnose.proofs.quoted.push_quoted.Given as goal

abbrev pub invariant-loop-c : goal.invariant-loop-c
invariant-loop-c l =
    (goal.iterator-loop-c).can_next l.c-iterator × (goal.iterator-loop-c).is_finite l.c-iterator
    × (string_bytes l.out ++ first_shown l.left (drop (length l.yielded) (chars l.text)) ≡ string_bytes l.initial.out ++ first_shown SHOWN (chars l.text))
