use Rattle.std.proofs.Common.{◌≡◌, ℕ, List, take}
use Rattle.std.specs.Prelude.{nat_eq}
use Rattle.std.specs.List.{list_any}
use Rattle.std.specs.BTreeSet.{contains_text}
use Rattle.std.specs.Cmp.Lexicographic.{pointwise}
use Rattle.orc_value.proofs.names.set_of.Given as goal

-- the set has the names so far
abbrev pub invariant-loop-name : goal.invariant-loop-name
invariant-loop-name l = (text : List ℕ) → contains_text l.set text ≡ list_any (pointwise nat_eq text) (take l.name-index l.names)
