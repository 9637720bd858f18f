use Rattle.std.proofs.Common.{◌≡◌, ◌++◌, List, ℕ}
use Rattle.std.specs.String.{string_bytes}
use Rattle.std.specs.List.{flat_map}
use Rattle.orc_path.specs.Texts.{value_escape}
use Rattle.orc_path.proofs.value.push_value.Given as goal

-- what is written, and what is left
abbrev pub invariant-loop-character : goal.invariant-loop-character
invariant-loop-character l =
    record {
      goes_on : (front : List ℕ) × (string_bytes l.out ≡ string_bytes l.fn.out ++ front);
      whole : string_bytes l.out ++ flat_map value_escape l.character-iterator.rest.now ≡ string_bytes l.fn.out ++ flat_map value_escape l.value;
    }
