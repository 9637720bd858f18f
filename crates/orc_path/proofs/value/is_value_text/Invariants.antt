use Rattle.std.proofs.Common.{◌≡◌, true, is_some}
use Rattle.std.specs.List.{list_all}
use Rattle.orc_text.specs.Characters.{is_plain_character}
use Rattle.orc_path.specs.inside.ValueReading.{unescaped, behind}
use Rattle.orc_path.proofs.value.is_value_text.Given as goal

-- from here on the rest goes on as the whole text does
abbrev pub invariant-loop-character : goal.invariant-loop-character
invariant-loop-character l = record {
  goes_on : is_some (behind l.is_escaped l.character-iterator.rest.now) ≡ is_some (unescaped l.text);
  plain : list_all is_plain_character l.yielded ≡ true;
}
