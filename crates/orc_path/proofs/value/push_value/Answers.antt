use Rattle.std.proofs.Common.{subst, sym}
use Rattle.std.specs.String.{string_bytes}
use Rattle.std.specs.List.{flat_map}
use Rattle.orc_path.specs.Texts.{value_escape, value_text, AddsFront}
use Rattle.orc_path.proofs.Fronts.{OnErr-held, front_of_part}
use Rattle.orc_path.proofs.value.push_value.Goals as goal

pub returns-in_err-push_character-clause-err : goal.returns-in_err-push_character-clause-err
returns-in_err-push_character-clause-err c =
    OnErr-held c.from_residual.result (
    subst (AddsFront (value_text c.args.value.now) (string_bytes c.args.out.now)) (sym c.in_err-push_character.ensures.err)
    (front_of_part (value_text c.args.value.now) (string_bytes c.args.out.now) (string_bytes c.loop-character.out)
    (flat_map value_escape c.loop-character.character-iterator.rest.now) c.loop-character.invariant.goes_on c.loop-character.invariant.whole))
