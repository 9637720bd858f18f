use Rattle.std.proofs.Common.{◌≡◌, ◌≤◌, true, rules}
use Rattle.orc_text.specs.Characters.{is_plain_character}
use Rattle.orc_path.proofs.Modes.{moves_wide, refuses_wide}
use Rattle.orc_path.proofs.mode.mode_behind.Goals as goal

pub returns-in-Key : goal.returns-in-Key
returns-in-Key c =
    let plain : is_plain_character c.args.character ≡ true = search rules in
    let high : 128 ≤ c.args.character = search rules in
    λ r is. moves_wide r c.args.mode c.args.character is plain high c.in-Key.is

pub returns-in_default : goal.returns-in_default
returns-in_default c =
    let plain : is_plain_character c.args.character ≡ true = search rules in
    let high : 128 ≤ c.args.character = search rules in
    λ r is. refuses_wide r c.args.mode c.args.character is plain high c.in_default.not-Key
