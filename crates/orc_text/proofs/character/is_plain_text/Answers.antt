use Rattle.std.proofs.Common.{sym, ◌∙◌}
use Rattle.orc_text.proofs.Plain.{is_plain_text-utf8}
use Rattle.orc_text.proofs.character.is_plain_text.Goals as goal

pub returns : goal.returns
returns c = c.are_plain.ensures ∙ sym (is_plain_text-utf8 c.args.text.now c.utf8.text)
