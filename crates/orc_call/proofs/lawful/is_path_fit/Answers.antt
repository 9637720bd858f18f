use Rattle.std.proofs.Common.{arith}
use Rattle.std.proofs.lemmas.Bool.{leb-true, le-leb}
use Rattle.orc_path.proofs.Characters.{IsUtf8-path_text}
use Rattle.orc_call.proofs.lawful.is_path_fit.Goals as goal

pub returns-clause-fit : goal.returns-clause-fit
returns-clause-fit c =
    let path = c.args.path.now in
    let is = c.text_len.ensures.len in (
      λ short. (omega (arith, is, leb-true _ _ short), IsUtf8-path_text path c.text_len.ensures.path),
      λ text. le-leb _ _ (omega (arith, is, text.0)),
    )
