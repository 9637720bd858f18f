use Rattle.orc_path.proofs.PathOf.{path_of_none, text_of_path}
use Rattle.orc_path.proofs.Texts.{path_text-injective}
use Rattle.std.proofs.Common.{◌∙◌, sym}
use Rattle.orc_path.proofs.path.Path.parse.Goals as goal

pub returns-in-Some-clause-value : goal.returns-in-Some-clause-value
returns-in-Some-clause-value c = path_of_none c.args.text.now c.in-Some.ensures.none

pub returns-in_ok-read_path-in-None-clause-ok : goal.returns-in_ok-read_path-in-None-clause-ok
returns-in_ok-read_path-in-None-clause-ok c = (text_of_path c.in_ok-read_path-in-None.field-0 c.args.text.now c.in_ok-read_path-in-None.ensures).1

pub returns-in_ok-read_path-in-None-clause-again : goal.returns-in_ok-read_path-in-None-clause-again
returns-in_ok-read_path-in-None-clause-again c =
    let so = text_of_path c.in_ok-read_path-in-None.field-0 c.args.text.now c.in_ok-read_path-in-None.ensures in
    λ p path text. path_text-injective c.in_ok-read_path-in-None.field-0 p so.0 path (so.1 ∙ sym text)
