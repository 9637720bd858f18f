use Rattle.orc_script.proofs.Lawful.{more}
use Rattle.orc_lines.proofs.Lawful.{on_ok_more}
use Rattle.orc_script.proofs.script.Script.take_text.Goals as goal

pub returns-in-None-clause-lawful : goal.returns-in-None-clause-lawful
returns-in-None-clause-lawful c = λ most so_far small.
    on_ok_more c.take_word.result _ _ (more c.args.decls.now most c.take_word.new.self)
    (c.take_word.ensures.lawful c.args.decls.now most so_far small)
