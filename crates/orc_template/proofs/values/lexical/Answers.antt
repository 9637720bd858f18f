use Rattle.std.proofs.Common.{sym}
use Rattle.orc_template.proofs.Forms.{lexical_so}
use Rattle.orc_template.proofs.values.lexical.Goals as goal

pub returns-clause-value : goal.returns-clause-value
returns-clause-value c = lexical_so c.args.kind.now c.args.text.now c.canon.result c.fitted.result (sym c.if-is_long_value.ensures) c.canon.ensures.answer c.fitted.ensures.value
