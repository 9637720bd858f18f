use Rattle.std.proofs.Common.{not, ◌∙◌, sym, ap}
use Rattle.orc_path.specs.Alphabet.{is_identifier}
use Rattle.orc_expr.proofs.NameBytes.{qualified_is_not_identifier}
use Rattle.orc_expr.proofs.alphabet.is_top_name.Goals as goal

pub returns : goal.returns
returns c =
    ap not (c.is_identifier.ensures ∙ ap is_identifier c.as_str.ensures.value)
    ∙ sym (qualified_is_not_identifier c.args.name.now c.as_str.ensures.name)
