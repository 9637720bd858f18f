use Rattle.std.proofs.Common.{sym, ◌∙◌, to_z, of_z}
use Rattle.std.specs.Int.{w128}
use Rattle.orc_value.proofs.CanonLaws.{int_text_canonical}
use Rattle.orc_value.proofs.json.canon_integer.Goals as goal

pub returns-in_ok-written_integer-in-Some-clause-canonical : goal.returns-in_ok-written_integer-in-Some-clause-canonical
returns-in_ok-written_integer-in-Some-clause-canonical c =
    int_text_canonical c.args.kind.now (to_z w128 (of_z w128 c.in-Some.number)) c.in_ok-written_integer-in-Some.field-0
    (sym c.has_integer.ensures ∙ c.if-has_integer.true) c.in_ok-written_integer-in-Some.ensures
