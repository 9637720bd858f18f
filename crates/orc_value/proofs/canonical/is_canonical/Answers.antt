use Rattle.std.proofs.lemmas.Bool.Decides.{same_from_decides}
use Rattle.orc_value.specs.Canon.{is_canonical}
use Rattle.orc_value.proofs.CanonLaws.{is_canonical-Decides}
use Rattle.orc_value.proofs.canonical.is_canonical.Goals as goal

pub returns-clause-value : goal.returns-clause-value
returns-clause-value c =
    let own = rw c.as_str.ensures at c.is_own_text.ensures in
    same_from_decides c.is_own_text.result (is_canonical c.args.kind.now c.args.text.now) own (is_canonical-Decides c.args.kind.now c.args.text.now)
