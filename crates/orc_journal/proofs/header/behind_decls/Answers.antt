use Rattle.std.proofs.Common.{length, subst}
use Rattle.std.specs.Int.{w32, to_be_bytes}
use Rattle.orc_journal.specs.inside.Fronts.{BeginsOtherwise}
use Rattle.orc_journal.proofs.Headers.{otherwise_more}
use Rattle.orc_journal.proofs.header.behind_decls.Goals as goal

pub returns-in_err-rest : goal.returns-in_err-rest
returns-in_err-rest c =
    let bytes = c.args.bytes.now in
    let other : BeginsOtherwise bytes (to_be_bytes w32 (length c.args.decls.now)) = subst (BeginsOtherwise bytes) c.to_be_bytes.ensures c.in_err-rest.ensures in
    rw c.from_residual.ensures (otherwise_more bytes (to_be_bytes w32 (length c.args.decls.now)) c.args.decls.now other)
