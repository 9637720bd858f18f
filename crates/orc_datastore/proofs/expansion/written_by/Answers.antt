use Rattle.std.proofs.Common.{List, ◌∙◌, ap, subst, length}
use Rattle.std.proofs.lemmas.List.{drop_all}
use Rattle.orc_call.specs.declared.call.DevicePut.{DevicePut}
use Rattle.orc_datastore.specs.Services.{spread}
use Rattle.orc_datastore.proofs.Spreading.{HasTaken, all_taken}
use Rattle.orc_datastore.proofs.expansion.written_by.Goals as goal

pub returns : goal.returns
returns c =
    let w = c.loop-write.written.items in
    ap (λ l. spread l 0 (length c.args.decls.now.names)) c.from_vec.ensures
    ∙ all_taken c.args.decls.now.names c.args.writes.now w
    (subst (λ (l : List DevicePut). HasTaken c.args.decls.now.names c.args.writes.now l w) (drop_all c.loop-write.write-index c.args.writes.now c.loop-write-test.false)
    c.loop-write.invariant)
