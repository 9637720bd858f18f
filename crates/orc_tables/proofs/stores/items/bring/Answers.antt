use Rattle.std.proofs.Common.{refl, ◌∙◌}
use Rattle.orc_tables.proofs.HoldingLaws.{moved_holds, one_bound, one_distinct, one_starts, one_whole}
use Rattle.orc_tables.proofs.stores.items.bring.Goals as goal

pub apply-requires : goal.apply-requires
apply-requires g c =
    let same = c.as_slice.ensures ∙ c.in_ok-moves.ensures in
    record {
      start = one_starts c.args.refs.now c.args.service.now c.args.held c.args.next.now c.as_slice.result.now same c.requires.holds;
      distinct = one_distinct c.args.service.now c.args.held c.args.next.now c.as_slice.result.now same;
      whole = one_whole c.args.service.now c.args.held c.args.next.now c.as_slice.result.now same c.requires.whole;
      fits = refl;
    }

pub returns-in-Ok-clause-holds : goal.returns-in-Ok-clause-holds
returns-in-Ok-clause-holds g c =
    moved_holds _ _ c.args.service.now c.args.held c.args.next.now c.as_slice.result.now _ (c.as_slice.ensures ∙ c.in_ok-moves.ensures) c.in-Ok.ensures.moved

pub returns-in-Ok-clause-steps : goal.returns-in-Ok-clause-steps
returns-in-Ok-clause-steps g c =
    one_bound c.args.service.now c.args.held c.args.next.now c.as_slice.result.now _ _ (c.as_slice.ensures ∙ c.in_ok-moves.ensures) (c.apply.ensures.few refl)

pub returns-clause-steps : goal.returns-clause-steps
returns-clause-steps g c =
    one_bound c.args.service.now c.args.held c.args.next.now c.as_slice.result.now _ _ (c.as_slice.ensures ∙ c.in_ok-moves.ensures) (c.apply.ensures.few refl)
