use Rattle.std.proofs.Common.{◌≡◌, true, ap, sym, subst, ◌∙◌}
use Rattle.std.specs.FinMap.{from_sorted, is_sorted}
use Rattle.orc_path.specs.Order.{path_cmp}
use Rattle.orc_refs.specs.declared.backs.RackList.{RackList}
use Rattle.orc_refs.specs.declared.rack.Rack.{Rack}
use Rattle.orc_refs.specs.inside.Plans.{with_rows}
use Rattle.orc_refs.specs.inside.Shelves.{AreFull, HaveRows, list_racks, rows_in, rows_on}
use Rattle.orc_refs.proofs.PartLaws.{All-values, flat-values}
use Rattle.orc_refs.proofs.RowLaws.{BackRows}
use Rattle.orc_refs.proofs.backs.Backs.with_rows.Goals as goal

pub put_rows-requires-clause-sorted : goal.put_rows-requires-clause-sorted
put_rows-requires-clause-sorted g c =
    let racks_are : c.as_slice.result.now ≡ list_racks c.self.inside.list = c.as_slice.ensures.value ∙ ap (λ (l : RackList). l.racks.items) c.deref.ensures in
    let same : rows_in c.in_ok-racks.racks.items ≡ rows_in c.as_slice.result.now = flat-values (λ (rack : Rack). rows_on rack.shelves.items) c.in_ok-racks.racks.items c.as_slice.result.now c.in_ok-racks.ensures in
    subst (λ (r : BackRows). is_sorted path_cmp r ≡ true) (sym (same ∙ ap rows_in racks_are)) c.self.invariant.sorted

pub put_rows-requires-clause-full : goal.put_rows-requires-clause-full
put_rows-requires-clause-full g c =
    let racks_are : c.as_slice.result.now ≡ list_racks c.self.inside.list = c.as_slice.ensures.value ∙ ap (λ (l : RackList). l.racks.items) c.deref.ensures in
    All-values (λ (rack : Rack). HaveRows rack.shelves.items) c.in_ok-racks.racks.items c.as_slice.result.now c.in_ok-racks.ensures (subst AreFull (sym racks_are) c.self.invariant.full)

pub returns-clause-put : goal.returns-clause-put
returns-clause-put g c =
    let racks_are : c.as_slice.result.now ≡ list_racks c.self.inside.list = c.as_slice.ensures.value ∙ ap (λ (l : RackList). l.racks.items) c.deref.ensures in
    let same : rows_in c.in_ok-racks.racks.items ≡ rows_in c.as_slice.result.now = flat-values (λ (rack : Rack). rows_on rack.shelves.items) c.in_ok-racks.racks.items c.as_slice.result.now c.in_ok-racks.ensures in
    ap (λ (l : RackList). from_sorted {R = path_cmp} (rows_in l.racks.items)) c.in_ok-new.ensures.ok
    ∙ c.in_ok-put_rows.ensures.put
    ∙ ap (λ (r : BackRows). with_rows c.args.rows.items (from_sorted r)) (same ∙ ap rows_in racks_are ∙ c.self.view_is)
