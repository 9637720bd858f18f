use Rattle.std.proofs.Common.{◌≡◌, ℕ, List, [], ◌∷◌, ◌++◌, Ok, Err, drop, get_or, sym, ap, subst}
use Rattle.orc_journal.specs.declared.entry.Entry.TheVariants as entry
use Rattle.orc_hub.specs.Mends.{SettlesOne}
use Rattle.orc_hub.specs.Mends.SettlesAll.{fails, none_left, one_less}
use Rattle.orc_hub_parts.specs.declared.log.Unsettled.{Unsettled}
use Rattle.orc_hub.proofs.Settlings.{begins, ends}
use Rattle.orc_hub.proofs.hub.Hub.settle_all.Goals as goal

pub loop-alloc-preserved : goal.loop-alloc-preserved
loop-alloc-preserved g c =
    let hub = c.loop-alloc.self in
    let first = c.index-as_slice-0.result in
    let there = subst (λ (l : List Unsettled). first ≡ get_or l 0 first) c.as_slice.ensures c.index-as_slice-0.is in
    let begun = begins hub.log.unsettled first c.is_empty.result c.is_empty.ensures c.loop-alloc-test.true there in
    let number = sym (ap (λ (x : Unsettled). x.t) c.index-as_slice-0.is) in
    let settled = subst (λ (t : ℕ). SettlesOne g.D.Disk.disk hub t (Ok tt) c.settle_one.new.self) number c.in-Ok.ensures in
    let ready = c.loop-alloc.invariant.0 in (
      (ready.0, ready.1 ++ entry.Settled first.t ∷ [], settled.0.appended.holds ready.0 ready.1 ready.2),
      λ result new later. c.loop-alloc.invariant.1 result new (one_less hub c.settle_one.new.self new result first (drop 1 hub.log.unsettled) begun settled later),
    )

pub returns-in-Err : goal.returns-in-Err
returns-in-Err g c =
    let hub = c.loop-alloc.self in
    let first = c.index-as_slice-0.result in
    let there = subst (λ (l : List Unsettled). first ≡ get_or l 0 first) c.as_slice.ensures c.index-as_slice-0.is in
    let begun = begins hub.log.unsettled first c.is_empty.result c.is_empty.ensures c.loop-alloc-test.true there in
    let number = sym (ap (λ (x : Unsettled). x.t) c.index-as_slice-0.is) in
    c.loop-alloc.invariant.1 (Err c.in-Err.fault) c.settle_one.new.self
    (fails hub c.settle_one.new.self c.in-Err.fault first (drop 1 hub.log.unsettled) begun
    (subst (λ (t : ℕ). SettlesOne g.D.Disk.disk hub t (Err c.in-Err.fault) c.settle_one.new.self) number c.in-Err.ensures))

pub returns : goal.returns
returns g c =
    c.loop-alloc.invariant.1 (Ok tt) c.loop-alloc.self
    (none_left c.loop-alloc.self (ends c.loop-alloc.self.log.unsettled c.is_empty.result c.is_empty.ensures c.loop-alloc-test.false))
