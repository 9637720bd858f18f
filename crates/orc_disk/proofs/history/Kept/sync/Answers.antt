use Rattle.std.proofs.Common.{arith, refl, ap}
use Rattle.orc_disk.specs.History.{History}
use Rattle.orc_disk.proofs.KeptLemmas.{IsStored-Sync, HasRoom-more, changed-view}
use Rattle.orc_disk.proofs.history.Kept.sync.Goals as goal

pub invariant_of-self : goal.invariant_of-self
invariant_of-self c =
    let room = c.self.invariant.1 in
    let call = c.push_within.ensures in (
      (IsStored-Sync _ _ _ _ _ c.self.invariant.0 call.items).0,
      HasRoom-more _ _ _ _ _ _ _ 0 room (omega (arith, c.requires.room, ap (λ (h : History). h.room) c.self.view_is)) (omega arith) (omega arith) (omega arith) (omega arith) call.len call.capacity,
    )

pub returns : goal.returns
returns c = changed-view _ _ _ 64 _ _ c.self.view_is (IsStored-Sync _ _ _ _ _ c.self.invariant.0 c.push_within.ensures.items).1 refl refl refl
