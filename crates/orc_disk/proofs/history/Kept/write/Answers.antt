use Rattle.std.proofs.Common.{arith, refl, ap}
use Rattle.orc_disk.specs.History.{History}
use Rattle.orc_disk.proofs.KeptLemmas.{IsStored-Write, HasRoom-more, changed-view}
use Rattle.orc_disk.proofs.history.Kept.write.Goals as goal

pub invariant_of-self : goal.invariant_of-self
invariant_of-self c =
    let room = c.self.invariant.1 in
    let file = c.put_within.ensures in
    let store = c.extend_within.ensures in
    let call = c.push_within.ensures in (
      (IsStored-Write _ _ _ _ _ _ _ _ _ c.self.invariant.0 file.items call.items store.items).0,
      HasRoom-more _ _ _ _ _ _ _ _ room (omega (arith, c.requires.room, ap (λ (h : History). h.room) c.self.view_is)) file.len file.capacity store.len store.capacity call.len call.capacity,
    )

pub returns : goal.returns
returns c = changed-view _ _ _ _ _ _ c.self.view_is (IsStored-Write _ _ _ _ _ _ _ _ _ c.self.invariant.0 c.put_within.ensures.items c.push_within.ensures.items c.extend_within.ensures.items).1 refl refl refl
