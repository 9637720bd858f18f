-- The session of a link: a new one has a number, and no other operation than its opening changes it.
use Rattle.std.proofs.Common.{eqb-true, ℕ, ◌+◌, ◌≡◌, Bool, true, false, nat_eq, nat_lt, refl, cond, arith}
use Rattle.orc_device.specs.declared.op.Op.{Op}
use Rattle.orc_device.specs.Nodes.{NodeState, next_session}
use Rattle.orc_device.specs.Links.{Way, way_session, session_after}
use Rattle.orc_device.specs.Links.Way.{Done, Denied, Stranded, Before, After, NoMemory}

pub next_is_one : (last : ℕ) → nat_eq (next_session last) 0 ≡ false
next_is_one last = go (nat_lt last 4294967295)
  where
    positive : (b : Bool) → nat_eq (last + 1) 0 ≡ b → b ≡ false
    positive true e = absurd (omega (arith, eqb-true (last + 1) 0 e))
    positive false e = refl

    go : (b : Bool) → nat_eq (cond b (last + 1) 1) 0 ≡ false
    go true = positive (nat_eq (last + 1) 0) refl
    go false = refl

pub stays : (n : NodeState) (s : ℕ) (op : Op) (way : Way) → session_after n s op ≡ s → way_session n s op way ≡ s
stays n s op Done e = e
stays n s op (Denied tag) e = refl
stays n s op Stranded e = refl
stays n s op Before e = refl
stays n s op After e = e
stays n s op NoMemory e = refl
