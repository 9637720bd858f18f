-- The numbers from 0 on that pass a test, as those of the devices that a call touches.
use Rattle.std.proofs.Common.{◌≡◌, ℕ, ◌+◌, ◌<◌, ◌^◌, Bool, List, All, length, sym, ap, subst, ◌∙◌, arith}
use Rattle.std.specs.List.{filter, range_with_len}
use Rattle.std.specs.List.Sorted.{IsStrictlyIncreasing}
use Rattle.std.specs.Ordering.{nat_cmp}
use Rattle.std.proofs.lemmas.List.{length-map}
use Rattle.std.proofs.lemmas.List.Elements.{All-from_get_or, All-filter}
use Rattle.std.proofs.lemmas.List.FromFn.{length-range_with_len, get_or-range_with_len}
use Rattle.std.proofs.lemmas.List.Kept.{IsStrictlySortedBy-filter}
use Rattle.std.proofs.lemmas.List.Sums.{length-filter, count_by-le-length}
use Rattle.std.proofs.lemmas.Map.Keys.{sorted_from_strictly_increasing}
use Rattle.orc_journal.specs.Entries.{AreDevices}
use Rattle.orc_call.specs.declared.call.Call.{Call}
use Rattle.orc_datastore.specs.Next.{expanded_call, expanded_to}
use Rattle.orc_datastore.specs.Touched.{is_touched_among, touched_devices}
use Rattle.orc_decls.specs.Declarations.{AreDecls}
use Rattle.orc_decls.specs.declared.declarations.Decls.{Decls}
use Rattle.orc_decls.specs.declared.declarations.Device.{Device}
use Rattle.orc_datastore.specs.States.{Datastore}

below : (n : ℕ) → n < 2 ^ 16 → All (λ device. device < 2 ^ 16) (range_with_len 0 n)
below n few =
    All-from_get_or (λ device. device < 2 ^ 16) (range_with_len 0 n) 0
    (λ i within. let lt : i < n = omega (arith, length-range_with_len 0 n) in omega (arith, get_or-range_with_len 0 n i 0 lt))

rises : (n : ℕ) → IsStrictlyIncreasing (range_with_len 0 n)
rises n = λ k within.
    let lt : k + 1 < n = omega (arith, length-range_with_len 0 n) in
    let one : k < n = omega arith in
    omega (arith, get_or-range_with_len 0 n k 0 one, get_or-range_with_len 0 n (k + 1) 0 lt)

pub are_devices : (p : ℕ → Bool) (n : ℕ) → n < 2 ^ 16 → AreDevices (filter p (range_with_len 0 n))
are_devices p n few = record {
  count = omega (arith, length-filter p (range_with_len 0 n), count_by-le-length p (range_with_len 0 n), length-range_with_len 0 n);
  numbers = All-filter p (λ device. device < 2 ^ 16) (range_with_len 0 n) (below n few);
  ascending = IsStrictlySortedBy-filter nat_cmp p (range_with_len 0 n) (sorted_from_strictly_increasing (range_with_len 0 n) (rises n));
}

-- the devices that a call touches are such numbers
pub touched_are_devices : (decls : Decls) (state : Datastore) (call : Call) (devices : List ℕ) → AreDecls decls → devices ≡ touched_devices decls state call → AreDevices devices
touched_are_devices decls state call devices are is =
    let count : length decls.names ≡ length decls.devices = ap length are.named ∙ length-map decls.devices (λ (d : Device). d.name) in
    subst AreDevices (sym is) (are_devices (is_touched_among decls.names state (expanded_to (expanded_call decls state call))) (length decls.names) (omega (arith, count, are.few)))
