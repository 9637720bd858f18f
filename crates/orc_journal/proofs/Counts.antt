-- How many bytes entries have.
use Rattle.std.specs.Prelude.{◌≡◌, ℕ, ◌+◌, ◌*◌, List, ◌∷◌, ◌++◌, length, take, drop}
use Rattle.std.specs.Int.{w16, w32, w64, to_be_bytes}
use Rattle.std.specs.List.{flat_map}
use Rattle.std.proofs.Common.{sym, ap, ◌∙◌, arith, length-append, take-append-drop}
use Rattle.std.proofs.lemmas.List.Concat.{flat_map-append}
use Rattle.orc_call.specs.declared.call.Call.{Call}
use Rattle.orc_call.specs.Encoding.{call_bytes}
use Rattle.orc_journal.specs.Entries.{payload, devices_bytes}
use Rattle.orc_journal.specs.Journals.{gated}
use Rattle.orc_journal.specs.declared.entry.Entry.TheVariants.{Intent}
use Rattle.orc_journal.specs.declared.gate.TheConstants.{OPEN}
use Rattle.orc_journal.proofs.Devices.{length_numbers}

-- a row of values in two halves
pub length_halves : {X : Type 0} (f : X → List ℕ) (xs : List X) (i : ℕ)
    → length (flat_map f xs) ≡ length (flat_map f (take i xs)) + length (flat_map f (drop i xs))
length_halves {X} f xs i =
    ap (λ (l : List X). length (flat_map f l)) (sym (take-append-drop i xs))
    ∙ ap length (flat_map-append f (take i xs) (drop i xs))
    ∙ length-append (flat_map f (take i xs)) (flat_map f (drop i xs))

pub length_intent : (t : ℕ) (call : Call) (devices : List ℕ)
    → length (gated (Intent t call devices)) ≡ length (call_bytes call) + 16 + 2 * length devices
length_intent t call devices =
    let number = to_be_bytes w64 t in
    let said = payload (Intent t call devices) in
    let front = OPEN ∷ to_be_bytes w32 (length said) in
    let count = to_be_bytes w16 (length devices) in
    let numbers = flat_map (to_be_bytes w16) devices in
    omega (
      arith,
      length-append front said,
      length-append (number ++ call_bytes call) (devices_bytes devices),
      length-append number (call_bytes call),
      length-append count numbers,
      length_numbers devices,
    )
