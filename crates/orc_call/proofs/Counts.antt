-- How many bytes the parts of a call have.
use Rattle.std.specs.Prelude.{◌≡◌, ℕ, ◌+◌, List, ◌++◌, length}
use Rattle.std.specs.declared.option.Option.TheVariants.{None}
use Rattle.std.specs.Int.{w16, w32, w64, to_be_bytes}
use Rattle.std.specs.List.{flat_map}
use Rattle.std.proofs.Common.{ap, arith, length-append}
use Rattle.orc_call.specs.declared.call.Put.{Put}
use Rattle.orc_call.specs.declared.call.DevicePut.{DevicePut}
use Rattle.orc_call.specs.declared.call.Call.{Call}
use Rattle.orc_call.specs.Fields.{spelled, text_bytes}
use Rattle.orc_call.specs.Puts.{put_bytes, device_put_bytes}
use Rattle.orc_call.specs.Encoding.{puts_fields, device_put_fields, action_fields, body_fields, literal_fields, call_bytes}
use Rattle.orc_call.proofs.Written.{spelled_puts, spelled_device_puts, spelled_actions}

-- three parts, one after another
length_three : (a b c : List ℕ) → length (a ++ (b ++ c)) ≡ length a + length b + length c
length_three a b c = omega (arith, length-append a (b ++ c), length-append b c)

pub length_body : (service : List ℕ) (puts : List Put)
    → length (spelled (body_fields service puts)) ≡ length (text_bytes service) + 4 + length (flat_map put_bytes puts)
length_body service puts =
    let count = to_be_bytes w32 (length puts) in
    omega (arith, length_three (text_bytes service) count (spelled (puts_fields None puts)), ap length (spelled_puts None puts))

pub length_literal : (name : List ℕ) (writes : List DevicePut)
    → length (spelled (literal_fields name writes)) ≡ length (text_bytes name) + 4 + length (flat_map device_put_bytes writes)
length_literal name writes =
    let count = to_be_bytes w32 (length writes) in
    let fields = spelled (flat_map device_put_fields writes) in
    omega (arith, length_three (text_bytes name) count fields, ap length (spelled_device_puts writes))

pub length_call : (call : Call)
    → length (call_bytes call)
    ≡ length (text_bytes call.caller) + 10 + length (flat_map (λ action. spelled (action_fields action)) call.actions)
length_call call =
    let actions = spelled (flat_map action_fields call.actions) in
    let front = to_be_bytes w64 call.number in
    let count = to_be_bytes w16 (length call.actions) in
    omega (arith, length_three (text_bytes call.caller) front (count ++ actions), length-append count actions, ap length (spelled_actions call.actions))
