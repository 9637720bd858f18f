-- What an intent says: a number, a call and devices.
use Rattle.std.proofs.Common.{◌≡◌, ℕ, ◌-◌, List, ◌++◌, length, take, drop, refl, sym, ap, ◌∙◌, arith}
use Rattle.std.specs.Int.{w64, to_be_bytes}
use Rattle.std.proofs.lemmas.List.{append_cancel_left, take-append-drop, take_rest}
use Rattle.orc_call.specs.declared.call.Call.{Call}
use Rattle.orc_call.specs.Encoding.{IsCall, HasEncoding, call_bytes, call_fields}
use Rattle.orc_call.specs.inside.Reading.{IsWhole, any}
use Rattle.orc_call.proofs.Singles.{same_8}
use Rattle.orc_call.proofs.ActionKinds.{call_determined}
use Rattle.orc_journal.specs.Entries.{devices_bytes, AreDevices}
use Rattle.orc_journal.specs.inside.Fronts.{HasNumber, HasCall, HasNoCall, HasNoDevices, Says, SaysNothing}
use Rattle.orc_journal.specs.declared.entry.Entry.{Entry}
use Rattle.orc_journal.specs.declared.entry.Entry.TheVariants.{Intent, Decide, Abort, Settled}
use Rattle.orc_journal.proofs.Devices.{same_devices}

-- numbers at one place are one, and so is what follows
pub one_number : (bytes : List ℕ) (t u : ℕ) (r s : List ℕ) → HasNumber bytes t r → HasNumber bytes u s → (t ≡ u) × (r ≡ s)
one_number bytes t u r s a b =
    let e : to_be_bytes w64 t ++ r ≡ to_be_bytes w64 u ++ s = sym a.parts ∙ b.parts in
    (same_8 t u r s a.fits b.fits e, ap (drop 8) e)

whole_call : (bytes : List ℕ) (call : Call) (rest : List ℕ) → HasCall bytes call rest → IsWhole (any call_fields) bytes call rest
whole_call bytes call rest has = record { has = tt; lawful = has.lawful; parts = has.parts }

-- so are calls
pub one_call : (bytes : List ℕ) (call other : Call) (r s : List ℕ) → HasCall bytes call r → HasCall bytes other s → (call ≡ other) × (r ≡ s)
one_call bytes call other r s a b =
    let same : call ≡ other = call_determined.same bytes call other r s (whole_call bytes call r a) (whole_call bytes other s b) in
    let e : call_bytes call ++ r ≡ call_bytes call ++ s = sym a.parts ∙ b.parts ∙ ap (λ c. call_bytes c ++ s) (sym same) in
    (same, append_cancel_left (call_bytes call) r s e)

pub call_found : (bytes : List ℕ) (call : Call) (len : ℕ) → HasEncoding bytes call len → HasCall bytes call (take (length bytes - len) (drop len bytes))
call_found bytes call len h = record {
  lawful = h.lawful;
  parts = sym (take-append-drop len bytes) ∙ ap (λ t. t ++ drop len bytes) h.spells ∙ ap (λ t. call_bytes call ++ t) (sym (take_rest bytes len));
}

-- the parts of what an intent says
record Intended (says : List ℕ) : Type 0 where
  t : ℕ
  call : Call
  devices : List ℕ
  number : HasNumber says t (call_bytes call ++ devices_bytes devices)
  lawful : IsCall call
  are_devices : AreDevices devices

intended : (says : List ℕ) (entry : Entry) → Says 1 says entry → Intended says
intended says (Intent t call devices) h = record {
  t = t;
  call = call;
  devices = devices;
  number = record { fits = h.fields.0; parts = h.parts };
  lawful = h.fields.1;
  are_devices = h.fields.2;
}
intended says (Decide t) h = absurd (omega (arith, h.of_kind))
intended says (Abort t) h = absurd (omega (arith, h.of_kind))
intended says (Settled t) h = absurd (omega (arith, h.of_kind))

pub no_call : (says : List ℕ) (t : ℕ) (r : List ℕ) → HasNumber says t r → HasNoCall r → SaysNothing 1 says
no_call says t r a none entry h =
    let i = intended says entry h in
    none i.call (devices_bytes i.devices) (record { lawful = i.lawful; parts = (one_number says t i.t r _ a i.number).1 })

pub no_devices : (says : List ℕ) (t : ℕ) (r : List ℕ) (call : Call) (s : List ℕ) → HasNumber says t r → HasCall r call s → HasNoDevices s → SaysNothing 1 says
no_devices says t r call s a b none entry h =
    let i = intended says entry h in
    let here : HasCall r i.call (devices_bytes i.devices) = record { lawful = i.lawful; parts = (one_number says t i.t r _ a i.number).1 } in
    none i.devices (record { lawful = i.are_devices; parts = (one_call r call i.call s _ b here).1 })

-- intents that say the same are one
pub one_intent : (says : List ℕ) (t u : ℕ) (call other : Call) (devices others : List ℕ) → Says 1 says (Intent t call devices) → Says 1 says (Intent u other others) → Intent t call devices ≡ Intent u other others
unfolding intended
one_intent says t u call other devices others h k =
    let i = intended says (Intent t call devices) h in
    let j = intended says (Intent u other others) k in
    let n = one_number says t u _ _ i.number j.number in
    let here : HasCall (call_bytes call ++ devices_bytes devices) call (devices_bytes devices) = record { lawful = i.lawful; parts = refl } in
    let there : HasCall (call_bytes call ++ devices_bytes devices) other (devices_bytes others) = record { lawful = j.lawful; parts = n.1 } in
    let c = one_call _ call other _ _ here there in
    let d : devices ≡ others = same_devices devices others i.are_devices j.are_devices c.1 in
    let first = n.0 in
    let second = c.0 in
    cc
