-- The encoding that bytes begin with, and the first field that is bad.
use Rattle.std.proofs.Common.{◌≡◌, ℕ, ◌-◌, List, [], ◌++◌, length, take, drop, sym, ap, subst, ◌∙◌, arith}
use Rattle.std.proofs.lemmas.List.{take_at, take-append-drop, length-append, length-drop, append-nil, append_cancel_left}
use Rattle.orc_call.specs.declared.call.Call.{Call}
use Rattle.orc_call.specs.Fields.{spelled}
use Rattle.orc_call.specs.Encoding.{IsCall, HasEncoding, IsBadFieldAt, call_bytes, call_fields}
use Rattle.orc_call.specs.inside.Reading.{Grammar, BeginsWith, IsWhole, IsStuck, any}
use Rattle.orc_call.proofs.Sequels.{whole_begins}
use Rattle.orc_call.proofs.ActionKinds.{call_determined}

abbrev calls : Grammar Call
calls = any call_fields

-- what stands before the rest
front_len : (bytes front rest : List ℕ) → bytes ≡ front ++ rest → length bytes - length rest ≡ length front
front_len bytes front rest e = omega (arith, ap length e, length-append front rest)

front_is : (bytes front rest : List ℕ) → bytes ≡ front ++ rest → take (length bytes - length rest) bytes ≡ front
front_is bytes front rest e = ap (take (length bytes - length rest)) e ∙ take_at front rest (length bytes - length rest) (sym (front_len bytes front rest e))

pub encoding_found : (bytes : List ℕ) (call : Call) (rest : List ℕ) → IsWhole calls bytes call rest → HasEncoding bytes call (length bytes - length rest)
encoding_found bytes call rest w = record {
  lawful = w.lawful;
  within = omega arith;
  spells = front_is bytes (call_bytes call) rest w.parts;
}

stands : (bytes : List ℕ) (call : Call) (rest : List ℕ) → IsCall call → bytes ≡ call_bytes call ++ rest → IsWhole calls bytes call rest
stands bytes call rest lawful parts = record { has = tt; lawful = lawful; parts = parts }

pub encoding_again : (bytes : List ℕ) (read call : Call) (rest after : List ℕ) → IsWhole calls bytes read after → IsCall call → bytes ≡ call_bytes call ++ rest → (read ≡ call) × (length bytes - length after ≡ length (call_bytes call))
encoding_again bytes read call rest after w lawful parts =
    let same : read ≡ call = call_determined.same bytes read call after rest w (stands bytes call rest lawful parts) in
    (same, front_len bytes (call_bytes read) after w.parts ∙ ap (λ c. length (call_bytes c)) same)

pub encoding_not_stuck : (bytes : List ℕ) (left : ℕ) (call : Call) (rest : List ℕ) → IsStuck calls bytes left → IsCall call → bytes ≡ call_bytes call ++ rest → ⊥
encoding_not_stuck bytes left call rest h lawful parts =
    let front = whole_begins calls bytes call rest (stands bytes call rest lawful parts) in
    let none = (h.no_further call (length (call_fields call)) rest front).1 in
    omega (arith, none)

pub bad_at : (bytes : List ℕ) (left : ℕ) → IsStuck calls bytes left → IsBadFieldAt bytes (length bytes - left)
bad_at bytes left h = record {
  begins =
      let b = h.begins in
      let at : length bytes - length b.2 ≡ length bytes - left = ap (λ n. length bytes - n) b.4 in (
        b.0,
        b.1,
        record {
          within = omega arith;
          lawful = b.3.lawful;
          spells = subst (λ n. take n bytes ≡ spelled (take b.1 (call_fields b.0))) at (front_is bytes (spelled (take b.1 (call_fields b.0))) b.2 b.3.parts);
        },
      );
  no_further = λ call count other front.
      let there : BeginsWith calls bytes call count (drop other bytes) = record {
        has = tt;
        lawful = front.lawful;
        parts = sym (take-append-drop other bytes) ∙ ap (λ t. t ++ drop other bytes) front.spells;
      } in
      let bound = h.no_further call count (drop other bytes) there in
      (omega (arith, bound.0, length-drop other bytes, front.within), bound.1);
}

-- no encoding begins another
pub encoding_alone : (call other : Call) (rest : List ℕ) → IsCall call → IsCall other → call_bytes other ≡ call_bytes call ++ rest → (other ≡ call) × (rest ≡ [])
encoding_alone call other rest lawful lawful' e =
    let whole : IsWhole calls (call_bytes other) other [] = stands (call_bytes other) other [] lawful' (sym (append-nil (call_bytes other))) in
    let front : IsWhole calls (call_bytes other) call rest = stands (call_bytes other) call rest lawful e in
    let same : other ≡ call = call_determined.same (call_bytes other) other call [] rest whole front in
    (same, append_cancel_left (call_bytes call) rest [] (sym e ∙ ap call_bytes same ∙ sym (append-nil (call_bytes call))))
