-- Reading one value after another.
use Rattle.std.proofs.Common.{◌≡◌, ℕ, zero, suc, ◌<◌, ◌≤◌, List, ◌++◌, length, Result, Err, Bor, refl, sym, ap, subst, ◌∙◌, arith}
use Rattle.std.proofs.lemmas.List.{append-nil}
use Rattle.orc_call.specs.Fields.{Field, field_bytes, IsLawful}
use Rattle.orc_call.specs.declared.fields.Stuck.{Stuck}
use Rattle.orc_call.specs.declared.fields.Stuck.TheVariants.{Bad, Memory}
use Rattle.std.specs.Result.{IsErrAnd}
use Rattle.std.proofs.lemmas.Result.{err_from_is_err_and}
use Rattle.orc_call.specs.inside.Reading.{Grammar, BeginsWith, IsStuck, ReadFails, ReadsFront, one}

-- no lawful value of the field begins the bytes
pub one_stuck : {X : Type 0} (field : X → Field) (bytes : List ℕ) (some : X) → ((x : X) (rest : List ℕ) → IsLawful (field x) → bytes ≡ field_bytes (field x) ++ rest → ⊥) → IsStuck (one field) bytes (length bytes)
one_stuck {X = X} field bytes some none = record {
  begins = (some, 0, bytes, record { has = tt; lawful = tt; parts = refl }, refl);
  no_further = λ x count rest. further x count rest;
}
  where
    further : (x : X) (count : ℕ) (rest : List ℕ) → BeginsWith (one field) bytes x count rest → (length bytes ≤ length rest) × (count < 1)
    further x zero rest b = (omega (arith, ap length b.parts), omega arith)
    further x (suc zero) rest b = absurd (none x rest b.lawful.0 (b.parts ∙ ap (λ t. t ++ rest) (append-nil (field_bytes (field x)))))
    further x (suc (suc count)) rest b = absurd (none x rest b.lawful.0 (b.parts ∙ ap (λ t. t ++ rest) (append-nil (field_bytes (field x)))))

pub one_fails : {X : Type 0} (field : X → Field) (bytes : List ℕ) (stuck : Stuck) (some : X) → stuck ≡ Bad (length bytes) → ((x : X) (rest : List ℕ) → IsLawful (field x) → bytes ≡ field_bytes (field x) ++ rest → ⊥) → ReadFails (one field) bytes stuck
one_fails field bytes stuck some is none = subst (ReadFails (one field) bytes) (sym is) (one_stuck field bytes some none)

-- a fault that is handed on
pub handed_on : {X : Type 0} (g : Grammar X) (bytes : List ℕ) (r : Result (X × Bor (List ℕ)) Stuck) (stuck : Stuck)
    → IsErrAnd r (λ y. y ≡ stuck) → ReadFails g bytes stuck → ReadsFront g bytes r
handed_on g bytes r stuck is h =
    let p = err_from_is_err_and r is in
    rw (p.1, p.2) h

-- memory that ran out, which is handed on
pub memory_on : {Y P : Type 0} (r : Result Y Stuck) (stuck : Stuck) → IsErrAnd r (λ y. y ≡ stuck) → (stuck ≡ Memory → P) → r ≡ Err Memory → P
memory_on r stuck is h memory =
    let p = err_from_is_err_and r is in
    let same : stuck ≡ Memory = cc in
    h same
