-- The bytes of a text, and what the machine answers to them.
use Rattle.std.proofs.Common.{◌≡◌, ℕ, List, ◌++◌, true, Result, Ok, Err, MatchResult, IfOk, IfErr, length, refl, sym, ap, ◌∙◌, inl, inr, ◌⊎◌}
use Rattle.std.specs.Str.{chars, IsUtf8, encode_utf8_all, all_scalars}
use Rattle.std.proofs.lemmas.Str.{chars-encodes}
use Rattle.orc_yang.specs.declared.fault.YangFault.{YangFault}
use Rattle.orc_yang.specs.declared.fault.YangFault.TheVariants.{NotUtf8, BadToken, BadEscape, OpenString, OpenBlock, Depth, Memory}
use Rattle.orc_yang.specs.declared.statement.Stmt.{Stmt}
use Rattle.orc_yang.specs.Text.{placed, IsTextOf}
use Rattle.orc_yang.specs.Machine.{run, start}
use Rattle.orc_yang.specs.Parsing.{FailsWith}
use Rattle.orc_yang.proofs.Complete.{complete}
use Rattle.orc_yang.proofs.Sound.{sound}
use Rattle.orc_yang.specs.Faults.{IsFault, IsUnclosed}
use Rattle.orc_yang.proofs.Reading.{spelled}
use Rattle.orc_yang.proofs.Openings.{Found}
use Rattle.orc_yang.proofs.FaultRuns.{fault_of}
use Rattle.orc_yang.proofs.Unclosed.{unclosed}
use Rattle.orc_yang.specs.inside.Wanting.{RunMayTake}
use Rattle.orc_yang.proofs.Wanting.{keyword_ahead}

-- the answer to bytes that are UTF-8
abbrev pub answer : List ℕ → ℕ → Result (List Stmt) YangFault
answer bytes end = run (placed 0 1 (chars bytes)) start end

pub scalars_of : (bytes : List ℕ) → IsUtf8 bytes → all_scalars (chars bytes) ≡ true
scalars_of bytes u = ap all_scalars (ap chars (sym u.1.1) ∙ chars-encodes u.0 u.1.0) ∙ u.1.0

pub found : (bytes : List ℕ) (end : ℕ) (list : List Stmt) → IsUtf8 bytes → answer bytes end ≡ Ok list → IsTextOf bytes list
found bytes end list u e = (chars bytes, scalars_of bytes u, spelled bytes u, sound end e)

pub utf8_of : (bytes : List ℕ) (list : List Stmt) → IsTextOf bytes list → IsUtf8 bytes
utf8_of bytes list s = (s.0, (s.1, s.2))

pub answered : (bytes : List ℕ) (end : ℕ) (list : List Stmt) → IsTextOf bytes list → answer bytes end ≡ Ok list
answered bytes end list s = ap (λ cs. run (placed 0 1 cs) start end) (ap chars (sym s.2) ∙ chars-encodes s.0 s.1) ∙ complete end s.3

memory : (fault : YangFault) (list : List Stmt) (a : Result (List Stmt) YangFault) → FailsWith a fault → a ≡ Ok list → fault ≡ Memory
memory Memory list a h e = refl
memory (NotUtf8 at) list a h e = cc
memory (BadToken at) list a h e = cc
memory (BadEscape at) list a h e = cc
memory (OpenString at) list a h e = cc
memory (OpenBlock at) list a h e = cc
memory (Depth at) list a h e = cc

pub only : {V : Type 0} (items : V → List Stmt) (r : Result V YangFault) (a : Result (List Stmt) YangFault) (list : List Stmt) → MatchResult r (λ v. a ≡ Ok (items v)) (FailsWith a) → a ≡ Ok list
    → MatchResult r (λ v. items v ≡ list) (λ fault. fault ≡ Memory)
only items (Ok v) a list h e = let q : items v ≡ list = cc in q
only items (Err fault) a list h e = memory fault list a h e

pub found_all : {V : Type 0} (items : V → List Stmt) (r : Result V YangFault) (bytes : List ℕ) (end : ℕ) → IsUtf8 bytes → MatchResult r (λ v. answer bytes end ≡ Ok (items v)) (FailsWith (answer bytes end))
    → IfOk r (λ v. IsTextOf bytes (items v))
found_all items (Ok v) bytes end u h = found bytes end (items v) u h
found_all items (Err fault) bytes end u h = tt

-- a fault of bytes that are UTF-8
pub fault_in : (bytes : List ℕ) → IsUtf8 bytes → (f : YangFault) → answer bytes (length bytes) ≡ Err f → (text : List ℕ) × (all_scalars text ≡ true) × (encode_utf8_all text ≡ bytes) × Found text f
fault_in bytes u f e = (chars bytes, scalars_of bytes u, spelled bytes u, fault_of (chars bytes) (length bytes) (ap length (sym (spelled bytes u))) f e)

-- reading these bytes may take memory
abbrev pub Wanting : List ℕ → Type 0
Wanting bytes = RunMayTake (placed 0 1 (chars bytes)) start

fault_is : (bytes : List ℕ) → IsUtf8 bytes → (f : YangFault) → (f ≡ Memory → Wanting bytes) → FailsWith (answer bytes (length bytes)) f → IsFault bytes f
fault_is bytes u Memory w h = (chars bytes, scalars_of bytes u, spelled bytes u, keyword_ahead (placed 0 1 (chars bytes)) (w refl))
fault_is bytes u (NotUtf8 at) w h = absurd (fault_in bytes u (NotUtf8 at) h).3
fault_is bytes u (BadToken at) w h = fault_in bytes u (BadToken at) h
fault_is bytes u (BadEscape at) w h = fault_in bytes u (BadEscape at) h
fault_is bytes u (OpenString at) w h = fault_in bytes u (OpenString at) h
fault_is bytes u (OpenBlock at) w h = fault_in bytes u (OpenBlock at) h
fault_is bytes u (Depth at) w h = fault_in bytes u (Depth at) h

pub faults : {V : Type 0} (items : V → List Stmt) (r : Result V YangFault) (bytes : List ℕ) → IsUtf8 bytes → (r ≡ Err Memory → Wanting bytes) → MatchResult r (λ v. answer bytes (length bytes) ≡ Ok (items v)) (FailsWith (answer bytes (length bytes)))
    → IfErr r (IsFault bytes)
faults items (Ok v) bytes u w h = tt
faults items (Err f) bytes u w h = fault_is bytes u f (λ q. w (ap Err q)) h

open_or_memory : (o : ℕ) (a : Result (List Stmt) YangFault) → a ≡ Err (OpenString o) → (f : YangFault) → FailsWith a f → (f ≡ OpenString o) ⊎ (f ≡ Memory)
open_or_memory o a e Memory h = inr refl
open_or_memory o a e (NotUtf8 at) h = cc
open_or_memory o a e (BadToken at) h = cc
open_or_memory o a e (BadEscape at) h = cc
open_or_memory o a e (OpenString at) h = inl (let q : OpenString at ≡ OpenString o = cc in q)
open_or_memory o a e (OpenBlock at) h = cc
open_or_memory o a e (Depth at) h = cc

never : {V : Type 0} (items : V → List Stmt) (v : V) (o : ℕ) (a : Result (List Stmt) YangFault) → a ≡ Err (OpenString o) → a ≡ Ok (items v) → ⊥
never items v o a e h = cc

-- a string or comment without end, in bytes
pub open_in : {V : Type 0} (items : V → List Stmt) (r : Result V YangFault) (bytes : List ℕ) (end : ℕ) → MatchResult r (λ v. answer bytes end ≡ Ok (items v)) (FailsWith (answer bytes end))
    → (front rest : List ℕ) → all_scalars (front ++ rest) ≡ true → encode_utf8_all (front ++ rest) ≡ bytes → IsUnclosed front rest
    → MatchResult r (λ v. ⊥) (λ f. (f ≡ OpenString (length (encode_utf8_all front))) ⊎ (f ≡ Memory))
open_in items (Ok v) bytes end h front rest q q' u =
    never items v (length (encode_utf8_all front)) (answer bytes end) (ap (λ cs. run (placed 0 1 cs) start end) (ap chars (sym q') ∙ chars-encodes (front ++ rest) q) ∙ unclosed front rest end u) h
open_in items (Err f) bytes end h front rest q q' u =
    open_or_memory (length (encode_utf8_all front)) (answer bytes end) (ap (λ cs. run (placed 0 1 cs) start end) (ap chars (sym q') ∙ chars-encodes (front ++ rest) q) ∙ unclosed front rest end u) f h
