-- What bytes are parsed as, as one function.
use Rattle.std.proofs.Common.{◌≡◌, ◌≢◌, ℕ, zero, suc, ◌<◌, ◌≤◌, Bool, true, false, cond, List, [], ◌++◌, Result, Ok, Err, MatchResult, length, take, refl, sym, ap, ◌∙◌, subst, arith}
use Rattle.std.specs.Str.{chars, IsUtf8, is_utf8, IsValidUpTo}
use Rattle.std.specs.Str.Lossy.{utf8_valid_len, valid_len_up_to}
use Rattle.std.proofs.lemmas.Str.{IsUtf8-from_is_utf8, is_utf8-from_IsUtf8, chars-encodes}
use Rattle.std.proofs.lemmas.List.{take_all}
use Rattle.orc_yang.specs.declared.fault.YangFault.{YangFault}
use Rattle.orc_yang.specs.declared.fault.YangFault.TheVariants.{NotUtf8, BadToken, BadEscape, OpenString, OpenBlock, Depth, Memory}
use Rattle.orc_yang.specs.declared.statement.Stmt.{Stmt}
use Rattle.orc_yang.specs.Text.{placed, IsTextOf}
use Rattle.orc_yang.specs.Faults.{IsFault, byte_count}
use Rattle.orc_yang.specs.Laws.{GoesFirst, FollowsGrammar}
use Rattle.orc_yang.specs.Parsing.{statements_of, FailsWith}
use Rattle.orc_yang.specs.Machine.{run, start}
use Rattle.orc_yang.proofs.Spelling.{answer, found, utf8_of, answered, fault_in}
use Rattle.orc_yang.proofs.Unclosed.{unclosed}

-- a text is parsed as the machine answers
pub parsed_text : (bytes : List ℕ) → IsUtf8 bytes → statements_of bytes ≡ answer bytes (length bytes)
unfolding statements_of
parsed_text bytes u = ap (λ b. cond b (answer bytes (length bytes)) (Err (NotUtf8 (utf8_valid_len bytes)))) (is_utf8-from_IsUtf8 bytes u)

no_text : (bytes : List ℕ) (b : Bool) → is_utf8 bytes ≡ b → ¬ (IsUtf8 bytes) → b ≡ false
no_text bytes false e n = refl
no_text bytes true e n = absurd (n (IsUtf8-from_is_utf8 bytes e))

-- bytes that are no text are at fault where they cease to be one
pub parsed_bytes : (bytes : List ℕ) → ¬ (IsUtf8 bytes) → statements_of bytes ≡ Err (NotUtf8 (utf8_valid_len bytes))
unfolding statements_of
parsed_bytes bytes n =
    ap (λ b. cond b (answer bytes (length bytes)) (Err (NotUtf8 (utf8_valid_len bytes)))) (no_text bytes (is_utf8 bytes) refl n)

abbrev fails : YangFault → Result (List Stmt) YangFault
fails f = Err f

-- the longest prefix up to m that is a text
record Longest (bytes : List ℕ) (m n : ℕ) : Type 0 where
  pub front : IsUtf8 (take n bytes)
  pub longest : (k : ℕ) → n < k → k ≤ m → ¬ (IsUtf8 (take k bytes))
  pub within : n ≤ m

longest_more : (bytes : List ℕ) (m n : ℕ) (b : Bool) → is_utf8 (take (suc m) bytes) ≡ b → Longest bytes m n → Longest bytes (suc m) (cond b (suc m) n)
longest_more bytes m n true e l = record {
  front = IsUtf8-from_is_utf8 _ e;
  longest = λ k p q. absurd (omega (arith, p, q));
  within = omega arith;
}
longest_more bytes m n false e l = record {
  front = l.front;
  longest = λ k p q u.
      let other : ¬ (k ≡ suc m) = λ r.
      let v : is_utf8 (take (suc m) bytes) ≡ true = is_utf8-from_IsUtf8 _ (subst (λ j. IsUtf8 (take j bytes)) r u) in
      let w : true ≡ false = sym v ∙ e in
      cc in
      l.longest k p (omega (arith, q, other)) u;
  within = let w = l.within in omega (arith, w);
}

longest_to : (bytes : List ℕ) (m : ℕ) → Longest bytes m (valid_len_up_to bytes m)
longest_to bytes zero = record { front = ([], (refl, refl)); longest = λ k p q. absurd (omega (arith, p, q)); within = omega arith }
longest_to bytes (suc m) = longest_more bytes m (valid_len_up_to bytes m) (is_utf8 (take (suc m) bytes)) refl (longest_to bytes m)

-- bytes that are no text are one up to the length of their longest prefix that is
pub valid_up_to : (bytes : List ℕ) → ¬ (IsUtf8 bytes) → IsValidUpTo bytes (utf8_valid_len bytes)
unfolding utf8_valid_len
valid_up_to bytes no_text =
    let n = valid_len_up_to bytes (length bytes) in
    let l = longest_to bytes (length bytes) in
    let within = l.within in
    let short : ¬ (length bytes ≤ n) = λ q. no_text (subst IsUtf8 (take_all n bytes q) l.front) in
    record {
      short = omega (arith, within, short);
      front = l.front;
      longest = λ k p u.
          let near : ¬ (length bytes ≤ k) = λ q. no_text (subst IsUtf8 (take_all k bytes q) u) in
          l.longest k p (omega (arith, near)) u;
    }

-- what the machine finds in a text is a fault of its bytes
fault_of_text : (bytes : List ℕ) → IsUtf8 bytes → (f : YangFault) → answer bytes (length bytes) ≡ Err f → IsFault bytes f
fault_of_text bytes u Memory e = absurd (fault_in bytes u Memory e).3
fault_of_text bytes u (NotUtf8 at) e = absurd (fault_in bytes u (NotUtf8 at) e).3
fault_of_text bytes u (BadToken at) e = fault_in bytes u (BadToken at) e
fault_of_text bytes u (BadEscape at) e = fault_in bytes u (BadEscape at) e
fault_of_text bytes u (OpenString at) e = fault_in bytes u (OpenString at) e
fault_of_text bytes u (OpenBlock at) e = fault_in bytes u (OpenBlock at) e
fault_of_text bytes u (Depth at) e = fault_in bytes u (Depth at) e

module _ (bytes : List ℕ) where
  refused : (b : Bool) → is_utf8 bytes ≡ b → b ≡ false → ¬ (IsUtf8 bytes)
  refused b e n u = let w : true ≡ false = sym (is_utf8-from_IsUtf8 bytes u) ∙ (e ∙ n) in cc

  is_list : (b : Bool) → is_utf8 bytes ≡ b → (list : List Stmt) → statements_of bytes ≡ Ok list → IsTextOf bytes list
  is_list true e list h = let u = IsUtf8-from_is_utf8 bytes e in found bytes (length bytes) list u (sym (parsed_text bytes u) ∙ h)
  is_list false e list h = let r = sym (parsed_bytes bytes (refused false e refl)) ∙ h in cc

  is_fault : (b : Bool) → is_utf8 bytes ≡ b → (f : YangFault) → statements_of bytes ≡ Err f → IsFault bytes f
  is_fault true e f h = let u = IsUtf8-from_is_utf8 bytes e in fault_of_text bytes u f (sym (parsed_text bytes u) ∙ h)
  is_fault false e f h =
      let n = refused false e refl in
      let r : Err (NotUtf8 (utf8_valid_len bytes)) ≡ statements_of bytes = sym (parsed_bytes bytes n) in
      let s : NotUtf8 (utf8_valid_len bytes) ≡ f = err_of (r ∙ h) in
      let P : YangFault → Type 0 = λ v. IsFault bytes v in
      subst P s (valid_up_to bytes n)
    where
      err_of : {f g : YangFault} → fails f ≡ fails g → f ≡ g
      err_of q = cc

  is_no_memory : (b : Bool) → is_utf8 bytes ≡ b → statements_of bytes ≢ Err Memory
  is_no_memory true e h = let u = IsUtf8-from_is_utf8 bytes e in absurd (fault_in bytes u Memory (sym (parsed_text bytes u) ∙ h)).3
  is_no_memory false e h = let r = sym (parsed_bytes bytes (refused false e refl)) ∙ h in cc

  goes_first : (f : YangFault) → statements_of bytes ≡ Err f → GoesFirst bytes f
  goes_first f h front rest q q' u =
      let s : IsUtf8 bytes = (front ++ rest, (q, q')) in
      let r : Err f ≡ answer bytes (length bytes) = sym h ∙ parsed_text bytes s in
      let o : answer bytes (length bytes) ≡ Err (OpenString (byte_count front)) =
      ap (λ cs. run (placed 0 1 cs) start (length bytes)) (ap chars (sym q') ∙ chars-encodes (front ++ rest) q) ∙ unclosed front rest (length bytes) u in
      let w : fails f ≡ fails (OpenString (byte_count front)) = r ∙ o in
      let e : f ≡ OpenString (byte_count front) = cc in
      e

pub follows_grammar : FollowsGrammar
follows_grammar = record {
  statements = λ bytes list. (
    is_list bytes (is_utf8 bytes) refl list,
    λ s. parsed_text bytes (utf8_of bytes list s) ∙ answered bytes (length bytes) list s,
  );
  fault = λ bytes f h. is_fault bytes (is_utf8 bytes) refl f h;
  first = λ bytes f h. goes_first bytes f h;
  no_memory = λ bytes h. is_no_memory bytes (is_utf8 bytes) refl h;
}

-- a reader's answer to a text is what it is parsed as
pub parsed : {V : Type 0} (items : V → List Stmt) (r : Result V YangFault) (bytes : List ℕ) → IsUtf8 bytes
    → MatchResult r (λ v. answer bytes (length bytes) ≡ Ok (items v)) (FailsWith (answer bytes (length bytes)))
    → MatchResult r (λ v. statements_of bytes ≡ Ok (items v)) (FailsWith (statements_of bytes))
parsed items r bytes u h =
    let P : Result (List Stmt) YangFault → Type 0 = λ a. MatchResult r (λ v. a ≡ Ok (items v)) (FailsWith a) in
    subst P (sym (parsed_text bytes u)) h
