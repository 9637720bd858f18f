-- Files of a journal that an append wrote to, and that a crash tore.
use Rattle.std.specs.Prelude.{◌≡◌, ℕ, ◌+◌, ◌≤◌, ◌==◌, List, [], ◌∷◌, ◌++◌, length, take, drop, get_or, All, IsTrue}
use Rattle.std.specs.List.{flat_map}
use Rattle.std.proofs.Common.{inl, inr, refl, sym, ap, ◌∙◌, arith, ne_eqb, append_assoc, take-append-drop, length-append}
use Rattle.std.proofs.lemmas.Bool.{cases_eq, not_from_false}
use Rattle.std.proofs.lemmas.List.{take-take, take_at, drop_at, drop_more, drop-append-le, length-take-le, length_push, flat_map_more}
use Rattle.std.proofs.lemmas.List.Elements.{All-push}
use Rattle.orc_disk.specs.Files.{written}
use Rattle.orc_disk.specs.Torn.{Torn}
use Rattle.orc_journal.specs.Entries.{entry_bytes, IsWritable}
use Rattle.orc_journal.specs.Journals.{header, gated, journal_bytes, journal_length, is_closed, IsGated}
use Rattle.orc_journal.specs.Appends.{IsBeforeOrAfter}
use Rattle.orc_journal.specs.declared.entry.Entry.{Entry}

-- what stands before a write is still there
pub torn_front : (at n : ℕ) (file c : List ℕ) → at ≤ length file → Torn at n file c → c ≡ take at file ++ drop at c
torn_front at n file c le torn =
    let front : take at c ≡ take at file = sym (take-take at (length file) c le) ∙ torn.front in
    sym (take-append-drop at c) ∙ ap (λ (l : List ℕ). l ++ drop at c) front

-- and so is what stands after it
pub torn_back : (at n : ℕ) (file c : List ℕ) → at + n ≤ length file → Torn at n file c → drop (at + n) c ≡ drop (at + n) file ++ drop (length file) c
torn_back at n file c le torn =
    let kept = take (length file) c in
    let within : at + n ≤ length kept = omega (arith, le, length-take-le (length file) c torn.no_shorter) in
    ap (drop (at + n)) (sym (take-append-drop (length file) c))
    ∙ drop-append-le (at + n) kept (drop (length file) c) within
    ∙ ap (λ (l : List ℕ). l ++ drop (length file) c) torn.back

closed_by : (gate : ℕ) → (gate ≡ 1 → ⊥) → IsTrue (is_closed gate)
closed_by gate other = not_from_false (gate == 1) (ne_eqb gate 1 other)

-- one entry more
pub journal_push : (decls : List ℕ) (entries : List Entry) (entry : Entry) → journal_bytes decls (entries ++ entry ∷ []) ≡ journal_bytes decls entries ++ gated entry
journal_push decls entries entry =
    ap (λ (l : List ℕ). header decls ++ l) (sym (flat_map_more gated [] entries entry)) ∙ sym (append_assoc (header decls) (flat_map gated entries) (gated entry))

-- the file is a journal, with an entry and a closed gate after its ending gate
pub record IsStaged (decls : List ℕ) (entries : List Entry) (entry : Entry) (file : List ℕ) : Type 0 where
  pub gate : ℕ
  pub rest : List ℕ
  pub bytes : file ≡ journal_bytes decls entries ++ gate ∷ (entry_bytes entry ++ 0 ∷ rest)
  pub closed : IsTrue (is_closed gate)
  pub writable : All IsWritable entries
  pub fits : IsWritable entry

module _ (decls : List ℕ) (entries : List Entry) where
  abbrev bytes : List ℕ
  bytes = journal_bytes decls entries

  -- the journal up to and with its ending gate
  gate_split : (file : List ℕ) (g : IsGated file decls entries) → file ≡ (bytes ++ g.gate ∷ []) ++ g.rest
  gate_split file g = g.bytes ∙ sym (append_assoc bytes (g.gate ∷ []) g.rest)

  pub length_gated : (file : List ℕ) → IsGated file decls entries → journal_length decls entries ≤ length file
  length_gated file g = omega (arith, length_push bytes g.gate, ap length (gate_split file g), length-append (bytes ++ g.gate ∷ []) g.rest)

  gate_front : (file : List ℕ) (g : IsGated file decls entries) → take (journal_length decls entries) file ≡ bytes ++ g.gate ∷ []
  gate_front file g = ap (take (journal_length decls entries)) (gate_split file g) ∙ take_at (bytes ++ g.gate ∷ []) g.rest (journal_length decls entries) (length_push bytes g.gate)

  -- a write after the gate leaves the journal as it is
  pub torn_behind : (n : ℕ) (file c : List ℕ) → IsGated file decls entries → Torn (journal_length decls entries) n file c → IsGated c decls entries
  torn_behind n file c g torn =
      let at = journal_length decls entries in
      record {
        gate = g.gate;
        rest = drop at c;
        bytes = torn_front at n file c (length_gated file g) torn ∙ ap (λ (l : List ℕ). l ++ drop at c) (gate_front file g) ∙ append_assoc bytes (g.gate ∷ []) (drop at c);
        closed = g.closed;
        writable = g.writable;
      }

  module _ (entry : Entry) where
    -- the whole write
    pub written_behind : (file : List ℕ) → IsGated file decls entries → IsWritable entry → IsStaged decls entries entry (written (journal_length decls entries) (entry_bytes entry ++ 0 ∷ []) file)
    written_behind file g fits =
        let at = journal_length decls entries in
        let block = entry_bytes entry ++ 0 ∷ [] in
        let more = drop (at + length block) file in
        record {
          gate = g.gate;
          rest = more;
          bytes = ap (λ (l : List ℕ). l ++ (block ++ more)) (gate_front file g) ∙ append_assoc bytes (g.gate ∷ []) (block ++ more)
              ∙ ap (λ (l : List ℕ). bytes ++ g.gate ∷ l) (append_assoc (entry_bytes entry) (0 ∷ []) more);
          closed = g.closed;
          writable = g.writable;
          fits = fits;
        }

    at_gate : (file : List ℕ) (s : IsStaged decls entries entry file) → take (length bytes) file ≡ bytes
    at_gate file s = ap (take (length bytes)) s.bytes ∙ take_at bytes (s.gate ∷ (entry_bytes entry ++ 0 ∷ s.rest)) (length bytes) refl

    behind_gate : (file : List ℕ) (s : IsStaged decls entries entry file) → drop (length bytes + 1) file ≡ entry_bytes entry ++ 0 ∷ s.rest
    behind_gate file s =
        ap (drop (length bytes + 1)) (s.bytes ∙ sym (append_assoc bytes (s.gate ∷ []) (entry_bytes entry ++ 0 ∷ s.rest)))
        ∙ drop_at (bytes ++ s.gate ∷ []) (entry_bytes entry ++ 0 ∷ s.rest) (length bytes + 1) (length_push bytes s.gate)

    pub length_staged : (file : List ℕ) → IsStaged decls entries entry file → journal_length decls entries ≤ length file
    length_staged file s = omega (arith, ap length s.bytes, length-append bytes (s.gate ∷ (entry_bytes entry ++ 0 ∷ s.rest)))

    -- a gate before the entry that is open
    opened : (file rest : List ℕ) → file ≡ bytes ++ 1 ∷ (entry_bytes entry ++ 0 ∷ rest) → All IsWritable entries → IsWritable entry → IsGated file decls (entries ++ entry ∷ [])
    opened file rest is writable fits = record {
      gate = 0;
      rest = rest;
      bytes = is ∙ sym (append_assoc bytes (gated entry) (0 ∷ rest)) ∙ ap (λ (l : List ℕ). l ++ 0 ∷ rest) (sym (journal_push decls entries entry));
      closed = refl;
      writable = All-push IsWritable entries entry writable fits;
    }

    -- any gate there
    any_gate : (gate : ℕ) (file rest : List ℕ) → file ≡ bytes ++ gate ∷ (entry_bytes entry ++ 0 ∷ rest) → All IsWritable entries → IsWritable entry → IsBeforeOrAfter decls entries entry file
    any_gate gate file rest is writable fits = elim (cases_eq gate 1) [
      | inl open_gate ↦ inr (opened file rest (is ∙ ap (λ (x : ℕ). bytes ++ x ∷ (entry_bytes entry ++ 0 ∷ rest)) open_gate) writable fits)
      | inr other ↦ inl (record { gate = gate; rest = entry_bytes entry ++ 0 ∷ rest; bytes = is; closed = closed_by gate other; writable = writable })
    ]

    -- a write at the gate alone leaves it closed or open
    pub torn_gate : (file c : List ℕ) → IsStaged decls entries entry file → Torn (length bytes) 1 file c → IsBeforeOrAfter decls entries entry c
    torn_gate file c s torn =
        let at = length bytes in
        let long = length_staged file s in
        let gate = get_or c at 0 in
        let more = drop (length file) c in
        let rest : drop at c ≡ gate ∷ (entry_bytes entry ++ 0 ∷ (s.rest ++ more)) =
        drop_more c at 0 (omega (arith, long, torn.no_shorter))
        ∙ ap (λ (l : List ℕ). gate ∷ l) (torn_back at 1 file c long torn ∙ ap (λ (l : List ℕ). l ++ more) (behind_gate file s) ∙ append_assoc (entry_bytes entry) (0 ∷ s.rest) more) in
        let whole : c ≡ bytes ++ gate ∷ (entry_bytes entry ++ 0 ∷ (s.rest ++ more)) =
        torn_front at 1 file c (omega (arith, long)) torn ∙ ap (λ (l : List ℕ). l ++ drop at c) (at_gate file s) ∙ ap (λ (l : List ℕ). bytes ++ l) rest in
        any_gate gate c (s.rest ++ more) whole s.writable s.fits

    -- the whole write
    pub written_gate : (file : List ℕ) → IsStaged decls entries entry file → IsGated (written (length bytes) (1 ∷ []) file) decls (entries ++ entry ∷ [])
    written_gate file s =
        let at = length bytes in
        let is : written at (1 ∷ []) file ≡ bytes ++ 1 ∷ (entry_bytes entry ++ 0 ∷ s.rest) =
        ap (λ (l : List ℕ). l ++ (1 ∷ drop (at + 1) file)) (at_gate file s) ∙ ap (λ (l : List ℕ). bytes ++ 1 ∷ l) (behind_gate file s) in
        opened (written at (1 ∷ []) file) s.rest is s.writable s.fits
