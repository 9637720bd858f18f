-- Files of a journal that is opened.
use Rattle.std.specs.Prelude.{◌≡◌, ℕ, ◌+◌, ◌<◌, ◌≤◌, List, [], ◌∷◌, ◌++◌, length, drop, Option, IfSome, IsTrue, All}
use Rattle.std.specs.Option.{option_map}
use Rattle.std.proofs.Common.{inl, inr, ⊎_elim, refl, sym, ap, subst, ◌∙◌, arith, length-append, length-drop}
use Rattle.std.proofs.lemmas.List.{append-nil, take_all, nil_from_length}
use Rattle.std.proofs.Math.Seq.{drop-nil, take-nil}
use Rattle.std.proofs.lemmas.Option.{IfSome_then}
use Rattle.orc_disk.specs.Files.{written}
use Rattle.orc_disk.specs.Torn.{Torn}
use Rattle.orc_disk.specs.Crashes.{LeavesAsRead}
use Rattle.orc_journal.specs.Entries.{IsWritable}
use Rattle.orc_journal.specs.Journals.{header, journal_bytes, journal_length, is_ending, IsJournal, IsGated}
use Rattle.orc_journal.specs.Opening.{IsOpening, OpensTo}
use Rattle.orc_journal.specs.inside.Blocks.{IsTornFrom}
use Rattle.orc_journal.specs.declared.entry.Entry.{Entry}
use Rattle.orc_journal.proofs.TornFiles.{torn_front, length_gated}
use Rattle.orc_journal.proofs.Unique.{one_journal, gated_is_journal}
use Rattle.orc_journal.proofs.Puts.{IfSome-mapped, IfSome-some}

-- a journal without its ending gate isn't one with it
gate_and_none : (file decls : List ℕ) (entries others : List Entry) → IsGated file decls entries → All IsWritable others
    → file ≡ journal_bytes decls others → ⊥
gate_and_none file decls entries others g writable is =
    let j : IsJournal file decls others = record { rest = []; bytes = is ∙ sym (append-nil (journal_bytes decls others)); ending = refl; writable = writable } in
    let same = one_journal file decls entries others (gated_is_journal file decls entries g) j in
    omega (arith, ap length is, length_gated decls others file (subst (λ (l : List Entry). IsGated file decls l) same g))

-- where the file is empty, any bytes may come
pub opening_nothing : (decls c : List ℕ) → IsOpening decls [] c
opening_nothing decls c = record {
  more = c;
  bytes = refl;
  only = inr (inl refl);
}

-- it stays
pub opening_same : (decls file : List ℕ) → IsOpening decls file file
opening_same decls file = record { more = []; bytes = sym (append-nil file); only = inl refl }

-- with its ending gate it does
pub IsOpening-gated : (decls old new : List ℕ) → IsOpening decls old new → (entries : List Entry) → IsGated old decls entries → new ≡ old
IsOpening-gated decls old new opening entries g = opening.bytes ∙ ap (λ (l : List ℕ). old ++ l) nothing ∙ append-nil old
  where
    nothing : opening.more ≡ []
    nothing = elim opening.only [
      | inl none ↦ none
      | inr (inl empty) ↦ absurd (omega (arith, ap length empty, ap length g.bytes, length-append (journal_bytes decls entries) (g.gate ∷ g.rest)))
      | inr (inr lacks) ↦ absurd (gate_and_none old decls entries lacks.0 g lacks.1 lacks.2)
    ]

pub opening_empty : (content : Option (List ℕ)) → IfSome content (λ file. file ≡ []) → (decls c : List ℕ)
    → IfSome content (λ held. IsOpening decls held c)
opening_empty content empty decls c =
    IfSome_then content empty (λ file is. subst (λ (l : List ℕ). IsOpening decls l c) (sym is) (opening_nothing decls c))

-- bytes written where nothing was
written_first : (block : List ℕ) → written 0 block [] ≡ block
written_first block =
    ap (λ (l : List ℕ). l ++ (block ++ drop (0 + length block) [])) (take-nil 0)
    ∙ ap (λ (l : List ℕ). block ++ l) (drop-nil (0 + length block)) ∙ append-nil block

-- the header and a closed gate there
pub begun : (content new : Option (List ℕ)) (block decls : List ℕ) (entries : List Entry) → IfSome content (λ file. file ≡ []) → entries ≡ []
    → block ≡ header decls ++ 0 ∷ [] → new ≡ option_map (written 0 block) content → IfSome new (OpensTo decls entries [])
begun content new block decls entries empty none spells is =
    IfSome-mapped content new (written 0 block) (λ file. file ≡ []) (OpensTo decls entries []) is empty (λ file nothing.
    let first : written 0 block file ≡ journal_bytes decls [] ++ 0 ∷ [] =
    ap (written 0 block) nothing ∙ written_first block ∙ spells ∙ ap (λ (l : List ℕ). l ++ 0 ∷ []) (sym (append-nil (header decls))) in
    inr (inl refl, subst (λ (l : List Entry). written 0 block file ≡ journal_bytes decls l ++ 0 ∷ []) (sym none) first))

-- what became of a file that was opened has its ending gate
pub opened_gated : (content : Option (List ℕ)) (decls file : List ℕ) (entries : List Entry) → All IsWritable entries → IfSome content (OpensTo decls entries file)
    → IfSome content (λ now. IsGated now decls entries)
opened_gated content decls file entries writable opens = IfSome_then content opens (λ now. ⊎_elim
    (λ stays. subst (λ (l : List ℕ). IsGated l decls entries) (sym stays.1) stays.0)
    (λ put. record { gate = 0; rest = []; bytes = put.1; closed = refl; writable = writable }))

-- a journal with its ending gate
pub gate_there : (bytes decls : List ℕ) (entries : List Entry) → IsJournal bytes decls entries → journal_length decls entries ≤ length bytes → IsGated bytes decls entries
gate_there bytes decls entries j le = on j.rest refl
  where
    on : (rest : List ℕ) → j.rest ≡ rest → IsGated bytes decls entries
    on [] is = absurd (omega (arith, le, ap length j.bytes, ap length is, length-append (journal_bytes decls entries) j.rest))
    on (gate ∷ rest) is = record {
      gate = gate;
      rest = rest;
      bytes = j.bytes ∙ ap (λ (l : List ℕ). journal_bytes decls entries ++ l) is;
      closed = subst (λ (l : List ℕ). IsTrue (is_ending l)) is j.ending;
      writable = j.writable;
    }

-- one that ends in its place
module _ (bytes decls : List ℕ) (entries : List Entry) (j : IsJournal bytes decls entries) (short : length bytes < journal_length decls entries) where
  pub gate_lacks : bytes ≡ journal_bytes decls entries
  gate_lacks =
      let none : j.rest ≡ [] = nil_from_length j.rest (omega (arith, short, ap length j.bytes, length-append (journal_bytes decls entries) j.rest)) in
      j.bytes ∙ ap (λ (l : List ℕ). journal_bytes decls entries ++ l) none ∙ append-nil (journal_bytes decls entries)

  pub gate_put : written (length bytes) (0 ∷ []) bytes ≡ journal_bytes decls entries ++ 0 ∷ []
  gate_put =
      let none : drop (length bytes + 1) bytes ≡ [] = nil_from_length (drop (length bytes + 1) bytes) (omega (arith, length-drop (length bytes + 1) bytes)) in
      ap (λ (l : List ℕ). l ++ 0 ∷ drop (length bytes + 1) bytes) (take_all (length bytes) bytes (omega arith) ∙ gate_lacks)
      ∙ ap (λ (l : List ℕ). journal_bytes decls entries ++ 0 ∷ l) none

  gate_torn : (c : List ℕ) → Torn (length bytes) 1 bytes c → IsOpening decls bytes c
  gate_torn c torn = record {
    more = drop (length bytes) c;
    bytes = torn_front (length bytes) 1 bytes c (omega arith) torn ∙ ap (λ (l : List ℕ). l ++ drop (length bytes) c) (take_all (length bytes) bytes (omega arith));
    only = inr (inr (entries, j.writable, gate_lacks));
  }

-- what becomes of the file of a disk that holds these bytes, where it reports them
module _ (content : Option (List ℕ)) (bytes decls : List ℕ) (entries : List Entry) (whole : IfSome content (λ file. bytes ≡ file)) (j : IsJournal bytes decls entries) where
  pub disk_gated : journal_length decls entries ≤ length bytes → IfSome content (OpensTo decls entries bytes)
  disk_gated le = IfSome_then content whole (λ file is. inl (gate_there bytes decls entries j le, sym is))

  pub disk_put : length bytes < journal_length decls entries → (new : Option (List ℕ)) → new ≡ option_map (written (length bytes) (0 ∷ [])) content
      → IfSome new (OpensTo decls entries bytes)
  disk_put short new is = IfSome-mapped content new (written (length bytes) (0 ∷ [])) (λ file. bytes ≡ file) (OpensTo decls entries bytes) is whole
      (λ file same. inr (inr (gate_lacks bytes decls entries j short), ap (written (length bytes) (0 ∷ [])) (sym same) ∙ gate_put bytes decls entries j short))

  pub disk_torn : length bytes < journal_length decls entries → (images : List ℕ → Type 0) → LeavesAsRead content images
      → (c : List ℕ) → IsTornFrom images (length bytes) 1 c → IfSome content (λ held. IsOpening decls held c)
  disk_torn short images as_read c torn =
      let same : bytes ≡ torn.0 = IfSome-some content (λ file. bytes ≡ file) torn.0 (as_read torn.0 torn.1) whole in
      let opening = gate_torn bytes decls entries j short c (subst (λ (l : List ℕ). Torn (length bytes) 1 l c) (sym same) torn.2) in
      IfSome_then content whole (λ file is. subst (λ (l : List ℕ). IsOpening decls l c) is opening)
