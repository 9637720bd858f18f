-- A file is one journal only.
use Rattle.std.proofs.Common.{◌≡◌, ℕ, ◌<◌, ◌^◌, List, [], ◌∷◌, ◌++◌, length, drop, All, IsTrue, refl, sym, ap, subst, ◌∙◌, append_assoc}
use Rattle.std.specs.List.{flat_map}
use Rattle.std.proofs.lemmas.List.{append_cancel_left}
use Rattle.std.proofs.lemmas.List.Elements.{All-head, All-tail}
use Rattle.orc_journal.specs.Entries.{entry_bytes, IsWritable}
use Rattle.orc_journal.specs.Journals.{header, gated, is_ending, IsJournal, IsGated}
use Rattle.orc_journal.specs.inside.Fronts.{HasEntry}
use Rattle.orc_journal.specs.declared.entry.Entry.{Entry}
use Rattle.orc_journal.proofs.Fronts.{one_entry}
use Rattle.orc_journal.proofs.Headers.{one_header}

-- entries after open gates, up to one ending, are one list
one_list : (a b : List Entry) (r s : List ℕ) → All IsWritable a → All IsWritable b → IsTrue (is_ending r) → IsTrue (is_ending s) → flat_map gated a ++ r ≡ flat_map gated b ++ s → a ≡ b
one_list [] [] r s h k end end' e = refl
one_list [] (y ∷ b) r s h k end end' e =
    let ends : IsTrue (is_ending (1 ∷ (entry_bytes y ++ flat_map gated b ++ s))) = subst (λ t. IsTrue (is_ending t)) e end in
    absurd cc
one_list (x ∷ a) [] r s h k end end' e =
    let ends : IsTrue (is_ending (1 ∷ (entry_bytes x ++ flat_map gated a ++ r))) = subst (λ t. IsTrue (is_ending t)) (sym e) end' in
    absurd cc
one_list (x ∷ a) (y ∷ b) r s h k end end' e =
    let bytes = entry_bytes x ++ flat_map gated a ++ r in
    let here : HasEntry bytes x (flat_map gated a ++ r) = record { writable = All-head IsWritable x a h; parts = append_assoc (entry_bytes x) (flat_map gated a) r } in
    let there : HasEntry bytes y (flat_map gated b ++ s) = record { writable = All-head IsWritable y b k; parts = ap (drop 1) e ∙ append_assoc (entry_bytes y) (flat_map gated b) s } in
    let first = one_entry bytes x y (flat_map gated a ++ r) (flat_map gated b ++ s) here there in
    let same : x ≡ y = first.0 in
    let later : a ≡ b = one_list a b r s (All-tail IsWritable x a h) (All-tail IsWritable y b k) end end' first.1 in
    cc

-- a file is the journal of one list of entries only
pub one_journal : (file decls : List ℕ) (a b : List Entry) → IsJournal file decls a → IsJournal file decls b → a ≡ b
one_journal file decls a b h k =
    let e = sym (append_assoc (header decls) (flat_map gated a) h.rest) ∙ sym h.bytes ∙ k.bytes ∙ append_assoc (header decls) (flat_map gated b) k.rest in
    one_list a b h.rest k.rest h.writable k.writable h.ending k.ending (append_cancel_left (header decls) _ _ e)

-- it is the journal of one text of declarations only
pub one_text_of_declarations : (file d e : List ℕ) (a b : List Entry) → length d < 2 ^ 32 → length e < 2 ^ 32 → IsJournal file d a → IsJournal file e b → d ≡ e
one_text_of_declarations file d e a b short short' h k =
    let same = sym (append_assoc (header d) (flat_map gated a) h.rest) ∙ sym h.bytes ∙ k.bytes ∙ append_assoc (header e) (flat_map gated b) k.rest in
    (one_header d e _ _ short short' same).0

-- a journal with its ending gate is a journal
pub gated_is_journal : (file decls : List ℕ) (entries : List Entry) → IsGated file decls entries → IsJournal file decls entries
gated_is_journal file decls entries h = record { rest = h.gate ∷ h.rest; bytes = h.bytes; ending = h.closed; writable = h.writable }
