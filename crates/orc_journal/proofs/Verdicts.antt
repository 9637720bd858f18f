-- A file is a journal or is refused, for one reason only.
use Rattle.std.proofs.Common.{◌≡◌, ℕ, ◌+◌, List, [], ◌∷◌, ◌++◌, length, take, drop, All, IsTrue, refl, sym, ap, subst, ◌∙◌, append_assoc}
use Rattle.std.specs.List.{flat_map}
use Rattle.std.proofs.lemmas.List.{append_cancel_left, append-nil}
use Rattle.std.proofs.lemmas.List.Elements.{All-head, All-tail}
use Rattle.orc_journal.specs.Entries.{entry_bytes, IsWritable}
use Rattle.orc_journal.specs.Orders.{follows, are_ordered, is_ordered}
use Rattle.orc_journal.specs.Journals.{header, gated, journal_bytes, is_ending, IsJournal, IsDamaged}
use Rattle.orc_journal.specs.Laws.{Verdict, a_journal, not_a_journal, foreign, damaged, Deserves}
use Rattle.orc_journal.specs.inside.Fronts.{HasEntry, HasNoNext}
use Rattle.orc_journal.specs.declared.entry.Entry.{Entry}
use Rattle.orc_journal.proofs.Fronts.{one_entry}
use Rattle.orc_journal.proofs.Orderings.{parts}
use Rattle.orc_journal.proofs.Unique.{one_journal}

-- the entry that stands after an open gate
at_gate : (bytes : List ℕ) (x : Entry) (a : List Entry) (r : List ℕ) → IsWritable x → bytes ≡ flat_map gated (x ∷ a) ++ r → HasEntry (drop 1 bytes) x (flat_map gated a ++ r)
at_gate bytes x a r writable e = record {
  writable = writable;
  parts = ap (drop 1) e ∙ append_assoc (entry_bytes x) (flat_map gated a) r;
}

-- equal entries at the start are taken away
module _ (x y : Entry) (a b : List Entry) (r s : List ℕ) (h : All IsWritable (x ∷ a)) (k : All IsWritable (y ∷ b)) (e : flat_map gated (x ∷ a) ++ r ≡ flat_map gated (y ∷ b) ++ s) where
  first_same : (x ≡ y) × (flat_map gated a ++ r ≡ flat_map gated b ++ s)
  first_same = one_entry _ x y _ _ (at_gate _ x a r (All-head IsWritable x a h) refl) (at_gate _ y b s (All-head IsWritable y b k) e)

-- after these entries an open gate is followed by none that may stand there
record Stops (before a : List Entry) (behind : List ℕ) : Type 0 where
  writable : All IsWritable a
  ordered : IsTrue (are_ordered before a)
  none : HasNoNext (before ++ a) behind

next_stops : (before : List Entry) (x : Entry) (a : List Entry) (behind : List ℕ) → Stops before (x ∷ a) behind → Stops (before ++ x ∷ []) a behind
next_stops before x a behind h = record {
  writable = All-tail IsWritable x a h.writable;
  ordered = (parts (follows before x) (are_ordered (before ++ x ∷ []) a) h.ordered).1;
  none = subst (λ es. HasNoNext es behind) (sym (append_assoc before (x ∷ []) a)) h.none;
}

-- no entry that may stand there does
stops_here : (before : List Entry) (behind : List ℕ) (y : Entry) (b : List Entry) (s : List ℕ) → Stops before [] behind → All IsWritable (y ∷ b) → IsTrue (are_ordered before (y ∷ b)) → 1 ∷ behind ≡ flat_map gated (y ∷ b) ++ s → ⊥
stops_here before behind y b s h writable ordered e =
    subst (λ es. HasNoNext es behind) (append-nil before) h.none y (flat_map gated b ++ s)
    (at_gate (1 ∷ behind) y b s (All-head IsWritable y b writable) e)
    (parts (follows before y) (are_ordered (before ++ y ∷ []) b) ordered).0

-- the entries before the damage are one list
one_damage : (before a b : List Entry) (behind after : List ℕ) → Stops before a behind → Stops before b after → flat_map gated a ++ 1 ∷ behind ≡ flat_map gated b ++ 1 ∷ after → a ≡ b
one_damage before [] [] behind after h k e = refl
one_damage before [] (y ∷ b) behind after h k e = absurd (stops_here before behind y b (1 ∷ after) h k.writable k.ordered e)
one_damage before (x ∷ a) [] behind after h k e = absurd (stops_here before after x a (1 ∷ behind) k h.writable h.ordered (sym e))
one_damage before (x ∷ a) (y ∷ b) behind after h k e =
    let first = first_same x y a b (1 ∷ behind) (1 ∷ after) h.writable k.writable e in
    let same : x ≡ y = first.0 in
    let k' : Stops (before ++ x ∷ []) b after = subst (λ z. Stops (before ++ z ∷ []) b after) (sym same) (next_stops before y b after k) in
    let later : a ≡ b = one_damage (before ++ x ∷ []) a b behind after (next_stops before x a behind h) k' first.1 in
    cc

-- a journal in order is not damaged
no_damage : (before a b : List Entry) (behind s : List ℕ) → Stops before a behind → All IsWritable b → IsTrue (are_ordered before b) → IsTrue (is_ending s) → flat_map gated a ++ 1 ∷ behind ≡ flat_map gated b ++ s → ⊥
no_damage before [] [] behind s h writable ordered end e =
    let ends : IsTrue (is_ending (1 ∷ behind)) = subst (λ t. IsTrue (is_ending t)) (sym e) end in
    cc
no_damage before [] (y ∷ b) behind s h writable ordered end e = stops_here before behind y b s h writable ordered e
no_damage before (x ∷ a) [] behind s h writable ordered end e =
    let ends : IsTrue (is_ending (1 ∷ (entry_bytes x ++ flat_map gated a ++ 1 ∷ behind))) = subst (λ t. IsTrue (is_ending t)) (sym e) end in
    cc
no_damage before (x ∷ a) (y ∷ b) behind s h writable ordered end e =
    let first = first_same x y a b (1 ∷ behind) s h.writable writable e in
    let later : IsTrue (are_ordered (before ++ x ∷ []) b) = subst (λ z. IsTrue (are_ordered (before ++ z ∷ []) b)) (sym first.0) (parts (follows before y) (are_ordered (before ++ y ∷ []) b) ordered).1 in
    no_damage (before ++ x ∷ []) a b behind s (next_stops before x a behind h) (All-tail IsWritable y b writable) later end first.1

stops : (file decls : List ℕ) (at : ℕ) (h : IsDamaged file decls at) → Stops [] h.before h.rest
stops file decls at h = record {
  writable = h.writable;
  ordered = h.ordered;
  none = λ entry more there may_follow. h.none entry more there.parts there.writable may_follow;
}

-- what stands after the header
body : (file decls : List ℕ) (a b : List Entry) (r s : List ℕ) → file ≡ journal_bytes decls a ++ r → file ≡ journal_bytes decls b ++ s → flat_map gated a ++ r ≡ flat_map gated b ++ s
body file decls a b r s e f =
    append_cancel_left (header decls) _ _ (sym (append_assoc (header decls) (flat_map gated a) r) ∙ sym e ∙ f ∙ append_assoc (header decls) (flat_map gated b) s)

damaged_journal : (file decls : List ℕ) (at : ℕ) (entries : List Entry) → IsDamaged file decls at → IsJournal file decls entries → IsTrue (is_ordered entries) → ⊥
damaged_journal file decls at entries h k ordered =
    no_damage [] h.before entries h.rest k.rest (stops file decls at h) k.writable ordered k.ending (body file decls h.before entries (1 ∷ h.rest) k.rest h.bytes k.bytes)

one_place : (file decls : List ℕ) (at other : ℕ) → IsDamaged file decls at → IsDamaged file decls other → at ≡ other
one_place file decls at other h k =
    let same = one_damage [] h.before k.before h.rest k.rest (stops file decls at h) (stops file decls other k) (body file decls h.before k.before (1 ∷ h.rest) (1 ∷ k.rest) h.bytes k.bytes) in
    h.place ∙ ap (λ es. length (journal_bytes decls es) + 1) same ∙ sym k.place

pub one_verdict : (file decls : List ℕ) (verdict other : Verdict) → Deserves file decls verdict → Deserves file decls other → verdict ≡ other
one_verdict file decls (a_journal a) (a_journal b) h k = ap a_journal (one_journal file decls a b h.0 k.0)
one_verdict file decls (a_journal a) not_a_journal h k = absurd (k.other (ap (take 8) h.0.bytes))
one_verdict file decls (a_journal a) (foreign at) h k = absurd (k.other (flat_map gated a ++ h.0.rest) (h.0.bytes ∙ append_assoc (header decls) (flat_map gated a) h.0.rest))
one_verdict file decls (a_journal a) (damaged at) h k = absurd (damaged_journal file decls at a k h.0 h.1)
one_verdict file decls not_a_journal (a_journal b) h k = absurd (h.other (ap (take 8) k.0.bytes))
one_verdict file decls not_a_journal not_a_journal h k = refl
one_verdict file decls not_a_journal (foreign at) h k = absurd (h.other k.begins)
one_verdict file decls not_a_journal (damaged at) h k = absurd (h.other (ap (take 8) k.bytes))
one_verdict file decls (foreign at) (a_journal b) h k = absurd (h.other (flat_map gated b ++ k.0.rest) (k.0.bytes ∙ append_assoc (header decls) (flat_map gated b) k.0.rest))
one_verdict file decls (foreign at) not_a_journal h k = absurd (k.other h.begins)
one_verdict file decls (foreign at) (foreign other) h k = ap foreign (h.place ∙ sym k.place)
one_verdict file decls (foreign at) (damaged other) h k = absurd (h.other (flat_map gated k.before ++ 1 ∷ k.rest) (k.bytes ∙ append_assoc (header decls) (flat_map gated k.before) (1 ∷ k.rest)))
one_verdict file decls (damaged at) (a_journal b) h k = absurd (damaged_journal file decls at b h k.0 k.1)
one_verdict file decls (damaged at) not_a_journal h k = absurd (k.other (ap (take 8) h.bytes))
one_verdict file decls (damaged at) (foreign other) h k = absurd (k.other (flat_map gated h.before ++ 1 ∷ h.rest) (h.bytes ∙ append_assoc (header decls) (flat_map gated h.before) (1 ∷ h.rest)))
one_verdict file decls (damaged at) (damaged other) h k = ap damaged (one_place file decls at other h k)
