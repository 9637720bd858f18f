-- A journal of these declarations whose entries stand in order is not refused.
use Rattle.std.proofs.Common.{◌≡◌, ℕ, Bool, true, false, ◌&&◌, List, [], ◌∷◌, ◌++◌, length, take, drop, All, IsTrue, refl, sym, ap, subst, ◌∙◌, append_assoc}
use Rattle.std.specs.List.{flat_map}
use Rattle.std.proofs.lemmas.List.{append_cancel_left, append-nil}
use Rattle.std.proofs.lemmas.List.Elements.{All-head, All-tail}
use Rattle.orc_journal.specs.Entries.{entry_bytes, IsWritable}
use Rattle.orc_journal.specs.Orders.{follows, are_ordered, is_ordered}
use Rattle.orc_journal.specs.Journals.{magic, header, gated, is_ending, IsJournal, IsNotJournal, IsForeign, IsDamaged}
use Rattle.orc_journal.specs.inside.Fronts.{HasEntry}
use Rattle.orc_journal.specs.declared.entry.Entry.{Entry}
use Rattle.orc_journal.proofs.Fronts.{one_entry}

-- the bytes begin with an entry that may follow
record BeginsNext (before : List Entry) (bytes : List ℕ) : Type 0 where
  entry : Entry
  more : List ℕ
  parts : bytes ≡ entry_bytes entry ++ more
  writable : IsWritable entry
  may_follow : IsTrue (follows before entry)

first_of_two : (a b : Bool) → IsTrue (a && b) → IsTrue a
first_of_two true b h = refl
first_of_two false b h = absurd cc

second_of_two : (a b : Bool) → IsTrue (a && b) → IsTrue b
second_of_two true b h = h
second_of_two false b h = absurd cc

-- an open gate after the first of some entries that end there: the next of them stands after it
next_begins : (past before entries : List Entry) (rest after : List ℕ) → IsTrue (is_ending after) → All IsWritable before → All IsWritable entries
    → IsTrue (are_ordered past entries) → flat_map gated before ++ 1 ∷ rest ≡ flat_map gated entries ++ after → BeginsNext (past ++ before) rest
next_begins past [] [] rest after ending h k ordered e =
    let ends : IsTrue (is_ending (1 ∷ rest)) = subst (λ t. IsTrue (is_ending t)) (sym e) ending in
    absurd cc
next_begins past (y ∷ before) [] rest after ending h k ordered e =
    let ends : IsTrue (is_ending (1 ∷ (entry_bytes y ++ flat_map gated before ++ 1 ∷ rest))) = subst (λ t. IsTrue (is_ending t)) (sym e) ending in
    absurd cc
next_begins past [] (x ∷ entries) rest after ending h k ordered e = record {
  entry = x;
  more = flat_map gated entries ++ after;
  parts = ap (drop 1) e ∙ append_assoc (entry_bytes x) (flat_map gated entries) after;
  writable = All-head IsWritable x entries k;
  may_follow = subst (λ l. IsTrue (follows l x)) (sym (append-nil past)) (first_of_two (follows past x) (are_ordered (past ++ x ∷ []) entries) ordered);
}
next_begins past (y ∷ before) (x ∷ entries) rest after ending h k ordered e =
    let bytes = entry_bytes y ++ flat_map gated before ++ 1 ∷ rest in
    let here : HasEntry bytes y (flat_map gated before ++ 1 ∷ rest) = record { writable = All-head IsWritable y before h; parts = append_assoc (entry_bytes y) (flat_map gated before) (1 ∷ rest) } in
    let there : HasEntry bytes x (flat_map gated entries ++ after) = record { writable = All-head IsWritable x entries k; parts = ap (drop 1) e ∙ append_assoc (entry_bytes x) (flat_map gated entries) after } in
    let first = one_entry bytes y x (flat_map gated before ++ 1 ∷ rest) (flat_map gated entries ++ after) here there in
    subst (λ l. BeginsNext l rest) (append_assoc past (x ∷ []) before ∙ ap (λ z. past ++ z ∷ before) (sym first.0))
    (next_begins (past ++ x ∷ []) before entries rest after ending (All-tail IsWritable y before h) (All-tail IsWritable x entries k)
    (second_of_two (follows past x) (are_ordered (past ++ x ∷ []) entries) ordered) first.1)

-- its bytes after the header
behind_header : (file decls : List ℕ) (entries : List Entry) (j : IsJournal file decls entries) → file ≡ header decls ++ (flat_map gated entries ++ j.rest)
behind_header file decls entries j = j.bytes ∙ append_assoc (header decls) (flat_map gated entries) j.rest

pub not_damaged : (file decls : List ℕ) (entries : List Entry) (at : ℕ) → IsJournal file decls entries → IsTrue (is_ordered entries) → IsDamaged file decls at → ⊥
not_damaged file decls entries at j ordered d =
    let e = sym (append_assoc (header decls) (flat_map gated d.before) (1 ∷ d.rest)) ∙ sym d.bytes ∙ behind_header file decls entries j in
    let next = next_begins [] d.before entries d.rest j.rest j.ending d.writable j.writable ordered (append_cancel_left (header decls) _ _ e) in
    d.none next.entry next.more next.parts next.writable next.may_follow

pub not_foreign : (file decls : List ℕ) (entries : List Entry) (at : ℕ) → IsJournal file decls entries → IsForeign file decls at → ⊥
not_foreign file decls entries at j f = f.other (flat_map gated entries ++ j.rest) (behind_header file decls entries j)

pub not_strange : (file decls : List ℕ) (entries : List Entry) → IsJournal file decls entries → IsNotJournal file → ⊥
not_strange file decls entries j n = n.other (ap (take (length magic)) (behind_header file decls entries j))

pub not_empty : (file decls : List ℕ) (entries : List Entry) → IsJournal file decls entries → file ≡ [] → ⊥
not_empty file decls entries j e =
    let none : [] ≡ header decls ++ (flat_map gated entries ++ j.rest) = sym e ∙ behind_header file decls entries j in
    absurd cc
