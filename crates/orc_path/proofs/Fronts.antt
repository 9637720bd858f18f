-- A prefix of what is due, where writing stops.
use Rattle.std.proofs.Common.{◌≡◌, ℕ, List, [], ◌++◌, refl, sym, ap, ◌∙◌, append_assoc, append-nil}
use Rattle.std.specs.Prelude.{Result, Ok, Err, OnErr}
use Rattle.std.proofs.lemmas.List.{append_cancel_left}
use Rattle.orc_path.specs.Texts.{AddsFront}

-- what holds also holds where there is an error
pub OnErr-held : {T E P : Type 0} (r : Result T E) → P → OnErr r P
OnErr-held (Ok value) p = tt
OnErr-held (Err fault) p = p

-- nothing was written
pub front_of_none : (due before now : List ℕ) → now ≡ before → AddsFront due before now
front_of_none due before now same = record { front = []; rest = due; is_due = refl; added = same ∙ sym (append-nil before) }

-- a part was written, and the rest was left
pub front_of_part : (due before now rest : List ℕ) → (front : List ℕ) × (now ≡ before ++ front) → now ++ rest ≡ before ++ due → AddsFront due before now
front_of_part due before now rest (front, added) all = record {
  front = front;
  rest = rest;
  is_due = sym (append_cancel_left before (front ++ rest) due (sym (append_assoc before front rest) ∙ ap (λ x. x ++ rest) (sym added) ∙ all));
  added = added;
}

-- the first piece was written, and then a prefix of the second
pub front_behind : (first due before between now : List ℕ) → between ≡ before ++ first → AddsFront due between now → AddsFront (first ++ due) before now
front_behind first due before between now is a = record {
  front = first ++ a.front;
  rest = a.rest;
  is_due = ap (λ x. first ++ x) a.is_due ∙ sym (append_assoc first a.front a.rest);
  added = a.added ∙ ap (λ x. x ++ a.front) is ∙ append_assoc before first a.front;
}
