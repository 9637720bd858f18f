-- The past of entries, one entry more.
use Rattle.std.proofs.Common.{◌≡◌, ◌⊎◌, ⊎_elim, inl, inr, ℕ, zero, suc, ◌+◌, ◌<◌, Bool, true, false, not, ◌&&◌, nat_lt, List, [], ◌∷◌, ◌++◌, IsTrue, Some, None, Ok, Err, length, take, get_or, refl, sym, ap, subst, ◌∙◌, append-nil, arith, ltb-true}
use Rattle.std.specs.List.{slice_get}
use Rattle.std.specs.declared.result.Result.{Result}
use Rattle.std.proofs.lemmas.Bool.{false≢true}
use Rattle.std.proofs.lemmas.List.{take_more}
use Rattle.std.proofs.lemmas.List.Elements.{All-get_or, All-nil, All-pop, All-push, All-weaker}
use Rattle.std.proofs.lemmas.List.Sums.{fold-append}
use Rattle.std.proofs.lemmas.Option.{get_or_from_slice_get, slice_get_read, slice_get_within}
use Rattle.orc_call.specs.declared.answer.Answer.{Answer}
use Rattle.orc_call.specs.declared.call.Call.{Call}
use Rattle.orc_datastore.specs.Legal.{AnswersAtOnce, IsDue, IsLegal, IsNew, IsSame}
use Rattle.orc_datastore.specs.Legal.AnswersAtOnce.{again, reused, refused}
use Rattle.orc_datastore.proofs.Legality.{legal_last}
use Rattle.orc_decls.specs.Calls.{is_call}
use Rattle.orc_decls.specs.declared.declarations.Decls.{Decls}
use Rattle.orc_journal.specs.Committed.{commits, history_of}
use Rattle.orc_journal.specs.Entries.{number_of}
use Rattle.orc_journal.specs.declared.entry.Entry.{Entry}
use Rattle.orc_journal.specs.declared.entry.Entry.TheVariants.{Intent, Decide, Abort, Settled}
use Rattle.orc_rules.proofs.Fronts.{history_of-append}
use Rattle.orc_state.specs.States.{IsStateUnder, State}
use Rattle.orc_hub_parts.specs.Numbered.{AreNumbers}
use Rattle.orc_hub_parts.specs.Logs.{noted, unsettled_by}
use Rattle.orc_hub_parts.specs.Pasts.{IsIllegalDecide}
use Rattle.orc_hub_parts.specs.declared.log.Unsettled.{Unsettled}
use Rattle.orc_hub_parts.specs.declared.numbers.Numbers.{Numbers}
use Rattle.orc_hub_parts.specs.declared.past.Past.{Past}
use Rattle.orc_hub_parts.specs.Numbered.{NotesNumber, is_given, is_noted}
use Rattle.orc_hub_parts.specs.Pasts.{IsPast}

-- no number was given
below_one : (b : Bool) (t : ℕ) → (not b && nat_lt 0 t && nat_lt t 1) ≡ false
below_one true t = refl
below_one false t = on (nat_lt 0 t) refl (nat_lt t 1) refl
  where
    on : (b : Bool) → nat_lt 0 t ≡ b → (c : Bool) → nat_lt t 1 ≡ c → (nat_lt 0 t && nat_lt t 1) ≡ false
    on false is c is' = ap (λ (b : Bool). b && nat_lt t 1) is
    on true is false is' = ap (λ (b : Bool). b && nat_lt t 1) is ∙ is'
    on true is true is' =
        let low = ltb-true 0 t is in
        let high = ltb-true t 1 is' in
        absurd (omega (arith, low, high))

pub none_given : (numbers : Numbers) → numbers.next ≡ 1 → (t : ℕ) → is_given numbers t ≡ false
none_given numbers first t = ap (λ (n : ℕ). not (is_noted numbers t) && nat_lt 0 t && nat_lt t n) first ∙ below_one (is_noted numbers t) t

-- the numbers of entries, with one noted more
abbrev IsTaken : Numbers → Entry → Type 0
IsTaken numbers e = (is_noted numbers (number_of e) ≡ true) ⊎ (is_given numbers (number_of e) ≡ true)

numbers_noted : (old new : Numbers) (entries : List Entry) (entry : Entry) → old.next ≡ 1 → AreNumbers old entries → NotesNumber old new (number_of entry)
    → AreNumbers new (entries ++ entry ∷ [])
numbers_noted old new entries entry first own notes = record {
  taken = All-push (IsTaken new) entries entry
      (All-weaker (IsTaken old) (IsTaken new)
      (λ e taken. ⊎_elim (λ h. inl (notes.others (number_of e) h))
      (λ h. absurd (false≢true (sym (none_given old first (number_of e)) ∙ h))) taken) entries own.taken)
      (inl notes.noted);
  noted = λ t h none.
      let parts = All-pop (λ (x : Entry). number_of x ≡ t → ⊥) (entries ++ entry ∷ []) entries (Some entry) refl none in
      ⊎_elim (λ before. own.noted t before parts.0) (λ is. parts.1 (sym is)) (notes.only t h);
}

unsettled_more : (entries : List Entry) (entry : Entry) (old new : List Unsettled) → old ≡ unsettled_by entries → new ≡ noted old entry
    → new ≡ unsettled_by (entries ++ entry ∷ [])
unsettled_more entries entry old new was is = is ∙ ap (λ (l : List Unsettled). noted l entry) was ∙ sym (fold-append noted [] entries (entry ∷ []))

-- before any entry
pub past_none : (decls : Decls) (past : Past) → ((t : ℕ) → is_noted past.numbers t ≡ false) → past.numbers.next ≡ 1 → past.unsettled ≡ [] → past.state.history ≡ []
    → IsStateUnder decls past.state → IsPast decls past []
past_none decls past free first none empty state = record {
  numbers = record { taken = All-nil (IsTaken past.numbers); noted = λ t h. absurd (false≢true (sym (free t) ∙ h)) };
  next = first;
  unsettled = none;
  history = empty;
  state = state;
}

module _ (decls : Decls) (old new : Past) (before : List Entry) (entry : Entry) (past : IsPast decls old before)
    (notes : NotesNumber old.numbers new.numbers (number_of entry)) (told : new.unsettled ≡ noted old.unsettled entry) where
  -- an entry that commits nothing
  pub past_same : commits before entry ≡ [] → new.state ≡ old.state → IsPast decls new (before ++ entry ∷ [])
  past_same none same = record {
    numbers = numbers_noted old.numbers new.numbers before entry past.next past.numbers notes;
    next = notes.next ∙ past.next;
    unsettled = unsettled_more before entry old.unsettled new.unsettled past.unsettled told;
    history = ap (λ (s : State). s.history) same ∙ past.history
        ∙ sym (history_of-append before entry ∙ ap (λ (l : List Call). history_of before ++ l) none ∙ append-nil (history_of before));
    state = subst (λ (s : State). IsStateUnder decls s) (sym same) past.state;
  }

  -- an entry that commits a call
  pub past_more : (call : Call) → commits before entry ≡ call ∷ [] → new.state.history ≡ old.state.history ++ call ∷ [] → IsStateUnder decls new.state
      → IsPast decls new (before ++ entry ∷ [])
  past_more call one longer state = record {
    numbers = numbers_noted old.numbers new.numbers before entry past.next past.numbers notes;
    next = notes.next ∙ past.next;
    unsettled = unsettled_more before entry old.unsettled new.unsettled past.unsettled told;
    history = longer ∙ ap (λ (l : List Call). l ++ call ∷ []) past.history
        ∙ sym (history_of-append before entry ∙ ap (λ (l : List Call). history_of before ++ l) one);
    state = state;
  }

-- an entry that commits a call after which the history is not legal
pub past_ends : (decls : Decls) (old : Past) (before : List Entry) (entry : Entry) (call : Call) → IsPast decls old before → commits before entry ≡ call ∷ []
    → (IsTrue (is_call decls call) → IsDue decls old.state.history call → ⊥) → IsLegal decls (history_of (before ++ entry ∷ [])) → ⊥
past_ends decls old before entry call past one never legal =
    let e : history_of (before ++ entry ∷ []) ≡ history_of before ++ call ∷ [] =
    history_of-append before entry ∙ ap (λ (l : List Call). history_of before ++ l) one in
    let last = legal_last decls (history_of before) call (subst (λ (l : List Call). IsLegal decls l) e legal) in
    never last.0 (subst (λ (l : List Call). IsDue decls l call) (sym past.history) last.1)

cons_is : (call : Call) (calls : List Call) → [] ≡ call ∷ calls → ⊥
cons_is call calls e = cc

-- only a Decide commits a call
pub decides : (before : List Entry) (entry : Entry) (call : Call) → commits before entry ≡ call ∷ [] → (t : ℕ) × (entry ≡ Decide t)
decides before (Intent t c devices) call e = absurd (cons_is call [] e)
decides before (Decide t) call e = (t, refl)
decides before (Abort t) call e = absurd (cons_is call [] e)
decides before (Settled t) call e = absurd (cons_is call [] e)

-- the entries up to a place, and the one there
upto : (entries : List Entry) (place : ℕ) (entry : Entry) → place < length entries → entry ≡ get_or entries place entry → take place entries ++ entry ∷ [] ≡ take (place + 1) entries
upto entries place entry within is = ap (λ e. take place entries ++ e ∷ []) is ∙ sym (take_more entries place entry within)

pub past_upto : (decls : Decls) (past : Past) (entries : List Entry) (place : ℕ) (entry : Entry) → place < length entries → entry ≡ get_or entries place entry
    → IsPast decls past (take place entries ++ entry ∷ []) → IsPast decls past (take (place + 1) entries)
past_upto decls past entries place entry within is h = subst (λ (l : List Entry). IsPast decls past l) (upto entries place entry within is) h

pub illegal_at : (decls : Decls) (past : Past) (entries : List Entry) (place : ℕ) (entry : Entry) → place < length entries → entry ≡ get_or entries place entry
    → IsPast decls past (take place entries) → ((t : ℕ) × (entry ≡ Decide t)) × (IsLegal decls (history_of (take place entries ++ entry ∷ [])) → ⊥)
    → IsIllegalDecide decls entries place
illegal_at decls past entries place entry within is so h = record {
  t = h.0.0;
  decide = slice_get_read entries (length entries) place entry refl within is ∙ ap Some h.0.1;
  before = subst (λ (l : List Call). IsLegal decls l) so.history so.state.legal;
  illegal = λ legal. h.1 (subst (λ (l : List Entry). IsLegal decls (history_of l)) (sym (upto entries place entry within is)) legal);
}

-- a call that is new is no entry
not_new : (history : List Call) (call entry : Call) (n : ℕ) → slice_get history n ≡ Some entry → IsSame entry call → IsNew history call → ⊥
not_new history call entry n at one new =
    subst (λ (e : Call). IsSame e call → ⊥) (get_or_from_slice_get history n entry entry at)
    (All-get_or (λ (e : Call). IsSame e call → ⊥) history n entry (slice_get_within history n entry at) new) one

-- what is answered without a change isn't due
pub not_due : (decls : Decls) (history : List Call) (call : Call) (answer : Answer) → AnswersAtOnce decls history call answer → IsDue decls history call → ⊥
not_due decls history call _ (again n at) due = not_new history call call n at (refl, refl) due.new
not_due decls history call _ (reused n entry at one other) due = not_new history call entry n at one due.new
not_due decls history call answer (refused _ new is) due = let s : None ≡ Some answer = sym due.unrefused ∙ is in absurd cc
