-- What comes of a submission, in the words of the rules.
use Rattle.std.proofs.Common.{◌≡◌, ◌⊎◌, inl, inr, ⊎_elim, ℕ, ◌≤◌, Bool, true, false, not, ◌&&◌, nat_lt, List, None, Some, Err, Ok, refl, sym, ap, subst, ◌∙◌, arith, ltb-true}
use Rattle.std.specs.Prelude.{MatchResult, Result, take}
use Rattle.std.proofs.lemmas.Bool.{false≢true}
use Rattle.std.proofs.lemmas.List.Elements.{All-weaker}
use Rattle.orc_call.specs.declared.answer.Answer.{Answer}
use Rattle.orc_call.specs.declared.answer.Answer.TheVariants as answer
use Rattle.orc_call.specs.declared.call.Call.{Call}
use Rattle.orc_datastore.specs.Legal.{IsNew, state_of}
use Rattle.orc_datastore.specs.Plans.{planned}
use Rattle.orc_datastore.specs.declared.plan.Plan.{Plan}
use Rattle.orc_disk.specs.Meanings.{DiskMeaning}
use Rattle.orc_journal.specs.Entries.{number_of}
use Rattle.orc_journal.specs.declared.entry.Entry.{Entry}
use Rattle.orc_rules.specs.Asked.{open_of}
use Rattle.orc_rules.specs.Worlds.{AnswersSubmission, IsNextNumber}
use Rattle.orc_rules.specs.Worlds.AnswersSubmission.{again as repeats, busy, refuses, reused as renumbers, wanting}
use Rattle.orc_hub.specs.Hubs.{record_of}
use Rattle.orc_hub.specs.Keeps.{IsHub}
use Rattle.orc_hub.specs.Submits.{AnswersAgain, AnswersNow, AnswersWith, Queues, Submits}
use Rattle.orc_hub.specs.Submits.AnswersAgain.{again, reused}
use Rattle.orc_hub.specs.declared.hub.Hub.{Hub}
use Rattle.orc_hub.specs.declared.hub.Submitted.{Submitted}
use Rattle.orc_hub.specs.declared.hub.Submitted.TheVariants as submitted
use Rattle.orc_hub_parts.specs.Numbered.{IsLeastFree, is_given, is_noted}

-- there is no plan, for this
abbrev refused : Answer → Result Plan Answer
refused given = Err given

module _ {D : Type 0} (old : Hub D) (call : Call) (front : ℕ) (plan : Result Plan Answer) (up : old.down ≡ false) where
  wanted : (said : Answer) → said ≡ answer.Memory → AnswersSubmission old.decls (record_of old) old.state.history call front said
  wanted said is = subst (λ (a : Answer). AnswersSubmission old.decls (record_of old) old.state.history call front a) (sym is) wanting

  module _ (closed : open_of old.askers call.caller ≡ None) where
    -- it is answered at once
    pub now_is : (due : Answer) → AnswersSubmission old.decls (record_of old) old.state.history call front due → (result : Submitted) (new : Hub D)
        → AnswersNow old call due result new → Submits old call front plan result new
    now_is due cause (submitted.Answered said) new w = inr (
      up,
      ⊎_elim (λ same. subst (λ (a : Answer). AnswersSubmission old.decls (record_of old) old.state.history call front a) (sym same) cause) (λ memory. wanted said memory) w.0,
      w.1,
      λ _. inl closed,
    )
    now_is due cause (submitted.Queued t) new w = absurd w

    pub again_is : (said : Answer) → AnswersAgain old.state.history call said → AnswersSubmission old.decls (record_of old) old.state.history call front said
    again_is said (again number entry) = repeats number closed entry
    again_is said (reused number entry there same differ) = renumbers number entry closed there same differ

    -- it is answered by no more than its plan
    free_is : (p : Result Plan Answer) → plan ≡ p → (p ≡ Err answer.Memory) ⊎ (p ≡ planned old.decls (state_of old.decls (take front old.state.history)) front call)
        → IsNew old.state.history call → (result : Submitted) (new : Hub D)
        → MatchResult p (λ it. Queues old call it result new) (λ said. AnswersNow old call said result new) → Submits old call front plan result new
    free_is (Ok it) is of fresh (submitted.Answered said) new w = inr (up, wanted said w.0, w.1, λ _. inl closed)
    free_is (Ok it) is of fresh (submitted.Queued t) new w = (up, record { closed = closed; new = fresh }, (it, is, w))
    free_is (Err given) is of fresh result new w = now_is given (cause given of) result new w
      where
        cause : (given : Answer) → (refused given ≡ refused answer.Memory) ⊎ (refused given ≡ planned old.decls (state_of old.decls (take front old.state.history)) front call)
            → AnswersSubmission old.decls (record_of old) old.state.history call front given
        cause given (inl memory) = wanted given (let same : given ≡ answer.Memory = cc in same)
        cause given (inr is) = refuses given closed fresh (sym is)

    pub plan_is : (plan ≡ Err answer.Memory) ⊎ (plan ≡ planned old.decls (state_of old.decls (take front old.state.history)) front call)
        → IsNew old.state.history call → (result : Submitted) (new : Hub D)
        → MatchResult plan (λ it. Queues old call it result new) (λ said. AnswersNow old call said result new) → Submits old call front plan result new
    plan_is of fresh result new w = free_is plan refl of fresh result new w

  -- its caller has an open call
  pub busy_is : (number : ℕ) → open_of old.askers call.caller ≡ Some number → (result : Submitted) (new : Hub D)
      → AnswersWith old call (answer.Busy number) result new → Submits old call front plan result new
  busy_is number is (submitted.Answered said) new w = inr (
    up,
    ⊎_elim (λ same. subst (λ (a : Answer). AnswersSubmission old.decls (record_of old) old.state.history call front a) (sym same) (busy number is)) (λ memory. wanted said memory.0) w.0,
    w.1,
    λ memory. ⊎_elim (λ same. absurd (let no : answer.Busy number ≡ answer.Memory = sym same ∙ memory in cc)) (λ none. inr none.1) w.0,
  )
  busy_is number is (submitted.Queued t) new w = absurd w

-- the hub is down
pub down_is : {D : Type 0} (old : Hub D) (call : Call) (front : ℕ) (plan : Result Plan Answer) → old.down ≡ true → (result : Submitted) (new : Hub D)
    → AnswersWith old call answer.Down result new → Submits old call front plan result new
down_is old call front plan down (submitted.Answered said) new w = inl (down, w.0, w.1)
down_is old call front plan down (submitted.Queued t) new w = absurd w

-- an answer that is there twice
pub now_with : {D : Type 0} (old : Hub D) (call : Call) (due given : Answer) → (given ≡ due) ⊎ (given ≡ answer.Memory) → (result : Submitted) (new : Hub D)
    → AnswersWith old call given result new → AnswersNow old call due result new
now_with old call due given of (submitted.Answered said) new w =
    (⊎_elim (λ same. ⊎_elim (λ is. inl (same ∙ is)) (λ memory. inr (same ∙ memory)) of) (λ none. inr none.0) w.0, w.1)
now_with old call due given of (submitted.Queued t) new w = absurd w

-- the number of a call that waits is the next one
not_given : (n a b : Bool) → b ≡ false → (not n && a && b) ≡ false
not_given true a b e = refl
not_given false true b e = e
not_given false false b e = refl

not_below : (a b : ℕ) → b ≤ a → nat_lt a b ≡ false
not_below a b h = on (nat_lt a b) refl
  where
    on : (t : Bool) → nat_lt a b ≡ t → t ≡ false
    on true e = absurd (let lt = ltb-true a b e in omega (arith, lt, h))
    on false e = refl

pub next_number : {D : Type 0} (disk : DiskMeaning D) (hub : Hub D) (entries : List Entry) (t : ℕ) → IsHub disk hub entries → IsLeastFree hub.numbers t
    → IsNextNumber (record_of hub) entries t
next_number disk hub entries t own least = record {
  positive = least.positive;
  new = fresh;
  unused = All-weaker (λ (entry : Entry). (is_noted hub.numbers (number_of entry) ≡ true) ⊎ (is_given hub.numbers (number_of entry) ≡ true)) (λ (entry : Entry). number_of entry ≡ t → ⊥)
      (λ entry taken same. ⊎_elim
      (λ noted. false≢true (sym least.unnoted ∙ ap (is_noted hub.numbers) (sym same) ∙ noted))
      (λ given. false≢true (sym fresh ∙ ap (is_given hub.numbers) (sym same) ∙ given)) taken) entries own.numbers.taken;
  least = λ lower positive below. ⊎_elim (λ given. inl given) (λ noted. inr (λ none. own.numbers.noted lower noted none)) (least.least lower positive below);
}
  where
    fresh : is_given hub.numbers t ≡ false
    fresh = not_given (is_noted hub.numbers t) (nat_lt 0 t) (nat_lt t hub.numbers.next) (not_below t hub.numbers.next least.behind)

-- and where a submission waits
pub queued_number : {D : Type 0} (disk : DiskMeaning D) (hub : Hub D) (call : Call) (front : ℕ) (plan : Result Plan Answer) (result : Submitted) (new : Hub D)
    → Submits hub call front plan result new → (entries : List Entry) (t : ℕ) → IsHub disk hub entries → result ≡ submitted.Queued t → IsNextNumber (record_of hub) entries t
queued_number disk hub call front plan result new s entries t own is =
    next_number disk hub entries t own (subst (λ (r : Submitted). Submits hub call front plan r new) is s).2.2.least
