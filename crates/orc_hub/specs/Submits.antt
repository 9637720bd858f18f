-- What `submit` does.
use Rattle.std.specs.Prelude.{◌≡◌, ◌⊎◌, ◌+◌, ℕ, true, false, List, [], ◌∷◌, ◌++◌, Option, Result, slice_get}
use Rattle.std.specs.declared.option.Option.TheVariants.{None, Some}
use Rattle.std.specs.declared.result.Result.TheVariants.{Ok, Err}
use Rattle.orc_call.specs.declared.answer.Answer.{Answer}
use Rattle.orc_call.specs.declared.answer.Answer.TheVariants as answer
use Rattle.orc_call.specs.declared.call.Call.{Call}
use Rattle.orc_datastore.specs.Legal.{IsNew, IsSame}
use Rattle.orc_datastore.specs.declared.plan.Plan.{Plan}
use Rattle.orc_rules.specs.Asked.{KeepsAnswer, open_of, slot_of, with_open}
use Rattle.orc_rules.specs.Worlds.{AnswersSubmission, IsNumberedEntry}
use Rattle.orc_rules.specs.declared.transaction.Waiting.{Waiting}
use Rattle.orc_hub_parts.specs.Askers.{opened_at}
use Rattle.orc_hub.specs.Hubs.{record_of}
use Rattle.orc_hub.specs.declared.hub.Hub.{Hub}
use Rattle.orc_hub.specs.declared.hub.Submitted.{Submitted}
use Rattle.orc_hub.specs.declared.hub.Submitted.TheVariants as submitted
use Rattle.orc_hub_parts.specs.Numbered.{GivesNumber, IsLeastFree}

-- The answer to a call whose caller and number an entry has: that entry again where the call is equal, else that the
-- number is taken.
pub data AnswersAgain (history : List Call) (call : Call) : Answer → Type 0 where
  again : (number : ℕ) → IsNumberedEntry history number call → AnswersAgain history call (answer.Committed number)
  reused : (number : ℕ) (entry : Call) → IsNumberedEntry history number entry → IsSame entry call → (entry ≡ call → ⊥)
      → AnswersAgain history call (answer.Reused number)

module _ {D : Type 0} (old : Hub D) (call : Call) where
  -- the call is answered by no more than its plan: its caller has no open call, and no entry its caller and number
  pub record IsFree : Type 0 where
    pub closed : open_of old.askers call.caller ≡ None
    pub new : IsNew old.state.history call

  -- What is kept of the answer is kept, and nothing else changes.
  pub record HasKept (said : Answer) (new : Hub D) : Type 0 where
    pub kept : KeepsAnswer call said old.askers new.askers
    pub rest : new ≡ record old { askers = new.askers }

  -- the call gets this answer at once, or that memory ran out for its slot, which there isn't yet
  abbrev pub AnswersWith : Answer → Submitted → Hub D → Type 0
  AnswersWith due (submitted.Answered said) new =
      ((said ≡ due) ⊎ ((said ≡ answer.Memory) × (slot_of old.askers call ≡ None))) × HasKept said new
  AnswersWith due (submitted.Queued t) new = ⊥

  -- the call gets this answer at once, or that memory ran out
  abbrev pub AnswersNow : Answer → Submitted → Hub D → Type 0
  AnswersNow due (submitted.Answered said) new = ((said ≡ due) ⊎ (said ≡ answer.Memory)) × HasKept said new
  AnswersNow due (submitted.Queued t) new = ⊥

  -- The call waits by this plan, as the transaction of the least free number, and its slot is open. Nothing else
  -- changes.
  pub record IsQueued (plan : Plan) (t : ℕ) (new : Hub D) : Type 0 where
    pub asker : ℕ
    pub slot : slot_of (with_open call old.askers) call ≡ Some asker
    pub least : IsLeastFree old.numbers t
    pub given : GivesNumber old.numbers new.numbers t
    pub waits : new ≡ record old {
      waiting = old.waiting ++ record { t = t; call = call; plan = plan; asker = asker } ∷ [];
      askers = with_open call old.askers;
      numbers = new.numbers;
    }

  -- the call waits, or is answered that memory ran out
  abbrev pub Queues : Plan → Submitted → Hub D → Type 0
  Queues plan (submitted.Answered said) new = (said ≡ answer.Memory) × HasKept said new
  Queues plan (submitted.Queued t) new = IsQueued plan t new

  -- What `submit` does: where the hub is down the call is answered so. Else it gets the answer that is due at once, or
  -- waits. The answer is kept, whichever it is, and where that takes a slot the answer may be Memory instead: that the
  -- hub is down, or that its caller has an open call, is answered without memory where the call has its slot.
  abbrev pub Submits : ℕ → Result Plan Answer → Submitted → Hub D → Type 0
  Submits front plan (submitted.Answered said) new =
      ((old.down ≡ true) × ((said ≡ answer.Down) ⊎ ((said ≡ answer.Memory) × (slot_of old.askers call ≡ None)))
      × HasKept said new)
      ⊎ ((old.down ≡ false) × AnswersSubmission old.decls (record_of old) old.state.history call front said
      × HasKept said new
      × (said ≡ answer.Memory → (open_of old.askers call.caller ≡ None) ⊎ (slot_of old.askers call ≡ None)))
  Submits front plan (submitted.Queued t) new =
      (old.down ≡ false) × IsFree × ((it : Plan) × (plan ≡ Ok it) × IsQueued it t new)

-- A call with its slot at this place, which is answered that memory ran out: it waits, and the slot is open, with
-- this last answer; or nothing changes.
abbrev pub Waits : {D : Type 0} → Hub D → Call → Plan → ℕ → Option Answer → Submitted → Hub D → Type 0
Waits old call plan asker last (submitted.Answered said) new = (said ≡ answer.Memory) × (new ≡ old)
Waits old call plan asker last (submitted.Queued t) new =
    IsLeastFree old.numbers t × GivesNumber old.numbers new.numbers t
    × (new ≡ record old {
      waiting = old.waiting ++ record { t = t; call = call; plan = plan; asker = asker } ∷ [];
      askers = opened_at last asker old.askers;
      numbers = new.numbers;
    })
