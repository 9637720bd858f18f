-- What a script is, where no line of it is at fault.
use Rattle.std.proofs.Common.{◌≡◌, ℕ, ◌≤◌, ◌<◌, ◌+◌, true, false, List, [], ◌∷◌, ◌++◌, codes, length, length-append, Ok, refl, ap, sym, ◌∙◌, subst, arith, append_assoc, append-nil}
use Rattle.std.specs.List.{list_any}
use Rattle.std.proofs.lemmas.Bool.{false≢true, leb-false}
use Rattle.orc_call.specs.declared.call.Call.{Call}
use Rattle.orc_decls.specs.declared.declarations.Decls.{Decls}
use Rattle.orc_script.specs.Steps.{callers_behind}
use Rattle.orc_script.specs.Scripts.{script_steps, is_full, no_steps, scripted_at}
use Rattle.orc_lines.specs.Lines.{is_end, is_skipped, text_of}
use Rattle.orc_lines.specs.Names.{with_name}
use Rattle.orc_lines.specs.Words.{is_text}
use Rattle.orc_script.specs.declared.step.ScriptStep.{ScriptStep}
use Rattle.orc_script.specs.declared.step.ScriptStep.TheVariants as script_step
use Rattle.orc_script.specs.declared.script.Script.{Script}
use Rattle.orc_script.specs.declared.script.Part.{Part}
use Rattle.orc_script.specs.declared.script.TheConstants.{MOST_CALLERS, MOST_STEPS}
use Rattle.orc_lines.proofs.Keywords.{skipped_no_end}
use Rattle.orc_lines.proofs.Rules.{on_line_ok, same_ok}
use Rattle.orc_script.proofs.ScriptLines.{Called, Ended, MakesOf, Stays, Stepped, called, ended, is_resting, makes, over, stays, stepped}

-- what follows where no call is open, and where one is
pub record Rests (s : Script) (steps : List ScriptStep) : Type 0 where
  pub more : List ScriptStep
  pub is : steps ≡ s.steps ++ more
  pub few : length steps ≤ MOST_STEPS
  pub callers : length (callers_behind s.callers more) ≤ MOST_CALLERS

pub record Serves (s : Script) (steps : List ScriptStep) : Type 0 where
  pub call : Call
  pub more : List ScriptStep
  pub is : steps ≡ s.steps ++ script_step.Call call ∷ more
  pub caller : call.caller ≡ s.caller
  pub few : length steps ≤ MOST_STEPS
  pub callers : length (callers_behind s.callers more) ≤ MOST_CALLERS

pub record Grows (s : Script) (lines : List (List ℕ)) (steps : List ScriptStep) : Type 0 where
  pub rests : is_resting s.part ≡ true → Rests s steps
  pub serves : is_resting s.part ≡ false → list_any is_end lines ≡ true → Serves s steps

-- the limits are kept, and an open call has room to be a step
pub record IsKept (s : Script) : Type 0 where
  pub few : length s.steps ≤ MOST_STEPS
  pub room : is_resting s.part ≡ false → length s.steps < MOST_STEPS
  pub callers : length s.callers ≤ MOST_CALLERS

both_sides : (p : Part) → is_resting p ≡ true → is_resting p ≡ false → ⊥
both_sides p here not_here = false≢true (sym not_here ∙ here)

room_left : (s : Script) → is_full s ≡ false → length s.steps < MOST_STEPS
room_left s h = leb-false MOST_STEPS (length s.steps) h

-- the line is another than `end`
end_behind : (line : List ℕ) (later : List (List ℕ)) → is_text (text_of line) (codes "end") ≡ false → list_any is_end (line ∷ later) ≡ list_any is_end later
end_behind line later h = rw h refl

module _ (d : Decls) where
  abbrev pub Grown : List (List ℕ) → Type 0
  Grown lines = (s : Script) (at n : ℕ) (steps : List ScriptStep) → script_steps d s at n lines ≡ Ok steps → IsKept s → Grows s lines steps

  module _ (line : List ℕ) (later : List (List ℕ)) (grown : Grown later) (s : Script) (at n : ℕ) (steps : List ScriptStep) (t : Script) (reads : script_steps d t at n later ≡ Ok steps) (kept : IsKept s) where
    of_skipped : is_skipped (text_of line) ≡ true → s ≡ t → Grows s (line ∷ later) steps
    of_skipped skip same =
        let all = grown s at n steps (subst (λ (x : Script). script_steps d x at n later ≡ Ok steps) (sym same) reads) kept in
        record {
          rests = all.rests;
          serves = λ here h. all.serves here (sym (end_behind line later (skipped_no_end (text_of line) skip)) ∙ h);
        }

    of_step : Stepped s t → Grows s (line ∷ later) steps
    of_step m =
        let room = room_left s m.room in
        let size = length-append s.steps (m.step ∷ []) in
        let now : IsKept t = record {
          few = subst (λ (x : List ScriptStep). length x ≤ MOST_STEPS) (sym m.steps) (omega arith);
          room = λ open_now. absurd (both_sides t.part (ap is_resting m.rests) open_now);
          callers = m.few kept.callers;
        } in
        let r = (grown t at n steps reads now).rests (ap is_resting m.rests) in
        record {
          rests = λ _. record {
            more = m.step ∷ r.more;
            is = r.is ∙ ap (λ (x : List ScriptStep). x ++ r.more) m.steps ∙ append_assoc s.steps (m.step ∷ []) r.more;
            few = r.few;
            callers = subst (λ (x : List (List ℕ)). length (callers_behind x r.more) ≤ MOST_CALLERS) m.callers r.callers;
          };
          serves = λ open_now. absurd (both_sides s.part (ap is_resting m.resting) open_now);
        }

    of_call : Called later s t → Grows s (line ∷ later) steps
    of_call m =
        let now : IsKept t = record {
          few = subst (λ (x : List ScriptStep). length x ≤ MOST_STEPS) (sym m.steps) kept.few;
          room = λ _. subst (λ (x : List ScriptStep). length x < MOST_STEPS) (sym m.steps) (room_left s m.room);
          callers = m.few kept.callers;
        } in
        let v = (grown t at n steps reads now).serves (ap is_resting m.open_now) m.ends in
        record {
          rests = λ _. record {
            more = script_step.Call v.call ∷ v.more;
            is = v.is ∙ ap (λ (x : List ScriptStep). x ++ script_step.Call v.call ∷ v.more) m.steps;
            few = v.few;
            callers = subst (λ (x : List (List ℕ)). length (callers_behind x v.more) ≤ MOST_CALLERS) (m.callers ∙ ap (with_name s.callers) (sym v.caller)) v.callers;
          };
          serves = λ open_now. absurd (both_sides s.part (ap is_resting m.resting) open_now);
        }

    of_inner : Stays (text_of line) s t → Grows s (line ∷ later) steps
    of_inner m =
        let now : IsKept t = record {
          few = subst (λ (x : List ScriptStep). length x ≤ MOST_STEPS) (sym m.steps) kept.few;
          room = λ _. subst (λ (x : List ScriptStep). length x < MOST_STEPS) (sym m.steps) (kept.room m.was_open);
          callers = subst (λ (x : List (List ℕ)). length x ≤ MOST_CALLERS) (sym m.callers) kept.callers;
        } in
        let all = grown t at n steps reads now in
        record {
          rests = λ here. absurd (both_sides s.part here m.was_open);
          serves = λ _ h. (let v = all.serves m.open_now (sym (end_behind line later m.other) ∙ h) in record {
            call = v.call;
            more = v.more;
            is = v.is ∙ ap (λ (x : List ScriptStep). x ++ script_step.Call v.call ∷ v.more) m.steps;
            caller = v.caller ∙ m.caller;
            few = v.few;
            callers = subst (λ (x : List (List ℕ)). length (callers_behind x v.more) ≤ MOST_CALLERS) m.callers v.callers;
          });
        }

    of_end : Ended s t → Grows s (line ∷ later) steps
    of_end m =
        let room = kept.room m.was_open in
        let size = length-append s.steps (script_step.Call m.call ∷ []) in
        let now : IsKept t = record {
          few = subst (λ (x : List ScriptStep). length x ≤ MOST_STEPS) (sym m.steps) (omega arith);
          room = λ open_now. absurd (both_sides t.part (ap is_resting m.resting) open_now);
          callers = subst (λ (x : List (List ℕ)). length x ≤ MOST_CALLERS) (sym m.callers) kept.callers;
        } in
        let r = (grown t at n steps reads now).rests (ap is_resting m.resting) in
        record {
          rests = λ here. absurd (both_sides s.part here m.was_open);
          serves = λ _ _. record {
            call = m.call;
            more = r.more;
            is = r.is ∙ ap (λ (x : List ScriptStep). x ++ r.more) m.steps ∙ append_assoc s.steps (script_step.Call m.call ∷ []) r.more;
            caller = m.caller;
            few = r.few;
            callers = subst (λ (x : List (List ℕ)). length (callers_behind x r.more) ≤ MOST_CALLERS) m.callers r.callers;
          };
        }

    of_any : MakesOf s (text_of line) later t → Grows s (line ∷ later) steps
    of_any (over skip same) = of_skipped skip same
    of_any (stepped m) = of_step m
    of_any (called m) = of_call m
    of_any (stays m) = of_inner m
    of_any (ended m) = of_end m

  grown : (lines : List (List ℕ)) → Grown lines
  grown [] s at n steps h kept =
      let same = same_ok s.steps steps h in
      record {
        rests = λ here. record {
          more = [];
          is = sym same ∙ sym (append-nil s.steps);
          few = subst (λ (x : List ScriptStep). length x ≤ MOST_STEPS) same kept.few;
          callers = kept.callers;
        };
        serves = λ here none. absurd (false≢true none);
      }
  grown (line ∷ later) s at n steps h kept =
      let found = on_line_ok (n + 1) (scripted_at d s at line later) (λ t. script_steps d t (at + length line) (n + 1) later) steps h in
      of_any line later (grown later) s (at + length line) (n + 1) steps found.0 found.1.1 kept (makes d s at line later found.0 found.1.0)

-- a whole script
pub limited_script : (d : Decls) (at n : ℕ) (lines : List (List ℕ)) (steps : List ScriptStep) → script_steps d no_steps at n lines ≡ Ok steps
    → (length steps ≤ MOST_STEPS) × (length (callers_behind [] steps) ≤ MOST_CALLERS)
limited_script d at n lines steps h =
    let first : IsKept no_steps = record { few = omega arith; room = λ none. absurd (false≢true (sym none)); callers = omega arith } in
    let r = (grown d lines no_steps at n steps h first).rests refl in
    let same : steps ≡ r.more = r.is in (
      r.few,
      subst (λ (x : List ScriptStep). length (callers_behind [] x) ≤ MOST_CALLERS) (sym same) r.callers,
    )
