-- What is said of an answer, where its line was made.
use Rattle.std.proofs.Common.{◌≡◌, ◌⊎◌, inl, inr, ℕ, Option, Some, None, List, ◌++◌, ap, ◌∙◌}
use Rattle.std.specs.Global.{Vec}
use Rattle.std.specs.Prelude.{Result, Ok, Err, IfErr, IfOk, MatchOption, MatchResult}
use Rattle.orc_call.specs.declared.answer.Answer.{Answer}
use Rattle.orc_decls.specs.declared.declarations.Decls.{Decls}
use Rattle.orc_print.specs.Printed.{answer_line}
use Rattle.orc_rules.specs.declared.event.Event.{Event}
use Rattle.orc_text.specs.declared.memory.Memory.{Memory}
use Rattle.orc_scene.specs.Effects.{PrintsText}
use Rattle.orc_scene.specs.inside.Effects.{ConcludesAnswer, ConcludesCall, SaysAnswer}
use Rattle.orc_scene.specs.declared.stop.WorldStop.{WorldStop}
use Rattle.orc_scene.specs.declared.stop.WorldStop.TheVariants as stop
use Rattle.orc_scene.specs.declared.scene.Scene.{Scene}

module _ (names : List (List ℕ)) (caller : List ℕ) (number : ℕ) (said : Answer) (before after : List ℕ) where
  -- the text is the line of the answer, where there is one
  printed_line : (line : Result (Vec ℕ) Memory) → IfOk line (λ bytes. bytes.items ≡ answer_line names caller number said)
      → MatchResult line (λ bytes. after ≡ before ++ bytes.items) (λ memory. ⊥) → after ≡ before ++ answer_line names caller number said
  printed_line (Ok bytes) is out = out ∙ ap (λ (text : List ℕ). before ++ text) is
  printed_line (Err memory) is out = absurd out

  said_line : (line : Result (Vec ℕ) Memory) → IfOk line (λ bytes. bytes.items ≡ answer_line names caller number said) → (result : Result (Unit {0}) WorldStop)
      → PrintsText line before result after → SaysAnswer names caller number said before result after
  said_line line is (Ok value) prints = (printed_line line is prints.0, prints.1)
  said_line line is (Err why) prints = prints

  failed_line : (line : Result (Vec ℕ) Memory) → IfOk line (λ bytes. bytes.items ≡ answer_line names caller number said) → (result : Result (Unit {0}) WorldStop)
      → IfErr result (λ why. ((why ≡ stop.JournalFault) × MatchResult line (λ bytes. after ≡ before ++ bytes.items) (λ memory. ⊥)) ⊎ ((why ≡ stop.Memory) × (after ≡ before)))
      → IfErr result (λ why. ((why ≡ stop.JournalFault) × (after ≡ before ++ answer_line names caller number said)) ⊎ ((why ≡ stop.Memory) × (after ≡ before)))
  failed_line line is (Ok value) fails = fails
  failed_line line is (Err why) (inl fault) = inl (fault.0, printed_line line is fault.1)
  failed_line line is (Err why) (inr wanting) = inr wanting

  concludes_line : {D : Type 0} (old new : Scene D) (one : Event) (line : Result (Vec ℕ) Memory) → IfOk line (λ bytes. bytes.items ≡ answer_line names caller number said)
      → (result : Result (Unit {0}) WorldStop) → ConcludesCall old caller one line before result new after → ConcludesAnswer names old caller number said one before result new after
  concludes_line old new one line is result (inl (down, inl cut)) = inl (inl (down, cut))
  concludes_line old new one line is result (inl (down, inr failed)) = inl (inr (down, failed.0, failed.1, failed_line line is result failed.2, failed.3))
  concludes_line old new one line is result (inr (up, answers, prints)) = let says = said_line line is result prints in inr (up, answers, says.0, says.1)

-- What becomes of the world is as the declarations have it.
pub concluded : {D : Type 0} (declared : Option Decls) (caller : List ℕ) (number : ℕ) (said : Answer) (before after : List ℕ) (old new : Scene D) (one : Event) (line : Result (Vec ℕ) Memory)
    → MatchOption declared ⊥ (λ decls. IfOk line (λ bytes. bytes.items ≡ answer_line decls.names caller number said))
    → (result : Result (Unit {0}) WorldStop) → ConcludesCall old caller one line before result new after
    → MatchOption declared ⊥ (λ decls. ConcludesAnswer decls.names old caller number said one before result new after)
concluded None caller number said before after old new one line is result concludes = is
concluded (Some decls) caller number said before after old new one line is result concludes = concludes_line decls.names caller number said before after old new one line is result concludes

pub answer_said : (declared : Option Decls) (caller : List ℕ) (number : ℕ) (said : Answer) (before after : List ℕ) (line : Result (Vec ℕ) Memory)
    → MatchOption declared ⊥ (λ decls. IfOk line (λ bytes. bytes.items ≡ answer_line decls.names caller number said))
    → (result : Result (Unit {0}) WorldStop) → PrintsText line before result after → MatchOption declared ⊥ (λ decls. SaysAnswer decls.names caller number said before result after)
answer_said None caller number said before after line is result prints = is
answer_said (Some decls) caller number said before after line is result prints = said_line decls.names caller number said before after line is result prints
