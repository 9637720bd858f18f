-- Whether a command makes its bundle, or reads it.
use Rattle.std.proofs.Common.{◌≡◌, ℕ, List, Option, Some, None, Result, Ok, Err, IfOk, IfErr, refl, sym, ap, subst}
use Rattle.std.proofs.lemmas.Option.{same_Some}
use Rattle.orc_bundle.specs.Bundles.{scripted_of}
use Rattle.orc_decls.specs.declared.rule.Rule.{Rule}
use Rattle.orc_generator.specs.Generated.{generated}
use Rattle.orc_words.specs.Words.{IsInRanges}
use Rattle.orc_words.specs.declared.words.Command.{Command}
use Rattle.orc_words.specs.declared.words.Command.TheVariants.{Check, Run, History, Gen}
use Rattle.orc_run.specs.Ends.{GivesBundle, GivesBundleFor, GivesFault, GivesFaultFor}
use Rattle.orc_run.specs.declared.reading.Input.{Input}
use Rattle.orc_run.specs.declared.stop.Stop.{Stop}
use Rattle.orc_run.specs.declared.stop.Stop.TheVariants as ending
use Rattle.orc_run.specs.inside.Inputs.{IsInputStop, IsMadeStop, numbers_of, scripted}

-- a command with these numbers
command_is : (command : Command) (n d c : ℕ) → numbers_of command ≡ Some (n, d, c) → command ≡ Gen n d c
command_is Check n d c is = absurd cc
command_is Run n d c is = absurd cc
command_is History n d c is = absurd cc
command_is (Gen a b e) n d c is = ap (λ (p : ℕ × ℕ × ℕ). Gen p.0 p.1 p.2) (same_Some {A = ℕ × ℕ × ℕ} (a, b, e) (n, d, c) is)

module _ (command : Command) (n d c : ℕ) (is : numbers_of command ≡ Some (n, d, c)) where
  pub in_ranges : IsInRanges command → IsInRanges (Gen n d c)
  in_ranges within = subst (λ (k : Command). IsInRanges k) (command_is command n d c is) within

  pub made_gives : (left : Option (List ℕ)) (r : Result Input Stop) → IfOk r (λ input. scripted_of (generated n d c) ≡ Ok (scripted input))
      → IfOk r (λ input. GivesBundleFor command left left (scripted input))
  made_gives left r gives =
      subst (λ (k : Command). IfOk r (λ input. GivesBundleFor k left left (scripted input))) (sym (command_is command n d c is)) (on r gives)
    where
      on : (r : Result Input Stop) → IfOk r (λ input. scripted_of (generated n d c) ≡ Ok (scripted input))
          → IfOk r (λ input. GivesBundleFor (Gen n d c) left left (scripted input))
      on (Ok input) gives = (gives, refl)
      on (Err end) gives = tt

  pub made_faults : (left : Option (List ℕ)) (line : ℕ) (rule : Rule) → scripted_of (generated n d c) ≡ Err (line, rule) → GivesFaultFor command left left line rule
  made_faults left line rule fault = subst (λ (k : Command). GivesFaultFor k left left line rule) (sym (command_is command n d c is)) (fault, refl)

module _ (command : Command) (is : numbers_of command ≡ None) where
  pub read_gives : (left left' : Option (List ℕ)) (r : Result Input Stop) → IfOk r (λ input. GivesBundle left left' (scripted input))
      → IfOk r (λ input. GivesBundleFor command left left' (scripted input))
  read_gives left left' r gives = on command is
    where
      on : (k : Command) → numbers_of k ≡ None → IfOk r (λ input. GivesBundleFor k left left' (scripted input))
      on Check is = gives
      on Run is = gives
      on History is = gives
      on (Gen a b e) is = absurd cc

  pub read_faults : (left left' : Option (List ℕ)) (line : ℕ) (rule : Rule) → GivesFault left left' line rule → GivesFaultFor command left left' line rule
  read_faults left left' line rule fault = on command is
    where
      on : (k : Command) → numbers_of k ≡ None → GivesFaultFor k left left' line rule
      on Check is = fault
      on Run is = fault
      on History is = fault
      on (Gen a b e) is = absurd cc

-- why a bundle that is made isn't there
made_stop : (end : Stop) → IsMadeStop end → IsInputStop end
made_stop (ending.Bundle line rule) why = tt
made_stop ending.Usage why = absurd why
made_stop ending.ReadFault why = absurd why
made_stop ending.Memory why = tt
made_stop ending.WriteFault why = absurd why
made_stop ending.JournalFault why = absurd why
made_stop (ending.Foreign at) why = absurd why
made_stop (ending.Full len) why = absurd why
made_stop ending.NotJournal why = absurd why
made_stop (ending.Damaged at) why = absurd why

pub made_causes : (r : Result Input Stop) → IfErr r IsMadeStop → IfErr r IsInputStop
made_causes (Ok input) why = tt
made_causes (Err end) why = made_stop end why

-- reading is no cause of it
pub made_unread : (r : Result Input Stop) → IfErr r IsMadeStop → r ≡ Err ending.ReadFault → ⊥
made_unread (Ok input) why is = cc
made_unread (Err end) why is = none end why cc
  where
    none : (end : Stop) → IsMadeStop end → end ≡ ending.ReadFault → ⊥
    none (ending.Bundle line rule) why is = cc
    none ending.Memory why is = cc
    none ending.Usage why is = why
    none ending.ReadFault why is = why
    none ending.WriteFault why is = why
    none ending.JournalFault why is = why
    none (ending.Foreign at) why is = why
    none (ending.Full len) why is = why
    none ending.NotJournal why is = why
    none (ending.Damaged at) why is = why
