-- Only a line `recover` has a recovery.
use Rattle.std.proofs.Common.{◌≡◌, ◌≢◌, ℕ, Bool, true, false, Option, Some, None, List, [], ◌∷◌, ◌++◌, map, Contains, refl, subst}
use Rattle.std.specs.Prelude.{All}
use Rattle.std.specs.List.{flat_map}
use Rattle.std.proofs.lemmas.Option.{same_Some}
use Rattle.std.proofs.lemmas.List.Elements.{All-head, All-tail}
use Rattle.orc_decls.specs.declared.declarations.Decls.{Decls}
use Rattle.orc_device.specs.Nodes.{DeviceKind}
use Rattle.orc_disk.specs.Meanings.{DiskMeaning}
use Rattle.orc_rules.specs.Events.{Steps, Turn, seen_failing}
use Rattle.orc_rules.specs.Laws.{setting}
use Rattle.orc_rules.specs.Worlds.{Setting, World, declared}
use Rattle.orc_rules.specs.declared.event.Event.{Event}
use Rattle.orc_rules.specs.declared.event.Event.TheVariants as event
use Rattle.orc_runs.specs.Runs.{AreDone, EndsIn, LineDone, Run, line_list, turns_of}
use Rattle.orc_runs.specs.Scripts.{Goes, IsOf, Part, Part as part, line_parts, round, set_by}
use Rattle.orc_runs.proofs.Lasting.{Each, each_in}
use Rattle.orc_script.specs.declared.step.ScriptStep.{ScriptStep}
use Rattle.orc_script.specs.declared.step.ScriptStep.TheVariants as step
use Rattle.orc_run.proofs.Among.{each_both}

-- parts

-- the part is no recovery
abbrev IsOther : Part → Type 0
IsOther part.Recovery = ⊥
IsOther other = Unit {0}

abbrev AreOther : List Part → Type 0
AreOther [] = Unit {0}
AreOther (one ∷ parts) = IsOther one × AreOther parts

other_both : (parts later : List Part) → AreOther parts → AreOther later → AreOther (parts ++ later)
other_both [] later a b = b
other_both (one ∷ parts) later a b = (a.0, other_both parts later a.1 b)

other_steps : (devices : List ℕ) → AreOther (flat_map (λ device. part.Operation device ∷ part.Hearing device ∷ []) devices)
other_steps [] = tt
other_steps (device ∷ devices) = (tt, (tt, other_steps devices))

other_operations : (devices : List ℕ) → AreOther (map part.Operations devices)
other_operations [] = tt
other_operations (device ∷ devices) = (tt, other_operations devices)

other_round : (decls : Decls) → AreOther (round decls)
other_round decls = (tt, other_both (flat_map (λ device. part.Operation device ∷ part.Hearing device ∷ []) (declared decls)) (part.Decisions ∷ []) (other_steps (declared decls)) (tt, tt))

-- each line but that
other_line : (decls : Decls) (line : ScriptStep) → line ≢ step.Recover → AreOther (line_parts decls line)
other_line decls (step.Begin caller) other = (tt, tt)
other_line decls (step.Call call) other = (tt, (tt, tt))
other_line decls step.Admit other = (tt, tt)
other_line decls (step.Step device) other = (tt, (tt, tt))
other_line decls step.Decide other = (tt, tt)
other_line decls step.Settle other = (tt, tt)
other_line decls (step.Tick seconds) other = (tt, tt)
other_line decls (step.Restart device) other = (tt, tt)
other_line decls step.Stop other = (tt, tt)
other_line decls step.Recover other = absurd (other refl)
other_line decls step.Reconcile other =
    (tt, (tt, other_both (map part.Operations (declared decls)) (part.Ending ∷ []) (other_operations (declared decls)) (tt, tt)))
other_line decls line other = tt

-- events

-- a recovery is of no other part
no_recovery : (one : Part) → IsOther one → IsOf one event.Recover → ⊥
no_recovery part.Recovery other is = other
no_recovery one other is = is

unfailing : (meant : Event) → seen_failing meant ≡ Some event.Recover → ⊥
unfailing (event.Admit t said) is = cc
unfailing (event.Decide t said) is = cc
unfailing (event.Reconcile result) is = cc
unfailing other is = cc

-- the turn is no recovery
abbrev IsNoRecovery : {D : Type 0} → Turn D → Type 0
IsNoRecovery turn = turn.seen ≢ Some event.Recover

module _ {D : Type 0} (here : Setting D) where
  -- what is seen as a recovery was meant to be one
  meant_so : (old : World D) (meant : Event) (seen : Option Event) (new : World D) → Steps here old meant seen new → seen ≡ Some event.Recover
      → meant ≡ event.Recover
  meant_so old meant seen new (Steps.done hub entries next _ up does appends same) is = same_Some meant event.Recover is
  meant_so old meant seen new (Steps.cut hub entries next _ up does appends same) is = absurd cc
  meant_so old meant seen new (Steps.failed hub entries next _ up does appends same) is = absurd (unfailing meant is)
  meant_so old meant seen new (Steps.full hub entries next len _ up does appends same) is = absurd cc
  meant_so old meant seen new (Steps.anyway _ does) is = same_Some meant event.Recover is
  meant_so old meant seen new (Steps.unopened _ down recover stays same) is = recover
  meant_so old meant seen new (Steps.recovers _ down recover reopens same) is = recover

  turn_so : (one : Part) (turn : Turn D) → IsOther one → IsOf one turn.meant → Steps here turn.before turn.meant turn.seen turn.behind → IsNoRecovery turn
  turn_so one turn other is comes seen =
      no_recovery one other (subst (IsOf one) (meant_so turn.before turn.meant turn.seen turn.behind comes seen) is)

  goes_so : (ended : Bool) (parts : List Part) (world : World D) (turns : List (Turn D)) (last : World D) → AreOther parts
      → Goes here ended parts world turns last → Each IsNoRecovery turns
  goes_so ended parts world turns last others (Goes.whole _) = tt
  goes_so ended parts world turns last others (Goes.broken _ _ is) = tt
  goes_so ended parts world turns last others (Goes.once one later turn more _ once next called comes goes) =
      (turn_so one turn others.0 next comes, goes_so ended later turn.behind more last others.1 goes)
  goes_so ended parts world turns last others (Goes.again one later turn more _ again next comes goes) =
      (turn_so one turn others.0 next comes, goes_so ended (one ∷ later) turn.behind more last others goes)
  goes_so ended parts world turns last others (Goes.none one later _ _ _ none goes) = goes_so ended later world turns last others.1 goes
  goes_so ended parts world turns last others (Goes.round_more later _ _ _ goes) =
      goes_so ended (round here.decls ++ part.Rounds ∷ later) world turns last (other_both (round here.decls) (part.Rounds ∷ later) (other_round here.decls) others) goes
  goes_so ended parts world turns last others (Goes.still later _ _ _ still goes) = goes_so ended later world turns last others.1 goes

  -- the lines of a run, that in which it ended too, and those that were not done
  lines_so : (first : World D) (lines : List (LineDone D)) (end : Option (LineDone D)) (middle last : World D) (rest : List ScriptStep)
      → All (λ line. line ≢ step.Recover) (map (λ line. line.step) (lines ++ line_list end) ++ rest)
      → AreDone here first lines middle → EndsIn here middle end last
      → Each IsNoRecovery (flat_map (λ line. line.turns) (lines ++ line_list end))
  lines_so first [] None middle last rest others are ends = tt
  lines_so first [] (Some line) middle last rest others are ends =
      each_both IsNoRecovery line.turns []
      (goes_so true (line_parts here.decls line.step) (set_by line.step line.before) line.turns line.behind
      (other_line here.decls line.step (All-head (λ one. one ≢ step.Recover) line.step rest others)) ends.1.goes)
      tt
  lines_so first (line ∷ lines) end middle last rest others are ends =
      let later : List ScriptStep = map (λ it. it.step) (lines ++ line_list end) ++ rest in
      each_both IsNoRecovery line.turns (flat_map (λ it. it.turns) (lines ++ line_list end))
      (goes_so false (line_parts here.decls line.step) (set_by line.step line.before) line.turns line.behind
      (other_line here.decls line.step (All-head (λ one. one ≢ step.Recover) line.step later others)) are.1.goes)
      (lines_so line.behind lines end middle last rest (All-tail (λ one. one ≢ step.Recover) line.step later others) are.2 ends)

pub none_recovers : {D : Type 0} (disk : DiskMeaning D) (decls : Decls) (kinds : ℕ → DeviceKind) (limit : ℕ) (granted : Bool)
    (script : List ScriptStep) (first last : World D) (run : Run (setting disk decls kinds limit granted) script first last)
    → All (λ line. line ≢ step.Recover) script → (turn : Turn D) → Contains (turns_of run) turn → turn.seen ≢ Some event.Recover
none_recovers disk decls kinds limit granted script first last run others turn among =
    let here = setting disk decls kinds limit granted in
    each_in IsNoRecovery (turns_of run) turn
    (lines_so here first run.lines run.end run.middle last run.rest (subst (All (λ line. line ≢ step.Recover)) run.parts others) run.done run.ends) among
