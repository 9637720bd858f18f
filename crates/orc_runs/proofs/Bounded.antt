-- A `settle` takes so many turns at most.
use Rattle.std.proofs.Common.{[], ◌≡◌, ℕ, ◌≤◌, Bool, true, false, Option, Some, None, List, ◌∷◌, ◌++◌, Contains, length, arith, refl, sym, ap, subst, ◌∙◌, zero, suc}
use Rattle.std.specs.Prelude.{slice_get}
use Rattle.std.specs.List.{flat_map}
use Rattle.std.proofs.lemmas.Bool.{false≢true}
use Rattle.std.proofs.lemmas.Option.{same_Some}
use Rattle.orc_decls.specs.Declarations.{AreDecls}
use Rattle.orc_decls.specs.declared.declarations.Decls.{Decls}
use Rattle.orc_journal.specs.Laws.{KeepsOrder}
use Rattle.orc_journal.specs.declared.entry.Entry.{Entry}
use Rattle.orc_plans.specs.Plans.{LegalStands, PlanStands}
use Rattle.orc_rules.specs.Events.{DoesAnyway, DoesUnderHub, Steps, Turn}
use Rattle.orc_rules.specs.Hubs.{Hub}
use Rattle.orc_rules.specs.Invariant.{IsLawful}
use Rattle.orc_rules.specs.Kept.{FitAt, HistoryKept, StandsAt, ValidAt}
use Rattle.orc_rules.specs.Network.{Planning}
use Rattle.orc_rules.specs.Turns.{is_of_round, turns_at_most, turns_left}
use Rattle.orc_rules.specs.UnderHub.{DevicesKept, IsOfHub}
use Rattle.orc_rules.specs.Worlds.{Setting, World, declared, over}
use Rattle.orc_rules.specs.declared.event.Event.{Event}
use Rattle.orc_rules.specs.declared.event.Event.TheVariants as event
use Rattle.orc_rules.proofs.Ranking.{does_lessen}
use Rattle.orc_rules.proofs.Tracking.{steps_devices}
use Rattle.orc_rules.proofs.Turning.{steps_keep}
use Rattle.orc_runs.specs.Runs.{EndsIn, IsDone, LineDone, Run, line_list, lines_in}
use Rattle.orc_runs.specs.Scripts.{Goes, IsOf, Part, Part as part, line_parts, round, set_by}
use Rattle.orc_script.specs.declared.step.ScriptStep.{ScriptStep}
use Rattle.orc_script.specs.declared.step.ScriptStep.TheVariants as step
use Rattle.orc_runs.proofs.InStep.{also, set_devices}
use Rattle.orc_runs.proofs.Lasting.{each_line, lines_survive, there_in}
use Rattle.orc_runs.specs.Serving.{IsRested}
use Rattle.orc_runs.proofs.Rested.{lines_rest_before, lines_rest_last}

-- parts of rounds
abbrev pub is_round_part : Part → Bool
is_round_part part.Admission = true
is_round_part part.Admissions = true
is_round_part (part.Operation device) = true
is_round_part (part.Hearing device) = true
is_round_part part.Decisions = true
is_round_part part.Rounds = true
is_round_part other = false

abbrev pub AreRounds : List Part → Type 0
AreRounds [] = Unit {0}
AreRounds (one ∷ parts) = (is_round_part one ≡ true) × AreRounds parts

rounds_then : (xs ys : List Part) → AreRounds xs → AreRounds ys → AreRounds (xs ++ ys)
rounds_then [] ys f g = g
rounds_then (x ∷ xs) ys f g = (f.0, rounds_then xs ys f.1 g)

round_rounds : (decls : Decls) → AreRounds (round decls)
round_rounds decls = (refl, rounds_then (flat_map (λ device. part.Operation device ∷ part.Hearing device ∷ []) (declared decls)) (part.Decisions ∷ []) (each (declared decls)) (refl, tt))
  where
    each : (devices : List ℕ) → AreRounds (flat_map (λ device. part.Operation device ∷ part.Hearing device ∷ []) devices)
    each [] = tt
    each (device ∷ devices) = (refl, (refl, each devices))

-- each event of such a part is one of a round
of_round : (one : Part) (meant : Event) → is_round_part one ≡ true → IsOf one meant → is_of_round meant ≡ true
of_round part.Admission (event.Admit t given) h is = refl
of_round part.Admissions (event.Admit t given) h is = refl
of_round (part.Operation device) (event.Perform other kind reply count) h is = refl
of_round (part.Operation device) (event.Unsent other) h is = refl
of_round (part.Hearing device) (event.Report other kind reply count) h is = refl
of_round part.Decisions (event.Decide t given) h is = refl
of_round part.Decisions (event.Settle t) h is = refl
of_round part.Admission other h is = absurd is
of_round part.Admissions other h is = absurd is
of_round (part.Operation device) other h is = absurd is
of_round (part.Hearing device) other h is = absurd is
of_round part.Decisions other h is = absurd is
of_round part.Rounds other h is = absurd is
of_round one meant h is = absurd (false≢true h)

-- a line of these, or the last
data InEither {D : Type 0} (lines : List (LineDone D)) (end : Option (LineDone D)) (line : LineDone D) : Type 0 where
  in_front : (place : ℕ) → slice_get lines place ≡ Some line → InEither lines end line
  at_end : end ≡ Some line → InEither lines end line

in_either : {D : Type 0} (lines : List (LineDone D)) (end : Option (LineDone D)) (place : ℕ) (line : LineDone D) → slice_get (lines ++ line_list end) place ≡ Some line → InEither lines end line
in_either [] None place line h = absurd cc
in_either [] (Some x) zero line h = InEither.at_end h
in_either [] (Some x) (suc place) line h = absurd cc
in_either (y ∷ lines) end zero line h = InEither.in_front zero h
in_either (y ∷ lines) end (suc place) line h = shift (in_either lines end place line h)
  where
    shift : InEither lines end line → InEither (y ∷ lines) end line
    shift (InEither.in_front place' at) = InEither.in_front (suc place') at
    shift (InEither.at_end ended) = InEither.at_end ended

module _ {D : Type 0} (here : Setting D) (are : AreDecls here.decls) (plans : PlanStands) (legally : LegalStands) (order : KeepsOrder) (kinds : (device : ℕ) → IsOfHub (here.kinds device))
    (lawful : (device : ℕ) → IsLawful (here.kinds device) (over here.decls device)) (planning : Planning (over here.decls) (StandsAt here.decls) (FitAt here.decls) (ValidAt here.decls)) where
  -- so many turns may come from this world on; none where no hub is up
  abbrev pub AtMost : World D → ℕ → Type 0
  AtMost world n = ((hub : Hub) → world.hub ≡ Some hub → n ≤ turns_left hub world.links) × (world.hub ≡ None → n ≡ 0)

  -- after an event of a round a hub is up
  round_up : (world : World D) (hub : Hub) (up : world.hub ≡ Some hub) (meant : Event) (row : List Entry) (next : World D) → DoesUnderHub here world hub meant row next → is_of_round meant ≡ true
      → (hub' : Hub) × (next.hub ≡ Some hub')
  round_up world hub up meant row next (DoesUnderHub.turns_away place it said there first idle why) h = (_, refl)
  round_up world hub up meant row next (DoesUnderHub.admits place it sets there first idle passes fresh) h = (_, refl)
  round_up world hub up meant row next (DoesUnderHub.performs device one happened due unheard possible way) h = (hub, up)
  round_up world hub up meant row next (DoesUnderHub.leaves_unsent device changes due unheard) h = (hub, up)
  round_up world hub up meant row next (DoesUnderHub.reports device op reply unheard) h = (_, refl)
  round_up world hub up meant row next (DoesUnderHub.commits place it there least due prepared valid) h = (_, refl)
  round_up world hub up meant row next (DoesUnderHub.aborts place it said there least due why) h = (_, refl)
  round_up world hub up meant row next (DoesUnderHub.settles place it there least settling) h = (_, refl)
  round_up world hub up meant row next (DoesUnderHub.begins caller) h = absurd (false≢true h)
  round_up world hub up meant row next (DoesUnderHub.answers call front said asked snap why keeps) h = absurd (false≢true h)
  round_up world hub up meant row next (DoesUnderHub.queues it front snap alike lawful_call closed apart fresh within made number slot) h = absurd (false≢true h)
  round_up world hub up meant row next DoesUnderHub.stops h = absurd (false≢true h)
  round_up world hub up meant row next (DoesUnderHub.mends numbers idle unsettled) h = absurd (false≢true h)
  round_up world hub up meant row next (DoesUnderHub.mended numbers met busy heard unsettled) h = absurd (false≢true h)
  round_up world hub up meant row next (DoesUnderHub.finds_no_memory met busy heard) h = absurd (false≢true h)
  round_up world hub up meant row next (DoesUnderHub.fails_to_mend met failed heard) h = absurd (false≢true h)

  at_most_one : (old new : World D) (hub : Hub) (n : ℕ) → old.hub ≡ Some hub → suc n ≤ turns_left hub old.links → AtMost old (suc n)
  at_most_one old new hub n up most = (
    λ hub' up'. subst (λ (h : Hub). suc n ≤ turns_left h old.links) (same_Some hub hub' (sym up ∙ up')) most,
    λ down. absurd (let none : ◌≡◌ {A = Option Hub} None (Some hub) = sym down ∙ up in cc),
  )

  -- an append that wasn't done is one turn, and the last
  down_one : (old new : World D) (hub : Hub) (n : ℕ) → DevicesKept here.decls old → old.hub ≡ Some hub → (meant : Event) (row : List Entry) (next : World D) → DoesUnderHub here old hub meant row next
      → is_of_round meant ≡ true → n ≡ 0 → AtMost old (suc n)
  down_one old new hub n own up meant row next does h none =
      let behind = round_up old hub up meant row next does h in
      let fewer = does_lessen here old hub own up meant row next does h behind.0 behind.1 in
      at_most_one old new hub n up (omega (arith, fewer, none))

  -- one turn, and those after it
  steps_at_most : (old new : World D) (meant : Event) (seen : Option Event) (n : ℕ) → DevicesKept here.decls old → Steps here old meant seen new → is_of_round meant ≡ true → AtMost new n → AtMost old (suc n)
  steps_at_most old new meant seen n own (Steps.done hub row next _ up does appends is) h most =
      let behind = round_up old hub up meant row next does h in
      let fewer = does_lessen here old hub own up meant row next does h behind.0 behind.1 in
      let same : new.links ≡ next.links = ap (λ (w : World D). w.links) is in
      let now : n ≤ turns_left behind.0 next.links = subst (λ l. n ≤ turns_left behind.0 l) same (most.0 behind.0 (ap (λ (w : World D). w.hub) is ∙ behind.1)) in
      at_most_one old new hub n up (omega (arith, fewer, now))
  steps_at_most old new meant seen n own (Steps.cut hub row next _ up does appends is) h most = down_one old new hub n own up meant row next does h (most.1 (ap (λ (w : World D). w.hub) is))
  steps_at_most old new meant seen n own (Steps.failed hub row next _ up does appends is) h most = down_one old new hub n own up meant row next does h (most.1 (ap (λ (w : World D). w.hub) is))
  steps_at_most old new meant seen n own (Steps.full hub row next len _ up does appends is) h most = down_one old new hub n own up meant row next does h (most.1 (ap (λ (w : World D). w.hub) is))
  steps_at_most old new meant seen n own (Steps.anyway _ (DoesAnyway.ticks seconds)) h most = absurd (false≢true h)
  steps_at_most old new meant seen n own (Steps.anyway _ (DoesAnyway.restarts x)) h most = absurd (false≢true h)
  steps_at_most old new meant seen n own (Steps.anyway _ (DoesAnyway.answers_down submitted front down)) h most = absurd (false≢true h)
  steps_at_most old new meant seen n own (Steps.unopened _ down recover stays is) h most = absurd (false≢true (ap is_of_round (sym recover) ∙ h))
  steps_at_most old new meant seen n own (Steps.recovers _ down recover reopens is) h most = absurd (false≢true (ap is_of_round (sym recover) ∙ h))

  goes_at_most : (ended : Bool) (parts : List Part) (world : World D) (turns : List (Turn D)) (last : World D) → Goes here ended parts world turns last → AreRounds parts → HistoryKept here world
      → DevicesKept here.decls world → AtMost world (length turns)
  goes_at_most ended parts world turns last (Goes.whole _) rounds kept own = ((λ hub up. omega arith), (λ down. refl))
  goes_at_most ended parts world turns last (Goes.broken _ _ is) rounds kept own = ((λ hub up. omega arith), (λ down. refl))
  goes_at_most ended parts world turns last (Goes.once one later turn more _ once is_of called comes goes) rounds kept own =
      steps_at_most turn.before turn.behind turn.meant turn.seen (length more) own comes (of_round one turn.meant rounds.0 is_of)
      (goes_at_most ended later turn.behind more last goes rounds.1
      (steps_keep here are plans legally order turn.before turn.behind turn.meant turn.seen kept comes)
      (steps_devices here are plans kinds lawful planning turn.before turn.behind turn.meant turn.seen kept own comes))
  goes_at_most ended parts world turns last (Goes.again one later turn more _ again is_of comes goes) rounds kept own =
      steps_at_most turn.before turn.behind turn.meant turn.seen (length more) own comes (of_round one turn.meant rounds.0 is_of)
      (goes_at_most ended (one ∷ later) turn.behind more last goes rounds
      (steps_keep here are plans legally order turn.before turn.behind turn.meant turn.seen kept comes)
      (steps_devices here are plans kinds lawful planning turn.before turn.behind turn.meant turn.seen kept own comes))
  goes_at_most ended parts world turns last (Goes.none one later _ _ _ nothing goes) rounds kept own = goes_at_most ended later world turns last goes rounds.1 kept own
  goes_at_most ended parts world turns last (Goes.round_more later _ _ _ goes) rounds kept own =
      goes_at_most ended (round here.decls ++ part.Rounds ∷ later) world turns last goes (rounds_then (round here.decls) (part.Rounds ∷ later) (round_rounds here.decls) rounds) kept own
  goes_at_most ended parts world turns last (Goes.still later _ _ _ still goes) rounds kept own = goes_at_most ended later world turns last goes rounds.1 kept own

  -- over whole runs
  module _ (only_now : (d : D) (c : List ℕ) → here.disk.left_since d (here.disk.moment d) c → here.disk.may_leave d c)
      (at_most : (world : World D) (hub : Hub) → DevicesKept here.decls world → world.hub ≡ Some hub → hub.mends ≡ None → turns_left hub world.links ≤ turns_at_most hub)
      (script : List ScriptStep) (first last : World D) (run : Run here script first last) (kept : HistoryKept here first) (own : DevicesKept here.decls first) (rested : IsRested first) where
    -- a line from a world that is kept and rests
    line_bounded : (ended : Bool) (line : LineDone D) (hub : Hub) → HistoryKept here line.before → DevicesKept here.decls line.before → IsRested line.before → IsDone here ended line
        → line.step ≡ step.Settle → line.before.hub ≡ Some hub → length line.turns ≤ turns_at_most hub
    line_bounded ended line hub history devices rests does is up =
        let goes : Goes here ended (part.Rounds ∷ []) line.before line.turns line.behind =
        subst (λ (s : ScriptStep). Goes here ended (line_parts here.decls s) (set_by s line.before) line.turns line.behind) is does.goes in
        let most = (goes_at_most ended (part.Rounds ∷ []) line.before line.turns line.behind goes (refl, tt) history devices).0 hub up in
        let bound = at_most line.before hub devices up (rests hub up) in
        omega (arith, most, bound)

    abbrev lines_kept : HistoryKept here run.middle × DevicesKept here.decls run.middle
    lines_kept =
        (lines_survive here only_now are plans legally order (DevicesKept here.decls) (also here only_now are plans legally order kinds lawful planning) (set_devices here)
        first run.middle run.lines (kept, own) run.done).kept

    -- that in which the run ended
    end_bounded : (line : LineDone D) (hub : Hub) → EndsIn here run.middle (Some line) last → line.step ≡ step.Settle → line.before.hub ≡ Some hub → length line.turns ≤ turns_at_most hub
    end_bounded line hub ends is up =
        let at : run.middle ≡ line.before = sym ends.0 in
        line_bounded true line hub (subst (HistoryKept here) at lines_kept.0) (subst (DevicesKept here.decls) at lines_kept.1)
        (subst IsRested at (lines_rest_last here first run.middle run.lines rested run.done)) ends.1 is up

    either_bounded : (line : LineDone D) (hub : Hub) → InEither run.lines run.end line → line.step ≡ step.Settle → line.before.hub ≡ Some hub → length line.turns ≤ turns_at_most hub
    either_bounded line hub (InEither.at_end ended) is up =
        end_bounded line hub (subst (λ (o : Option (LineDone D)). EndsIn here run.middle o last) ended run.ends) is up
    either_bounded line hub (InEither.in_front place at) is up =
        let line' = each_line here only_now are plans legally order (DevicesKept here.decls) (also here only_now are plans legally order kinds lawful planning) (set_devices here)
        first run.middle run.lines (kept, own) run.done place line at in
        line_bounded false line hub line'.before.0 line'.before.1 (lines_rest_before here first run.middle run.lines rested run.done place line at) line'.does is up

    pub bounded : (line : LineDone D) (hub : Hub) → Contains (lines_in run) line → line.step ≡ step.Settle → line.before.hub ≡ Some hub → length line.turns ≤ turns_at_most hub
    bounded line hub among is up = either_bounded line hub (in_either run.lines run.end among.0 line (there_in (lines_in run) line among)) is up
