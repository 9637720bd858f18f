-- No reconciliation is unfinished between two lines of a run.
use Rattle.std.proofs.Common.{[], append_assoc, ◌≡◌, ℕ, ◌+◌, Bool, true, false, Option, Some, None, List, ◌∷◌, ◌++◌, map, refl, sym, ap, subst, ◌∙◌, zero, suc}
use Rattle.std.specs.Prelude.{slice_get}
use Rattle.std.specs.List.{flat_map}
use Rattle.std.specs.Option.{option_map, option_map_or}
use Rattle.std.proofs.lemmas.Bool.{false≢true}
use Rattle.std.proofs.lemmas.Option.{same_Some}
use Rattle.orc_call.specs.declared.answer.RecFault.{RecFault}
use Rattle.orc_decls.specs.declared.declarations.Decls.{Decls}
use Rattle.orc_journal.specs.declared.entry.Entry.{Entry}
use Rattle.orc_rules.specs.Events.{DoesAnyway, DoesUnderHub, Steps, Turn}
use Rattle.orc_rules.specs.Hubs.{Hub, hub_reported}
use Rattle.orc_rules.specs.Worlds.{Setting, World, declared}
use Rattle.orc_rules.specs.declared.event.Event.{Event}
use Rattle.orc_rules.specs.declared.event.Event.TheVariants as event
use Rattle.orc_runs.specs.Runs.{AreDone, LineDone}
use Rattle.orc_runs.specs.Scripts.{Goes, IsOf, NoneOf, Part, Part as part, line_parts, round, set_by}
use Rattle.orc_script.specs.declared.step.ScriptStep.{ScriptStep}
use Rattle.orc_script.specs.declared.step.ScriptStep.TheVariants as step
use Rattle.orc_runs.specs.Serving.{IsRested}

abbrev pub is_beginning : Part → Bool
is_beginning part.Beginning = true
is_beginning other = false

-- none of these parts begins one
abbrev pub BeginsNone : List Part → Type 0
BeginsNone [] = Unit {0}
BeginsNone (one ∷ parts) = (is_beginning one ≡ false) × BeginsNone parts

none_then : (xs ys : List Part) → BeginsNone xs → BeginsNone ys → BeginsNone (xs ++ ys)
none_then [] ys f g = g
none_then (x ∷ xs) ys f g = (f.0, none_then xs ys f.1 g)

round_none : (decls : Decls) → BeginsNone (round decls)
round_none decls = (refl, none_then (flat_map (λ device. part.Operation device ∷ part.Hearing device ∷ []) (declared decls)) (part.Decisions ∷ []) (each (declared decls)) (refl, tt))
  where
    each : (devices : List ℕ) → BeginsNone (flat_map (λ device. part.Operation device ∷ part.Hearing device ∷ []) devices)
    each [] = tt
    each (device ∷ devices) = (refl, (refl, each devices))

-- each line but a `reconcile`
abbrev pub is_reconcile : ScriptStep → Bool
is_reconcile step.Reconcile = true
is_reconcile other = false

begins_none : (decls : Decls) (at : ScriptStep) → is_reconcile at ≡ false → BeginsNone (line_parts decls at)
begins_none decls (step.Begin caller) other = (refl, tt)
begins_none decls (step.Call call) other = (refl, (refl, tt))
begins_none decls step.Admit other = (refl, tt)
begins_none decls (step.Step device) other = (refl, (refl, tt))
begins_none decls step.Decide other = (refl, tt)
begins_none decls step.Settle other = (refl, tt)
begins_none decls (step.Tick seconds) other = (refl, tt)
begins_none decls (step.Restart device) other = (refl, tt)
begins_none decls step.Stop other = (refl, tt)
begins_none decls step.Recover other = (refl, (refl, tt))
begins_none decls step.Reconcile other = absurd (false≢true (sym other))
begins_none decls at other = tt

-- the first part of a row that ends a reconciliation is the last, or stands before it
pub data IsLastPart (one : Part) (parts ps : List Part) : Type 0 where
  earlier : (later : List Part) → parts ≡ later ++ part.Ending ∷ [] → IsLastPart one parts ps
  alone : one ≡ part.Ending → parts ≡ [] → IsLastPart one parts ps

last_part : (one : Part) (parts ps : List Part) → one ∷ parts ≡ ps ++ part.Ending ∷ [] → IsLastPart one parts ps
last_part one parts [] e = IsLastPart.alone (let same : one ≡ part.Ending = cc in same) (let rest : parts ≡ [] = cc in rest)
last_part one parts (p ∷ ps) e = IsLastPart.earlier ps (let rest : parts ≡ ps ++ part.Ending ∷ [] = cc in rest)

not_begun : (one : Part) → is_beginning one ≡ false → IsOf one (event.Reconcile None) → ⊥
not_begun part.Beginning h is = false≢true (sym h)
not_begun one h is = is

module _ {D : Type 0} (here : Setting D) where
  -- another event begins none
  does_rest : (world : World D) (hub : Hub) (meant : Event) (row : List Entry) (next : World D) → DoesUnderHub here world hub meant row next → (meant ≡ event.Reconcile None → ⊥)
      → world.hub ≡ Some hub → hub.mends ≡ None → IsRested next
  does_rest world hub meant row next (DoesUnderHub.begins caller) other up rested = λ h e. ap (λ (x : Hub). x.mends) (sym (same_Some hub h (sym up ∙ e))) ∙ rested
  does_rest world hub meant row next (DoesUnderHub.performs device op happened due unheard possible way) other up rested =
      λ h e. ap (λ (x : Hub). x.mends) (sym (same_Some hub h (sym up ∙ e))) ∙ rested
  does_rest world hub meant row next (DoesUnderHub.leaves_unsent device changes due unheard) other up rested =
      λ h e. ap (λ (x : Hub). x.mends) (sym (same_Some hub h (sym up ∙ e))) ∙ rested
  does_rest world hub meant row next (DoesUnderHub.reports device op reply unheard) other up rested =
      λ h e. ap (λ (x : Hub). x.mends) (sym (same_Some (hub_reported device reply (world.links device).faults hub) h e)) ∙ still_none _ hub.mends rested
    where
      still_none : (f : Option RecFault → Option RecFault) (m : Option (Option RecFault)) → m ≡ None → option_map f m ≡ None
      still_none f None e = refl
      still_none f (Some met) e = cc
  does_rest world hub meant row next DoesUnderHub.stops other up rested = λ h e. absurd (let none : ◌≡◌ {A = Option Hub} None (Some h) = e in cc)
  does_rest world hub meant row next (DoesUnderHub.mends numbers idle unsettled) other up rested = absurd (other refl)
  does_rest world hub meant row next (DoesUnderHub.mended numbers met busy heard unsettled) other up rested = λ h e. ap (λ (x : Hub). x.mends) (sym (same_Some _ h e))
  does_rest world hub meant row next (DoesUnderHub.finds_no_memory met busy heard) other up rested = λ h e. ap (λ (x : Hub). x.mends) (sym (same_Some _ h e))
  does_rest world hub meant row next (DoesUnderHub.fails_to_mend met failed heard) other up rested = λ h e. ap (λ (x : Hub). x.mends) (sym (same_Some _ h e))
  does_rest world hub meant row next does other up rested = λ h e. ap (λ (x : Hub). x.mends) (sym (same_Some _ h e)) ∙ rested

  pub steps_rest : (old new : World D) (meant : Event) (seen : Option Event) → Steps here old meant seen new → (meant ≡ event.Reconcile None → ⊥) → IsRested old → IsRested new
  steps_rest old new meant seen (Steps.done hub row next _ up does appends is) other rested =
      λ h e. does_rest old hub meant row next does other up (rested hub up) h (sym (ap (λ (w : World D). w.hub) is) ∙ e)
  steps_rest old new meant seen (Steps.cut hub row next _ up does appends is) other rested =
      λ h e. absurd (let none : ◌≡◌ {A = Option Hub} None (Some h) = sym (ap (λ (w : World D). w.hub) is) ∙ e in cc)
  steps_rest old new meant seen (Steps.failed hub row next _ up does appends is) other rested =
      λ h e. absurd (let none : ◌≡◌ {A = Option Hub} None (Some h) = sym (ap (λ (w : World D). w.hub) is) ∙ e in cc)
  steps_rest old new meant seen (Steps.full hub row next len _ up does appends is) other rested =
      λ h e. absurd (let none : ◌≡◌ {A = Option Hub} None (Some h) = sym (ap (λ (w : World D). w.hub) is) ∙ e in cc)
  steps_rest old new meant seen (Steps.anyway _ (DoesAnyway.ticks seconds)) other rested = rested
  steps_rest old new meant seen (Steps.anyway _ (DoesAnyway.restarts device)) other rested = rested
  steps_rest old new meant seen (Steps.anyway _ (DoesAnyway.answers_down call front down)) other rested = rested
  steps_rest old new meant seen (Steps.unopened _ down recover stays is) other rested =
      λ h e. absurd (let none : ◌≡◌ {A = Option Hub} None (Some h) = sym down ∙ sym (ap (λ (w : World D). w.hub) is) ∙ e in cc)
  steps_rest old new meant seen (Steps.recovers _ down recover reopens is) other rested =
      λ h e. ap (λ (x : Hub). x.mends) (sym (same_Some _ h (sym (ap (λ (w : World D). w.hub) is) ∙ e)))

  -- a row that begins none
  goes_rested : (ended : Bool) (parts : List Part) (world : World D) (turns : List (Turn D)) (last : World D) → Goes here ended parts world turns last → BeginsNone parts → IsRested world → IsRested last
  goes_rested ended parts world turns last (Goes.whole _) none rested = rested
  goes_rested ended parts world turns last (Goes.broken _ _ is) none rested = rested
  goes_rested ended parts world turns last (Goes.once one later turn more _ once is_of called comes goes) none rested =
      goes_rested ended later turn.behind more last goes none.1
      (steps_rest turn.before turn.behind turn.meant turn.seen comes (λ is. not_begun one none.0 (subst (IsOf one) is is_of)) rested)
  goes_rested ended parts world turns last (Goes.again one later turn more _ again is_of comes goes) none rested =
      goes_rested ended (one ∷ later) turn.behind more last goes none
      (steps_rest turn.before turn.behind turn.meant turn.seen comes (λ is. not_begun one none.0 (subst (IsOf one) is is_of)) rested)
  goes_rested ended parts world turns last (Goes.none one later _ _ _ nothing goes) none rested = goes_rested ended later world turns last goes none.1 rested
  goes_rested ended parts world turns last (Goes.round_more later _ _ _ goes) none rested =
      goes_rested ended (round here.decls ++ part.Rounds ∷ later) world turns last goes (none_then (round here.decls) (part.Rounds ∷ later) (round_none here.decls) none) rested
  goes_rested ended parts world turns last (Goes.still later _ _ _ still goes) none rested = goes_rested ended later world turns last goes none.1 rested

  -- an event that ends a reconciliation
  does_end : (world : World D) (hub : Hub) (meant : Event) (row : List Entry) (next : World D) → DoesUnderHub here world hub meant row next → IsOf part.Ending meant → IsRested next
  does_end world hub meant row next (DoesUnderHub.mended numbers met busy heard unsettled) ends = λ h e. ap (λ (x : Hub). x.mends) (sym (same_Some _ h e))
  does_end world hub meant row next (DoesUnderHub.finds_no_memory met busy heard) ends = λ h e. ap (λ (x : Hub). x.mends) (sym (same_Some _ h e))
  does_end world hub meant row next (DoesUnderHub.fails_to_mend met failed heard) ends = λ h e. ap (λ (x : Hub). x.mends) (sym (same_Some _ h e))
  does_end world hub meant row next does ends = absurd ends

  steps_end : (old new : World D) (meant : Event) (seen : Option Event) → Steps here old meant seen new → IsOf part.Ending meant → IsRested new
  steps_end old new meant seen (Steps.done hub row next _ up does appends is) ends =
      λ h e. does_end old hub meant row next does ends h (sym (ap (λ (w : World D). w.hub) is) ∙ e)
  steps_end old new meant seen (Steps.cut hub row next _ up does appends is) ends =
      λ h e. absurd (let none : ◌≡◌ {A = Option Hub} None (Some h) = sym (ap (λ (w : World D). w.hub) is) ∙ e in cc)
  steps_end old new meant seen (Steps.failed hub row next _ up does appends is) ends =
      λ h e. absurd (let none : ◌≡◌ {A = Option Hub} None (Some h) = sym (ap (λ (w : World D). w.hub) is) ∙ e in cc)
  steps_end old new meant seen (Steps.full hub row next len _ up does appends is) ends =
      λ h e. absurd (let none : ◌≡◌ {A = Option Hub} None (Some h) = sym (ap (λ (w : World D). w.hub) is) ∙ e in cc)
  steps_end old new meant seen (Steps.anyway _ (DoesAnyway.ticks seconds)) ends = absurd ends
  steps_end old new meant seen (Steps.anyway _ (DoesAnyway.restarts device)) ends = absurd ends
  steps_end old new meant seen (Steps.anyway _ (DoesAnyway.answers_down call front down)) ends = absurd ends
  steps_end old new meant seen (Steps.unopened _ down recover stays is) ends = absurd (subst (IsOf part.Ending) recover ends)
  steps_end old new meant seen (Steps.recovers _ down recover reopens is) ends = absurd (subst (IsOf part.Ending) recover ends)

  -- where nothing is left of the row
  rested_there : (world : World D) (turns : List (Turn D)) (last : World D) (parts : List Part) → parts ≡ [] → Goes here false parts world turns last → IsRested world → IsRested last
  rested_there world turns last parts none goes rested = goes_rested false parts world turns last goes (subst BeginsNone (sym none) tt) rested

  -- a row that ends with the end of a reconciliation
  ends_rested : (parts : List Part) (world : World D) (turns : List (Turn D)) (last : World D) → Goes here false parts world turns last → (ps : List Part) → parts ≡ ps ++ part.Ending ∷ [] → IsRested last
  ends_rested parts world turns last (Goes.whole _) ps e = absurd (nil_not ps e)
    where
      nil_not : (qs : List Part) → [] ≡ qs ++ part.Ending ∷ [] → ⊥
      nil_not [] h = cc
      nil_not (q ∷ qs) h = cc
  ends_rested parts world turns last (Goes.broken _ _ is) ps e = absurd (false≢true is)
  ends_rested parts world turns last (Goes.once one later turn more _ once is_of called comes goes) ps e = by (last_part one later ps e) (ends_rested later turn.behind more last goes)
    where
      by : IsLastPart one later ps → ((qs : List Part) → later ≡ qs ++ part.Ending ∷ [] → IsRested last) → IsRested last
      by (IsLastPart.earlier qs rest) f = f qs rest
      by (IsLastPart.alone is rest) f =
          rested_there turn.behind more last later rest goes (steps_end turn.before turn.behind turn.meant turn.seen comes (subst (λ (p : Part). IsOf p turn.meant) is is_of))
  ends_rested parts world turns last (Goes.again one later turn more _ again is_of comes goes) ps e = ends_rested (one ∷ later) turn.behind more last goes ps e
  ends_rested parts world turns last (Goes.none one later _ _ _ nothing goes) ps e = by (last_part one later ps e) (ends_rested later world turns last goes)
    where
      rested_now : NoneOf here world part.Ending → IsRested world
      rested_now none hub up = on hub.mends refl
        where
          on : (m : Option (Option RecFault)) → hub.mends ≡ m → hub.mends ≡ None
          on None is = is
          on (Some met) is = absurd (none hub met up is)

      by : IsLastPart one later ps → ((qs : List Part) → later ≡ qs ++ part.Ending ∷ [] → IsRested last) → IsRested last
      by (IsLastPart.earlier qs rest) f = f qs rest
      by (IsLastPart.alone is rest) f = rested_there world turns last later rest goes (rested_now (subst (NoneOf here world) is nothing))
  ends_rested parts world turns last (Goes.round_more later _ _ _ goes) ps e =
      by (last_part part.Rounds later ps e) (ends_rested (round here.decls ++ part.Rounds ∷ later) world turns last goes)
    where
      by : IsLastPart part.Rounds later ps → ((qs : List Part) → round here.decls ++ part.Rounds ∷ later ≡ qs ++ part.Ending ∷ [] → IsRested last) → IsRested last
      by (IsLastPart.earlier qs rest) f =
          f (round here.decls ++ part.Rounds ∷ qs)
          (ap (λ (l : List Part). round here.decls ++ part.Rounds ∷ l) rest ∙ sym (append_assoc (round here.decls) (part.Rounds ∷ qs) (part.Ending ∷ [])))
      by (IsLastPart.alone is rest) f = absurd cc
  ends_rested parts world turns last (Goes.still later _ _ _ still goes) ps e = by (last_part part.Rounds later ps e) (ends_rested later world turns last goes)
    where
      by : IsLastPart part.Rounds later ps → ((qs : List Part) → later ≡ qs ++ part.Ending ∷ [] → IsRested last) → IsRested last
      by (IsLastPart.earlier qs rest) f = f qs rest
      by (IsLastPart.alone is rest) f = absurd cc

  -- a line
  pub set_rested : (at : ScriptStep) (world : World D) → IsRested world → IsRested (set_by at world)
  set_rested (step.StopAt count bytes) world rested = on world.hub
    where
      on : (hub : Option Hub) → IsRested (option_map_or (λ h. record world { journal = record world.journal { armed = count; bytes = bytes } }) hub world)
      on None = rested
      on (Some hub) = rested
  set_rested (step.Fault device op at) world rested = rested
  set_rested other world rested = rested

  line_rests : (at : ScriptStep) (before : World D) (turns : List (Turn D)) (behind : World D) → Goes here false (line_parts here.decls at) (set_by at before) turns behind → IsRested before → IsRested behind
  line_rests step.Reconcile before turns behind goes rested =
      ends_rested (line_parts here.decls step.Reconcile) before turns behind goes (part.Rounds ∷ part.Beginning ∷ map part.Operations (declared here.decls)) refl
  line_rests at before turns behind goes rested =
      goes_rested false (line_parts here.decls at) (set_by at before) turns behind goes (begins_none here.decls at refl) (set_rested at before rested)

  pub lines_rest : (first last : World D) (lines : List (LineDone D)) → IsRested first → AreDone here first lines last → (place : ℕ) (line : LineDone D) → slice_get lines place ≡ Some line → IsRested line.behind
  lines_rest first last [] rested done place line at = absurd cc
  lines_rest first last (x ∷ lines) rested done zero line at =
      subst (λ (l : LineDone D). IsRested l.behind) (same_Some x line at) (line_rests x.step x.before x.turns x.behind done.1.goes (subst IsRested (sym done.0) rested))
  lines_rest first last (x ∷ lines) rested done (suc place) line at =
      lines_rest x.behind last lines (line_rests x.step x.before x.turns x.behind done.1.goes (subst IsRested (sym done.0) rested)) done.2 place line at

  -- no reconciliation is unfinished as a line begins
  pub lines_rest_before : (first last : World D) (lines : List (LineDone D)) → IsRested first → AreDone here first lines last → (place : ℕ) (line : LineDone D) → slice_get lines place ≡ Some line → IsRested line.before
  lines_rest_before first last [] rested done place line at = absurd cc
  lines_rest_before first last (x ∷ lines) rested done zero line at = subst (λ (l : LineDone D). IsRested l.before) (same_Some x line at) (subst IsRested (sym done.0) rested)
  lines_rest_before first last (x ∷ lines) rested done (suc place) line at =
      lines_rest_before x.behind last lines (line_rests x.step x.before x.turns x.behind done.1.goes (subst IsRested (sym done.0) rested)) done.2 place line at

  -- no reconciliation is unfinished after all lines
  pub lines_rest_last : (first last : World D) (lines : List (LineDone D)) → IsRested first → AreDone here first lines last → IsRested last
  lines_rest_last first last [] rested same = subst IsRested same rested
  lines_rest_last first last (x ∷ lines) rested done =
      lines_rest_last x.behind last lines (line_rests x.step x.before x.turns x.behind done.1.goes (subst IsRested (sym done.0) rested)) done.2
