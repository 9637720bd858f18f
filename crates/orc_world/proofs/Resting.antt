-- No reconciliation is begun in a row of parts that has no beginning of one.
use Rattle.std.proofs.Common.{[], ◌≡◌, ℕ, Bool, true, false, Option, Some, None, List, ◌∷◌, ◌++◌, refl, sym, ap, subst, ◌∙◌}
use Rattle.std.specs.List.{flat_map}
use Rattle.std.proofs.lemmas.Bool.{false≢true}
use Rattle.orc_decls.specs.declared.declarations.Decls.{Decls}
use Rattle.orc_hub.specs.Hubs.{record_of}
use Rattle.orc_rules.specs.Events.{Turn}
use Rattle.orc_rules.specs.Hubs.{Hub}
use Rattle.orc_rules.specs.Worlds.{Setting, World as Seen, declared}
use Rattle.orc_rules.specs.declared.event.Event.TheVariants as event
use Rattle.orc_runs.specs.Laws.{RunsAreCarried}
use Rattle.orc_runs.specs.Scripts.{Goes, IsOf, Part, Part as part, round}
use Rattle.orc_runs.specs.Serving.{IsRested}
use Rattle.orc_scene.specs.Stands.{IsPlaceSeenAs, IsSeenAs, IsNotReconciling}
use Rattle.orc_scene.specs.declared.scene.Place.{Place}
use Rattle.orc_scene.specs.declared.scene.Place.TheVariants.{Up, Down, Ended, Moved}
use Rattle.orc_scene.specs.declared.scene.Scene.{Scene}
use Rattle.orc_scene.proofs.Resting.{unmended_there}

-- the part begins a reconciliation
abbrev pub is_beginning : Part → Bool
is_beginning part.Beginning = true
is_beginning other = false

-- none of these parts begins one
abbrev pub BeginsNone : List Part → Type 0
BeginsNone [] = Unit {0}
BeginsNone (one ∷ parts) = (is_beginning one ≡ false) × BeginsNone parts

pub none_then : (xs ys : List Part) → BeginsNone xs → BeginsNone ys → BeginsNone (xs ++ ys)
none_then [] ys f g = g
none_then (x ∷ xs) ys f g = (f.0, none_then xs ys f.1 g)

pub each_none : (devices : List ℕ) → BeginsNone (flat_map (λ device. part.Operation device ∷ part.Hearing device ∷ []) devices)
each_none [] = tt
each_none (device ∷ devices) = (refl, (refl, each_none devices))

pub round_none : (decls : Decls) → BeginsNone (round decls)
round_none decls =
    (refl, none_then (flat_map (λ device. part.Operation device ∷ part.Hearing device ∷ []) (declared decls)) (part.Decisions ∷ []) (each_none (declared decls)) (refl, tt))

pub not_begun : (one : Part) → is_beginning one ≡ false → IsOf one (event.Reconcile None) → ⊥
not_begun part.Beginning h is = false≢true (sym h)
not_begun one h is = is

module _ {D : Type 0} (here : Setting D) where
  -- what is seen rests where no reconciliation is unfinished
  pub rested_there : (seen : Seen D) (place : Place D) → IsPlaceSeenAs here seen place → IsNotReconciling place → IsRested seen
  rested_there seen (Up hub) is unmended = λ other up.
      (let same : ◌≡◌ {A = Option Hub} (Some (record_of hub)) (Some other) = sym is.is ∙ up in
      let one : record_of hub ≡ other = cc in ap (λ (h : Hub). h.mends) (sym one) ∙ unmended)
  rested_there seen (Down disk decls) is unmended = λ other up. absurd (let none : ◌≡◌ {A = Option Hub} None (Some other) = sym is.0 ∙ up in cc)
  rested_there seen (Ended disk) is unmended = absurd is
  rested_there seen Moved is unmended = absurd is

  module _ (law : RunsAreCarried here) where
    goes_rested : (ended : Bool) (parts : List Part) (world : Seen D) (turns : List (Turn D)) (last : Seen D) → Goes here ended parts world turns last
        → BeginsNone parts → IsRested world → IsRested last
    goes_rested ended parts world turns last (Goes.whole _) none rested = rested
    goes_rested ended parts world turns last (Goes.broken _ _ is) none rested = rested
    goes_rested ended parts world turns last (Goes.once one later turn more _ once is_of called comes goes) none rested =
        goes_rested ended later turn.behind more last goes none.1
        (law.rests turn.before turn.behind turn.meant turn.seen comes (λ is. not_begun one none.0 (subst (IsOf one) is is_of)) rested)
    goes_rested ended parts world turns last (Goes.again one later turn more _ again is_of comes goes) none rested =
        goes_rested ended (one ∷ later) turn.behind more last goes none
        (law.rests turn.before turn.behind turn.meant turn.seen comes (λ is. not_begun one none.0 (subst (IsOf one) is is_of)) rested)
    goes_rested ended parts world turns last (Goes.none one later _ _ _ nothing goes) none rested = goes_rested ended later world turns last goes none.1 rested
    goes_rested ended parts world turns last (Goes.round_more later _ _ _ goes) none rested =
        goes_rested ended (round here.decls ++ part.Rounds ∷ later) world turns last goes (none_then (round here.decls) (part.Rounds ∷ later) (round_none here.decls) none) rested
    goes_rested ended parts world turns last (Goes.still later _ _ _ still goes) none rested = goes_rested ended later world turns last goes none.1 rested

    -- no reconciliation is unfinished after such a row, where none was before it
    pub unmended_behind : (old new : Scene D) (seen next : Seen D) (parts : List Part) (turns : List (Turn D)) → IsSeenAs here seen old → IsNotReconciling old.place
        → Goes here false parts seen turns next → BeginsNone parts → IsSeenAs here next new → IsNotReconciling new.place
    unmended_behind old new seen next parts turns is unmended goes none after =
        unmended_there here next new.place after.place (goes_rested false parts seen turns next goes none (rested_there seen old.place is.place unmended))
