-- Rounds, one after another, until nothing is left for one.
use Rattle.std.proofs.Common.{[], ◌≡◌, ℕ, Bool, true, false, List, ◌∷◌, ◌++◌, sym, ap, subst, ◌∙◌, append-nil, append_assoc}
use Rattle.std.specs.List.{flat_map}
use Rattle.orc_rules.specs.Events.{Turn}
use Rattle.orc_rules.specs.Worlds.{Setting, World as Seen, declared}
use Rattle.orc_runs.specs.Scripts.{Goes, IsStill, NoneOf, Part, Part as part, round}
use Rattle.orc_scene.specs.Courses.{DoesParts, EndsInParts, GoesThrough, PrintsTold, told_in}
use Rattle.orc_world.specs.inside.Rows.{DoesRow, NoneOrdered}
use Rattle.orc_scene.specs.Stands.{IsSeenAs}
use Rattle.orc_scene.specs.RunEnds.{end_of_run}
use Rattle.orc_scene.specs.declared.stop.WorldStop.{WorldStop}
use Rattle.orc_scene.specs.declared.scene.Scene.{Scene}
use Rattle.orc_world.proofs.Goings.{goes_broken, goes_then}
use Rattle.orc_world.proofs.Joining.{because_more, ends_more, ends_then, goes_nothing, most_then, parts_then, parts_turns, prints_then, through_then, with_then}
use Rattle.orc_scene.proofs.Looping.{through_none}

module _ {D : Type 0} (here : Setting D) where
  -- nothing is printed by operations, whatever was printed before
  pub prints_nothing : (before : List ℕ) (turns : List (Turn D)) → PrintsTold here.decls [] [] turns → PrintsTold here.decls before before turns
  prints_nothing before turns none = sym (append-nil before) ∙ ap (λ (l : List ℕ). before ++ l) none

  -- a row after which nothing came leaves the rules' view
  pub row_quiet : (seen : Seen D) (old new : Scene D) (before after : List ℕ) (parts : List Part) (does : DoesParts here seen old new before after parts) → does.turns ≡ [] → GoesThrough here old new [] seen
  row_quiet seen old new before after parts does none =
      subst (λ (w : Seen D). GoesThrough here old new [] w) (sym (goes_nothing here false parts seen does.next does.turns none does.goes))
      (subst (λ (l : List (Turn D)). GoesThrough here old new l does.next) none does.through)

  -- one round: what fits is admitted, each device does the operation that is due, and what is due is decided
  pub round_does : (seen : Seen D) (old one two new : Scene D) (first second third : List ℕ) (a p t came : Bool)
      (admits : DoesRow here seen old one first second (part.Admissions ∷ []) a (NoneOf here seen part.Admission))
      (performs : DoesRow here admits.does.next one two [] [] (flat_map (λ device. part.Operation device ∷ part.Hearing device ∷ []) (declared here.decls)) p (NoneOrdered here admits.does.next))
      → DoesRow here performs.does.next two new second third (part.Decisions ∷ []) t (NoneOf here performs.does.next part.Decisions)
      → (came ≡ false → (a ≡ false) × (p ≡ false) × (t ≡ false))
      → DoesRow here seen old new first third (round here.decls) came (IsStill here seen)
  round_does seen old one two new first second third a p t came admits performs decides none = record {
    does = whole;
    quiet = λ no. let so = none no in nothing (admits.quiet so.0) (performs.quiet so.1) (decides.quiet so.2);
  }
    where
      operations : List Part
      operations = flat_map (λ device. part.Operation device ∷ part.Hearing device ∷ []) (declared here.decls)

      performed : DoesParts here admits.does.next one two second second operations
      performed = record {
        turns = performs.does.turns;
        next = performs.does.next;
        goes = performs.does.goes;
        through = performs.does.through;
        prints = prints_nothing second performs.does.turns performs.does.prints;
      }

      later : DoesParts here admits.does.next one new second third (operations ++ part.Decisions ∷ [])
      later = parts_then here admits.does.next one two new second second third operations (part.Decisions ∷ []) performed decides.does

      whole : DoesParts here seen old new first third (round here.decls)
      whole = parts_then here seen old one new first second third (part.Admissions ∷ []) (operations ++ part.Decisions ∷ []) admits.does later

      came_turns : whole.turns ≡ admits.does.turns ++ (performs.does.turns ++ decides.does.turns)
      came_turns = parts_turns here seen old one new first second third (part.Admissions ∷ []) (operations ++ part.Decisions ∷ []) admits.does later
          ∙ ap (λ (l : List (Turn D)). admits.does.turns ++ l) (parts_turns here admits.does.next one two new second second third operations (part.Decisions ∷ []) performed decides.does)

      nothing : (admits.does.turns ≡ []) × NoneOf here seen part.Admission → (performs.does.turns ≡ []) × NoneOrdered here admits.does.next
          → (decides.does.turns ≡ []) × NoneOf here performs.does.next part.Decisions → (whole.turns ≡ []) × IsStill here seen
      nothing x y z =
          let same : seen ≡ admits.does.next = goes_nothing here false (part.Admissions ∷ []) seen admits.does.next admits.does.turns x.0 admits.does.goes in
          let also : admits.does.next ≡ performs.does.next = goes_nothing here false operations admits.does.next performs.does.next performs.does.turns y.0 performs.does.goes in
          let ordered : NoneOrdered here seen = subst (NoneOrdered here) (sym same) y.1 in
          let decided : NoneOf here seen part.Decisions = subst (λ (w : Seen D). NoneOf here w part.Decisions) (sym (same ∙ also)) z.1 in (
            came_turns ∙ ap (λ (l : List (Turn D)). l ++ (performs.does.turns ++ decides.does.turns)) x.0 ∙ ap (λ (l : List (Turn D)). l ++ decides.does.turns) y.0 ∙ z.0,
            λ device. let one_device = ordered device in (x.1, one_device.0, one_device.1, decided),
          )

  -- the run ended in a round
  pub round_ends_first : (seen : Seen D) (old new : Scene D) (before after : List ℕ) (why : WorldStop) → EndsInParts here seen old new before after (part.Admissions ∷ []) why
      → EndsInParts here seen old new before after (round here.decls) why
  round_ends_first seen old new before after why ends =
      ends_more here seen old new before after (part.Admissions ∷ []) (flat_map (λ device. part.Operation device ∷ part.Hearing device ∷ []) (declared here.decls) ++ part.Decisions ∷ []) why ends

  pub round_ends_second : (seen : Seen D) (old one new : Scene D) (first second : List ℕ) (why : WorldStop) (admits : DoesParts here seen old one first second (part.Admissions ∷ []))
      → EndsInParts here admits.next one new second second (flat_map (λ device. part.Operation device ∷ part.Hearing device ∷ []) (declared here.decls)) why
      → EndsInParts here seen old new first second (round here.decls) why
  round_ends_second seen old one new first second why admits ends =
      ends_then here seen old one new first second second (part.Admissions ∷ []) _ why admits
      (ends_more here admits.next one new second second (flat_map (λ device. part.Operation device ∷ part.Hearing device ∷ []) (declared here.decls)) (part.Decisions ∷ []) why ends)

  pub round_ends_third : (seen : Seen D) (old one two new : Scene D) (first second third : List ℕ) (why : WorldStop) (admits : DoesParts here seen old one first second (part.Admissions ∷ []))
      (performs : DoesParts here admits.next one two second second (flat_map (λ device. part.Operation device ∷ part.Hearing device ∷ []) (declared here.decls)))
      → EndsInParts here performs.next two new second third (part.Decisions ∷ []) why
      → EndsInParts here seen old new first third (round here.decls) why
  round_ends_third seen old one two new first second third why admits performs ends =
      ends_then here seen old one new first second third (part.Admissions ∷ []) _ why admits
      (ends_then here admits.next one two new second second third (flat_map (λ device. part.Operation device ∷ part.Hearing device ∷ []) (declared here.decls)) (part.Decisions ∷ []) why performs ends)

-- rounds so far
module _ {D : Type 0} (here : Setting D) (seen : Seen D) (old : Scene D) (before : List ℕ) where
  pub record RoundsSoFar (middle : Scene D) (now : List ℕ) : Type 0 where
    pub turns : List (Turn D)
    pub next : Seen D
    pub goes_on : (ended : Bool) (more : List (Turn D)) (last : Seen D) → Goes here ended (part.Rounds ∷ []) next more last → Goes here ended (part.Rounds ∷ []) seen (turns ++ more) last
    pub through : GoesThrough here old middle turns next
    pub prints : PrintsTold here.decls before now turns

  pub rounds_first : IsSeenAs here seen old → RoundsSoFar old before
  rounds_first is = record {
    turns = [];
    next = seen;
    goes_on = λ ended more last goes. goes;
    through = through_none here seen old is;
    prints = sym (append-nil before);
  }

  module _ (middle new : Scene D) (now after : List ℕ) (so : RoundsSoFar middle now) where
    pub rounds_more : DoesParts here so.next middle new now after (round here.decls) → RoundsSoFar new after
    rounds_more does = record {
      turns = so.turns ++ does.turns;
      next = does.next;
      goes_on = λ ended more last goes. subst (λ (l : List (Turn D)). Goes here ended (part.Rounds ∷ []) seen l last) (sym (append_assoc so.turns does.turns more))
          (so.goes_on ended (does.turns ++ more) last
          (Goes.round_more [] so.next last (does.turns ++ more) (goes_then here ended (round here.decls) (part.Rounds ∷ []) so.next does.next last does.turns more does.goes goes)));
      through = through_then here old middle new so.turns does.turns so.next does.next so.through does.through;
      prints = prints_then here.decls before now after so.turns does.turns so.prints does.prints;
    }

    -- a round in which nothing came is the last
    pub rounds_still : (does : DoesParts here so.next middle new now after (round here.decls)) → does.turns ≡ [] → IsStill here so.next
        → (whole : DoesParts here seen old new before after (part.Rounds ∷ [])) × IsStill here whole.next
    rounds_still does none still = (
      record {
        turns = so.turns;
        next = so.next;
        goes = subst (λ (l : List (Turn D)). Goes here false (part.Rounds ∷ []) seen l so.next) (append-nil so.turns)
            (so.goes_on false [] so.next (Goes.still [] so.next so.next [] still (Goes.whole so.next)));
        through = subst (λ (l : List (Turn D)). GoesThrough here old new l so.next) (append-nil so.turns)
            (through_then here old middle new so.turns [] so.next so.next so.through (row_quiet here so.next middle new now after (round here.decls) does none));
        prints = does.prints ∙ ap (λ (l : List (Turn D)). now ++ told_in here.decls l) none ∙ append-nil now ∙ so.prints;
      },
      still,
    )

    -- the run ended in a round
    pub rounds_end : (why : WorldStop) → EndsInParts here so.next middle new now after (round here.decls) why → EndsInParts here seen old new before after (part.Rounds ∷ []) why
    rounds_end why ends = record {
      turns = so.turns ++ ends.turns;
      last = ends.last;
      goes = so.goes_on true ends.turns ends.last
          (Goes.round_more [] so.next ends.last ends.turns (goes_broken here (round here.decls) (part.Rounds ∷ []) so.next ends.last ends.turns ends.goes));
      because = because_more here so.turns ends.turns (end_of_run why) ends.because;
      ended = with_then here old middle new so.turns ends.turns so.next ends.last so.through ends.ended;
      prints = most_then here.decls why before now after so.turns ends.turns so.prints ends.prints;
    }
