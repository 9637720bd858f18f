-- A row of parts that is all that a line does.
use Rattle.std.proofs.Common.{[], ◌≡◌, ℕ, Bool, true, false, Option, Some, List, ◌∷◌, ◌++◌, nat_eq, eq-eqb, refl, sym, ap, subst, ◌∙◌, append-nil, arith}
use Rattle.std.specs.Prelude.{if◌then◌else◌}
use Rattle.orc_links.specs.Logs.{noted_on}
use Rattle.orc_rules.specs.Events.{Turn}
use Rattle.orc_rules.specs.Worlds.{Setting, World as Seen}
use Rattle.orc_rules.specs.declared.event.Event.{Event}
use Rattle.orc_rules.specs.declared.event.Event.TheVariants as event
use Rattle.orc_runs.specs.Runs.{SaysAllTurns, is_log}
use Rattle.orc_runs.specs.Scripts.{Goes, Part, Prints, Shows, line_parts, said, said_in, set_by}
use Rattle.orc_script.specs.declared.step.ScriptStep.{ScriptStep}
use Rattle.orc_script.specs.declared.step.ScriptStep.TheVariants as step
use Rattle.orc_scene.specs.Courses.{DoesParts, EndsInParts, PrintsMost, PrintsTold, operations_in, told_in}
use Rattle.orc_world.specs.Lines.{DoesLine, EndsInLine}
use Rattle.orc_scene.specs.Stands.{IsNotReconciling}
use Rattle.orc_scene.specs.RunEnds.{end_of_run}
use Rattle.orc_scene.specs.declared.stop.WorldStop.{WorldStop}
use Rattle.orc_scene.specs.declared.stop.WorldStop.TheVariants as stop
use Rattle.orc_scene.specs.declared.scene.Scene.{Scene}
use Rattle.orc_world.proofs.Times.{unended}
use Rattle.orc_world.proofs.Unsaid.{says_all}

-- what is said of a turn is said of it in any line but one that recovers
said_alike : {D : Type 0} (names : List (List ℕ)) (line : ScriptStep) (turn : Turn D) (seen : Option Event) → (line ≡ step.Recover → ⊥)
    → said names line turn seen ≡ said names step.Settle turn seen
said_alike names line turn (Some (event.Submit call front (Some given))) other = refl
said_alike names line turn (Some (event.Admit t (Some given))) other = refl
said_alike names line turn (Some (event.Decide t given)) other = refl
said_alike names line turn (Some (event.Reconcile (Some result))) other = refl
said_alike names step.Recover turn (Some event.Stop) other = absurd (other refl)
said_alike names line turn (Some event.Stop) other = refl
said_alike names line turn (Some event.Recover) other = refl
said_alike names line turn one other = refl

module _ {D : Type 0} (here : Setting D) where
  told_alike : (line : ScriptStep) → (line ≡ step.Recover → ⊥) → (turns : List (Turn D)) → said_in here.decls line turns ≡ told_in here.decls turns
  told_alike line other [] = refl
  told_alike line other (turn ∷ turns) =
      ap (λ (l : List ℕ). l ++ said_in here.decls line turns) (said_alike here.decls.names line turn turn.seen other)
      ∙ ap (λ (l : List ℕ). said here.decls.names step.Settle turn turn.seen ++ l) (told_alike line other turns)

  module _ (line : ScriptStep) (seen : Seen D) (old new : Scene D) (before after : List ℕ) (parts : List Part) (row : line_parts here.decls line ≡ parts)
      (set : set_by line seen ≡ seen) (other : line ≡ step.Recover → ⊥) where
    -- the line was done
    pub parts_line : ((device : ℕ) → is_log device line ≡ false) → (does : DoesParts here seen old new before after parts)
        → Shows here.decls line does.turns does.next [] → IsNotReconciling new.place → DoesLine here line seen old new before after
    parts_line no_log does shows unmended = record {
      turns = does.turns;
      next = does.next;
      text = told_in here.decls does.turns;
      done = record {
        goes = subst (λ (ps : List Part). Goes here false ps (set_by line seen) does.turns does.next) (sym row)
            (subst (λ (world : Seen D). Goes here false parts world does.turns does.next) (sym set) does.goes);
        prints = record { after = []; printed = sym (told_alike line other does.turns) ∙ sym (append-nil (said_in here.decls line does.turns)); shows = shows };
        ends = unended here does.turns does.through.goes_on;
      };
      is = does.through.is;
      unmended = unmended;
      limit = does.through.limit;
      events = does.through.events;
      logs = λ device. does.through.logs device ∙ sym (ap (λ (b : Bool). if b then [] else noted_on old.links.logs device ++ operations_in device does.turns) (no_log device));
      log = λ device is. absurd (logged device is);
      printed = does.prints;
    }
      where
        logged : (device : ℕ) → line ≡ step.Log device → ⊥
        logged device is = let wrong : true ≡ false = sym (logs_itself device) ∙ sym (ap (is_log device) is) ∙ no_log device in cc
          where
            logs_itself : (device : ℕ) → is_log device (step.Log device) ≡ true
            logs_itself device = let same : nat_eq device device ≡ true = eq-eqb device device refl in same

    -- what it printed of its turns
    abbrev Printed : List (Turn D) → Seen D → WorldStop → Type 0
    Printed turns last why = (text : List ℕ) × Prints here.decls true line turns last text
        × SaysAllTurns here.decls (record { step = line; before = seen; turns = turns; behind = last; text = text }) (end_of_run why) × (after ≡ before ++ text)

    all_printed : (turns : List (Turn D)) (last : Seen D) (why : WorldStop) → PrintsTold here.decls before after turns → Printed turns last why
    all_printed turns last why told =
        let same : told_in here.decls turns ≡ said_in here.decls line turns = sym (told_alike line other turns) in (
          told_in here.decls turns,
          (turns, [], sym (append-nil turns), omega arith, same),
          says_all here.decls (record { step = line; before = seen; turns = turns; behind = last; text = told_in here.decls turns }) (end_of_run why) same,
          told,
        )

    most_printed : (turns : List (Turn D)) (last : Seen D) (why : WorldStop) → PrintsMost here.decls why before after turns → Printed turns last why
    most_printed turns last stop.Memory most =
        (told_in here.decls most.0, (most.0, most.1, most.2, most.3, sym (told_alike line other most.0)), tt, most.4)
    most_printed turns last stop.JournalFault told = all_printed turns last stop.JournalFault told
    most_printed turns last (stop.Full len) told = all_printed turns last (stop.Full len) told
    most_printed turns last (stop.Foreign at) told = all_printed turns last (stop.Foreign at) told
    most_printed turns last stop.NotJournal told = all_printed turns last stop.NotJournal told
    most_printed turns last (stop.Damaged at) told = all_printed turns last (stop.Damaged at) told

    -- the run ended in it
    pub ends_line : (why : WorldStop) → EndsInParts here seen old new before after parts why → EndsInLine here line seen old new before after why
    ends_line why ends = let printed : Printed ends.turns ends.last why = most_printed ends.turns ends.last why ends.prints in record {
      turns = ends.turns;
      last = ends.last;
      text = printed.0;
      done = record {
        goes = subst (λ (ps : List Part). Goes here true ps (set_by line seen) ends.turns ends.last) (sym row)
            (subst (λ (world : Seen D). Goes here true parts world ends.turns ends.last) (sym set) ends.goes);
        prints = printed.1;
        ends = λ earlier later turn is at. (refl, ends.ended.at_last earlier later turn is at);
      };
      because = ends.because;
      says = printed.2;
      disk = ends.ended.disk;
      events = ends.ended.events;
      printed = printed.3;
    }
