-- How the lines of a script come to their end.
use Rattle.std.proofs.Common.{◌≡◌, ℕ, ◌+◌, ◌<◌, true, false, List, [], ◌∷◌, ◌++◌, length, take, drop, get_or, None, Some, Option, Ok, Err, Result, refl, sym, ap, subst, ◌∙◌, append-nil}
use Rattle.std.specs.Prelude.{MatchResult}
use Rattle.std.specs.Io.KnownBytes.{Appends}
use Rattle.std.proofs.lemmas.Bool.{false≢true}
use Rattle.std.proofs.lemmas.List.{take_more, take-append-drop}
use Rattle.orc_decls.specs.declared.declarations.Decls.{Decls}
use Rattle.orc_disk.specs.Meanings.{DiskMeaning}
use Rattle.orc_io.specs.Pieces.{TakesFront}
use Rattle.orc_io.proofs.Fronts.{Appends-trans}
use Rattle.orc_rules.specs.Journals.{Journal}
use Rattle.orc_rules.specs.Worlds.{Setting, World as Seen}
use Rattle.orc_run.specs.ReadBack.{ReadBackRunsHaveTheHeadline}
use Rattle.orc_script.specs.declared.step.ScriptStep.{ScriptStep}
use Rattle.orc_script.specs.declared.step.ScriptStep.TheVariants as step
use Rattle.orc_world.specs.Lines.{DoesLine, EndsInLine, IsLineCall, MayRecover}
use Rattle.orc_world.specs.Scripts.{TakesAnyLine}
use Rattle.orc_scene.specs.Stands.{HasDisk, IsPlaceSeenAs, IsSeenAs, is_somewhere, run_setting}
use Rattle.orc_scene.specs.declared.stop.WorldStop.{WorldStop}
use Rattle.orc_scene.specs.declared.stop.WorldStop.TheVariants as stop
use Rattle.orc_scene.specs.declared.scene.Place.{Place}
use Rattle.orc_scene.specs.declared.scene.Place.TheVariants.{Up, Down, Ended, Moved}
use Rattle.orc_scene.specs.declared.scene.Scene.{Scene}
use Rattle.orc_run.specs.Ends.{LinesRun, Wrote}
use Rattle.orc_run.specs.declared.opening.TheConstants.{LARGEST_JOURNAL}
use Rattle.orc_run.specs.declared.stop.Stop.{Stop}
use Rattle.orc_run.specs.declared.stop.Stop.TheVariants as ending
use Rattle.orc_run.specs.inside.Scripts.{Finishes, HasDoneOver, IsFirst, WritesLine, stop_of_world}
use Rattle.orc_run.proofs.Lined.{one_more, ran_so_far, ran_to_end}
use Rattle.orc_run.proofs.Writing.{all_more, all_of, begins_more}

-- one more line of a script
pub taken_more : (steps : List ScriptStep) (i : ℕ) (s : ScriptStep) → i < length steps → s ≡ get_or steps i s → take (i + 1) steps ≡ take i steps ++ s ∷ []
taken_more steps i s within is = take_more steps i s within ∙ ap (λ x. take i steps ++ x ∷ []) (sym is)

-- where nothing is granted any line may be done
may_any : (line : ScriptStep) → MayRecover line false
may_any step.Recover = refl
may_any line = tt

-- the world ends a run for none of the sink's faults
wrote_stop : (why : WorldStop) (held now : Option (List ℕ)) (text : List ℕ) → Appends held now text → Wrote held now text (Some (stop_of_world why)) (Err (stop_of_world why))
wrote_stop stop.JournalFault held now text took = (refl, took)
wrote_stop (stop.Full len) held now text took = (refl, took)
wrote_stop stop.Memory held now text took = (refl, took)
wrote_stop (stop.Foreign at) held now text took = (refl, took)
wrote_stop stop.NotJournal held now text took = (refl, took)
wrote_stop (stop.Damaged at) held now text took = (refl, took)

pub no_write : (why : WorldStop) → stop_of_world why ≡ ending.WriteFault → ⊥
no_write stop.JournalFault is = cc
no_write (stop.Full len) is = cc
no_write stop.Memory is = cc
no_write (stop.Foreign at) is = cc
no_write stop.NotJournal is = cc
no_write (stop.Damaged at) is = cc

module _ {D : Type 0} where
  -- the disk of what the rules see is that of the place
  pub disk_there : (here : Setting D) (seen : Seen D) (place : Place D) (last : D) → IsPlaceSeenAs here seen place → HasDisk place last → seen.journal.disk ≡ last
  disk_there here seen (Up hub) last is has = ap (λ (j : Journal D). j.disk) is.journal ∙ has
  disk_there here seen (Down held decls) last is has = is.2 ∙ has
  disk_there here seen (Ended held) last is has = absurd is
  disk_there here seen Moved last is has = absurd is

  pub one_disk : (place : Place D) (one other : D) → HasDisk place one → HasDisk place other → one ≡ other
  one_disk (Up hub) one other has had = sym has ∙ had
  one_disk (Down held decls) one other has had = sym has ∙ had
  one_disk (Ended held) one other has had = sym has ∙ had
  one_disk Moved one other has had = absurd has

  pub seen_somewhere : (here : Setting D) (seen : Seen D) (place : Place D) → IsPlaceSeenAs here seen place → is_somewhere place ≡ true
  seen_somewhere here seen (Up hub) is = refl
  seen_somewhere here seen (Down held decls) is = refl
  seen_somewhere here seen (Ended held) is = absurd is
  seen_somewhere here seen Moved is = absurd is

  pub disk_somewhere : (place : Place D) (held : D) → HasDisk place held → is_somewhere place ≡ true
  disk_somewhere (Up hub) held has = refl
  disk_somewhere (Down other decls) held has = refl
  disk_somewhere (Ended other) held has = refl
  disk_somewhere Moved held has = absurd has

module _ {D : Type 0} (disk : DiskMeaning D) where
  module _ (line : ScriptStep) (old new : Scene D) (before after : List ℕ) where
    -- what a call for a line did, in the setting of a limit
    line_at : (result : Result (Unit {0}) WorldStop) → IsLineCall disk line old result new before after → (limit : ℕ) → old.limit ≡ limit
        → (decls : Decls) (seen : Seen D) → IsSeenAs (run_setting disk decls limit false) seen old
        → MatchResult result (λ value. DoesLine (run_setting disk decls limit false) line seen old new before after)
        (λ why. EndsInLine (run_setting disk decls limit false) line seen old new before after why)
    line_at result call limit same decls seen =
        subst (λ (n : ℕ). IsSeenAs (run_setting disk decls n false) seen old
        → MatchResult result (λ value. DoesLine (run_setting disk decls n false) line seen old new before after)
        (λ why. EndsInLine (run_setting disk decls n false) line seen old new before after why)) same (λ is. call decls false seen is (may_any line))

    -- what a line printed after nothing
    pub line_from : (result : Result (Unit {0}) WorldStop) → IsLineCall disk line old result new before after → before ≡ [] → (text : List ℕ) → text ≡ after
        → IsLineCall disk line old result new [] text
    line_from result call none text is =
        subst (λ (l : List ℕ). IsLineCall disk line old result new l text) none (subst (λ (l : List ℕ). IsLineCall disk line old result new before l) (sym is) call)

    -- the disk is there after a line
    pub line_somewhere : TakesAnyLine disk old → (result : Result (Unit {0}) WorldStop) → IsLineCall disk line old result new before after → is_somewhere new.place ≡ true
    line_somewhere going result call = on result (call going.0 false going.1 going.2 (may_any line))
      where
        on : (result : Result (Unit {0}) WorldStop)
            → MatchResult result (λ value. DoesLine (run_setting disk going.0 old.limit false) line going.1 old new before after)
            (λ why. EndsInLine (run_setting disk going.0 old.limit false) line going.1 old new before after why)
            → is_somewhere new.place ≡ true
        on (Ok done) does = seen_somewhere (run_setting disk going.0 old.limit false) does.next new.place does.is.place
        on (Err why) ends = disk_somewhere new.place ends.last.journal.disk ends.disk

  module _ (law : ReadBackRunsHaveTheHeadline disk) (decls : Decls) (first : Seen D) (begun : Scene D) (is_first : IsFirst disk decls first begun) where
    -- one more line was done
    pub done_more : (done : List ScriptStep) (texts : List (List ℕ)) (line : ScriptStep) (old new : Scene D) (text : List ℕ)
        → HasDoneOver disk decls first done texts old → IsLineCall {A = Unit {0}} disk line old (Ok tt) new [] text
        → HasDoneOver disk decls first (done ++ line ∷ []) (texts ++ text ∷ []) new
    done_more done texts line old new text so call =
        one_more (run_setting disk decls LARGEST_JOURNAL false) first done texts line old new text so
        (line_at line old new [] text (Ok tt) call LARGEST_JOURNAL so.is.limit.0 decls so.seen so.is)

    -- a run of lines that were done
    pub runs_so_far : (done : List ScriptStep) (texts : List (List ℕ)) (world : Scene D) (last : D) → HasDoneOver disk decls first done texts world
        → HasDisk world.place last → LinesRun (run_setting disk decls LARGEST_JOURNAL false) first done texts None last
    runs_so_far done texts world last so has =
        let here = run_setting disk decls LARGEST_JOURNAL false in
        ran_so_far here first (λ script end run. law decls LARGEST_JOURNAL script first end run so.is.decls is_first.starts)
        done texts world last so (disk_there here so.seen world.place last so.is.place has)

    -- a run of lines and of one after them, in which it ended
    runs_to_end : (done : List ScriptStep) (texts : List (List ℕ)) (line : ScriptStep) (old new : Scene D) (text : List ℕ) (why : WorldStop) (last : D)
        → HasDoneOver disk decls first done texts old → IsLineCall {A = Unit {0}} disk line old (Err why) new [] text → HasDisk new.place last
        → LinesRun (run_setting disk decls LARGEST_JOURNAL false) first (done ++ line ∷ []) (texts ++ text ∷ []) (Some (stop_of_world why)) last
    runs_to_end done texts line old new text why last so call has =
        let here = run_setting disk decls LARGEST_JOURNAL false in
        let ends : EndsInLine here line so.seen old new [] text why =
        line_at line old new [] text (Err why) call LARGEST_JOURNAL so.is.limit.0 decls so.seen so.is in
        ran_to_end here first (λ script end run. law decls LARGEST_JOURNAL script first end run so.is.decls is_first.starts)
        done texts line old new text why last so ends (one_disk new.place ends.last.journal.disk last ends.disk has)

    -- all lines were done
    pub finishes_whole : (held now : Option (List ℕ)) (steps : List ScriptStep) (i : ℕ) (texts : List (List ℕ)) (world : Scene D) (last : D)
        → take i steps ≡ steps → HasDoneOver disk decls first (take i steps) texts world → HasDisk world.place last
        → Appends held now (all_of texts) → Finishes disk decls first held now steps last (Ok (record {}))
    finishes_whole held now steps i texts world last all each has took = record {
      done = steps;
      rest = [];
      parts = sym (append-nil steps);
      texts = texts;
      end = None;
      ran = runs_so_far steps texts world last (subst (λ (l : List ScriptStep). HasDoneOver disk decls first l texts world) all each) has;
      wrote = (refl, took);
      whole = λ ok. refl;
      unwritten = λ failed. absurd cc;
    }

    module _ (a b c : Option (List ℕ)) (steps : List ScriptStep) (i : ℕ) (line : ScriptStep) (within : i < length steps) (is : line ≡ get_or steps i line)
        (texts : List (List ℕ)) (old : Scene D) (each : HasDoneOver disk decls first (take i steps) texts old) (took : Appends a b (all_of texts)) (last : D) where
      split : steps ≡ (take i steps ++ line ∷ []) ++ drop (i + 1) steps
      split = sym (take-append-drop (i + 1) steps) ∙ ap (λ (l : List ScriptStep). l ++ drop (i + 1) steps) (taken_more steps i line within is)

      took_all : (text : List ℕ) → Appends b c text → Appends a c (all_of (texts ++ text ∷ []))
      took_all text more = subst (Appends a c) (sym (all_more texts text)) (Appends-trans a b c (all_of texts) text took more)

      -- the text of a line was not written
      unwritten_here : (new : Scene D) (text : List ℕ) (end : Option Stop)
          → LinesRun (run_setting disk decls LARGEST_JOURNAL false) first (take i steps ++ line ∷ []) (texts ++ text ∷ []) end last
          → TakesFront b c text → Finishes disk decls first a c steps last (Err ending.WriteFault)
      unwritten_here new text end ran front = record {
        done = take i steps ++ line ∷ [];
        rest = drop (i + 1) steps;
        parts = split;
        texts = texts ++ text ∷ [];
        end = end;
        ran = ran;
        wrote = subst (TakesFront a c) (sym (all_more texts text)) (begins_more a b c (all_of texts) text took front);
        whole = λ ok. absurd (false≢true ok);
        unwritten = λ failed. record { before = texts; last = text; parts = refl; between = b; took_before = took; took_last = front };
      }

      -- the run ended at a line
      pub finishes_here : (result : Result (Unit {0}) Stop) (status : Stop) (new : Scene D) → WritesLine disk b c line old result new → result ≡ Err status
          → HasDisk new.place last → Finishes disk decls first a c steps last (Err status)
      finishes_here result status new (WritesLine.goes_on text new' call more) end has = absurd cc
      finishes_here result status new (WritesLine.ends_in text new' why call more) end has =
          let same : stop_of_world why ≡ status = cc in
          subst (λ (s : Stop). Finishes disk decls first a c steps last (Err s)) same (record {
            done = take i steps ++ line ∷ [];
            rest = drop (i + 1) steps;
            parts = split;
            texts = texts ++ text ∷ [];
            end = Some (stop_of_world why);
            ran = runs_to_end (take i steps) texts line old new text why last each call has;
            wrote = wrote_stop why a c (all_of (texts ++ text ∷ [])) (took_all text more);
            whole = λ ok. absurd (false≢true ok);
            unwritten = λ failed. absurd (no_write why cc);
          })
      finishes_here result status new (WritesLine.unwritten text new' ended call front) end has =
          let same : ending.WriteFault ≡ status = cc in
          subst (λ (s : Stop). Finishes disk decls first a c steps last (Err s)) same (on ended call)
        where
          on : (ended : Result (Unit {0}) WorldStop) → IsLineCall disk line old ended new [] text → Finishes disk decls first a c steps last (Err ending.WriteFault)
          on (Ok done) call = unwritten_here new text None
              (runs_so_far (take i steps ++ line ∷ []) (texts ++ text ∷ []) new last (done_more (take i steps) texts line old new text each call) has) front
          on (Err why) call = unwritten_here new text (Some (stop_of_world why)) (runs_to_end (take i steps) texts line old new text why last each call has) front

-- a line that was done and written: its text, and one more line done
pub line_more : {D : Type 0} (disk : DiskMeaning D) (b c : Option (List ℕ)) (line : ScriptStep) (old new : Scene D) → WritesLine disk b c line old (Ok tt) new
    → (text : List ℕ) × Appends b c text
    × (ReadBackRunsHaveTheHeadline disk → (decls : Decls) (first : Seen D) (begun : Scene D) → IsFirst disk decls first begun
    → (done : List ScriptStep) (texts : List (List ℕ)) → HasDoneOver disk decls first done texts old
    → HasDoneOver disk decls first (done ++ line ∷ []) (texts ++ text ∷ []) new)
line_more {D} disk b c line old new writes = on (Ok tt) refl writes
  where
    on : (result : Result (Unit {0}) Stop) → result ≡ Ok tt → WritesLine disk b c line old result new
        → (text : List ℕ) × Appends b c text
        × (ReadBackRunsHaveTheHeadline disk → (decls : Decls) (first : Seen D) (begun : Scene D) → IsFirst disk decls first begun
        → (done : List ScriptStep) (texts : List (List ℕ)) → HasDoneOver disk decls first done texts old
        → HasDoneOver disk decls first (done ++ line ∷ []) (texts ++ text ∷ []) new)
    on result is (WritesLine.goes_on text new' call took) =
        (text, took, λ law decls first begun first_is done texts each. done_more disk law decls first begun first_is done texts line old new text each call)
    on result is (WritesLine.ends_in text new' why call took) = absurd cc
    on result is (WritesLine.unwritten text new' ended call front) = absurd cc
