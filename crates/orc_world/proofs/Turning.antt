-- Calls for one turn: room for it, that none may come, and lines that are one turn or a row of one kind.
use Rattle.std.proofs.Common.{[], ◌≡◌, ◌⊎◌, inl, inr, ℕ, Bool, false, List, ◌∷◌, ◌++◌, refl, sym, ◌∙◌, append-nil}
use Rattle.std.specs.Prelude.{if◌then◌else◌}
use Rattle.std.proofs.lemmas.Bool.{false≢true}
use Rattle.orc_decls.specs.declared.declarations.Decls.{Decls}
use Rattle.orc_disk.specs.Meanings.{DiskMeaning}
use Rattle.orc_rules.specs.Events.{Turn}
use Rattle.orc_rules.specs.Worlds.{Setting, World as Seen}
use Rattle.orc_runs.specs.Runs.{is_log}
use Rattle.orc_runs.specs.Scripts.{Goes, NoneOf, Part, Part as part, Shows, comes_again, line_parts, set_by}
use Rattle.orc_script.specs.declared.step.ScriptStep.{ScriptStep}
use Rattle.orc_script.specs.declared.step.ScriptStep.TheVariants as step
use Rattle.orc_scene.specs.Courses.{DoesParts, MayDoTurn, RowOrEnd, TurnOrNone}
use Rattle.orc_world.specs.inside.Rows.{RowOrQuiet}
use Rattle.orc_scene.specs.Laws.{SceneIsCarried}
use Rattle.orc_world.specs.Lines.{IsLineCall}
use Rattle.orc_scene.specs.Stands.{IsBetweenLines, run_setting}
use Rattle.orc_scene.specs.declared.stop.WorldStop.{WorldStop}
use Rattle.orc_scene.specs.declared.scene.Scene.{Scene}
use Rattle.orc_scene.proofs.Lasted.{done, ended, stopped, went}
use Rattle.orc_world.proofs.Lasted.{between_parts}
use Rattle.orc_world.proofs.Lining.{ends_line, parts_line}
use Rattle.orc_world.proofs.Looping.{through_same}
use Rattle.orc_world.proofs.Resting.{BeginsNone}
use Rattle.orc_scene.proofs.Rowing.{turn_ends, turn_parts}

-- lines

module _ {D : Type 0} (disk : DiskMeaning D) (law : SceneIsCarried disk) (line : ScriptStep) (parts : Setting D → List Part) (row : (here : Setting D) → line_parts here.decls line ≡ parts here)
    (set : (seen : Seen D) → set_by line seen ≡ seen) (other : line ≡ step.Recover → ⊥) (no_log : (device : ℕ) → is_log device line ≡ false)
    (shows : (decls : Decls) (turns : List (Turn D)) (world : Seen D) → Shows decls line turns world []) (none : (here : Setting D) → BeginsNone (parts here))
    (old new : Scene D) (before after : List ℕ) where
  -- a line that is a row of parts
  pub row_line : IsBetweenLines disk old → RowOrEnd disk parts old (done tt) new before after → IsLineCall disk line old (done tt) new before after
  row_line between each = λ decls granted seen is may.
      (let here : Setting D = run_setting disk decls old.limit granted in
      let does : DoesParts here seen old new before after (parts here) = each decls granted seen is in
      parts_line here line seen old new before after (parts here) (row here) (set seen) other no_log does (shows here.decls does.turns does.next)
      (between_parts disk law old new before after parts none between each).1)

  pub row_line_ended : (why : WorldStop) → RowOrEnd disk parts old (ended why) new before after → IsLineCall disk line old (ended why) new before after
  row_line_ended why each = λ decls granted seen is may.
      (let here : Setting D = run_setting disk decls old.limit granted in
      ends_line here line seen old new before after (parts here) (row here) (set seen) other why (each decls granted seen is))

module _ {D : Type 0} (disk : DiskMeaning D) (one : Part) (single : comes_again one ≡ false) (old new : Scene D) (before after : List ℕ) where
  -- one turn, or none, is a row
  pub turn_or_none : (came : Bool) → TurnOrNone disk one old (went came) new before after → RowOrEnd disk (λ here. one ∷ []) old (done tt) new before after
  turn_or_none came each = λ decls granted seen is. by (run_setting disk decls old.limit granted) seen (each decls granted seen is)
    where
      by : (here : Setting D) (seen : Seen D) → MayDoTurn here seen old new before after one came → DoesParts here seen old new before after (one ∷ [])
      by here seen (inl did) = turn_parts here seen old old new before after one single did.1
      by here seen (inr none) = record {
        turns = [];
        next = seen;
        goes = Goes.none one [] seen seen [] none.1 (Goes.whole seen);
        through = through_same here seen old new before after none.2;
        prints = none.2.printed ∙ sym (append-nil before);
      }

  pub turn_or_end : (why : WorldStop) → TurnOrNone disk one old (stopped why) new before after → RowOrEnd disk (λ here. one ∷ []) old (ended why) new before after
  turn_or_end why each = λ decls granted seen is. turn_ends (run_setting disk decls old.limit granted) seen old old new before after one single why (each decls granted seen is)

admit_shows : {D : Type 0} (decls : Decls) (turns : List (Turn D)) (world : Seen D) → Shows decls step.Admit turns world []
admit_shows decls [] world = refl
admit_shows decls (turn ∷ turns) world = refl

decide_shows : {D : Type 0} (decls : Decls) (turns : List (Turn D)) (world : Seen D) → Shows decls step.Decide turns world []
decide_shows decls [] world = refl
decide_shows decls (turn ∷ turns) world = refl

module _ {D : Type 0} (disk : DiskMeaning D) (law : SceneIsCarried disk) (old new : Scene D) (before after : List ℕ) where
  -- the line `admit`
  pub admit_line : IsBetweenLines disk old → (came : Bool) → TurnOrNone disk part.Admission old (went came) new before after → IsLineCall disk step.Admit old (done tt) new before after
  admit_line between came each =
      row_line disk law step.Admit (λ here. part.Admission ∷ []) (λ here. refl) (λ seen. refl) (λ wrong. absurd cc) (λ device. refl) admit_shows (λ here. (refl, tt)) old new before after between
      (turn_or_none disk part.Admission refl old new before after came each)

  pub admit_line_ended : (why : WorldStop) → TurnOrNone disk part.Admission old (stopped why) new before after → IsLineCall disk step.Admit old (ended why) new before after
  admit_line_ended why each =
      row_line_ended disk law step.Admit (λ here. part.Admission ∷ []) (λ here. refl) (λ seen. refl) (λ wrong. absurd cc) (λ device. refl) admit_shows (λ here. (refl, tt)) old new before after why
      (turn_or_end disk part.Admission refl old new before after why each)

  -- the line `decide`
  pub decide_line : IsBetweenLines disk old → (came : Bool) → RowOrQuiet disk (λ here. part.Decisions ∷ []) (λ here seen. NoneOf here seen part.Decisions) old (went came) new before after
      → IsLineCall disk step.Decide old (done tt) new before after
  decide_line between came each =
      row_line disk law step.Decide (λ here. part.Decisions ∷ []) (λ here. refl) (λ seen. refl) (λ wrong. absurd cc) (λ device. refl) decide_shows (λ here. (refl, tt)) old new before after between
      (λ decls granted seen is. (each decls granted seen is).does)

  pub decide_line_ended : (why : WorldStop) → RowOrQuiet disk (λ here. part.Decisions ∷ []) (λ here seen. NoneOf here seen part.Decisions) old (stopped why) new before after
      → IsLineCall disk step.Decide old (ended why) new before after
  decide_line_ended why each =
      row_line_ended disk law step.Decide (λ here. part.Decisions ∷ []) (λ here. refl) (λ seen. refl) (λ wrong. absurd cc) (λ device. refl) decide_shows (λ here. (refl, tt)) old new before after why each
