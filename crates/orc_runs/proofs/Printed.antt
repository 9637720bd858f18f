-- What is shown of a device is what it runs. (Not checked yet.)
use Rattle.std.proofs.Common.{[], ◌≡◌, false, List, ◌∷◌, ℕ, All, Contains, refl, ap, subst, ◌∙◌}
use Rattle.std.proofs.lemmas.List.Elements.{All-cons, All-contains, All-nil}
use Rattle.orc_decls.specs.Devices.{name_of}
use Rattle.orc_print.specs.Printed.{tree_text}
use Rattle.orc_rules.specs.Events.{Turn}
use Rattle.orc_rules.specs.Worlds.{Setting, World}
use Rattle.orc_runs.specs.Runs.{AreDone, IsDone, LineDone, Run}
use Rattle.orc_runs.specs.Scripts.{Goes, Part, PrintsAll, line_parts, set_by}
use Rattle.orc_script.specs.declared.step.ScriptStep.{ScriptStep}
use Rattle.orc_script.specs.declared.step.ScriptStep.TheVariants as step

module _ {D : Type 0} (here : Setting D) where
  -- a line without parts makes nothing happen
  nothing_came : (world : World D) (turns : List (Turn D)) (last : World D) → Goes here false [] world turns last → turns ≡ []
  nothing_came world turns last (Goes.whole _) = refl
  nothing_came world turns last (Goes.broken _ _ is) = refl

  shown_by : (at : ScriptStep) (device : ℕ) (turns : List (Turn D)) (behind : World D) (text : List ℕ) → at ≡ step.Show device → turns ≡ []
      → PrintsAll here.decls at turns behind text → text ≡ tree_text (name_of here.decls.names device) (behind.nodes device).running
  shown_by at device turns behind text is none prints =
      let own : PrintsAll here.decls (step.Show device) [] behind text =
      subst (λ (l : List (Turn D)). PrintsAll here.decls (step.Show device) l behind text) none (subst (λ (s : ScriptStep). PrintsAll here.decls s turns behind text) is prints) in
      own.printed ∙ own.shows

  line_shows : (line : LineDone D) (device : ℕ) → IsDone here false line → line.step ≡ step.Show device
      → line.text ≡ tree_text (name_of here.decls.names device) (line.behind.nodes device).running
  line_shows line device done is =
      shown_by line.step device line.turns line.behind line.text is
      (nothing_came (set_by line.step line.before) line.turns line.behind
      (subst (λ (parts : List Part). Goes here false parts (set_by line.step line.before) line.turns line.behind) (ap (line_parts here.decls) is) done.goes))
      done.prints

  all_done : (first last : World D) (lines : List (LineDone D)) → AreDone here first lines last → All (IsDone here false) lines
  all_done first last [] done = All-nil (IsDone here false)
  all_done first last (line ∷ lines) done = All-cons (IsDone here false) line lines done.1 (all_done line.behind last lines done.2)

  pub as_printed : (script : List ScriptStep) (first last : World D) (run : Run here script first last) (line : LineDone D) (device : ℕ) → Contains run.lines line
      → line.step ≡ step.Show device → line.text ≡ tree_text (name_of here.decls.names device) (line.behind.nodes device).running
  as_printed script first last run line device among is =
      line_shows line device (All-contains (IsDone here false) run.lines line (all_done first run.middle run.lines run.done) among) is
