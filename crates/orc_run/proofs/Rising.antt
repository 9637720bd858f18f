-- Why a run ended, and that the count of the disk's faults never falls in it.
use Rattle.std.proofs.Common.{◌≡◌, ℕ, ◌≤◌, Bool, true, false, List, [], ◌∷◌, ◌++◌, None, Some, Option, refl, sym, ap, subst, ◌∙◌, arith}
use Rattle.std.specs.Option.{option_map, option_map_or}
use Rattle.orc_io.specs.Counts.{Rose}
use Rattle.orc_rules.specs.Events.{DoesAnyway, Steps, Turn}
use Rattle.orc_rules.specs.Hubs.{Hub}
use Rattle.orc_rules.specs.Worlds.{Setting, World}
use Rattle.orc_rules.specs.declared.event.Event.{Event}
use Rattle.orc_runs.specs.Ends.{EndOfRun, EndOfRun as ended}
use Rattle.orc_runs.specs.Runs.{AreDone, EndsFor, EndsIn, LineDone, Run}
use Rattle.orc_runs.specs.Scripts.{Goes, Part, set_by}
use Rattle.orc_script.specs.declared.step.ScriptStep.{ScriptStep}
use Rattle.orc_script.specs.declared.step.ScriptStep.TheVariants as step
use Rattle.orc_run.specs.Ends.{LinesRun, ScriptRun, stop_of_end}
use Rattle.orc_run.specs.declared.stop.Stop.{Stop}
use Rattle.orc_run.specs.declared.stop.Stop.TheVariants as ending

-- a count that doesn't fall, and then rises, rose; so does one that rises and then doesn't fall
pub rose_later : (a b c : ℕ) → a ≤ b → Rose b c → Rose a c
rose_later a b c le later = grind (arith, le, later)

rose_then : (a b c : ℕ) → Rose a b → b ≤ c → Rose a c
rose_then a b c rose le = grind (arith, rose, le)

module _ {D : Type 0} (here : Setting D) where
  anyway_later : (old : World D) (meant : Event) (new : World D) → DoesAnyway old meant new → here.disk.faults old.journal.disk ≤ here.disk.faults new.journal.disk
  anyway_later old meant new (DoesAnyway.ticks seconds) = omega arith
  anyway_later old meant new (DoesAnyway.restarts device) = omega arith
  anyway_later old meant new (DoesAnyway.answers_down call front down) = omega arith

  steps_later : (old : World D) (meant : Event) (seen : Option Event) (new : World D) → Steps here old meant seen new
      → here.disk.faults old.journal.disk ≤ here.disk.faults new.journal.disk
  steps_later old meant seen new (Steps.done hub row next _ up does appends same) = appends.outlives.later
  steps_later old meant seen new (Steps.cut hub row next _ up does appends same) = appends.outlives.later
  steps_later old meant seen new (Steps.failed hub row next _ up does appends same) = appends.outlives.later
  steps_later old meant seen new (Steps.full hub row next len _ up does appends same) = appends.outlives.later
  steps_later old meant seen new (Steps.anyway _ does) = anyway_later old meant new does
  steps_later old meant seen new (Steps.unopened _ down recovers closed same) = closed.outlives.later
  steps_later old meant seen new (Steps.recovers _ down recovers opens same) = opens.outlives.later

  -- what a line sets leaves the disk
  pub set_disk : (at : ScriptStep) (world : World D) → (set_by at world).journal.disk ≡ world.journal.disk
  set_disk (step.StopAt count bytes) world = on world.hub
    where
      on : (hub : Option Hub) → (option_map_or (λ h. record world { journal = record world.journal { armed = count; bytes = bytes } }) hub world).journal.disk ≡ world.journal.disk
      on None = refl
      on (Some hub) = refl
  set_disk (step.Fault device op at) world = refl
  set_disk other world = refl

  goes_later : (ends : Bool) (parts : List Part) (world : World D) (turns : List (Turn D)) (last : World D) → Goes here ends parts world turns last
      → here.disk.faults world.journal.disk ≤ here.disk.faults last.journal.disk
  goes_later ends _ world _ _ (Goes.whole _) = omega arith
  goes_later ends _ world _ _ (Goes.broken parts _ is) = omega arith
  goes_later ends _ _ _ last (Goes.once part parts turn turns _ one is called comes more) =
      omega (arith, steps_later turn.before turn.meant turn.seen turn.behind comes, goes_later ends parts turn.behind turns last more)
  goes_later ends _ _ _ last (Goes.again part parts turn turns _ one is comes more) =
      omega (arith, steps_later turn.before turn.meant turn.seen turn.behind comes, goes_later ends (part ∷ parts) turn.behind turns last more)
  goes_later ends _ world turns last (Goes.none part parts _ _ _ none more) = goes_later ends parts world turns last more
  goes_later ends _ world turns last (Goes.round_more parts _ _ _ more) = goes_later ends _ world turns last more
  goes_later ends _ world turns last (Goes.still parts _ _ _ still more) = goes_later ends parts world turns last more

  -- where it rises in the last turn it rises
  pub goes_rose : (ends : Bool) (parts : List Part) (world : World D) (turns : List (Turn D)) (last : World D) → Goes here ends parts world turns last
      → (earlier : List (Turn D)) (turn : Turn D) → turns ≡ earlier ++ turn ∷ []
      → Rose (here.disk.faults turn.before.journal.disk) (here.disk.faults turn.behind.journal.disk)
      → Rose (here.disk.faults world.journal.disk) (here.disk.faults last.journal.disk)
  goes_rose ends _ world _ _ (Goes.whole _) earlier turn is rose = absurd (none earlier turn is)
    where
      none : (earlier : List (Turn D)) (turn : Turn D) → [] ≡ earlier ++ turn ∷ [] → ⊥
      none [] turn is = cc
      none (x ∷ xs) turn is = cc
  goes_rose ends _ world _ _ (Goes.broken parts _ so) earlier turn is rose = absurd (none earlier turn is)
    where
      none : (earlier : List (Turn D)) (turn : Turn D) → [] ≡ earlier ++ turn ∷ [] → ⊥
      none [] turn is = cc
      none (x ∷ xs) turn is = cc
  goes_rose ends _ _ _ last (Goes.once part parts first turns _ one so called comes more) [] turn is rose =
      let same : first ≡ turn = cc in
      rose_then _ _ _ (subst (λ (t : Turn D). Rose (here.disk.faults t.before.journal.disk) (here.disk.faults t.behind.journal.disk)) (sym same) rose)
      (goes_later ends parts first.behind turns last more)
  goes_rose ends _ _ _ last (Goes.once part parts first turns _ one so called comes more) (x ∷ xs) turn is rose =
      let rest : turns ≡ xs ++ turn ∷ [] = cc in
      rose_later _ _ _ (steps_later first.before first.meant first.seen first.behind comes) (goes_rose ends parts first.behind turns last more xs turn rest rose)
  goes_rose ends _ _ _ last (Goes.again part parts first turns _ one so comes more) [] turn is rose =
      let same : first ≡ turn = cc in
      rose_then _ _ _ (subst (λ (t : Turn D). Rose (here.disk.faults t.before.journal.disk) (here.disk.faults t.behind.journal.disk)) (sym same) rose)
      (goes_later ends (part ∷ parts) first.behind turns last more)
  goes_rose ends _ _ _ last (Goes.again part parts first turns _ one so comes more) (x ∷ xs) turn is rose =
      let rest : turns ≡ xs ++ turn ∷ [] = cc in
      rose_later _ _ _ (steps_later first.before first.meant first.seen first.behind comes) (goes_rose ends (part ∷ parts) first.behind turns last more xs turn rest rose)
  goes_rose ends _ world turns last (Goes.none part parts _ _ _ none more) earlier turn is rose = goes_rose ends parts world turns last more earlier turn is rose
  goes_rose ends _ world turns last (Goes.round_more parts _ _ _ more) earlier turn is rose = goes_rose ends _ world turns last more earlier turn is rose
  goes_rose ends _ world turns last (Goes.still parts _ _ _ still more) earlier turn is rose = goes_rose ends parts world turns last more earlier turn is rose

  lines_later : (first : World D) (lines : List (LineDone D)) (last : World D) → AreDone here first lines last
      → here.disk.faults first.journal.disk ≤ here.disk.faults last.journal.disk
  lines_later first [] last are = subst (λ (w : World D). here.disk.faults first.journal.disk ≤ here.disk.faults w.journal.disk) are (omega arith)
  lines_later first (line ∷ lines) last are =
      let begins : here.disk.faults (set_by line.step line.before).journal.disk ≡ here.disk.faults first.journal.disk =
      ap here.disk.faults (set_disk line.step line.before) ∙ ap (λ (w : World D). here.disk.faults w.journal.disk) are.0 in
      omega (arith, begins, goes_later false _ (set_by line.step line.before) line.turns line.behind are.1.goes, lines_later line.behind lines last are.2)

  -- which end it was
  fault_end : (why : EndOfRun) → stop_of_end why ≡ ending.JournalFault → why ≡ ended.JournalFault
  fault_end ended.Memory is = absurd cc
  fault_end ended.WriteFault is = absurd cc
  fault_end ended.JournalFault is = refl
  fault_end (ended.Full len) is = absurd cc
  fault_end (ended.Foreign at) is = absurd cc
  fault_end ended.NotJournal is = absurd cc
  fault_end (ended.Damaged at) is = absurd cc

  -- a run that ended with a fault of the disk counted it
  ended_rose : (first last : World D) (script : List ScriptStep) (run : Run here script first last) (end : Option Stop) → end ≡ option_map stop_of_end run.why
      → end ≡ Some ending.JournalFault → Rose (here.disk.faults first.journal.disk) (here.disk.faults last.journal.disk)
  ended_rose first last script run end why is = on_why run.why (sym is ∙ why) run.end run.ends run.because
    where
      on_line : (line : Option (LineDone D)) → EndsIn here run.middle line last → EndsFor here line (Some ended.JournalFault)
          → Rose (here.disk.faults first.journal.disk) (here.disk.faults last.journal.disk)
      on_line None ends because = absurd cc
      on_line (Some line) ends (because, says) =
          let turn = because.1 in
          let begins : here.disk.faults (set_by line.step line.before).journal.disk ≡ here.disk.faults run.middle.journal.disk =
          ap here.disk.faults (set_disk line.step line.before) ∙ ap (λ (w : World D). here.disk.faults w.journal.disk) ends.0 in
          let rose : Rose (here.disk.faults (set_by line.step line.before).journal.disk) (here.disk.faults line.behind.journal.disk) =
          goes_rose true _ (set_by line.step line.before) line.turns line.behind ends.1.goes because.0 turn because.2 because.3.1 in
          rose_later _ _ _ (lines_later first run.lines run.middle run.done)
          (subst (λ (w : World D). Rose (here.disk.faults run.middle.journal.disk) (here.disk.faults w.journal.disk)) ends.2
          (subst (λ (n : ℕ). Rose n (here.disk.faults line.behind.journal.disk)) begins rose))

      on_why : (why : Option EndOfRun) → Some ending.JournalFault ≡ option_map stop_of_end why → (line : Option (LineDone D)) → EndsIn here run.middle line last
          → EndsFor here line why → Rose (here.disk.faults first.journal.disk) (here.disk.faults last.journal.disk)
      on_why None same line ends because = absurd cc
      on_why (Some why) same line ends because =
          let one : stop_of_end why ≡ ending.JournalFault = cc in
          on_line line ends (subst (λ (w : EndOfRun). EndsFor here line (Some w)) (fault_end why one) because)

  -- where a run of printed lines ended with JournalFault, the disk's faults rose
  pub run_rose : (first : World D) (done : List ScriptStep) (texts : List (List ℕ)) (end : Option Stop) (disk : D) → LinesRun here first done texts end disk
      → end ≡ Some ending.JournalFault → Rose (here.disk.faults first.journal.disk) (here.disk.faults disk)
  run_rose first done texts end disk ran is =
      subst (λ (d : D). Rose (here.disk.faults first.journal.disk) (here.disk.faults d)) ran.disk_is (ended_rose first ran.last done ran.run end ran.why is)

  -- where a run that was summed up ended with JournalFault, the disk's faults rose
  pub script_rose : (first : World D) (script : List ScriptStep) (summary : List ℕ) (end : Option Stop) (disk : D) → ScriptRun here first script summary end disk
      → end ≡ Some ending.JournalFault → Rose (here.disk.faults first.journal.disk) (here.disk.faults disk)
  script_rose first script summary end disk ran is =
      subst (λ (d : D). Rose (here.disk.faults first.journal.disk) (here.disk.faults d)) ran.disk_is (ended_rose first ran.last script ran.run end ran.why is)
