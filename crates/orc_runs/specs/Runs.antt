-- Runs of scripts, line by line.
use Rattle.std.specs.Prelude.{[], ◌≡◌, ◌≢◌, ◌⊎◌, ◌==◌, Bool, true, false, Option, Some, None, ℕ, List, ◌∷◌, ◌++◌, map, if◌then◌else◌}
use Rattle.std.specs.List.{flat_map, fold}
use Rattle.std.specs.Option.{option_map_or}
use Rattle.orc_decls.specs.Devices.{name_of}
use Rattle.orc_decls.specs.declared.declarations.Decls.{Decls}
use Rattle.orc_device.specs.declared.reply.Logged.{Logged}
use Rattle.orc_device.specs.declared.reply.Mark.{Mark}
use Rattle.orc_rules.specs.Events.{Turn}
use Rattle.orc_rules.specs.Hubs.{Hub, order_on}
use Rattle.orc_rules.specs.Worlds.{Setting, World}
use Rattle.orc_rules.specs.declared.event.Event.{Event}
use Rattle.orc_rules.specs.declared.event.Event.TheVariants as event
use Rattle.orc_runs.specs.Ends.{EndOfRun, EndedBecause}
use Rattle.orc_runs.specs.Scripts.{Goes, Prints, line_parts, said_in, set_by}
use Rattle.orc_script.specs.declared.step.ScriptStep.{ScriptStep}
use Rattle.orc_script.specs.declared.step.ScriptStep.TheVariants as step
use Rattle.orc_print.specs.Logs.{log_text}

-- a line of a script that was done: the world before it, what came, the world after it, and what it printed
pub record LineDone (D : Type 0) : Type 0 where
  pub step : ScriptStep
  pub before : World D
  pub turns : List (Turn D)
  pub behind : World D
  pub text : List ℕ

-- the line as a list, where there is one
abbrev pub line_list : {D : Type 0} → Option (LineDone D) → List (LineDone D)
line_list None = []
line_list (Some line) = line ∷ []

-- The run ends with this turn: nothing is seen of it, since its journal had no room, its Settled was not written, or it
-- wasn't opened; or the hub went down in it without a stop, since the disk failed.
abbrev pub EndsRun : {D : Type 0} → Turn D → Type 0
EndsRun turn = (turn.seen ≡ None)
    ⊎ ((hub : Hub) × (turn.before.hub ≡ Some hub) × (turn.behind.hub ≡ None) × (turn.seen ≢ Some event.Stop))

-- A line in which the run ended prints all that is said in it, up to its last turn; so also the answer JournalFault to a
-- call for which the disk failed. But where memory ran out, or the text couldn't be written, that of the last turn may
-- be missing.
abbrev pub SaysAllTurns : {D : Type 0} → Decls → LineDone D → EndOfRun → Type 0
SaysAllTurns decls line EndOfRun.Memory = Unit {0}
SaysAllTurns decls line EndOfRun.WriteFault = Unit {0}
SaysAllTurns decls line other = line.text ≡ said_in decls line.step line.turns

-- logs

-- an operation of the device that was due in this world, and this was replied to it
abbrev pub operation_with : {D : Type 0} → ℕ → World D → Mark → List Logged
operation_with device world reply = option_map_or
    (λ hub. option_map_or (λ op. record { op = op; mark = reply } ∷ []) (order_on hub device) []) world.hub []

-- the operation of the device that was performed in a turn, if one was
abbrev pub operation_of : {D : Type 0} → ℕ → Turn D → Option Event → List Logged
operation_of device turn (Some (event.Perform other kind reply count)) =
    if other == device then operation_with device turn.before reply else []
operation_of device turn other = []

-- the line prints the log of the device
abbrev pub is_log : ℕ → ScriptStep → Bool
is_log device (step.Log other) = other == device
is_log device other = false

-- the operations of a device after a line: none where it printed them, else those of its turns too
abbrev pub logged_with : {D : Type 0} → ℕ → List Logged → LineDone D → List Logged
logged_with device rows line =
    if is_log device line.step then [] else rows ++ flat_map (λ turn. operation_of device turn turn.seen) line.turns

-- the operations of a device since its log was printed last: those noted before these lines, and those in them
abbrev pub logged : {D : Type 0} → ℕ → List Logged → List (LineDone D) → List Logged
logged device noted lines = fold (logged_with device) noted lines

-- Each line that prints the log of a device prints the operations since it was printed last; where these lines didn't
-- print it before, those also that were noted before them.
abbrev pub PrintLogs : {D : Type 0} → List (List ℕ) → (ℕ → List Logged) → List (LineDone D) → Type 0
PrintLogs {D} names noted lines = (earlier later : List (LineDone D)) (line : LineDone D) (device : ℕ)
    → lines ≡ earlier ++ line ∷ later → line.step ≡ step.Log device
    → line.text ≡ log_text (name_of names device) (logged device (noted device) earlier)

module _ {D : Type 0} (here : Setting D) where
  -- the line does what the row of its parts says, whole or up to where the run ended
  pub record IsDone (ended : Bool) (line : LineDone D) : Type 0 where
    pub goes : Goes here ended (line_parts here.decls line.step) (set_by line.step line.before) line.turns line.behind
    pub prints : Prints here.decls ended line.step line.turns line.behind line.text
    pub ends : (earlier later : List (Turn D)) (turn : Turn D) → line.turns ≡ earlier ++ turn ∷ later → EndsRun turn
        → (ended ≡ true) × (later ≡ [])

  -- lines, one after the other
  abbrev pub AreDone : World D → List (LineDone D) → World D → Type 0
  AreDone first [] last = first ≡ last
  AreDone first (line ∷ lines) last = (line.before ≡ first) × IsDone false line × AreDone line.behind lines last

  -- the line in which the run ended, where it did
  abbrev pub EndsIn : World D → Option (LineDone D) → World D → Type 0
  EndsIn world None last = world ≡ last
  EndsIn world (Some line) last = (line.before ≡ world) × IsDone true line × (line.behind ≡ last)

  -- why the run ended, where it did; and that the line prints all that is said in it
  abbrev pub EndsFor : Option (LineDone D) → Option EndOfRun → Type 0
  EndsFor None why = why ≡ None
  EndsFor (Some line) None = ⊥
  EndsFor (Some line) (Some why) = EndedBecause here line.turns why × SaysAllTurns here.decls line why

  -- A script was run from a world on, up to its end, or up to a line in which the run ended, and why it did. (`noted`
  -- are the operations of each device before it since its log was printed last.)
  pub record Run (script : List ScriptStep) (first last : World D) : Type 0 where
    pub lines : List (LineDone D)
    pub middle : World D
    pub done : AreDone first lines middle
    pub end : Option (LineDone D)
    pub ends : EndsIn middle end last
    pub why : Option EndOfRun
    pub because : EndsFor end why
    pub rest : List ScriptStep
    pub parts : script ≡ map (λ line. line.step) (lines ++ line_list end) ++ rest
    pub whole : end ≡ None → rest ≡ []
    pub noted : ℕ → List Logged
    pub logs : PrintLogs here.decls.names noted lines

-- its lines, that in which it ended too
abbrev pub lines_in : {D : Type 0} {here : Setting D} {script : List ScriptStep} {first last : World D}
    → Run here script first last → List (LineDone D)
lines_in run = run.lines ++ line_list run.end

-- all that came in a run
abbrev pub turns_of : {D : Type 0} {here : Setting D} {script : List ScriptStep} {first last : World D}
    → Run here script first last → List (Turn D)
turns_of run = flat_map (λ line. line.turns) (lines_in run)

-- all that a run printed
abbrev pub text_in : {D : Type 0} {here : Setting D} {script : List ScriptStep} {first last : World D}
    → Run here script first last → List ℕ
text_in run = flat_map (λ line. line.text) (lines_in run)
