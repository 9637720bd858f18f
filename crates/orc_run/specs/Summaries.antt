-- What the command `gen` prints of the run of the bundle that it made.
use Rattle.std.specs.Prelude.{ℕ, zero, suc, ◌+◌, ◌-◌, Bool, true, false, Some, List, ◌++◌, codes, count_by, length}
use Rattle.std.specs.FinMap.{entries}
use Rattle.std.specs.Fmt.{decimal}
use Rattle.std.specs.Option.{option_map_or}
use Rattle.orc_call.specs.declared.answer.Answer.TheVariants as answer
use Rattle.orc_device.specs.Nodes.{NodeState}
use Rattle.orc_rules.specs.Journals.{history_read}
use Rattle.orc_rules.specs.Worlds.{Setting, World}
use Rattle.orc_rules.specs.declared.event.Event.{Event}
use Rattle.orc_rules.specs.declared.event.Event.TheVariants as event
use Rattle.orc_runs.specs.Runs.{Run, turns_of}
use Rattle.orc_script.specs.declared.step.ScriptStep.{ScriptStep}
use Rattle.orc_script.specs.declared.step.ScriptStep.TheVariants as step
use Rattle.orc_text.specs.Counts.{capped}
use Rattle.orc_scene.specs.Courses.{events_in}

-- the line is a call
abbrev pub is_call_line : ScriptStep → Bool
is_call_line (step.Call call) = true
is_call_line other = false

-- a call is answered Committed in what is seen
abbrev pub is_commit : Event → Bool
is_commit (event.Submit call front (Some (answer.Committed number))) = true
is_commit (event.Admit t (Some (answer.Committed number))) = true
is_commit (event.Decide t (answer.Committed number)) = true
is_commit other = false

-- how many items the first so many devices run together
abbrev pub items_on : (ℕ → NodeState) → ℕ → ℕ
items_on nodes zero = 0
items_on nodes (suc count) = length (entries (nodes 0).running) + items_on (λ device. nodes (suc device)) count

-- What is counted of a run: the calls of its script, those that were answered Committed, the entries of the history, none
-- where no hub is up, and the items that all devices run together. Each count stays at the largest 64-bit number.
pub record RunCounts : Type 0 where
  pub calls : ℕ
  pub committed : ℕ
  pub entries : ℕ
  pub items : ℕ

abbrev pub counts_of : {D : Type 0} {here : Setting D} {script : List ScriptStep} {first last : World D}
    → Run here script first last → RunCounts
counts_of {D} {here} {script} {first} {last} run = record {
  calls = capped (count_by is_call_line script);
  committed = capped (count_by is_commit (events_in (turns_of run)));
  entries = option_map_or (λ hub. length (history_read last.journal)) last.hub 0;
  items = capped (items_on last.nodes (length here.decls.names));
}

-- how they are printed: the calls that weren't answered Committed as refused
abbrev pub summary_text : RunCounts → List ℕ
summary_text counts =
    codes "calls " ++ decimal counts.calls ++ codes " committed " ++ decimal counts.committed
    ++ codes " refused " ++ decimal (counts.calls - counts.committed)
    ++ codes "\nhistory " ++ decimal counts.entries ++ codes "\nitems " ++ decimal counts.items ++ codes "\n"
