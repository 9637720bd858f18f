-- What is counted in a world, and how a run comes to its summary.
use Rattle.std.specs.Prelude.{◌≡◌, ◌⊎◌, ℕ, Option, List, count_by, length, sum_by, Result}
use Rattle.std.specs.FinMap.{entries}
use Rattle.std.specs.Option.{option_map_or}
use Rattle.std.specs.declared.result.Result.TheVariants.{Err}
use Rattle.orc_bundle.specs.declared.scripted.ScriptedBundle.{ScriptedBundle}
use Rattle.orc_decls.specs.declared.declarations.Decls.{Decls}
use Rattle.orc_disk.specs.Meanings.{DiskMeaning}
use Rattle.orc_node.specs.LinkStates.{LinkState}
use Rattle.orc_script.specs.declared.step.ScriptStep.{ScriptStep}
use Rattle.orc_text.specs.Counts.{capped}
use Rattle.orc_scene.specs.Effects.{hub_in}
use Rattle.orc_scene.specs.declared.scene.Scene.{Scene}
use Rattle.orc_run.specs.Ends.{EndsSummed, Outside}
use Rattle.orc_run.specs.Summaries.{RunCounts, is_call_line, is_commit}
use Rattle.orc_run.specs.declared.stop.Done.{Done}
use Rattle.orc_run.specs.declared.stop.Stop.{Stop}
use Rattle.orc_run.specs.declared.stop.Stop.TheVariants as ending

-- the items that the devices of links run together
abbrev pub items_over : List LinkState → ℕ
items_over links = sum_by (λ link. length (entries link.node.state.running)) links

-- these counts
abbrev pub counted : ℕ → ℕ → ℕ → ℕ → RunCounts
counted calls committed entries items =
    record { calls = calls; committed = committed; entries = entries; items = items }

-- the counts of a run: its calls, the committed ones, the entries and the items
abbrev pub counts_in : {D : Type 0} → List ScriptStep → Scene D → RunCounts
counts_in steps world = record {
  calls = capped (count_by is_call_line steps);
  committed = capped (count_by is_commit world.events.items.items);
  entries = option_map_or (λ hub. length hub.state.history) (hub_in world.place) 0;
  items = capped (items_over world.links.links);
}

module _ {D : Type 0} (disk : DiskMeaning D) where
  -- the run of a bundle that was made ended so; or memory ran out before its journal was looked at
  abbrev pub SumsOrNeverBegins : ScriptedBundle → Outside D → Outside D → Result Done Stop → Type 0
  SumsOrNeverBegins bundle before after status =
      ((status ≡ Err ending.Memory) × (after.held ≡ before.held) × (after.disk ≡ before.disk))
      ⊎ EndsSummed disk bundle before after status

  -- a world that began was run, and its summary printed
  abbrev pub SumsFrom : Decls → D → Option (List ℕ) → Option (List ℕ) → List ScriptStep → D → Result Done Stop
      → Type 0
  SumsFrom decls from held held' steps last status = (left left' : Option (List ℕ))
      → EndsSummed disk (record { decls = decls; steps = steps }) (record { left = left; held = held; disk = from })
      (record { left = left'; held = held'; disk = last }) status
