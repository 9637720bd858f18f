use Rattle.std.proofs.Common.{◌≡◌, ◌≤◌, ℕ, List, take}
use Rattle.std.specs.Io.KnownBytes.{Appends}
use Rattle.orc_decls.specs.declared.declarations.Decls.{Decls}
use Rattle.orc_rules.specs.Worlds.{World as Seen}
use Rattle.orc_world.specs.Scripts.{TakesAnyLine}
use Rattle.orc_scene.specs.Stands.{decls_in}
use Rattle.orc_run.specs.inside.Scripts.{HasDoneOver, IsFirst}
use Rattle.orc_run.proofs.Writing.{all_of}
use Rattle.orc_run.proofs.running.run_lines.Given as goal

-- what was done so far, and what the sink took
abbrev pub invariant-loop-step : goal.invariant-loop-step
invariant-loop-step g l =
    let held = g.K.Sink.sink.held in
    let faults = g.K.Sink.sink.faults in
    let disk = g.D.Disk.disk in
    record {
      going : TakesAnyLine disk l.world.scene;
      same : decls_in l.world.scene.place ≡ decls_in l.fn.world.scene.place;
      later : faults l.fn.sink ≤ faults l.sink;
      texts : List (List ℕ);
      took : Appends (held l.fn.sink) (held l.sink) (all_of texts);
      each : (decls : Decls) (first : Seen g.row.D.Denot) → IsFirst disk decls first l.fn.world.scene
          → HasDoneOver disk decls first (take l.step-index l.steps) texts l.world.scene;
    }
