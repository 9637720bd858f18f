use Rattle.std.proofs.Common.{◌≡◌, map, take}
use Rattle.orc_path.specs.declared.item.Write.TheVariants as write
use Rattle.orc_state.proofs.writes.writes_at.Given as goal

-- those of the paths so far
abbrev pub invariant-loop-path : goal.invariant-loop-path
invariant-loop-path l = l.row ≡ map write.At (take l.path-index l.paths)
