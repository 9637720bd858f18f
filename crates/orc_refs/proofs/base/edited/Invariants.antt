use Rattle.std.proofs.Common.{◌≡◌, drop}
use Rattle.orc_path.specs.Configurations.{IsConfig}
use Rattle.orc_refs.specs.Moves.{edited}
use Rattle.orc_refs.proofs.base.edited.Given as goal

-- to do the edits that are left makes what doing all makes
abbrev pub invariant-loop-edit : goal.invariant-loop-edit
invariant-loop-edit l = record {
  edited : edited (drop l.edit-index l.edits) l.tree ≡ edited l.edits l.base;
  config : IsConfig l.tree;
}
