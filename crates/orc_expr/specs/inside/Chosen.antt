-- What was chosen by the first predicates of a step, before what the later ones choose.
use Rattle.std.specs.Prelude.{ℕ, List, ◌++◌}
use Rattle.orc_expr.specs.declared.read.Read.{Read}
use Rattle.orc_expr.specs.declared.step.Choice.{Choice}
use Rattle.orc_expr.specs.declared.step.Choice.TheVariants as choice
use Rattle.orc_expr.specs.declared.step.Chosen.{Chosen}

abbrev pub with_keys : List (List ℕ) → Choice → Choice
with_keys keys (choice.Keys more) = choice.Keys (keys ++ more)
with_keys keys choice.Nothing = choice.Nothing
with_keys keys choice.Many = choice.Many

abbrev pub chosen_behind : List (List ℕ) → List Read → Chosen → Chosen
chosen_behind keys reads later = record { choice = with_keys keys later.choice; reads = reads ++ later.reads }
