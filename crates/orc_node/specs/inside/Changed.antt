-- What changes may change of a configuration, and what is known of it then.
use Rattle.std.specs.Prelude.{Bool, ◌&&◌, Option, Some, None, Result, Ok, Err}
use Rattle.std.specs.List.{list_all}
use Rattle.orc_path.specs.Configurations.{Config}
use Rattle.orc_text.specs.declared.memory.Memory.{Memory}
use Rattle.orc_tree.specs.declared.change.Change.{Change}
use Rattle.orc_tree.specs.declared.change.Change.TheVariants.{Put, Remove}
use Rattle.orc_expr.specs.declared.read.Target.{Target}
use Rattle.orc_expr.specs.declared.read.Target.TheVariants.{One, Under}
use Rattle.orc_check.specs.Acceptance.{keeps_max, keeps_forbid}
use Rattle.orc_check.specs.declared.acceptance.Accept.{Accept}

-- an item that is put changes its path and the entries on its way, and a removal what is at and below its path
abbrev pub target_of : Change → Target
target_of (Put path item) = One path
target_of (Remove path) = Under path

-- each of the device's rules beside its schema is kept
abbrev pub keeps_rules : Accept → Config → Bool
keeps_rules accept config = list_all (keeps_max config) accept.max && list_all (keeps_forbid config) accept.forbid

-- what was answered, where memory didn't run out
abbrev pub known_of : Result Bool Memory → Option Bool
known_of (Ok answer) = Some answer
known_of (Err fault) = None
