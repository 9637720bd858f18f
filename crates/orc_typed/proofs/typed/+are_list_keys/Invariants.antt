use Rattle.std.specs.Prelude.{length}
use Rattle.orc_typed.proofs.typed.+are_list_keys.Given as goal

abbrev pub decreases-are_list_keys : goal.decreases-are_list_keys
decreases-are_list_keys l = length l.keys.now
