-- The steps of an entry and of its list.
use Rattle.std.specs.Prelude.{Bool, ◌&&◌, ◌==◌, nat_eq, length}
use Rattle.std.specs.Cmp.Lexicographic.{pointwise}
use Rattle.orc_path.specs.Steps.{PathStep, has_keys}

-- the last step of an entry is that of the list with keys
abbrev pub is_entry_step : PathStep → PathStep → Bool
is_entry_step list entry = has_keys entry && (length list.keys == 0) && pointwise nat_eq entry.node list.node
