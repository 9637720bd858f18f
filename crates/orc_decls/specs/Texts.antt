-- Texts that a bundle and a printed history share: those of writes and of actions.
use Rattle.std.specs.Prelude.{ℕ, List, ◌++◌, codes}
use Rattle.std.specs.List.{flat_map}
use Rattle.orc_path.specs.Texts.{path_text}
use Rattle.orc_path.specs.Items.{item_text}
use Rattle.orc_call.specs.declared.call.Action.{Action}
use Rattle.orc_call.specs.declared.call.Action.TheVariants.{Create, Modify, Redeploy, Literal, Delete, Set, Unset, BasePut, BaseRemove}
use Rattle.orc_call.specs.declared.call.DevicePut.{DevicePut}
use Rattle.orc_call.specs.declared.call.Put.{Put}

-- the line of a write after a word: the device's name, the item and where it stands
abbrev pub write_line : List ℕ → DevicePut → List ℕ
write_line word write = word ++ write.device ++ codes " " ++ item_text write.path write.item ++ codes "\n"

-- the line of an item of a service's body after a word
abbrev pub body_line : List ℕ → Put → List ℕ
body_line word put = word ++ item_text put.path put.item ++ codes "\n"

-- The lines of an action, where each item that it brings stands after this word: those of a service's body, in path
-- order, and the writes of a literal one. The body's JSON text isn't said.
abbrev pub action_lines : List ℕ → Action → List ℕ
action_lines word (Create id body) = codes "create " ++ id ++ codes "\n" ++ flat_map (body_line word) body
action_lines word (Modify id body) = codes "modify " ++ id ++ codes "\n" ++ flat_map (body_line word) body
action_lines word (Redeploy id) = codes "redeploy " ++ id ++ codes "\n"
action_lines word (Literal id writes) = codes "literal " ++ id ++ codes "\n" ++ flat_map (write_line word) writes
action_lines word (Delete id) = codes "delete " ++ id ++ codes "\n"
action_lines word (Set put) = codes "set " ++ item_text put.path put.item ++ codes "\n"
action_lines word (Unset path) = codes "unset " ++ path_text path ++ codes "\n"
action_lines word (BasePut write) = write_line (codes "base ") write
action_lines word (BaseRemove device path) = codes "unbase " ++ device ++ codes " " ++ path_text path ++ codes "\n"
