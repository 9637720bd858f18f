-- Which item fits a path, and the text of an item where it stands.
use Rattle.std.specs.Prelude.{ℕ, Bool, false, not, List, [], ◌∷◌, ◌++◌, codes}
use Rattle.orc_path.specs.Steps.{PathStep, ends_in_keys}
use Rattle.orc_path.specs.Texts.{path_text, value_text}
use Rattle.orc_path.specs.declared.item.Item.{Item}
use Rattle.orc_path.specs.declared.item.Item.TheVariants.{Entry, Leaf}

-- a path that ends in keys carries an entry, and another one a leaf; the root carries nothing
abbrev pub fits : List PathStep → Item → Bool
fits [] item = false
fits (first ∷ later) Entry = ends_in_keys (first ∷ later)
fits (first ∷ later) (Leaf text) = not (ends_in_keys (first ∷ later))

-- an item and where it stands: the path, and after it the text of a leaf's value
abbrev pub item_text : List PathStep → Item → List ℕ
item_text path Entry = path_text path
item_text path (Leaf text) = path_text path ++ codes " = " ++ value_text text
