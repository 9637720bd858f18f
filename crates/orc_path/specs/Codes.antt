-- The codes of paths, items and configurations, which a model that is made of them needs.
use Rattle.std.specs.Prelude.{◌≡◌, ℕ, List, Option, refl}
use Rattle.std.specs.declared.option.Option.TheVariants.{None, Some}
use Rattle.std.specs.Coded.{Coded, code_by, coded×, coded_ℕ, coded_list, coded_option}
use Rattle.std.specs.FinMap.{code}
use Rattle.orc_path.specs.Steps.{PathStep}
use Rattle.orc_path.specs.Configurations.{Config}
use Rattle.orc_path.specs.declared.item.Item.{Item}
use Rattle.orc_path.specs.declared.item.Item.TheVariants.{Entry, Leaf}

abbrev pub step_code : Coded PathStep
step_code =
    code_by (List ℕ × List (List ℕ)) (coded× (coded_list coded_ℕ) (coded_list (coded_list coded_ℕ)))
    (λ step. (step.node, step.keys)) (λ pair. record { node = pair.0; keys = pair.1 }) (λ _. refl)

abbrev pub path_code : Coded (List PathStep)
path_code = coded_list step_code

-- the text of a leaf
abbrev pub leaf_text : Item → Option (List ℕ)
leaf_text Entry = None
leaf_text (Leaf text) = Some text

-- the item with that text
abbrev pub item_of : Option (List ℕ) → Item
item_of None = Entry
item_of (Some text) = Leaf text

pub item_of_leaf_text : (item : Item) → item_of (leaf_text item) ≡ item
item_of_leaf_text Entry = refl
item_of_leaf_text (Leaf text) = refl

abbrev pub item_code : Coded Item
item_code = code_by (Option (List ℕ)) (coded_option (coded_list coded_ℕ)) leaf_text item_of item_of_leaf_text

abbrev pub config_code : Coded Config
config_code = code path_code item_code
