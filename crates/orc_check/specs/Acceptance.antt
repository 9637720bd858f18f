-- Which configurations a device accepts.
use Rattle.std.specs.Prelude.{ℕ, Bool, false, not, ◌&&◌, nat_lt, List, Option, Some, None, is_none}
use Rattle.std.specs.List.{list_all}
use Rattle.std.specs.FinMap.{get}
use Rattle.orc_path.specs.Steps.{PathStep}
use Rattle.orc_path.specs.Configurations.{Config}
use Rattle.orc_path.specs.declared.item.Item.{Item}
use Rattle.orc_path.specs.declared.item.Item.TheVariants as item
use Rattle.orc_value.specs.Canon.{same_text}
use Rattle.orc_check.specs.declared.acceptance.Accept.{Accept}
use Rattle.orc_check.specs.Validity.{broken_of, entry_count}

-- the list has at most so many entries
abbrev pub keeps_max : Config → (List PathStep × ℕ) → Bool
keeps_max config rule = not (nat_lt rule.1 (entry_count config rule.0))

-- a leaf of this text stands there
abbrev pub has_text : List ℕ → Option Item → Bool
has_text text None = false
has_text text (Some item.Entry) = false
has_text text (Some (item.Leaf own)) = same_text own text

abbrev pub keeps_forbid : Config → (List PathStep × List ℕ) → Bool
keeps_forbid config rule = not (has_text rule.1 (get config rule.0))

-- nothing is broken under the schema, and each of the other rules is kept
abbrev pub accepts : Accept → Config → Bool
accepts accept config = is_none (broken_of accept.schema config)
    && (list_all (keeps_max config) accept.max && list_all (keeps_forbid config) accept.forbid)
