-- How it is tested whether a target covers a read, and which touching write is the least.
use Rattle.std.specs.Prelude.{ℕ, ◌==◌, Bool, false, ◌&&◌, ◌||◌, not, nat_lt, nat_eq, List, [], ◌∷◌, length, Option}
use Rattle.std.specs.Option.{MatchOption}
use Rattle.std.specs.Cmp.Lexicographic.{pointwise}
use Rattle.orc_path.specs.Steps.{PathStep, has_keys, ends_in_keys}
use Rattle.orc_path.specs.Order.{is_prefix, step_eq}
use Rattle.orc_path.specs.Configurations.{is_entry_of}
use Rattle.orc_path.specs.declared.item.Write.{Write}
use Rattle.orc_expr.specs.Touches.{IsFirstTouch, IsUntouched}
use Rattle.orc_expr.specs.declared.read.Read.{Read}
use Rattle.orc_expr.specs.declared.read.Target.{Target}
use Rattle.orc_expr.specs.declared.read.Target.TheVariants.{One, Under}

-- the path is the target's or an entry on its way, or stands at or below it
abbrev pub is_inside : Target → List PathStep → Bool
is_inside (One whole) path = is_prefix path whole && (ends_in_keys path || (length path == length whole))
is_inside (Under top) path = is_prefix top path

-- the step is that of an entry of the list whose last step is the other
abbrev pub is_entry_step : PathStep → PathStep → Bool
is_entry_step list entry = has_keys entry && (length list.keys == 0) && pointwise nat_eq entry.node list.node

-- an entry of the list stands on the path, at its end or on its way
abbrev pub has_entry_on : List PathStep → List PathStep → Bool
has_entry_on [] path = false
has_entry_on (last ∷ []) [] = false
has_entry_on (last ∷ []) (step ∷ more) = is_entry_step last step
has_entry_on (first ∷ next ∷ rest) [] = false
has_entry_on (first ∷ next ∷ rest) (step ∷ more) = step_eq first step && has_entry_on (next ∷ rest) more

-- the list may have entries below the path
abbrev pub is_list_under : List PathStep → List PathStep → Bool
is_list_under list top = is_prefix top list && nat_lt (length top) (length list) && not (ends_in_keys list)

abbrev pub has_entry_inside : Target → List PathStep → Bool
has_entry_inside (One path) list = has_entry_on list path
has_entry_inside (Under top) list = is_entry_of list top || is_list_under list top

-- the least touching write is at this place, or none touches
abbrev pub IsBest : List Read → List Write → Option ℕ → Type 0
IsBest reads writes best = MatchOption best (IsUntouched reads writes) (IsFirstTouch reads writes)
