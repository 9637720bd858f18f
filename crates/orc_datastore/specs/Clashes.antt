-- Where living services have unequal items at one path of a device.
use Rattle.std.specs.Prelude.{◌≡◌, ℕ, suc, Bool, true, false, not, Contains, List, [], ◌∷◌, map, filter, Option, option_map, if◌then◌else◌}
use Rattle.std.specs.declared.option.Option.TheVariants.{None, Some}
use Rattle.std.specs.Ordering.{is_lt}
use Rattle.std.specs.List.{fold}
use Rattle.std.specs.Option.{option_map_or, option_or}
use Rattle.std.specs.FinMap.{entries, get}
use Rattle.orc_path.specs.Steps.{PathStep}
use Rattle.orc_path.specs.Order.{path_cmp, text_cmp}
use Rattle.orc_path.specs.declared.item.Item.{Item}
use Rattle.orc_path.specs.declared.item.Item.TheVariants.{Entry, Leaf}
use Rattle.orc_call.specs.declared.answer.Answer.{Answer}
use Rattle.orc_call.specs.declared.answer.Answer.TheVariants.{Clash}
use Rattle.orc_datastore.specs.States.{has_id, others, part}
use Rattle.orc_decls.specs.Devices.{is_same_text}
use Rattle.orc_datastore.specs.declared.service.Service.{Service}

-- whether two items that stand at one path differ
abbrev pub differs : Item → Option Item → Bool
differs item None = false
differs Entry (Some Entry) = false
differs Entry (Some (Leaf text)) = true
differs (Leaf text) (Some Entry) = true
differs (Leaf text) (Some (Leaf other)) = not (is_same_text text other)

-- the services that write another item at this path of a device
abbrev pub rivals : List Service → ℕ → List PathStep × Item → List Service
rivals live device row = filter (λ service. differs row.1 (get (part service device) row.0)) live

-- the lesser of two names by their bytes
abbrev pub lesser : List ℕ → List ℕ → List ℕ
lesser id other = if is_lt (text_cmp other id) then other else id

-- the least name
abbrev pub least : List (List ℕ) → Option (List ℕ)
least [] = None
least (id ∷ ids) = Some (fold lesser id ids)

-- the least path at which one of these items and one of a service's differ, and the least such service
abbrev pub unequal_among : List Service → ℕ → List (List PathStep × Item) → Option (List PathStep × List ℕ)
unequal_among live device [] = None
unequal_among live device (row ∷ rows) =
    option_map_or (λ id. Some (row.0, id)) (least (map (λ service. service.id) (rivals live device row)))
    (unequal_among live device rows)

-- the least path at which one of a living service's items and one of another's differ, and the least such service
abbrev pub unequal_of : List Service → ℕ → Service → Option (List PathStep × List ℕ)
unequal_of live device service = unequal_among (others live service.id) device (entries (part service device))

-- of two the one at the lesser path, and the first where both are at one path
abbrev pub lesser_unequal : Option (List PathStep × List ℕ) → Option (List PathStep × List ℕ)
    → Option (List PathStep × List ℕ)
lesser_unequal None other = other
lesser_unequal (Some one) None = Some one
lesser_unequal (Some one) (Some other) = if is_lt (path_cmp other.0 one.0) then Some other else Some one

-- The least path of a device at which one of these services and another living one have unequal items: that of the
-- first of these services that is at fault there, and the least other one whose item differs from its.
abbrev pub unequal_on : List Service → List Service → ℕ → Option (List PathStep × List ℕ)
unequal_on live services device =
    fold (λ found service. lesser_unequal found (unequal_of live device service)) None services

abbrev pub clash_at : List Service → List Service → ℕ → Option Answer
clash_at live services device = option_map (λ at. Clash device at.0 at.1) (unequal_on live services device)

-- The clash of these services with the other living ones: the one on the least device, of those of these names, which
-- are counted from a number on.
abbrev pub clash_from : List Service → List Service → ℕ → List (List ℕ) → Option Answer
clash_from live services device [] = None
clash_from live services device (name ∷ names) =
    option_or (clash_at live services device) (clash_from live services (suc device) names)

-- one of these services and a living one of another name write unequal items there
pub record IsClash (live : List Service) (device : ℕ) (path : List PathStep) (service rival : Service) : Type 0 where
  pub living : Contains live rival
  pub another : has_id service.id rival ≡ false
  pub item : Item
  pub written : get (part service device) path ≡ Some item
  pub other : Item
  pub holds : get (part rival device) path ≡ Some other
  pub unequal : item ≡ other → ⊥
