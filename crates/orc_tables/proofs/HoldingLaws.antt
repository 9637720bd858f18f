-- What a service holds is a configuration, and what a store knows of it.
use Rattle.std.proofs.Common.{◌≡◌, ℕ, ◌+◌, ◌*◌, ◌≤◌, length, true, cond, List, [], ◌∷◌, None, refl, sym, ap, subst, ◌∙◌, arith}
use Rattle.std.specs.declared.option.Option.{Option}
use Rattle.std.specs.Option.{option_map_or}
use Rattle.std.specs.Cmp.Lexicographic.{nat_list_eq_equiv}
use Rattle.std.specs.FinMap.{get, get-empty, empty}
use Rattle.orc_path.specs.Steps.{PathStep}
use Rattle.orc_path.specs.Order.{path_cmp}
use Rattle.orc_path.specs.Configurations.{Config}
use Rattle.orc_call.specs.declared.call.Put.{Put}
use Rattle.orc_refs.specs.Stores.{Store, empty_store, written_by}
use Rattle.orc_refs.specs.Moves.{AreWhole, BringWhole, IsMoved, StartAt, are_distinct, count_moved, put_at}
use Rattle.orc_refs.specs.Ids.{is_id, holds_id}
use Rattle.orc_refs.specs.declared.moves.Move.{Move}
use Rattle.orc_refs.specs.declared.moves.BaseEdit.{BaseEdit}
use Rattle.orc_tables.specs.Holdings.{Writes}

-- where no service writes, each holds nothing
pub nothing_held : (store : Store) (base : Config) (id : List ℕ) → store ≡ empty_store base → Writes store id []
nothing_held store base id same = subst (λ (s : Store). Writes s id []) (sym same) (λ path. sym (on path (get empty path) (get-empty path_cmp path)))
  where
    on : (path : List PathStep) (found : Option (List (List ℕ))) → found ≡ None
        → cond (holds_id id (option_map_or (λ (ids : List (List ℕ)). ids) found [])) (get base path) None ≡ None
    on path found is = ap (λ (o : Option (List (List ℕ))). cond (holds_id id (option_map_or (λ (ids : List (List ℕ)). ids) o [])) (get base path) None) is

-- the move of one service meets what a store asks
pub one_starts : (store : Store) (id : List ℕ) (held next : List Put) (moves : List Move) → moves ≡ record { service = id; old = held; new = next } ∷ []
    → Writes store id held → StartAt store moves
one_starts store id held next moves same writes = subst (StartAt store) (sym same) (writes, tt)

pub one_distinct : (id : List ℕ) (held next : List Put) (moves : List Move) → moves ≡ record { service = id; old = held; new = next } ∷ [] → are_distinct moves ≡ true
one_distinct id held next moves same = ap are_distinct same

pub one_whole : (id : List ℕ) (held next : List Put) (moves : List Move) → moves ≡ record { service = id; old = held; new = next } ∷ [] → AreWhole next → BringWhole moves
one_whole id held next moves same whole = subst BringWhole (sym same) (whole, tt)

one_count : (id : List ℕ) (held next : List Put) (moves : List Move) → moves ≡ record { service = id; old = held; new = next } ∷ [] → count_moved moves ≡ length held + length next
one_count id held next moves same =
    let count : count_moved moves ≡ length held + length next + 0 = ap count_moved same in
    omega (arith, count)

-- the bound on a store's steps, over the items
pub one_bound : (id : List ℕ) (held next : List Put) (moves : List Move) (before after : ℕ) → moves ≡ record { service = id; old = held; new = next } ∷ []
    → after ≤ before + 2 * count_moved moves → after ≤ before + 2 * (length held + length next)
one_bound id held next moves before after same few = omega (arith, few, one_count id held next moves same)

same_id : (id : List ℕ) → is_id id id ≡ true
same_id id = nat_list_eq_equiv.refl id

-- after its move a service writes exactly what the move brings
pub moved_holds : (before after : Store) (id : List ℕ) (held next : List Put) (moves : List Move) (edits : List BaseEdit)
    → moves ≡ record { service = id; old = held; new = next } ∷ [] → IsMoved before moves edits after → Writes after id next
moved_holds before after id held next moves edits same moved =
    on (subst (λ (m : List Move). IsMoved before m edits after) same moved)
  where
    on : IsMoved before (record { service = id; old = held; new = next } ∷ []) edits after → Writes after id next
    on one path = sym (one.written id path ∙ ap (λ t. cond t (put_at next path) (written_by before id path)) (same_id id))
