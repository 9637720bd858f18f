-- Which writes touch which reads, and what a call may write.
use Rattle.std.specs.Prelude.{◌≡◌, ◌≢◌, ◌⊎◌, ℕ, ◌<◌, Bool, false, List, slice_get, IsTrue}
use Rattle.std.specs.declared.option.Option.TheVariants.{Some}
use Rattle.std.specs.declared.cmp.Ordering.{Ordering}
use Rattle.std.specs.declared.cmp.Ordering.TheVariants.{Less, Greater}
use Rattle.std.specs.Ordering.{eq_by_cmp}
use Rattle.std.specs.List.{list_any, All}
use Rattle.orc_path.specs.Steps.{PathStep}
use Rattle.orc_path.specs.Order.{path_cmp, text_cmp, is_prefix}
use Rattle.orc_path.specs.Configurations.{IsWay, is_entry_of}
use Rattle.orc_path.specs.declared.item.Write.{Write}
use Rattle.orc_path.specs.declared.item.Write.TheVariants as write
use Rattle.orc_expr.specs.declared.read.Read.{Read}
use Rattle.orc_expr.specs.declared.read.Read.TheVariants as read
use Rattle.orc_expr.specs.declared.read.Target.{Target}
use Rattle.orc_expr.specs.declared.read.Target.TheVariants.{One, Under}

-- a write of a path touches a read of its item, and one of the list whose entry it is; a service touches itself
abbrev pub write_touches : Write → Read → Bool
write_touches (write.At path) (read.Item other) = eq_by_cmp path_cmp path other
write_touches (write.At path) (read.Keys list) = is_entry_of list path
write_touches (write.At path) (read.Service id) = false
write_touches (write.Service id) (read.Item path) = false
write_touches (write.Service id) (read.Keys list) = false
write_touches (write.Service id) (read.Service other) = eq_by_cmp text_cmp id other

-- the write touches one of the reads
abbrev pub write_touches_any : List Read → Write → Bool
write_touches_any reads written = list_any (write_touches written) reads

-- the order of writes: paths before services, paths in path order, services by the bytes of their ids
abbrev pub write_cmp : Write → Write → Ordering
write_cmp (write.At path) (write.At other) = path_cmp path other
write_cmp (write.At path) (write.Service id) = Less
write_cmp (write.Service id) (write.At path) = Greater
write_cmp (write.Service id) (write.Service other) = text_cmp id other

-- the write at this place touches a read, no touching write is less, and none before it is equal
pub record IsFirstTouch (reads : List Read) (writes : List Write) (at : ℕ) : Type 0 where
  pub written : Write
  pub there : slice_get writes at ≡ Some written
  pub touching : IsTrue (write_touches_any reads written)
  pub least : (place : ℕ) (other : Write) → slice_get writes place ≡ Some other → IsTrue (write_touches_any reads other)
      → write_cmp other written ≢ Less
  pub first : (place : ℕ) (other : Write) → place < at → slice_get writes place ≡ Some other
      → IsTrue (write_touches_any reads other) → write_cmp written other ≡ Less

-- no write touches a read
abbrev pub IsUntouched : List Read → List Write → Type 0
IsUntouched reads writes = All (λ written. write_touches_any reads written ≡ false) writes

-- the path lies inside a target: it is the target's path or an entry on its way, or it stands at or below the
-- target's path
abbrev pub IsInside : Target → List PathStep → Type 0
IsInside (One path) other = (other ≡ path) ⊎ IsWay other path
IsInside (Under path) other = IsTrue (is_prefix path other)

-- a target covers a read that some write inside it touches
abbrev pub Covers : Target → Read → Type 0
Covers target reading = (path : List PathStep) × (IsInside target path × IsTrue (write_touches (write.At path) reading))
