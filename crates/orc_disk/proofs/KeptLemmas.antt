-- How a history that is stored as changes and bytes grows.
use Rattle.std.specs.Prelude.{◌≡◌, ℕ, ◌+◌, ◌-◌, ◌<◌, ◌≤◌, List, [], ◌∷◌, ◌++◌, length, take, drop, Some, None, Vec, vec_len, vec_capacity}
use Rattle.std.proofs.Common.{refl, sym, ap, subst, ◌∙◌, arith, zero, suc, get_or}
use Rattle.std.proofs.lemmas.List.{drop-drop, take_all, drop_at, take-append-le, drop-append-le, length-drop, length-append, take_rest}
use Rattle.std.proofs.lemmas.Grind.{take_at_read}
use Rattle.orc_disk.specs.Files.{written}
use Rattle.orc_disk.specs.History.{History, FileChange, changed, file_after, content_of, settled, synced_of, Leaves, IsImage}
use Rattle.orc_disk.specs.inside.Kept.{changes_of, change_of, written_count, IsStored, HasRoom}
use Rattle.orc_disk.specs.declared.history.TheConstants.{CHANGE_ROOM}
use Rattle.orc_disk.specs.declared.history.Change.{Change}
use Rattle.orc_disk.specs.declared.history.Change.TheVariants.{Write, Sync}

-- one change more
pub changes_of-more : (older : List FileChange) (stored : List Change) (change : Change) (store : List ℕ)
    → changes_of older (stored ++ change ∷ []) store ≡ change_of change (drop (written_count stored) store) ∷ changes_of older stored store
changes_of-more older [] (Write at len) store = refl
changes_of-more older [] Sync store = refl
changes_of-more older (Write at len ∷ stored) change store =
    changes_of-more (Some (at, take len store) ∷ older) stored change (drop len store)
    ∙ ap (λ (l : List ℕ). change_of change l ∷ changes_of (Some (at, take len store) ∷ older) stored (drop len store)) (drop-drop (written_count stored) len store)
changes_of-more older (Sync ∷ stored) change store = changes_of-more (None ∷ older) stored change store

-- bytes after those of the stored change nothing
pub changes_of-append : (older : List FileChange) (stored : List Change) (store more : List ℕ) → written_count stored ≤ length store
    → changes_of older stored (store ++ more) ≡ changes_of older stored store
changes_of-append older [] store more le = refl
changes_of-append older (Write at len ∷ stored) store more le =
    let first : take len (store ++ more) ≡ take len store = take-append-le len store more (omega (arith, le)) in
    let rest : drop len (store ++ more) ≡ drop len store ++ more = drop-append-le len store more (omega (arith, le)) in
    ap (λ (l : List ℕ). changes_of (Some (at, l) ∷ older) stored (drop len (store ++ more))) first
    ∙ ap (λ (l : List ℕ). changes_of (Some (at, take len store) ∷ older) stored l) rest
    ∙ changes_of-append (Some (at, take len store) ∷ older) stored (drop len store) more (omega (arith, le, length-drop len store))
changes_of-append older (Sync ∷ stored) store more le = changes_of-append (None ∷ older) stored store more le

pub written_count-append : (stored : List Change) (change : Change) → written_count (stored ++ change ∷ []) ≡ written_count stored + written_count (change ∷ [])
written_count-append [] change = omega arith
written_count-append (Write at len ∷ stored) change = omega (arith, written_count-append stored change)
written_count-append (Sync ∷ stored) change = written_count-append stored change

-- a write more
pub changes_of-Write : (stored : List Change) (store : List ℕ) (at : ℕ) (bytes : List ℕ) → written_count stored ≡ length store
    → changes_of [] (stored ++ Write at (length bytes) ∷ []) (store ++ bytes) ≡ Some (at, bytes) ∷ changes_of [] stored store
changes_of-Write stored store at bytes count =
    let own : take (length bytes) (drop (written_count stored) (store ++ bytes)) ≡ bytes =
    ap (take (length bytes)) (drop_at store bytes (written_count stored) (sym count)) ∙ take_all (length bytes) bytes (omega arith) in
    changes_of-more [] stored (Write at (length bytes)) (store ++ bytes)
    ∙ ap (λ (l : List ℕ). Some (at, l) ∷ changes_of [] stored (store ++ bytes)) own
    ∙ ap (λ (l : List FileChange). Some (at, bytes) ∷ l) (changes_of-append [] stored store bytes (omega (arith, count)))

pub IsStored-Write : (start content now : List ℕ) (stored after : List Change) (store all : List ℕ) (at : ℕ) (bytes : List ℕ)
    → IsStored start content stored store → now ≡ written at bytes content → after ≡ stored ++ Write at (length bytes) ∷ [] → all ≡ store ++ bytes
    → IsStored start now after all × (changes_of [] after all ≡ Some (at, bytes) ∷ changes_of [] stored store)
IsStored-Write start content now stored after store all at bytes kept is_now is_after is_all =
    let is_told : changes_of [] after all ≡ Some (at, bytes) ∷ changes_of [] stored store =
    ap (λ (l : List Change). changes_of [] l all) is_after ∙ ap (changes_of [] (stored ++ Write at (length bytes) ∷ [])) is_all ∙ changes_of-Write stored store at bytes kept.count in (
      record {
        holds = is_now ∙ ap (written at bytes) kept.holds ∙ sym (ap (content_of start) is_told);
        count = ap written_count is_after ∙ omega (arith, written_count-append stored (Write at (length bytes)), kept.count, ap length is_all, length-append store bytes);
      },
      is_told,
    )

-- a sync more
pub IsStored-Sync : (start content : List ℕ) (stored after : List Change) (store : List ℕ) → IsStored start content stored store → after ≡ stored ++ Sync ∷ []
    → IsStored start content after store × (changes_of [] after store ≡ None ∷ changes_of [] stored store)
IsStored-Sync start content stored after store kept is_after =
    let is_told : changes_of [] after store ≡ None ∷ changes_of [] stored store = ap (λ (l : List Change). changes_of [] l store) is_after ∙ changes_of-more [] stored Sync store in (
      record {
        holds = kept.holds ∙ sym (ap (content_of start) is_told);
        count = ap written_count is_after ∙ omega (arith, written_count-append stored Sync, kept.count);
      },
      is_told,
    )

-- a change more, as contracts see it
pub changed-view : (s t : History) (change : FileChange) (used : ℕ) (changes : List FileChange) (after : History) → s ≡ t → changes ≡ change ∷ s.changes
    → after.start ≡ s.start → after.changes ≡ changes → after.room ≡ s.room - used → after ≡ changed t change used
changed-view s t change used changes after same is_changes is_start is_all is_room =
    let made : List ℕ → List FileChange → ℕ → History = λ a b c. record { start = a; changes = b; room = c } in
    ap (λ (l : List ℕ). made l after.changes after.room) is_start
    ∙ ap (λ (l : List FileChange). made s.start l after.room) (is_all ∙ is_changes)
    ∙ ap (λ (n : ℕ). made s.start (change ∷ s.changes) n) is_room
    ∙ ap (λ (h : History). changed h change used) same

-- the memory that is left is enough for the room that is left
pub HasRoom-more : {Z : Type 0} (content content_now bytes bytes_now : Vec ℕ Z) (stored stored_now : Vec Change Z) (room used : ℕ)
    → HasRoom content bytes stored room → CHANGE_ROOM + used ≤ room
    → vec_len content_now ≤ vec_len content + used → vec_capacity content ≤ vec_capacity content_now
    → vec_len bytes_now ≡ vec_len bytes + used → vec_capacity bytes ≤ vec_capacity bytes_now
    → vec_len stored_now ≡ vec_len stored + 1 → vec_capacity stored ≤ vec_capacity stored_now
    → HasRoom content_now bytes_now stored_now (room - (used + CHANGE_ROOM))
HasRoom-more _ _ _ _ _ _ _ _ has fits a b c d e f = record {
  file = omega (arith, has.file, fits, a, b);
  store = omega (arith, has.store, fits, c, d);
  changes = omega (arith, has.changes, fits, e, f);
}

-- ---- a history made again change by change

pub written_count-more : (stored : List Change) (i : ℕ) (d : Change) → i < length stored → written_count (take (i + 1) stored) ≡ written_count (take i stored) + written_count (get_or stored i d ∷ [])
written_count-more stored i d lt = ap written_count ((take_at_read stored i d lt).1) ∙ written_count-append (take i stored) (get_or stored i d)

pub written_count-take : (stored : List Change) (i : ℕ) → written_count (take i stored) ≤ written_count stored
written_count-take [] i = omega (arith, ap written_count (take_all i [] (omega arith)))
written_count-take (change ∷ stored) zero = omega arith
written_count-take (Write at len ∷ stored) (suc i) = omega (arith, written_count-take stored i)
written_count-take (Sync ∷ stored) (suc i) = written_count-take stored i

pub changes_of-take : (stored : List Change) (i : ℕ) (d : Change) (store : List ℕ) (from : ℕ) → i < length stored → from ≡ written_count (take i stored)
    → changes_of [] (take (i + 1) stored) store ≡ change_of (get_or stored i d) (take (length store - from) (drop from store)) ∷ changes_of [] (take i stored) store
changes_of-take stored i d store from lt is =
    ap (λ (l : List Change). changes_of [] l store) ((take_at_read stored i d lt).1) ∙ changes_of-more [] (take i stored) (get_or stored i d) store
    ∙ ap (λ (l : List ℕ). change_of (get_or stored i d) l ∷ changes_of [] (take i stored) store) (ap (λ (n : ℕ). drop n store) (sym is) ∙ sym (take_rest store from))

-- the bytes of a change stand after those of the stored before it
pub written_count-fits : (stored : List Change) (i : ℕ) (d : Change) (store : List ℕ) (from : ℕ) → i < length stored → from ≡ written_count (take i stored)
    → written_count stored ≡ length store → from + written_count (get_or stored i d ∷ []) ≤ length store
written_count-fits stored i d store from lt is all = omega (arith, is, all, written_count-more stored i d lt, written_count-take stored (i + 1))

pub file_after-content : (start whole now : List ℕ) (older changes : List FileChange) (change : FileChange) → whole ≡ content_of start older
    → changes ≡ change ∷ older → now ≡ file_after change whole → now ≡ content_of start changes
file_after-content start whole now older changes change is more step = step ∙ ap (file_after change) is ∙ sym (ap (content_of start) more)

pub Leaves-image : (start whole torn now : List ℕ) (older changes : List FileChange) (change : FileChange) → whole ≡ content_of start older
    → IsImage start older torn → changes ≡ change ∷ older → Leaves change whole torn now → IsImage start changes now
Leaves-image start whole torn now older changes change is image more step =
    subst (λ (l : List FileChange). IsImage start l now) (sym more) (torn, image, subst (λ (l : List ℕ). Leaves change l torn now) is step)

pub settled-synced : (start whole torn now : List ℕ) (older changes : List FileChange) (change : FileChange) → whole ≡ content_of start older
    → torn ≡ synced_of start older → changes ≡ change ∷ older → now ≡ settled change whole torn → now ≡ synced_of start changes
settled-synced start whole torn now older changes change is synced more step =
    step ∙ ap (λ (file : List ℕ). settled change file torn) is ∙ ap (settled change (content_of start older)) synced ∙ ap (synced_of start) (sym more)
