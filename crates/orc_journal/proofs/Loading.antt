-- What is known of a disk that was looked at, synced and read.
use Rattle.std.specs.Prelude.{◌≡◌, ℕ, ◌<◌, ◌≤◌, false, List, [], ◌∷◌, ◌++◌, length, take, Ok, IfSome}
use Rattle.std.proofs.Common.{inl, inr, refl, sym, subst, arith}
use Rattle.std.proofs.lemmas.List.{nil_from_length, length-take-le}
use Rattle.std.proofs.lemmas.Option.{IfSome_then}
use Rattle.orc_disk.specs.Rows.{Course, joined, row, read_row}
use Rattle.orc_disk.specs.Files.{ReadsFrom}
use Rattle.orc_disk.specs.Crashes.{LeavesAsRead}
use Rattle.orc_disk.specs.Meanings.{DiskMeaning}
use Rattle.orc_disk.specs.Course.{Hears}
use Rattle.orc_disk.specs.Moments.{Unchanged}
use Rattle.orc_io.specs.declared.traits.Failed.{Failed}
use Rattle.orc_journal.specs.Hearing.{none, WasSynced}
use Rattle.orc_journal.specs.inside.Steps.{HeardAll, HasLoaded, reading}
use Rattle.orc_journal.proofs.Changes.{Unchanged-trans}
use Rattle.orc_journal.proofs.Operations.{does_more}
use Rattle.orc_journal.proofs.Pieces.{led_piece}

module _ {D : Type 0} (disk : DiskMeaning D) where
  -- a look at the first byte gave none
  pub loaded_empty : (old new : D) (buf : List ℕ) (count : ℕ) → 0 < length buf → count ≡ 0 → disk.leads (read_row {E = Failed} 0 buf (Ok count)) old new
      → IfSome (disk.content old) (λ file. ReadsFrom 0 buf file count) → Unchanged disk old new → HasLoaded disk old new []
  loaded_empty old new buf count room zero led reads row =
      let looked : Hears disk false ((0, []) ∷ []) old new = (0, subst (λ (n : ℕ). disk.leads (reading ((0, take n buf) ∷ [])) old new) zero (led_piece disk 0 buf count old new room led)) in
      let empty : IfSome (disk.content old) (λ held. held ≡ []) = IfSome_then (disk.content old) reads
      (λ file is. nil_from_length file (omega (arith, is.count, zero, room))) in
      record {
        synced = old;
        looked = inl (record { at_once = refl; empty = empty; looked = looked });
        heard = record { reads = []; pieces = none; course = looked; told = IfSome_then (disk.content old) empty (λ held is. sym is) };
        behind = row;
        course = ((0, []) ∷ [], looked.1);
      }

  -- it gave one, and then the disk was synced
  pub was_synced : ((first second : Course) (a b c : D) → disk.leads first a b → disk.leads second b c → disk.leads (joined first second) a c)
      → ((at : D) (since : ℕ) (file : List ℕ) → since ≤ disk.moment at → disk.may_leave at file → disk.left_since at since file)
      → (old mid synced : D) (buf : List ℕ) (count : ℕ) → length buf ≡ 1 → count ≤ length buf → (count ≡ 0 → ⊥) → disk.leads (read_row {E = Failed} 0 buf (Ok count)) old mid → disk.leads (row 1 false) mid synced
      → Unchanged disk old mid → Unchanged disk mid synced → LeavesAsRead (disk.content synced) (disk.may_leave synced) → WasSynced disk old synced
  was_synced goes_on counts_now old mid synced buf count room fits some look sync first second durable = record {
    first = take count buf;
    one = omega (arith, length-take-le count buf fits, room, fits, some);
    looked = goes_on (reading ((0, take count buf) ∷ [])) (row 1 false) old mid synced (led_piece disk 0 buf count old mid (omega (arith, room)) look) sync;
    unchanged = Unchanged-trans disk counts_now old mid synced first second;
    durable = durable;
  }

  -- and then it was read
  pub loaded_all : ((first second : Course) (a b c : D) → disk.leads first a b → disk.leads second b c → disk.leads (joined first second) a c)
      → (old synced new : D) (file : List ℕ) → WasSynced disk old synced → Unchanged disk synced new → HeardAll disk synced new file
      → IfSome (disk.content synced) (λ held. file ≡ held) → HasLoaded disk old new file
  loaded_all goes_on old synced new file was row heard told = record {
    synced = synced;
    looked = inr was;
    heard = record { reads = heard.reads; pieces = heard.pieces; course = (0, heard.course); told = told };
    behind = row;
    course = does_more disk goes_on 1 0 old synced new ((0, was.first) ∷ [], was.looked) (heard.reads ++ (length file, []) ∷ [], heard.course);
  }
