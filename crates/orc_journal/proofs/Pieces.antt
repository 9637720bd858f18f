-- What a disk gave piece by piece.
use Rattle.std.specs.Prelude.{◌≡◌, ℕ, ◌<◌, ◌==◌, Bool, true, false, List, [], ◌∷◌, ◌++◌, length, take, Ok, if◌then◌else◌}
use Rattle.std.proofs.Common.{refl, sym, ap, subst, ◌∙◌, arith}
use Rattle.std.proofs.lemmas.Bool.{eqb-true}
use Rattle.std.proofs.lemmas.List.{append-nil}
use Rattle.orc_io.specs.declared.traits.Failed.{Failed}
use Rattle.orc_disk.specs.Rows.{Course, joined, row, read_piece, read_row}
use Rattle.orc_disk.specs.Meanings.{DiskMeaning}
use Rattle.orc_journal.specs.Hearing.{Gave, none, more}
use Rattle.orc_journal.specs.inside.Steps.{HeardPiece, HeardFront, HeardAll, reading}

-- a read whose buffer has room gave a piece
pub gave_piece : (at : ℕ) (buf : List ℕ) (count : ℕ) → 0 < length buf → read_piece at buf count ≡ (at, take count buf) ∷ []
gave_piece at buf count room = on (length buf == 0) refl
  where
    on : (b : Bool) → (length buf == 0) ≡ b → read_piece at buf count ≡ (at, take count buf) ∷ []
    on true is = absurd (omega (arith, room, eqb-true (length buf) 0 is))
    on false is = ap (λ (b : Bool). if b then [] else (at, take count buf) ∷ []) is

module _ {D : Type 0} (disk : DiskMeaning D) where
  -- and that is its row
  pub led_piece : (at : ℕ) (buf : List ℕ) (count : ℕ) (old new : D) → 0 < length buf → disk.leads (read_row {E = Failed} at buf (Ok count)) old new
      → disk.leads (reading ((at, take count buf) ∷ [])) old new
  led_piece at buf count old new room led = subst (λ (gave : List (ℕ × List ℕ)). disk.leads (reading gave) old new) (gave_piece at buf count room) led

  -- nothing yet
  pub heard_nothing : ((d : D) → disk.leads (row 0 false) d d) → (old : D) → HeardFront disk old old []
  heard_nothing stays old = record { reads = []; pieces = none; course = stays old }

  module _ (goes_on : (first second : Course) (a b c : D) → disk.leads first a b → disk.leads second b c → disk.leads (joined first second) a c)
      (old mid new : D) (before after : List ℕ) (front : HeardFront disk old mid before) where
    -- one piece more
    pub heard_more : (again : Bool) → again ≡ true → HeardPiece disk mid new before after again → HeardFront disk old new after
    heard_more again is piece = record {
      reads = front.reads ++ (length before, piece.piece) ∷ [];
      pieces = subst (Gave (front.reads ++ (length before, piece.piece) ∷ [])) (sym piece.grows) (more front.reads before piece.piece (piece.some is) front.pieces);
      course = goes_on (reading front.reads) (reading ((length before, piece.piece) ∷ [])) old mid new front.course piece.course;
    }

    -- none more
    pub heard_all : HeardPiece disk mid new before after false → HeardAll disk old new after
    heard_all piece =
        let nothing : piece.piece ≡ [] = piece.last refl in
        let same : before ≡ after = sym (append-nil before) ∙ ap (λ (l : List ℕ). before ++ l) (sym nothing) ∙ sym piece.grows in
        let last : disk.leads (reading ((length before, []) ∷ [])) mid new =
        subst (λ (l : List ℕ). disk.leads (reading ((length before, l) ∷ [])) mid new) nothing piece.course in
        subst (HeardAll disk old new) same (record {
          reads = front.reads;
          pieces = front.pieces;
          course = goes_on (reading front.reads) (reading ((length before, []) ∷ [])) old mid new front.course last;
        })
