-- What contracts see of the sources of this crate, and what each reports about itself.
use Rattle.std.specs.Prelude.{◌≡◌, ℕ, Bool, true, List, [], ◌++◌, drop, Option, Some, MatchBool}
use Rattle.orc_io.specs.Counts.{next_count}
use Rattle.orc_io.specs.Meanings.{SourceMeaning}

-- a source over a reader: the bytes left, where the reader reports them, and how often it failed
pub record ReaderSource : Type 0 where
  pub left : Option (List ℕ)
  pub faults : ℕ

-- it reports what its reader reports
abbrev pub reader_source : SourceMeaning ReaderSource
reader_source = record { left = λ source. source.left; faults = λ source. source.faults }

-- a source in memory: the bytes left, the calls that are to fail, how many calls came and how many failed
pub record MemorySource : Type 0 where
  pub left : List ℕ
  pub fails : List ℕ
  pub calls : ℕ
  pub faults : ℕ

-- it reports all that is left
abbrev pub memory_source : SourceMeaning MemorySource
memory_source = record { left = λ source. Some source.left; faults = λ source. source.faults }

-- the source after a call that failed
abbrev pub read_failed : MemorySource → MemorySource
read_failed source = record source { calls = next_count source.calls; faults = next_count source.faults }

-- the source after a call that gave so many bytes
abbrev pub read_gave : MemorySource → ℕ → MemorySource
read_gave source count = record source { left = drop count source.left; calls = next_count source.calls }

-- a source that keeps what it gave: the bytes left and the count of faults, as the source inside reports them, the
-- bytes kept, and whether these are all that it gave, since memory never ran out
pub record KeepingSource : Type 0 where
  pub left : Option (List ℕ)
  pub faults : ℕ
  pub kept : List ℕ
  pub is_all : Bool

-- it reports what the source inside reports
abbrev pub keeping_source : SourceMeaning KeepingSource
keeping_source = record { left = λ source. source.left; faults = λ source. source.faults }

-- the bytes that were given are kept after those kept before, where all are kept; once memory runs out, which happens
-- only where bytes were given, nothing more is kept
pub record Keeps (old new : KeepingSource) (given : List ℕ) : Type 0 where
  pub kept : MatchBool new.is_all ((old.is_all ≡ true) × (new.kept ≡ old.kept ++ given)) (new.kept ≡ old.kept)
  pub none : given ≡ [] → new.is_all ≡ old.is_all
