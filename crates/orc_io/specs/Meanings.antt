-- What a source and a sink report about themselves.
use Rattle.std.specs.Prelude.{ℕ, List, Option}

-- what a source reports about itself: the bytes left, where it reports them, and how often it failed
pub record SourceMeaning (S : Type 0) : Type 0 where
  pub left : S → Option (List ℕ)
  pub faults : S → ℕ

-- what a sink reports about itself: the bytes held, where it reports them, and how often it failed
pub record SinkMeaning (K : Type 0) : Type 0 where
  pub held : K → Option (List ℕ)
  pub faults : K → ℕ
