use Rattle.std.proofs.lemmas.List.Sorted.{IsPermutation-map}
use Rattle.orc_schema.proofs.index.sorted.Goals as goal

pub returns : goal.returns
returns c = IsPermutation-map (λ d. d.now) _ _ c.sort_by.ensures.permutation
