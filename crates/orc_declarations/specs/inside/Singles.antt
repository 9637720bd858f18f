-- The only one of a list.
use Rattle.std.specs.Prelude.{List, [], ◌∷◌, Option}
use Rattle.std.specs.declared.option.Option.TheVariants.{None, Some}

abbrev pub single : {X : Type 0} → List X → Option X
single [] = None
single (x ∷ []) = Some x
single (x ∷ y ∷ rest) = None
