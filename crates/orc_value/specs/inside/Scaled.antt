-- Digits after the point, up to a place and past it.
use Rattle.std.specs.Prelude.{ℕ, ◌-◌, ◌*◌, ◌^◌, ◌==◌, Bool, List, ◌++◌, length}
use Rattle.std.specs.List.{list_all}
use Rattle.std.specs.Str.Parse.{digits_value}

abbrev pub are_zeros : List ℕ → Bool
are_zeros digits = list_all (λ d. d == 48) digits

-- the number of the digits before the point and after it, followed by zeros up to the n-th after it
abbrev pub units : ℕ → List ℕ → List ℕ → ℕ
units n whole fraction = digits_value 10 (whole ++ fraction) * 10 ^ (n - length fraction)
