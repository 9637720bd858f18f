-- One of two tests that decide, whichever is looked at first.
use Rattle.std.proofs.Common.{◌≡◌, refl, sym, Bool, true, false}
use Rattle.std.specs.Prelude.{◌||◌}

pub right_holds : (key fits : Bool) → fits ≡ true → true ≡ (key || fits)
right_holds true fits h = refl
right_holds false fits h = sym h

pub right_fails : (key fits : Bool) → fits ≡ false → key ≡ (key || fits)
right_fails true fits h = refl
right_fails false fits h = sym h
