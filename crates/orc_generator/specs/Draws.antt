-- Numbers that are drawn one after another.
use Rattle.std.specs.Prelude.{ℕ, ◌+◌, ◌*◌, ◌^◌, ◌%◌, ◌/◌}

-- the state of a linear congruential generator modulo 2 to the 64th after one
abbrev pub next_state : ℕ → ℕ
next_state state = (state * 6364136223846793005 + 1442695040888963407) % 2 ^ 64

-- the number below a bound that a state gives: by its upper 31 bits
abbrev pub drawn : ℕ → ℕ → ℕ
drawn state bound = state / 2 ^ 33 % bound
