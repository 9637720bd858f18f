-- A breach that was found, as it is lent: a place, the names of steps without keys after it, and a rule.
use Rattle.std.specs.Prelude.{List, [], ◌++◌, Option, Some, None, option_map}
use denote.Ref.{Bor}
use Rattle.orc_path.specs.Steps.{PathStep}
use Rattle.orc_check.specs.declared.found.Found.{Found}
use Rattle.orc_check.specs.Validity.{Breach, plain_steps}

-- the path of a place: none is the root
abbrev pub place_path : Option (Bor (List PathStep)) → List PathStep
place_path None = []
place_path (Some path) = path.now

abbrev pub breach_of : Found → Breach
breach_of found = record { path = place_path found.place ++ plain_steps found.names.now; rule = found.rule }

abbrev pub found_breach : Option Found → Option Breach
found_breach best = option_map breach_of best
