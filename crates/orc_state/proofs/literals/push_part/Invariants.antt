use Rattle.std.proofs.Common.{◌≡◌, ◌++◌, map, take}
use Rattle.orc_call.specs.declared.call.Put.{Put}
use Rattle.orc_decls.specs.Devices.{name_of}
use Rattle.orc_state.proofs.literals.push_part.Given as goal

-- the writes of the items so far
abbrev pub invariant-loop-put : goal.invariant-loop-put
invariant-loop-put l =
    l.writes ≡ l.fn.writes ++ map (λ (put : Put). record { device = name_of l.names l.part.0; path = put.path; item = put.item }) (take l.put-index l.put-items)
