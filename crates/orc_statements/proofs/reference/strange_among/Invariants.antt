use Rattle.std.proofs.Common.{◌≡◌, drop}
use Rattle.std.specs.Prelude.{option_map}
use Rattle.std.specs.List.{find}
use Rattle.orc_statements.specs.References.{is_strange}
use Rattle.orc_statements.proofs.reference.strange_among.Given as goal

abbrev pub invariant-loop-name : goal.invariant-loop-name
invariant-loop-name l = find (is_strange l.modules.all.now (option_map (λ m. m.now) l.around)) (drop l.name-index l.names)
    ≡ find (is_strange l.modules.all.now (option_map (λ m. m.now) l.around)) l.names
