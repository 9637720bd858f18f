use Rattle.std.proofs.Common.{◌≡◌, drop}
use Rattle.orc_decls.specs.Openings.{enter_devices, opening_data}
use Rattle.orc_decls.proofs.opening.opening_data.Given as goal

-- to enter the devices that are left gives the whole
abbrev pub invariant-loop-name : goal.invariant-loop-name
invariant-loop-name l = enter_devices (drop l.name-index l.names) l.tree ≡ opening_data l.names l.puts
