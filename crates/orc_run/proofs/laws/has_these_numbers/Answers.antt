-- Each number computes.
use Rattle.std.proofs.Common.{refl}
use Rattle.orc_run.proofs.laws.has_these_numbers.Goals as goal

pub returns : goal.returns
returns c = record {
  bundle = refl;
  journal = refl;
  line = refl;
  name = refl;
  path = refl;
  path_steps = refl;
  step_keys = refl;
  value = refl;
  devices = refl;
  callers = refl;
  steps = refl;
  actions = refl;
  writes = refl;
  first_bytes = refl;
  gate = λ entry. refl;
  open_gate = refl;
  closed_gate = refl;
  written_gate = refl;
  intent = λ t call devices. refl;
  decide = λ t. refl;
  abort = λ t. refl;
  settled = λ t. refl;
}
