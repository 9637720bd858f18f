use Rattle.std.proofs.Common.{ap, ◌∙◌, List, ℕ}
use Rattle.orc_hub.proofs.Waiting.{named_slot}
use Rattle.orc_rules.specs.Asked.{open_of}
use Rattle.orc_hub.proofs.hub.Hub.wait.Goals as goal

pub open-requires-clause-name : goal.open-requires-clause-name
open-requires-clause-name g c = named_slot c.args.self.now.askers c.args.it.call c.args.it.asker c.args.name c.requires.slot c.requires.name

pub open-requires-clause-closed : goal.open-requires-clause-closed
open-requires-clause-closed g c = ap (λ (name : List ℕ). open_of c.args.self.now.askers name) c.requires.name ∙ c.requires.closed
