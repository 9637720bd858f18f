use Rattle.std.proofs.Common.{rules, ◌≡◌, sym}
use Rattle.orc_tree.proofs.Equated.{configs_decided}
use Rattle.orc_node.proofs.node.Node.is_clean.Goals as goal

pub returns-in-None : goal.returns-in-None
returns-in-None c =
    let state = c.args.self.now.state in
    let same : state.candidate ≡ state.running = search rules in
    sym ((configs_decided state.candidate state.running).1 same)
