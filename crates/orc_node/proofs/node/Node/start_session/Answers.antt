use Rattle.std.proofs.Common.{ℕ, ◌≤◌, ◌<◌, List, length, sym, ◌∙◌, ap, subst, arith}
use Rattle.orc_node.specs.Nodes.{AcceptingNode}
use Rattle.orc_node.proofs.Rooms.{start_room, longer_by_one}
use Rattle.orc_node.proofs.node.Node.start_session.Goals as goal

pub push-requires : goal.push-requires
push-requires c =
    let first : length c.args.self.now.state.live ≤ 8 = subst (λ (n : AcceptingNode). length n.state.live ≤ 8) c.self.view_is c.self.invariant.0 in (
      omega arith,
      start_room c.args.self.now.state c.end_session.new.self.state _ c.next_session-session.result first
          (ap (λ (n : AcceptingNode). n.state) c.end_session.ensures) (ap (λ (n : AcceptingNode). n.state) (c.self-2.view_is ∙ c.end_least.ensures)),
    )

pub invariant_of-self : goal.invariant_of-self
invariant_of-self c =
    let first : length c.args.self.now.state.live ≤ 8 = subst (λ (n : AcceptingNode). length n.state.live ≤ 8) c.self.view_is c.self.invariant.0 in
    let room : length c.self-2.inside.live.items < 8 = start_room c.args.self.now.state c.end_session.new.self.state _ c.next_session-session.result first
    (ap (λ (n : AcceptingNode). n.state) c.end_session.ensures) (ap (λ (n : AcceptingNode). n.state) (c.self-2.view_is ∙ c.end_least.ensures)) in (
      subst (λ (xs : List ℕ). length xs ≤ 8) (sym c.push.ensures.items) (longer_by_one c.self-2.inside.live.items c.next_session-session.result room),
      c.self-2.invariant.1,
      c.self-2.invariant.2,
      c.self-2.invariant.3,
    )
