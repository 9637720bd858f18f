use Rattle.std.proofs.Common.{Bool, map, ap, ◌∙◌}
use Rattle.orc_rules.specs.Worlds.{declared}
use Rattle.orc_hub.specs.Starts.{known_at_start}
use Rattle.orc_hub.proofs.AtStart.{has_started, is_hub}
use Rattle.orc_hub.proofs.hub.Hub.of_past.Goals as goal

pub returns-in-Ok-clause-hub : goal.returns-in-Ok-clause-hub
returns-in-Ok-clause-hub g c = λ entries holds ordered told.
    is_hub c.args.decls c.args.journal c.args.past c.in-Ok.duties c.in-Ok.stale c.in-Ok.ensures.duties
    (c.in-Ok.ensures.stale ∙ ap (λ (fresh : Bool). map (λ device. known_at_start fresh) (declared c.args.decls)) c.fresh.ensures) c.requires.first
    c.new.result c.new.ensures c.new-in-Ok.result c.new-in-Ok.ensures c.new-in-Ok-2.result c.new-in-Ok-2.ensures
    g.D.Disk.disk entries c.requires.decls holds ordered told

pub returns-in-Ok-clause-started : goal.returns-in-Ok-clause-started
returns-in-Ok-clause-started g c =
    has_started c.args.decls c.args.journal c.args.past c.in-Ok.duties c.in-Ok.stale c.in-Ok.ensures.duties
    (c.in-Ok.ensures.stale ∙ ap (λ (fresh : Bool). map (λ device. known_at_start fresh) (declared c.args.decls)) c.fresh.ensures) c.requires.first
    c.new.result c.new.ensures c.new-in-Ok.result c.new-in-Ok.ensures c.new-in-Ok-2.result c.new-in-Ok-2.ensures
