use Rattle.std.proofs.Common.{inl, inr, codes, refl, sym, ◌∙◌}
use Rattle.orc_scene.proofs.Downs.{said_words}
use Rattle.orc_scene.proofs.scene.Scene.failed.Goals as goal

pub returns-then-is_stopped : goal.returns-then-is_stopped
returns-then-is_stopped g c =
    let said = said_words c.stopped.result (codes "stopped\n") c.args.out.now c.say.new.out c.say.result c.stopped.ensures c.say.ensures in
    inl (sym c.is_stopped.ensures ∙ c.if-is_stopped.true, c.stop_now.ensures.stops, said.0, said.1)

pub returns-in-Ok : goal.returns-in-Ok
returns-in-Ok g c = inr (sym c.is_stopped.ensures ∙ c.if-is_stopped.false, c.end_with.ensures, inl (refl, c.in-Ok.ensures.0), tt)

pub returns-in-Err : goal.returns-in-Err
returns-in-Err g c = inr (sym c.is_stopped.ensures ∙ c.if-is_stopped.false, c.end_with.ensures, inr c.in-Err.ensures.1, tt)
