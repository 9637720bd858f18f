use Rattle.std.proofs.Common.{ℕ, [], ◌∷◌, ◌++◌, length, ap, ◌∙◌}
use Rattle.orc_rules.specs.Admissions.{transaction_begun}
use Rattle.orc_rules.specs.declared.transaction.Transaction.{Transaction}
use Rattle.orc_hub.proofs.Admissions.{written}
use Rattle.orc_hub.proofs.hub.Hub.begin_work.Goals as goal

pub returns-in-Ok-push : goal.returns-in-Ok-push
returns-in-Ok-push g c =
    let hub = c.args.self.now in
    written g.D.Disk.disk hub c.args.it c.args.sets c.push.new.self c.in-Ok.entry
    (c.in-Ok-push.ensures.ok ∙ ap (λ (x : Transaction). hub.active ++ x ∷ [])
    (c.transaction_begun.ensures ∙ ap (λ (n : ℕ). transaction_begun n c.args.it) (ap length c.history-since.ensures)))
    c.in-Ok.ensures _ c.requires.name c.write_intent.result c.write_intent.new.self c.write_intent.ensures
