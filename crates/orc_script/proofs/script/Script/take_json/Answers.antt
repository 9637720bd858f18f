use Rattle.std.proofs.Common.{◌≡◌, false, ap, sym, ◌∙◌}
use Rattle.orc_schema_nodes.specs.Schemas.{SchemaTable}
use Rattle.orc_decls.specs.Calls.{schema_named}
use Rattle.orc_script.specs.declared.step.ScriptStep.TheVariants.{Json}
use Rattle.orc_script.proofs.Placed.{step_more, typed_step}
use Rattle.orc_script.proofs.script.Script.take_json.Goals as goal

pub returns-clause-lawful : goal.returns-clause-lawful
returns-clause-lawful c = λ most so_far.
    let d = c.args.decls.now in
    let name = c.in_ok-name.name in
    let typed : (schema_named d.schemas d.devices name).plain ≡ false =
    ap (λ (s : SchemaTable). s.plain) (sym c.schema_named.ensures) ∙ sym c.if-is_plain.ensures in
    step_more d most c.args.self.now (Json c.in-Some.n) c.push.new.self so_far
    (typed_step d name c.in-Some.n (sym c.in-Some.ensures) typed) c.in_ok-push.ensures.ok
