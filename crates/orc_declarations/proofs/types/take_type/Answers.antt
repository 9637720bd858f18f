use Rattle.std.proofs.Common.{sym, ◌∙◌}
use Rattle.orc_declarations.proofs.Added.{type_added}
use Rattle.orc_declarations.proofs.types.take_type.Goals as goal

pub returns-clause-lawful : goal.returns-clause-lawful
returns-clause-lawful c = λ known.
    let d = c.args.declared.now in
    let schema = c.in_ok-schema.schema in
    type_added d c.name-item.result c.in_ok-copy.field-0 schema c.add.new.self c.push.new.self known c.in_ok-schema.ensures.sound
    (sym c.has-is_double.ensures ∙ c.in_ok-schema.ensures.new) c.in_ok-copy.ensures c.in_ok-add.ensures c.in_ok-push.ensures.ok
