use Rattle.std.proofs.Common.{sym, ◌∙◌, ap}
use Rattle.std.specs.Prelude.{◌&&◌}
use Rattle.orc_types.specs.Statements.{argument}
use Rattle.orc_modules.specs.Scopes.{plain_name}
use Rattle.orc_modules.specs.inside.Blocks.{by_name}
use Rattle.orc_modules.specs.inside.Shallow.{depth_by, is_at_most, is_from_block}
use Rattle.orc_modules.proofs.shallow.is_shallow_use.Goals as goal

pub returns-then-is_from_block : goal.returns-then-is_from_block
returns-then-is_from_block c =
    let depths = depth_by c.args.depths.now in
    let name = plain_name (argument c.args.stmt.now) in
    c.is_at_most.ensures
    ∙ ap (λ q. is_at_most c.args.depth (depths q)) (c.plain_name.ensures ∙ ap plain_name c.argument-then-is_from_block.ensures)
    ∙ sym (ap (λ b. b && is_at_most c.args.depth (depths name)) (ap (is_from_block c.args.prefix.now (by_name c.args.own.now)) (sym c.argument.ensures) ∙ sym c.is_from_block.ensures ∙ c.if-is_from_block.true))
