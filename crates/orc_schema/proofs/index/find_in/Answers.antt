use Rattle.std.proofs.Common.{rules}
use Rattle.std.proofs.lemmas.Fn.{always_returns_same}
use Rattle.orc_schema_nodes.specs.Names.{names_cmp}
use Rattle.orc_schema.proofs.Indexed.{found_lent, not_lent}
use Rattle.orc_schema.proofs.index.find_in.Goals as goal

pub returns-in-Ok : goal.returns-in-Ok
returns-in-Ok c = found_lent c.args.index.now c.requires c.args.names.now c.in-Ok.place c.index-index-place.result
    (c.in-Ok.ensures.position (λ d. names_cmp d.now.names c.args.names.now) (always_returns_same _ _ _ (λ a r f k. search rules)))
    c.in-Ok.ensures.bound c.index-index-place.is

pub returns-in-Err : goal.returns-in-Err
returns-in-Err c = not_lent c.args.index.now c.requires c.args.names.now _
    (c.in-Err.ensures.position (λ d. names_cmp d.now.names c.args.names.now) (always_returns_same _ _ _ (λ a r f k. search rules)))
    c.in-Err.ensures.bound
