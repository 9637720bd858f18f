use Rattle.std.proofs.Common.{sym, ◌∙◌}
use Rattle.orc_decls.proofs.Fits.{body-fits}
use Rattle.orc_decls.proofs.served.is_body.Goals as goal

pub tree_of-requires : goal.tree_of-requires
tree_of-requires c =
    body-fits c.args.schema.now c.args.entry.now c.args.body.now (sym c.are_body_items.ensures ∙ c.if-not-are_body_items.false)
