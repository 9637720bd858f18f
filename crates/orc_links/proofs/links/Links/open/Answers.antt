use Rattle.orc_links.proofs.Linked.{are_accepted}
use Rattle.orc_links.proofs.links.Links.open.Goals as goal

pub links_of-requires : goal.links_of-requires
links_of-requires c = are_accepted c.args.decls.now c.args.accepts.items c.requires.decls c.requires.accepts
