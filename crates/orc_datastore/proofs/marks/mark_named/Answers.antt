use Rattle.std.proofs.Common.{◌∙◌, sym}
use Rattle.orc_datastore.proofs.Marking.{named_marks, unnamed_marks}
use Rattle.orc_datastore.proofs.marks.mark_named.Goals as goal

pub returns-in-Some : goal.returns-in-Some
returns-in-Some c =
    named_marks c.args.decls.now.names c.args.name.now c.in-Some.device c.args.marks.now.items c.mark.new.marks.items c.names-names.ensures.distinct
    (sym c.number_of.ensures.place ∙ c.in-Some.is) c.requires c.mark.ensures

pub returns-in-None : goal.returns-in-None
returns-in-None c =
    unnamed_marks c.args.decls.now.names c.args.name.now c.args.marks.now.items (sym c.number_of.ensures.place ∙ c.in-None.is) c.requires
