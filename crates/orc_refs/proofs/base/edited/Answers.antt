use Rattle.orc_tree.proofs.Changed.{list_all-read}
use Rattle.orc_refs.specs.Moves.{edit_fits}
use Rattle.orc_refs.proofs.EditLaws.{edited-more}
use Rattle.orc_refs.proofs.base.edited.Goals as goal

pub do_edit-requires : goal.do_edit-requires
do_edit-requires c = record {
  fits = list_all-read edit_fits c.args.edits.now c.loop-edit.edit-index c.edit-item.result c.loop-edit-test.true c.edit-item.is c.requires.fits;
}

pub loop-edit-preserved : goal.loop-edit-preserved
loop-edit-preserved c = record {
  edited = edited-more c.args.edits.now c.loop-edit.edit-index c.edit-item.result c.loop-edit.tree c.do_edit.new.tree _ c.loop-edit-test.true c.edit-item.is c.in_ok-do_edit.ensures.edited c.loop-edit.invariant.edited;
  config = c.in_ok-do_edit.ensures.config;
}
