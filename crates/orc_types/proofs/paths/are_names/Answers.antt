use Rattle.std.proofs.Common.{◌∙◌, sym}
use Rattle.orc_types.proofs.PathNames.{are_names-split}
use Rattle.orc_types.proofs.paths.are_names.Goals as goal

pub returns : goal.returns
returns c = c.all_references.ensures ∙ sym (are_names-split c.args.text.now)
