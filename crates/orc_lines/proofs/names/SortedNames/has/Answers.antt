use Rattle.std.proofs.Common.{◌∙◌, ap, is_some}
use Rattle.orc_decls.specs.Devices.{is_same_text}
use Rattle.orc_lines.proofs.NumberedNames.{place-found}
use Rattle.orc_lines.proofs.names.SortedNames.has.Goals as goal

pub returns : goal.returns
returns c = c.is_some.ensures ∙ ap is_some c.place.ensures.place ∙ place-found (is_same_text c.args.name.now) c.args.self.now
