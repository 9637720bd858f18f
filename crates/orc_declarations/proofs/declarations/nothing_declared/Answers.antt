use Rattle.std.proofs.Common.{ap, rules, sym, ◌∙◌}
use Rattle.orc_decls.specs.Devices.{names_of}
use Rattle.orc_declarations.proofs.ServiceLists.{all_of_none, none_apart}
use Rattle.orc_declarations.proofs.declarations.nothing_declared.Goals as goal

pub returns-clause-lawful : goal.returns-clause-lawful
returns-clause-lawful c = record {
  named = c.new-4.ensures ∙ ap names_of (sym c.new-5.ensures);
  plain = search rules;
  typed = search rules;
  devices = all_of_none _ c.new-5.result c.new-5.ensures;
  few = search rules;
  items = all_of_none _ c.new-6.result c.new-6.ensures;
  served = all_of_none _ c.new-6.result c.new-6.ensures;
  services = all_of_none _ c.new-8.result c.new-8.ensures;
  apart = none_apart c.new-8.result c.new-8.ensures;
  sound = search rules;
}
