use Rattle.orc_template.proofs.FaultNames.{faults_named}
use Rattle.orc_template.proofs.laws.faults_are_named.Goals as goal

pub returns : goal.returns
returns c = faults_named
