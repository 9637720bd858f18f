use Rattle.orc_rules.specs.Acceptance.{declared_kind}
use Rattle.orc_runs.proofs.claim.bundle_runs_have_the_headline.Goals as goal

pub returns : goal.returns
returns g c = λ decls limit granted script first last run are starts.
    c.runs_have_the_headline.ensures decls (declared_kind decls) limit granted script first last run are
    (record {
      of_hub = λ device. (c.devices_are_as_declared.ensures decls device are).0;
      of_schema = λ device. (c.devices_are_as_declared.ensures decls device are).1;
      accept_base = λ device. (c.devices_are_as_declared.ensures decls device are).2;
    }) starts
