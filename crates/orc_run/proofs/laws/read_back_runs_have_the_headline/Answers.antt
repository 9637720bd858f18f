use Rattle.orc_run.proofs.Claims.{has_headline}
use Rattle.orc_run.proofs.laws.read_back_runs_have_the_headline.Goals as goal

pub returns : goal.returns
returns g c = λ decls limit script first last run are starts reads.
    has_headline g.D.Disk.disk c.bundle_runs_have_the_headline.ensures decls limit script first last run are starts reads
