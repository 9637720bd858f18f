use Rattle.orc_hub.proofs.Coming.{submits_so}
use Rattle.orc_hub.proofs.kept.submit_keeps.Goals as goal

pub returns : goal.returns
returns g c = λ hub new entries call front plan result own lawful within of s.
    submits_so g.D.Disk.disk hub entries own call c.plan_is_at_front.ensures lawful front within plan of result new s
