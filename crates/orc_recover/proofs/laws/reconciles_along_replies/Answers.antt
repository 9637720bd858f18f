use Rattle.orc_recover.proofs.Courses.{courses}
use Rattle.orc_recover.proofs.laws.reconciles_along_replies.Goals as goal

pub returns : goal.returns
returns c = courses
