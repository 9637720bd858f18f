use Rattle.orc_worker.proofs.Courses.{courses}
use Rattle.orc_worker.proofs.laws.courses_are_these.Goals as goal

pub returns : goal.returns
returns c = courses
