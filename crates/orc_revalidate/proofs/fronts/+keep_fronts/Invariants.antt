use Rattle.orc_revalidate.proofs.fronts.+keep_fronts.Given as goal

abbrev pub decreases-keep_fronts : goal.decreases-keep_fronts
decreases-keep_fronts l = l.number
