-- Each call goes one less deep.
use Rattle.orc_modules.proofs.loops.+type_leads.Given as goal

abbrev pub decreases-type_leads : goal.decreases-type_leads
decreases-type_leads l = l.depth
