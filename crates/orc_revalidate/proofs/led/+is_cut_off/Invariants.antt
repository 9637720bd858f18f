use Rattle.orc_revalidate.proofs.led.+is_cut_off.Given as goal

abbrev pub decreases-is_cut_off : goal.decreases-is_cut_off
decreases-is_cut_off l = l.number
