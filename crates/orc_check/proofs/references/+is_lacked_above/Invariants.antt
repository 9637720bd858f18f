use Rattle.orc_check.proofs.references.+is_lacked_above.Given as goal

abbrev pub decreases-is_lacked_above : goal.decreases-is_lacked_above
decreases-is_lacked_above l = l.number
