use Rattle.orc_value.proofs.decimals.+is_fraction.Given as goal

abbrev pub decreases-is_fraction : goal.decreases-is_fraction
decreases-is_fraction l = l.places
