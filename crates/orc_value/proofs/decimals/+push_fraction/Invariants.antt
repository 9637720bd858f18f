use Rattle.orc_value.proofs.decimals.+push_fraction.Given as goal

abbrev pub decreases-push_fraction : goal.decreases-push_fraction
decreases-push_fraction l = l.places
