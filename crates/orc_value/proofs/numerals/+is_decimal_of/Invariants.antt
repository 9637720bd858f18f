use Rattle.orc_value.proofs.numerals.+is_decimal_of.Given as goal

abbrev pub decreases-is_decimal_of : goal.decreases-is_decimal_of
decreases-is_decimal_of l = l.number
