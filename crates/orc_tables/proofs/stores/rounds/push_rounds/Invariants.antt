use Rattle.orc_tables.proofs.stores.rounds.push_rounds.Given as goal

abbrev pub ghosts-go_counted : goal.ghosts-go_counted
ghosts-go_counted a = record { name = a.blank.name; parts = a.blank.parts }
