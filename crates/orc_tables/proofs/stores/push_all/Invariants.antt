use Rattle.orc_tables.proofs.stores.push_all.Given as goal

abbrev pub ghosts-push_store : goal.ghosts-push_store
ghosts-push_store a = record { name = a.blank.name; parts = a.blank.parts }
