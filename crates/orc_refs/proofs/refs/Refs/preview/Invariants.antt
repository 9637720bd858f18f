use Rattle.orc_refs.proofs.refs.Refs.preview.Given as goal

abbrev pub ghosts-preview_moves : goal.ghosts-preview_moves
ghosts-preview_moves a = record { name = a.blank.name; parts = a.blank.parts }
