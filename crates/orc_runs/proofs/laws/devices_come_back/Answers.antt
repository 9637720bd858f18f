use Rattle.orc_runs.proofs.laws.devices_come_back.Goals as goal

pub returns : goal.returns
returns g c = λ decls kinds limit granted script first last run are devices starts.
    let so = c.runs_have_the_headline.ensures decls kinds limit granted script first last run are devices starts in
    (so.comes_back, so.never_falls, so.moves_on)
