use Rattle.orc_runs.proofs.laws.pending_is_known.Goals as goal

pub returns : goal.returns
returns g c = λ decls kinds limit granted script first last run are devices starts.
    (c.runs_have_the_headline.ensures decls kinds limit granted script first last run are devices starts).pending_known
