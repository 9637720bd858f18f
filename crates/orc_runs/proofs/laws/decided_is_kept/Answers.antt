use Rattle.orc_runs.proofs.laws.decided_is_kept.Goals as goal

pub returns : goal.returns
returns g c = λ decls kinds limit granted script first last run are devices starts.
    let so = c.runs_have_the_headline.ensures decls kinds limit granted script first last run are devices starts in
    (so.resolved_as_decided, so.reconciled, so.all_settled)
