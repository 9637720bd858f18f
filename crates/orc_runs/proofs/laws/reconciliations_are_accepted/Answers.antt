use Rattle.orc_call.specs.declared.answer.RecFault.TheVariants as fault
use Rattle.orc_runs.proofs.laws.reconciliations_are_accepted.Goals as goal

pub returns : goal.returns
returns g c = λ decls kinds limit granted script first last run are devices starts.
    let so = c.runs_have_the_headline.ensures decls kinds limit granted script first last run are devices starts in (
      λ accepts earlier later turn device said parts seen. so.ends_because earlier later turn (fault.Refused device said) parts seen accepts,
      so.accepted_at_first,
      so.still_accepted,
    )
