-- The bytes are those that the numbers make.
use Rattle.std.proofs.Common.{◌≡◌, ◌∙◌, ℕ, List, Ok, Err, IfOk, subst}
use Rattle.orc_bundle.specs.Bundles.{scripted_of}
use Rattle.orc_run.specs.inside.Inputs.{scripted}
use Rattle.orc_run.proofs.reading.made_input.Goals as goal

pub returns-in-Ok-clause-gives : goal.returns-in-Ok-clause-gives
returns-in-Ok-clause-gives c =
    subst (λ (b : List ℕ). IfOk c.input_or_stop.result (λ input. scripted_of b ≡ Ok (scripted input))) (c.as_slice.ensures.value ∙ c.in-Ok.ensures) c.input_or_stop.ensures.gives

pub returns-in-Ok-clause-fault : goal.returns-in-Ok-clause-fault
returns-in-Ok-clause-fault c line rule is =
    subst (λ (b : List ℕ). scripted_of b ≡ Err (line, rule)) (c.as_slice.ensures.value ∙ c.in-Ok.ensures) (c.input_or_stop.ensures.fault line rule is)
