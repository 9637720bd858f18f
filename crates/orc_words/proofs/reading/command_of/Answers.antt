use Rattle.std.proofs.Common.{rules, ◌≡◌, ◌∙◌, map, subst, ap, List, ℕ}
use Rattle.std.specs.String.{string_bytes}
use Rattle.clap.specs.Kinds.{HasKind}
use Rattle.clap.specs.Faults.{fault_of, is_simple_and_free}
use Rattle.orc_words.proofs.Refusals.{is_simple_program, refused}
use Rattle.orc_words.proofs.reading.command_of.Goals as goal

pub returns-in-Err-clause-usage : goal.returns-in-Err-clause-usage
returns-in-Err-clause-usage c usage =
    refused _ c.in-Err.error _
    (subst (λ app. HasKind (fault_of app (map (λ w. string_bytes w) c.args.words.now)) c.in-Err.error) c.in-Ok.ensures
    (c.in-Err.ensures.kinds (ap is_simple_and_free c.in-Ok.ensures ∙ is_simple_program)))
    (search rules)
