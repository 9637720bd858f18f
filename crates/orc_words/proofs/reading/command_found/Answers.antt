-- The command is that of the subcommand which the parser met, with what it found for it.
use Rattle.std.proofs.Common.{◌≡◌, ◌∙◌, ap, sym, List, ℕ, Option, Some, None, option_and_then, option_map}
use Rattle.clap.specs.Walk.{Row}
use Rattle.clap.specs.Words.{found_of, rows_of, subcommand_rows_of}
use Rattle.orc_words.specs.Words.{command_named}
use Rattle.orc_words.proofs.Meeting.{none_is, some_is}
use Rattle.orc_words.proofs.reading.command_found.Goals as goal

pub returns-in-Some-command_named-clause-command : goal.returns-in-Some-command_named-clause-command
returns-in-Some-command_named-clause-command c =
    let met : subcommand_rows_of c.args.matches.now ≡ Some (c.in-Some.name.now, rows_of (found_of c.in-Some.found.now)) =
    some_is _ _ _ _ _ (ap (λ r. option_map (λ p. p.0.now) r) (sym c.in-Some.is) ∙ c.subcommand.ensures.name)
    (ap (λ r. option_map (λ p. rows_of (found_of p.1.now)) r) (sym c.in-Some.is) ∙ c.subcommand.ensures.rows) in
    ap (λ (o : Option (List ℕ × List Row)). option_and_then (λ met. command_named met.0 met.1) o) met
    ∙ sym c.command_named.ensures.command ∙ c.in-Some-command_named.is

pub returns-in-None-command_named-clause-usage : goal.returns-in-None-command_named-clause-usage
returns-in-None-command_named-clause-usage c usage =
    let met : subcommand_rows_of c.args.matches.now ≡ Some (c.in-Some.name.now, rows_of (found_of c.in-Some.found.now)) =
    some_is _ _ _ _ _ (ap (λ r. option_map (λ p. p.0.now) r) (sym c.in-Some.is) ∙ c.subcommand.ensures.name)
    (ap (λ r. option_map (λ p. rows_of (found_of p.1.now)) r) (sym c.in-Some.is) ∙ c.subcommand.ensures.rows) in
    ap (λ (o : Option (List ℕ × List Row)). option_and_then (λ met. command_named met.0 met.1) o) met
    ∙ sym c.command_named.ensures.command ∙ c.in-None-command_named.is

pub returns-in-None-clause-usage : goal.returns-in-None-clause-usage
returns-in-None-clause-usage c usage =
    let met : subcommand_rows_of c.args.matches.now ≡ None =
    none_is _ _ _ (ap (λ r. option_map (λ p. p.0.now) r) (sym c.in-None.is) ∙ c.subcommand.ensures.name) in
    ap (λ (o : Option (List ℕ × List Row)). option_and_then (λ met. command_named met.0 met.1) o) met
