use Rattle.std.proofs.Common.{◌≡◌, ◌++◌, List, length, ap, sym, ◌∙◌, nat_lt}
use Rattle.std.specs.FinMap.{entries}
use Rattle.orc_path.specs.Steps.{PathStep}
use Rattle.orc_tree.specs.inside.Lists.{entries_of}
use Rattle.orc_tree.proofs.Listing.{no_entries-before, entries_of-append}
use Rattle.orc_check.specs.Validity.{plain_steps}
use Rattle.orc_check.specs.inside.Runs.{all_rows}
use Rattle.orc_check.proofs.counting.has_more.Goals as goal

pub returns : goal.returns
returns c =
    let list = c.args.steps.now ++ plain_steps c.args.names.now in
    let rest = all_rows c.runs_from.result in
    let from = c.runs_from.ensures.rest in
    let whole : entries_of list rest ≡ entries_of list (entries c.args.tree.now) =
    ap (λ (x : List (List PathStep)). x ++ entries_of list rest) (sym (no_entries-before list from.front from.before))
    ∙ sym (ap (entries_of list) from.parts ∙ entries_of-append list from.front rest) in
    c.has_more_among.ensures ∙ ap (λ (es : List (List PathStep)). nat_lt c.args.number (length es)) whole
