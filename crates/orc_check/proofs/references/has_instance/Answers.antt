use Rattle.std.proofs.Common.{◌&&◌, ◌||◌, ap, sym, ◌∙◌}
use Rattle.std.specs.List.{list_any}
use Rattle.std.specs.FinMap.{entries}
use Rattle.orc_check.specs.Validity.{row_has, place_lacks, places}
use Rattle.orc_check.specs.inside.Named.{named_path}
use Rattle.orc_check.proofs.Alone.{any_at, or_false}
use Rattle.orc_check.proofs.Named.{only, no_default}
use Rattle.orc_check.proofs.references.has_instance.Goals as goal

pub has_entry-requires : goal.has_entry-requires
has_entry-requires c = c.in-Some.ensures.1.shared

pub returns-in-Some : goal.returns-in-Some
returns-in-Some c =
    let s = c.args.schema.now in
    let tree = c.args.tree.now in
    let target = c.args.target.now in
    let text = c.args.text.now in
    let path = c.args.path.now in
    let own = c.in-Some.own in
    let key = c.in-Some.ensures.0 in
    let is = c.in-Some.ensures.1 in
    let rows = list_any (row_has s target text path) (entries tree) in
    c.has_entry.ensures
    ∙ sym (any_at (row_has s target text path) (named_path target own.before.now own.list.now text path) (only s target own.before.now own.list.now key text is path) tree)
    ∙ sym (or_false rows)
    ∙ ap (λ b. rows || (b && list_any (place_lacks s tree target path) (places s tree))) (sym (no_default s target own.before.now own.list.now key text is))
