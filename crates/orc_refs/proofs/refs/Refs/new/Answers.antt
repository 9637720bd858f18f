use Rattle.std.proofs.Common.{ℕ, List, ap, sym, subst, ◌∙◌}
use Rattle.orc_path.specs.Steps.{PathStep}
use Rattle.orc_path.specs.Configurations.{Config}
use Rattle.orc_refs.specs.Stores.{store_of}
use Rattle.orc_refs.specs.inside.Kept.{AreKept}
use Rattle.orc_refs.proofs.StoreLaws.{AreKept-new, store_of-nil, nil}
use Rattle.orc_refs.proofs.refs.Refs.new.Goals as goal

pub invariant_of-result : goal.invariant_of-result
invariant_of-result c =
    subst (λ (rows : List (List PathStep × List (List ℕ))). AreKept c.args.base c.in_ok-tree.tree rows) (sym c.in_ok-backs.ensures)
    (subst (λ (m : Config). AreKept c.args.base m nil) (sym c.in_ok-tree.ensures.equal) (AreKept-new c.args.base c.in_ok-tree.ensures.config))

pub returns : goal.returns
returns c =
    ap (store_of c.args.base c.in_ok-tree.tree) c.in_ok-backs.ensures ∙ ap (λ (m : Config). store_of c.args.base m nil) c.in_ok-tree.ensures.equal ∙ store_of-nil c.args.base
