-- Each grouping is one less deep; what is left of the block decides, and what is known holds.
use Rattle.std.proofs.Common.{◌≡◌, ◌-◌, ◌+◌, ◌*◌, ◌∷◌}
use Rattle.std.specs.Prelude.{drop}
use Rattle.std.specs.List.{list_any}
use Rattle.orc_types.specs.Statements.{subs}
use Rattle.orc_modules.specs.Bare.{may_bring, brings_at}
use Rattle.orc_modules.specs.Children.{block_part}
use Rattle.orc_modules.specs.Stack.{stack}
use Rattle.orc_modules.specs.inside.Known.{AreBare}
use Rattle.orc_modules.proofs.bare.+bare.Given as goal

abbrev pub decreases-is_bare : goal.decreases-is_bare
decreases-is_bare l = 2 * l.depth

abbrev pub decreases-is_bare_named : goal.decreases-is_bare_named
decreases-is_bare_named l = 2 * l.depth + 1

abbrev pub invariant-is_bare-loop-sub : goal.invariant-is_bare-loop-sub
invariant-is_bare-loop-sub l = record {
  decides : may_bring l.fn.depth l.fn.modules.all.now (l.fn.here ∷ stack l.fn.above) l.fn.here
      ≡ list_any (λ t. brings_at (may_bring (l.fn.depth - 1) l.fn.modules.all.now) l.fn.modules.all.now (l.fn.here ∷ stack l.fn.above) t (block_part t)) (drop l.sub-index (subs l.fn.here));
  known : AreBare l.fn.modules.all.now (stack l.fn.above) l.known.items;
}
