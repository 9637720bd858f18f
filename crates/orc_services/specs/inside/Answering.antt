-- What the code answers on the way.
use Rattle.std.specs.Prelude.{◌≡◌, ◌++◌, ℕ, List, Result}
use Rattle.std.specs.declared.result.Result.TheVariants.{Ok, Err}
use Rattle.orc_expr.specs.declared.read.Read.{Read}
use Rattle.orc_template.specs.Expansions.{Expanding, Failed}
use Rattle.orc_services.specs.declared.actions.Expanded.{Expanded}
use Rattle.orc_services.specs.declared.actions.Expanded.TheVariants.{Written, Fault}

-- what an expansion gave, and its reads after those before
abbrev pub Expands : Result Expanding Failed → List Read → List Read → Expanded → Type 0
Expands due old new (Written trees) =
    (e : Expanding) × (due ≡ Ok e) × (trees ≡ e.written) × (new ≡ old ++ e.reads)
Expands due old new (Fault block rule) =
    (reads : List Read) × (due ≡ Err (record { block = block; rule = rule; reads = reads })) × (new ≡ old ++ reads)
