-- What looks rest on.
use Rattle.std.specs.Prelude.{◌≡◌, ◌≢◌, false, ℕ, List}
use Rattle.orc_path.specs.Steps.{PathStep}
use Rattle.orc_path.specs.Views.{Viewed}
use Rattle.orc_expr.specs.Expressions.{Expression, Condition}
use Rattle.orc_path.specs.Configurations.{Config}
use Rattle.orc_path.specs.declared.item.Write.TheVariants as write
use Rattle.orc_path.specs.declared.shape.Shape.{Shape}
use Rattle.orc_expr.specs.Reads.{Shares, IsFixedByReads}
use Rattle.orc_expr.specs.Touches.{write_touches_any}
use Rattle.orc_expr.specs.declared.read.Read.{Read}
use Rattle.std.specs.FinMap.{get}
use Rattle.orc_expr.specs.Looks.{texts_of, nodes_of, judged}

-- Two views of equal shapes that share what was read give the same texts, and the same faults and reads.
abbrev pub TextsAreFixedByReads : Type 0
TextsAreFixedByReads =
    (expression : Expression) (here : List PathStep) (view : Viewed)
    → IsFixedByReads (texts_of expression here) (λ look. look.reads) view

-- Two views of equal shapes that share what was read give the same nodes, and the same faults and reads.
abbrev pub NodesAreFixedByReads : Type 0
NodesAreFixedByReads =
    (expression : Expression) (here : List PathStep) (view : Viewed)
    → IsFixedByReads (nodes_of expression here) (λ look. look.reads) view

-- Two views of equal shapes that share what was read judge a condition alike, with the same faults and reads.
abbrev pub ConditionsAreFixedByReads : Type 0
ConditionsAreFixedByReads =
    (condition : Condition) (here : List PathStep) (view : Viewed)
    → IsFixedByReads (judged condition here) (λ made. made.reads) view

-- Where no path at which two configurations differ touches what was read, they share it under one schema.
abbrev pub UntouchedIsShared : Type 0
UntouchedIsShared =
    (old new : Config) (shapes : List PathStep → List ℕ → Shape) (reads : List Read)
    → ((path : List PathStep) → get old path ≢ get new path → write_touches_any reads (write.At path) ≡ false)
    → Shares (record { items = old; shapes = shapes }) (record { items = new; shapes = shapes }) reads
