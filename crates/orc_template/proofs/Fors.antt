-- The nodes of a block's `for`, and the JSON of no `config`.
use Rattle.std.proofs.Common.{◌≡◌, ℕ, ◌++◌, List, Option, Some, Result, Err, sym, ap, ◌∙◌, rules}
use Rattle.serde_json.specs.Data.{Data, null}
use Rattle.serde_json.specs.View.{view}
use Rattle.serde_json.specs.declared.value.Value.{Null, the_lemmas}
use Rattle.orc_path.specs.Steps.{PathStep}
use Rattle.orc_expr.specs.declared.read.Read.{Read}
use Rattle.orc_template.specs.Expansions.{Expanding, Failed, Ground, nodes_expanded, look_expanded}
use Rattle.orc_template.specs.declared.fault.TheConstants.{MANY_VALUES}

pub view-Null : view Null ≡ null
view-Null = search (rules, the_lemmas)

module _ (g : Ground) (n : ℕ) (d : Data) (inside : List PathStep → Expanding → Result Expanding Failed) (found : Option (List (List PathStep))) (read : List Read) (e : Expanding) (new : List Read)
    (reads : new ≡ e.reads ++ read) where
  pub nodes_found : (nodes : List (List PathStep)) → found ≡ Some nodes
      → nodes_expanded g n d inside nodes (record { written = e.written; reads = new }) ≡ look_expanded g n d inside found read e
  nodes_found nodes is =
      ap (λ (rs : List Read). nodes_expanded g n d inside nodes (record { written = e.written; reads = rs })) reads ∙ sym (ap (λ o. look_expanded g n d inside o read e) is)

  abbrev many : List Read → Result Expanding Failed
  many rs = Err (record { block = n; rule = MANY_VALUES; reads = rs })
