use Rattle.std.proofs.Common.{List, Bor, ap, ◌∙◌}
use Rattle.std.specs.Prelude.{Vec}
use Rattle.std.specs.declared.alloc.Global.{Global}
use Rattle.serde_json.specs.View.{view, items_view}
use Rattle.serde_json.specs.Find.{as_array}
use Rattle.serde_json.specs.declared.value.Value.{Value}
use Rattle.orc_template.specs.Blocks.{blocks_of}
use Rattle.orc_template.proofs.Forms.{mapped_some, mapped_none, listed_some, listed_none}
use Rattle.orc_template.proofs.blocks.listed.Goals as goal

pub returns-in-Some : goal.returns-in-Some
returns-in-Some c =
    let d = view c.args.value.now in
    ap (λ (xs : List Value). blocks_of (items_view xs)) c.as_slice.ensures.value
    ∙ listed_some d (items_view c.in-Some.items.now.items) (mapped_some (λ (v : Bor (Vec Value Global)). items_view v.now.items) c.as_array.result (as_array d) c.in-Some.items c.as_array.ensures c.in-Some.is)

pub returns-in-None : goal.returns-in-None
returns-in-None c =
    let d = view c.args.value.now in
    listed_none d (mapped_none (λ (v : Bor (Vec Value Global)). items_view v.now.items) c.as_array.result (as_array d) c.as_array.ensures c.in-None.is)
