use Rattle.std.proofs.Common.{◌≡◌, sym, ◌∙◌, ap, arith, ◌-◌, suc}
use Rattle.std.specs.Prelude.{option_map}
use denote.Ref.{Bor}
use Rattle.orc_schema.specs.declared.draft.Draft.{Draft}
use Rattle.orc_schema.specs.inside.Indexes.{look}
use Rattle.orc_schema.proofs.Chains.{leads_on}
use Rattle.orc_schema.proofs.links.leads_to.Goals as goal

pub loop-left-preserved : goal.loop-left-preserved
loop-left-preserved c =
    let one_less : c.loop-left.left ≡ suc (c.loop-left.left - 1) = omega (arith, c.loop-left-test.true) in
    sym (leads_on c.loop-left.left (c.loop-left.left - 1) one_less (look c.args.nodes.now) c.loop-left.at.now c.args.names.now c.in-Some.found.now
    (sym c.in_ok-found.ensures ∙ ap (option_map (λ (d : Bor Draft). d.now)) c.in-Some.is) (sym c.eq.ensures ∙ c.if-eq.false)) ∙ c.loop-left.invariant
