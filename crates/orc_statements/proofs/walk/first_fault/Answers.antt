use Rattle.std.proofs.Common.{refl, sym, ◌∙◌, subst, [], arith}
use Rattle.orc_modules.specs.Stack.{modules_of}
use Rattle.orc_statements.specs.Faults.{fault_here}
use Rattle.orc_statements.proofs.Blocks.{modules-past, modules-fail}
use Rattle.orc_statements.specs.inside.Seen.{HasSame}
use Rattle.orc_statements.proofs.Seens.{none_seen, seen-grown}
use Rattle.orc_statements.proofs.walk.first_fault.Goals as goal

pub returns-in-Err-first_fault_in : goal.returns-in-Err-first_fault_in
returns-in-Err-first_fault_in c = modules-fail (fault_here (modules_of c.args.modules.now)) c.args.modules.now.all.now c.loop-at.at c.index-all-at.result (omega (arith, c.loop-at-test.true)) (sym c.index-all-at.is)
    c.in_default.ensures _ c.loop-at.invariant.left c.in-Err-first_fault_in.fault c.in-Err-first_fault_in.ensures

pub loop-at-preserved : goal.loop-at-preserved
loop-at-preserved c = record {
  left = c.loop-at.invariant.left ∙ modules-past (fault_here (modules_of c.args.modules.now)) c.args.modules.now.all.now c.loop-at.at c.index-all-at.result (omega (arith, c.loop-at-test.true)) (sym c.index-all-at.is)
      c.in_default.ensures c.in_default-first_fault_in.ensures;
  names = seen-grown c.args.modules.now.most c.args.modules.now.all.now [] c.args.modules.now.all.now c.loop-at.at c.index-all-at.result (omega (arith, c.loop-at-test.true)) (sym c.index-all-at.is) _ _
      c.loop-at.invariant.names c.in_ok-add_names.ensures;
}

pub loop-at-init : goal.loop-at-init
loop-at-init c = record { left = refl; names = subst (λ l. HasSame l []) (sym c.new-names.ensures) none_seen }

pub fault_here-requires : goal.fault_here-requires
fault_here-requires c = c.loop-at.invariant.names
