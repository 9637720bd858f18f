use Rattle.std.proofs.Common.{◌-◌, ◌∷◌, sym, ◌∙◌, ap, arith}
use Rattle.std.specs.Prelude.{Option, Some, None, option_map}
use Rattle.std.specs.Option.{option_map_or}
use Rattle.orc_types.specs.Statements.{subs}
use Rattle.orc_modules.specs.declared.meant.Typed.{Typed}
use Rattle.orc_modules.specs.Scopes.{Found}
use Rattle.orc_modules.specs.Stack.{stack, found, modules_of}
use Rattle.orc_modules.specs.inside.Leaves.{leaf_brought}
use Rattle.orc_modules.proofs.Barren.{leaf-past, leaf-here, at-uses, at-node, at-nothing}
use Rattle.orc_modules.proofs.leaves.+leaf_brought.Goals.{in-Node+else-defines, in-Uses+in_ok-found-in-Uses+in-Some+in_ok-typed-in-Some+in-None-2, in-Uses+in_ok-found-in-Uses+in-None, in-Nothing}
use Rattle.orc_modules.proofs.leaves.+leaf_brought.Goals as goal

pub returns-in-Some-2 : goal.returns-in-Some-2
returns-in-Some-2 t c =
    let ms = modules_of c.args.modules.now in
    let above = stack c.args.at.now.above.now in
    let types : Found → Option (Option Typed) = λ g. leaf_brought (c.args.depth - 1) ms (g.here ∷ g.above) c.args.name.now (subs g.here) in
    sym (c.loop-stmt.invariant
    ∙ leaf-here types ms above c.args.name.now c.args.block.now c.loop-stmt.stmt-index c.stmt-item.result (omega (arith, c.loop-stmt-test.true)) (sym c.stmt-item.is) c.in-Some-2.typed
    (at-uses types ms above c.args.name.now c.stmt-item.result (option_map found c.in_ok-found-in-Uses.field-0) (Some c.in-Some-2.typed) (sym c.block_part.ensures ∙ c.in-Uses.is) c.in_ok-found-in-Uses.ensures
    (ap (λ o. option_map_or types (option_map found o) None) c.in-Some.is
    ∙ ap (leaf_brought (c.args.depth - 1) ms (c.in-Some.found.here.now ∷ stack c.in-Some.found.above) c.args.name.now) (sym c.as_slice.ensures)
    ∙ sym c.in_ok-typed-in-Some.ensures ∙ c.in-Some-2.is)))

pub loop-stmt-preserved : goal.loop-stmt-preserved
loop-stmt-preserved t c =
    let ms = modules_of c.args.modules.now in
    let above = stack c.args.at.now.above.now in
    let types : Found → Option (Option Typed) = λ g. leaf_brought (c.args.depth - 1) ms (g.here ∷ g.above) c.args.name.now (subs g.here) in
    elim c.match-block_part.branch [
      | in-Node+else-defines w ↦ c.loop-stmt.invariant
          ∙ leaf-past types ms above c.args.name.now c.args.block.now c.loop-stmt.stmt-index c.stmt-item.result (omega (arith, c.loop-stmt-test.true)) (sym c.stmt-item.is)
          (at-node types ms above c.args.name.now c.stmt-item.result (sym c.block_part.ensures ∙ w.in-Node.is) (sym w.defines.ensures ∙ w.if-defines.false))
      | in-Uses+in_ok-found-in-Uses+in-Some+in_ok-typed-in-Some+in-None-2 w ↦ c.loop-stmt.invariant
          ∙ leaf-past types ms above c.args.name.now c.args.block.now c.loop-stmt.stmt-index c.stmt-item.result (omega (arith, c.loop-stmt-test.true)) (sym c.stmt-item.is)
          (at-uses types ms above c.args.name.now c.stmt-item.result (option_map found w.in_ok-found-in-Uses.field-0) None (sym c.block_part.ensures ∙ w.in-Uses.is) w.in_ok-found-in-Uses.ensures
          (ap (λ o. option_map_or types (option_map found o) None) w.in-Some.is
          ∙ ap (leaf_brought (c.args.depth - 1) ms (w.in-Some.found.here.now ∷ stack w.in-Some.found.above) c.args.name.now) (sym w.as_slice.ensures)
          ∙ sym w.in_ok-typed-in-Some.ensures ∙ w.in-None-2.is))
      | in-Uses+in_ok-found-in-Uses+in-None w ↦ c.loop-stmt.invariant
          ∙ leaf-past types ms above c.args.name.now c.args.block.now c.loop-stmt.stmt-index c.stmt-item.result (omega (arith, c.loop-stmt-test.true)) (sym c.stmt-item.is)
          (at-uses types ms above c.args.name.now c.stmt-item.result (option_map found w.in_ok-found-in-Uses.field-0) None (sym c.block_part.ensures ∙ w.in-Uses.is) w.in_ok-found-in-Uses.ensures
          (ap (λ o. option_map_or types (option_map found o) None) w.in-None.is))
      | in-Nothing w ↦ c.loop-stmt.invariant
          ∙ leaf-past types ms above c.args.name.now c.args.block.now c.loop-stmt.stmt-index c.stmt-item.result (omega (arith, c.loop-stmt-test.true)) (sym c.stmt-item.is)
          (at-nothing types ms above c.args.name.now c.stmt-item.result (sym c.block_part.ensures ∙ w.in-Nothing.is))
    ]
