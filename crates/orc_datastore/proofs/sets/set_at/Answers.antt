use Rattle.std.proofs.Common.{ℕ, List, ap, ◌∙◌, arith}
use Rattle.orc_datastore.proofs.Changing.{Course, course-open}
use Rattle.orc_datastore.proofs.Devices.{asked-distinct, asked-fits, asked-moves, asked-start}
use Rattle.orc_datastore.proofs.Placing.{placed_at}
use Rattle.orc_datastore.proofs.Previews.{set-at}
use Rattle.orc_decls.specs.Devices.{name_of}
use Rattle.orc_datastore.proofs.sets.set_at.Goals as goal

pub shown-requires-clause-start : goal.shown-requires-clause-start
shown-requires-clause-start c =
    let course : Course c.args.state.now c.args.decls.now.names c.args.actions.now c.state.inside.live c.state.inside.stores =
    record { first = c.state.inside.data; view = c.state.view_is; kept = c.state.invariant.0; bases = c.requires.bases; once = c.requires.once } in
    asked-start c.args.decls.now.names c.state.inside.live c.args.device c.args.actions.now c.index-as_slice-device.result c.as_slice-2.result.now
    (c.as_slice-2.ensures.value ∙ asked-moves c.args.decls.now.names c.state.inside.live c.args.device c.args.actions.now c.args.turns.now c.in_ok-moves.moves.items
    c.requires.turns c.in_ok-moves.ensures.moves)
    (course-open c.args.state.now c.args.decls.now.names c.args.actions.now c.state.inside.live c.state.inside.stores course c.names_differ.ensures)
    (c.state.invariant.0.each c.args.device c.index-as_slice-device.result
    (placed_at c.args.state.now c.state.inside.data c.state.inside.stores c.as_slice.result.now c.state.inside.live c.args.device c.index-as_slice-device.result
    c.state.view_is c.as_slice.ensures (omega (arith, c.requires.device, c.requires.bases)) c.index-as_slice-device.is))

pub shown-requires-clause-distinct : goal.shown-requires-clause-distinct
shown-requires-clause-distinct c =
    let course : Course c.args.state.now c.args.decls.now.names c.args.actions.now c.state.inside.live c.state.inside.stores =
    record { first = c.state.inside.data; view = c.state.view_is; kept = c.state.invariant.0; bases = c.requires.bases; once = c.requires.once } in
    asked-distinct c.args.decls.now.names c.state.inside.live c.args.device c.args.actions.now c.as_slice-2.result.now
    (c.as_slice-2.ensures.value ∙ asked-moves c.args.decls.now.names c.state.inside.live c.args.device c.args.actions.now c.args.turns.now c.in_ok-moves.moves.items
    c.requires.turns c.in_ok-moves.ensures.moves)
    (course-open c.args.state.now c.args.decls.now.names c.args.actions.now c.state.inside.live c.state.inside.stores course c.names_differ.ensures)

pub shown-requires-clause-fits : goal.shown-requires-clause-fits
shown-requires-clause-fits c =
    asked-fits c.device_name.result.now c.args.actions.now c.as_slice-3.result.now (c.as_slice-3.ensures.value ∙ c.in_ok-edits.ensures) c.requires.fit

pub returns : goal.returns
returns c =
    let course : Course c.args.state.now c.args.decls.now.names c.args.actions.now c.state.inside.live c.state.inside.stores =
    record { first = c.state.inside.data; view = c.state.view_is; kept = c.state.invariant.0; bases = c.requires.bases; once = c.requires.once } in
    set-at c.store_is_overlay.ensures c.args.state.now c.args.decls.now.names c.args.actions.now c.state.inside.live c.state.inside.stores course c.names_differ.ensures
    c.args.device c.index-as_slice-device.result c.requires.device
    (placed_at c.args.state.now c.state.inside.data c.state.inside.stores c.as_slice.result.now c.state.inside.live c.args.device c.index-as_slice-device.result
    c.state.view_is c.as_slice.ensures (omega (arith, c.requires.device, c.requires.bases)) c.index-as_slice-device.is)
    c.device_name.result.now c.as_slice-2.result.now c.as_slice-3.result.now c.shown.result
    (c.as_slice-2.ensures.value ∙ asked-moves c.args.decls.now.names c.state.inside.live c.args.device c.args.actions.now c.args.turns.now c.in_ok-moves.moves.items
    c.requires.turns c.in_ok-moves.ensures.moves)
    (c.as_slice-3.ensures.value ∙ c.in_ok-edits.ensures)
    (c.device_name.ensures ∙ ap (λ (names : List (List ℕ)). name_of names c.args.device) c.names.ensures.names)
    c.shown.ensures
