use Rattle.std.proofs.Common.{ℕ, List, ap, ◌∙◌}
use Rattle.orc_datastore.proofs.Devices.{asked-distinct, asked-fits, asked-moves, asked-start, came-behind}
use Rattle.orc_decls.specs.Devices.{name_of}
use Rattle.orc_datastore.proofs.stores.store_behind.Goals as goal

pub moved-requires-clause-start : goal.moved-requires-clause-start
moved-requires-clause-start c =
    asked-start c.args.decls.now.names c.args.live.now c.args.device c.args.actions.now c.args.store.now c.as_slice.result.now
    (c.as_slice.ensures.value ∙ asked-moves c.args.decls.now.names c.args.live.now c.args.device c.args.actions.now c.args.turns.now c.in_ok-moves.moves.items
    c.requires.turns c.in_ok-moves.ensures.moves)
    c.requires.call c.requires.store

pub moved-requires-clause-distinct : goal.moved-requires-clause-distinct
moved-requires-clause-distinct c =
    asked-distinct c.args.decls.now.names c.args.live.now c.args.device c.args.actions.now c.as_slice.result.now
    (c.as_slice.ensures.value ∙ asked-moves c.args.decls.now.names c.args.live.now c.args.device c.args.actions.now c.args.turns.now c.in_ok-moves.moves.items
    c.requires.turns c.in_ok-moves.ensures.moves)
    c.requires.call

pub moved-requires-clause-fits : goal.moved-requires-clause-fits
moved-requires-clause-fits c =
    asked-fits c.device_name.result.now c.args.actions.now c.as_slice-2.result.now (c.as_slice-2.ensures.value ∙ c.in_ok-edits.ensures) c.requires.fit

pub returns : goal.returns
returns c =
    came-behind c.args.decls.now.names c.args.live.now c.args.device c.args.actions.now c.args.store.now c.device_name.result.now
    c.as_slice.result.now c.as_slice-2.result.now c.moved.result
    (c.as_slice.ensures.value ∙ asked-moves c.args.decls.now.names c.args.live.now c.args.device c.args.actions.now c.args.turns.now c.in_ok-moves.moves.items
    c.requires.turns c.in_ok-moves.ensures.moves)
    (c.as_slice-2.ensures.value ∙ c.in_ok-edits.ensures)
    (c.device_name.ensures ∙ ap (λ (names : List (List ℕ)). name_of names c.args.device) c.names.ensures.names)
    c.requires.call c.requires.store c.moved.ensures
