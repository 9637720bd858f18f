use Rattle.std.proofs.Common.{◌≡◌, ◌∙◌, ℕ, List, Some, None, false, refl, sym, ap, subst}
use Rattle.std.specs.Prelude.{slice_get}
use Rattle.std.specs.Option.{option_map_or}
use Rattle.std.specs.BTreeMap.{get}
use Rattle.orc_call.specs.declared.call.Call.{Call}
use Rattle.orc_datastore.specs.Legal.{IsNew}
use Rattle.orc_state.specs.inside.Numbered.{caller_and_number, compared, is_named_as}
use Rattle.orc_state.proofs.Finding.{found_none}
use Rattle.orc_state.proofs.history.History.place_of.Goals as goal

-- another call stands at the noted place
pub returns-in-Some : goal.returns-in-Some
returns-in-Some c =
    let call = c.args.call.now in
    let calls = c.self.inside.calls.items in
    let places = c.self.inside.places in
    let place = c.in-Some.place.now in
    let named : caller_and_number call ≡ (c.in_ok-caller.caller, call.number) = ap (λ (caller : List ℕ). (caller, call.number)) (sym c.in_ok-caller.ensures) in
    subst (λ (l : List Call). IsNew l call) c.self.view_is
    (found_none calls places call (Some place) c.self.invariant (ap (get compared places) named ∙ sym c.in-Some.ensures.value)
    (ap (λ (l : List Call). option_map_or (is_named_as call) (slice_get l place) false) (sym c.as_slice.ensures.value) ∙ sym c.stands.ensures ∙ c.if-stands.false))

-- no place is noted
pub returns : goal.returns
returns c =
    let call = c.args.call.now in
    let places = c.self.inside.places in
    let named : caller_and_number call ≡ (c.in_ok-caller.caller, call.number) = ap (λ (caller : List ℕ). (caller, call.number)) (sym c.in_ok-caller.ensures) in
    subst (λ (l : List Call). IsNew l call) c.self.view_is
    (found_none c.self.inside.calls.items places call None c.self.invariant (ap (get compared places) named ∙ sym c.in-None.ensures.value) refl)
