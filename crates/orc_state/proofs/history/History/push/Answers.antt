use Rattle.std.proofs.Common.{◌≡◌, ◌∙◌, ℕ, List, Some, sym, ap, subst}
use Rattle.orc_call.specs.declared.call.Call.{Call}
use Rattle.orc_datastore.specs.Legal.{IsNew}
use Rattle.orc_state.specs.inside.Numbered.{ArePlaced, caller_and_number}
use Rattle.orc_state.proofs.Finding.{placed_more, placed_still}
use Rattle.orc_state.proofs.history.History.push.Goals as goal

-- the place is noted, and the call finds no memory
pub invariant_of-self-in_err-push : goal.invariant_of-self-in_err-push
invariant_of-self-in_err-push c =
    let call = c.args.call in
    let key : List ℕ × ℕ = (c.in_ok-caller.caller, call.number) in
    let named : key ≡ caller_and_number call = ap (λ (caller : List ℕ). (caller, call.number)) c.in_ok-caller.ensures in
    let fresh : IsNew c.self.inside.calls.items call = subst (λ (l : List Call). IsNew l call) (sym c.self.view_is) c.requires in
    subst (λ (l : List Call). ArePlaced l c.insert.new.self) (sym c.in_err-push.ensures.items)
    (placed_still c.self.inside.calls.items c.self.inside.places c.insert.new.self call key (Some c.len-place.result) c.self.invariant fresh named c.in_ok-insert.ensures.updates.0)

pub invariant_of-self-2 : goal.invariant_of-self-2
invariant_of-self-2 c =
    let call = c.args.call in
    let calls = c.self.inside.calls.items in
    let key : List ℕ × ℕ = (c.in_ok-caller.caller, call.number) in
    let named : key ≡ caller_and_number call = ap (λ (caller : List ℕ). (caller, call.number)) c.in_ok-caller.ensures in
    let fresh : IsNew calls call = subst (λ (l : List Call). IsNew l call) (sym c.self.view_is) c.requires in
    let still = placed_still calls c.self.inside.places c.insert.new.self call key (Some c.len-place.result) c.self.invariant fresh named c.in_ok-insert.ensures.updates.0 in
    placed_more calls c.push.new.self.items c.insert.new.self call c.len-place.result key still named (c.len-place.ensures ∙ c.self.inside.calls.ok.0) c.in_ok-insert.ensures.updates.1
    c.in_ok-push.ensures.items
