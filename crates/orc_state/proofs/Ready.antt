-- A call that passes the check may be committed.
use Rattle.std.proofs.Common.{◌≡◌, ℕ, List, None}
use Rattle.std.specs.Prelude.{IfOk}
use Rattle.std.specs.declared.result.Result.{Result}
use Rattle.orc_call.specs.declared.answer.Answer.{Answer}
use Rattle.orc_call.specs.declared.call.Call.{Call}
use Rattle.orc_datastore.specs.Actions.{data_after}
use Rattle.orc_datastore.specs.Legal.{IsDue, IsNew, refusal_of, state_of}
use Rattle.orc_datastore.specs.Next.{existence, expanded_call, invalid, unexpanded}
use Rattle.orc_decls.specs.declared.declarations.Decls.{Decls}
use Rattle.orc_datastore.specs.declared.plan.Plan.{Plan}
use Rattle.orc_tree.specs.declared.change.ChangeSet.{ChangeSet}
use Rattle.orc_state.specs.Checks.{Checks, clash_of, clashes, conflicts, early, passes}
use Rattle.orc_state.specs.Laws.{PassedCanCommit}
use Rattle.orc_state.proofs.Checking.{neither}

unclashed : (decls : Decls) (history : List Call) (call : Call) → refusal_of decls history call ≡ None → clash_of decls (state_of decls history) call ≡ None
unclashed decls history call none =
    let s = state_of decls history in
    let first = neither (existence s.live call.actions) _ none in
    let second = neither (invalid decls.data_schema (data_after call.actions s.data)) _ first.1 in
    (neither (unexpanded (expanded_call decls s call)) _ second.1).1

pub passed_can_commit : PassedCanCommit
passed_can_commit decls history call plan answer at (early a is) new = tt
passed_can_commit decls history call plan answer at (conflicts place write none is) new = tt
passed_can_commit decls history call plan answer at (clashes a none unread is) new = tt
passed_can_commit decls history call plan answer at (passes unread none stands) new =
    record { new = new; planned = at; stands = stands; apart = unclashed decls history call none }

-- and is due
pub passed_is_due : (decls : Decls) (history : List Call) (call : Call) (plan : Plan) (answer : Result (List (ℕ × ChangeSet)) Answer)
    → Checks decls history call plan answer → IsNew history call → IfOk answer (λ sets. IsDue decls history call)
passed_is_due decls history call plan answer (early a is) new = tt
passed_is_due decls history call plan answer (conflicts place write none is) new = tt
passed_is_due decls history call plan answer (clashes a none unread is) new = tt
passed_is_due decls history call plan answer (passes unread none stands) new = record { new = new; unrefused = none }
