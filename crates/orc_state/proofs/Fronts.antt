-- Plans at a front of a history.
use Rattle.std.proofs.Common.{◌≡◌, ℕ, List, [], ◌++◌, length, refl, sym, ap, subst, ◌∙◌, arith}
use Rattle.std.specs.declared.result.Result.{Result}
use Rattle.std.specs.Prelude.{IfOk, Option}
use Rattle.std.specs.declared.result.Result.TheVariants.{Ok, Err}
use Rattle.std.proofs.lemmas.List.{length-append, take-append-le, take_all}
use Rattle.orc_call.specs.declared.call.Call.{Call}
use Rattle.orc_datastore.specs.Legal.{state_of}
use Rattle.orc_datastore.specs.Actions.{data_after}
use Rattle.orc_datastore.specs.Next.{IsDataAfter, IsStateOf, existence, invalid}
use Rattle.orc_datastore.specs.Plans.{plan_refusal, plan_unless, planned}
use Rattle.orc_datastore.specs.States.{Datastore, opening}
use Rattle.orc_decls.specs.declared.declarations.Decls.{Decls}
use Rattle.orc_datastore.specs.declared.plan.Plan.{Plan}
use Rattle.orc_datastore.proofs.Legality.{legal_none}
use Rattle.orc_path.specs.declared.item.Write.{Write}
use Rattle.std.specs.declared.option.Option.TheVariants.{None, Some}
use Rattle.orc_call.specs.declared.answer.Answer.{Answer}
use Rattle.orc_datastore.specs.Snapshots.{IsSnapshotOf, Snapshot}
use Rattle.orc_state.specs.Laws.{PlanIsAtFront, PlanStaysAtFront, SnapshotStaysAtFront}
use Rattle.orc_state.specs.States.{IsPlanAt, IsSnapshotAt, IsStateUnder, State, state_at}
use Rattle.orc_state.proofs.Checking.{neither}

-- a plan has the front that it was made at
pub front_of : (o : Option Answer) (made plan : Plan) → plan_unless o made ≡ Ok plan → made ≡ plan
front_of None made plan h = cc
front_of (Some answer) made plan h = absurd cc

-- and nothing refuses its call
pub unrefused_plan : (o : Option Answer) (made plan : Plan) → plan_unless o made ≡ Ok plan → o ≡ None
unrefused_plan None made plan h = refl
unrefused_plan (Some other) made plan h = absurd cc

pub is_at_front : PlanIsAtFront
is_at_front decls history n call plan within is =
    let same : n ≡ plan.front = ap (λ (p : Plan). p.front) (front_of (plan_refusal decls (state_at decls history n) call) _ plan is) in
    record {
      front = omega (arith, within, same);
      planned = subst (λ k. planned decls (state_at decls history k) k call ≡ Ok plan) same is;
    }

-- the datastore that the whole history makes is the present one
pub present : (decls : Decls) (state : State) → IsStateUnder decls state → (n : ℕ) → n ≡ length state.history → state.datastore ≡ state_at decls state.history n
present decls state own n is = own.datastore ∙ ap (state_of decls) (sym (take_all n state.history (omega (arith, is))))

-- where the plan's front is the whole history, its data are those with the call now
pub data_now : (decls : Decls) (state : State) (call : Call) (plan : Plan) → IsStateUnder decls state → IsPlanAt decls state.history call plan
    → plan.front ≡ length state.history → IsDataAfter decls state.datastore call (Ok plan.next)
data_now decls state call plan own at is =
    let s = state_at decls state.history plan.front in
    let none = unrefused_plan (plan_refusal decls s call) _ plan at.planned in
    let first = neither (existence s.live call.actions) _ none in
    let second = neither (invalid decls.data_schema (data_after call.actions s.data)) _ first.1 in
    subst (λ (x : Datastore). IsDataAfter decls x call (Ok plan.next)) (sym (present decls state own plan.front is))
    (sym (ap (λ (p : Plan). p.next) (front_of (plan_refusal decls s call) _ plan at.planned)), first.0, second.0)

pub planned_now : (decls : Decls) (state : State) (call : Call) (plan : Plan) → IsStateUnder decls state
    → planned decls state.datastore (length state.history) call ≡ Ok plan
    → planned decls (state_at decls state.history (length state.history)) (length state.history) call ≡ Ok plan
planned_now decls state call plan own is =
    subst (λ (s : Datastore). planned decls s (length state.history) call ≡ Ok plan) (present decls state own (length state.history) refl) is

-- a snapshot of the present state
pub taken_at : {E : Type 0} (decls : Decls) (state : State) (result : Result Snapshot E) → IsStateUnder decls state
    → IfOk result (λ snapshot. snapshot.front ≡ length state.history) → IfOk result (IsSnapshotOf state.datastore)
    → IfOk result (IsSnapshotAt decls state.history)
taken_at decls state (Ok snapshot) own is of =
    let same = present decls state own snapshot.front is in
    record {
      front = omega (arith, is);
      kept = subst (IsStateOf decls) same own.kept;
      of = subst (λ (s : Datastore). IsSnapshotOf s snapshot) same of;
    }
taken_at decls state (Err fault) own is of = tt

pub snapshot_stays : SnapshotStaysAtFront
snapshot_stays decls history more snapshot own =
    let same : state_at decls history snapshot.front ≡ state_at decls (history ++ more) snapshot.front =
    ap (state_of decls) (sym (take-append-le snapshot.front history more own.front)) in
    record {
      front = let le = own.front in omega (arith, le, length-append history more);
      kept = subst (IsStateOf decls) same own.kept;
      of = subst (λ (s : Datastore). IsSnapshotOf s snapshot) same own.of;
    }

pub stays_at_front : PlanStaysAtFront
stays_at_front decls history more call plan own = record {
  front = let le = own.front in omega (arith, le, length-append history more);
  planned =
      subst (λ (h : List Call). planned decls (state_of decls h) plan.front call ≡ Ok plan) (sym (take-append-le plan.front history more own.front)) own.planned;
}

-- the state that is declared
pub starts : (decls : Decls) (store : Datastore) (history : List Call) (writes : List (List Write)) → store ≡ opening decls → IsStateOf decls store → history ≡ []
    → writes ≡ [] → IsStateUnder decls (record { datastore = store; history = history; writes = writes })
starts decls store history writes is kept hs ws =
    subst (λ (h : List Call). IsStateUnder decls (record { datastore = store; history = h; writes = writes })) (sym hs)
    (subst (λ (w : List (List Write)). IsStateUnder decls (record { datastore = store; history = []; writes = w })) (sym ws)
    (record { legal = legal_none decls; datastore = is; kept = kept; writes = tt }))
