-- A device after a call: what is asked of its store, and what that comes to.
use Rattle.std.proofs.Common.{◌≡◌, ℕ, zero, suc, ◌+◌, ◌<◌, ◌≤◌, ◌==◌, Bool, true, false, cond, ◌||◌, List, [], ◌∷◌, ◌++◌, inl, inr, length, None, Some, slice_get, refl, sym, ap, subst, ◌∙◌, arith}
use Rattle.std.specs.declared.option.Option.{Option}
use Rattle.std.specs.declared.result.Result.{Result}
use Rattle.std.specs.declared.result.Result.TheVariants.{Ok, Err}
use Rattle.std.specs.Prelude.{IfOk}
use Rattle.std.specs.List.{filter, flat_map, list_all, list_any, range_with_len}
use Rattle.std.specs.Cmp.{unsigned_Decides}
use Rattle.std.proofs.lemmas.Bool.{cases_lt}
use Rattle.std.proofs.lemmas.List.{length-append}
use Rattle.orc_call.specs.declared.answer.Answer.{Answer}
use Rattle.orc_call.specs.declared.call.Action.{Action}
use Rattle.orc_refs.specs.Stores.{Store, written_by}
use Rattle.orc_refs.specs.Moves.{IsMoved, StartAt, are_distinct, edit_fits, writes_after}
use Rattle.orc_refs.specs.Clashes.{ClashesAt}
use Rattle.orc_refs.specs.declared.moves.Move.{Move}
use Rattle.orc_refs.specs.declared.moves.BaseEdit.{BaseEdit}
use Rattle.orc_datastore.specs.States.{Datastore}
use Rattle.orc_decls.specs.Devices.{name_of}
use Rattle.orc_datastore.specs.Next.{clash}
use Rattle.orc_datastore.specs.Touched.{is_touched_among, touched_among}
use Rattle.orc_services.specs.Fitting.{FitActions}
use Rattle.orc_datastore.specs.inside.Turns.{edits_of, move_of, turns_of}
use Rattle.orc_datastore.specs.inside.Keeping.{AreChanges, ComesTo, IsBehind, IsChangeOf, IsOpenTo, IsStoreBehind, IsStoreFor, StaysOn, clash_on, picked}
use Rattle.orc_datastore.specs.declared.service.Service.{Service}
use Rattle.orc_datastore.specs.declared.turns.Turn.{Turn}
use Rattle.orc_datastore.proofs.Agreement.{after_unique}
use Rattle.orc_datastore.proofs.Clashing.{clash_found, no_clash_on}
use Rattle.orc_decls.proofs.Lists.{or_second, true_not_false}
use Rattle.orc_datastore.proofs.OnDevice.{device-stays, edits-fit, moved-behind, moves-distinct, moves-start, moves_in, written-behind}
use Rattle.orc_datastore.proofs.Placing.{clash-none, clash-some, clear-more, more-changes, named_unique}

-- what is asked of a store

pub asked-moves : (devices : List (List ℕ)) (live : List Service) (d : ℕ) (actions : List Action) (turns : List Turn) (moves : List Move)
    → turns ≡ flat_map (turns_of devices) actions → moves ≡ flat_map (move_of live d) turns → moves ≡ moves_in devices live d actions
asked-moves devices live d actions turns moves ts ms = ms ∙ ap (flat_map (move_of live d)) ts

pub asked-start : (devices : List (List ℕ)) (live : List Service) (d : ℕ) (actions : List Action) (store : Store) (moves : List Move)
    → moves ≡ moves_in devices live d actions → IsOpenTo live actions → IsStoreFor live d store → StartAt store moves
asked-start devices live d actions store moves ms open_to for = subst (StartAt store) (sym ms) (moves-start devices live d store actions for)

pub asked-distinct : (devices : List (List ℕ)) (live : List Service) (d : ℕ) (actions : List Action) (moves : List Move)
    → moves ≡ moves_in devices live d actions → IsOpenTo live actions → are_distinct moves ≡ true
asked-distinct devices live d actions moves ms open_to =
    subst (λ (m : List Move). are_distinct m ≡ true) (sym ms) (moves-distinct devices live d actions open_to.once)

pub asked-fits : (name : List ℕ) (actions : List Action) (edits : List BaseEdit) → edits ≡ flat_map (edits_of name) actions → FitActions actions
    → list_all edit_fits edits ≡ true
asked-fits name actions edits es fit = subst (λ (e : List BaseEdit). list_all edit_fits e ≡ true) (sym es) (edits-fit name actions fit)

-- what it comes to
pub came-behind : {E : Type 0} (devices : List (List ℕ)) (live : List Service) (d : ℕ) (actions : List Action) (store : Store) (name : List ℕ)
    (moves : List Move) (edits : List BaseEdit) (result : Result (Result Store Answer) E) → moves ≡ moves_in devices live d actions
    → edits ≡ flat_map (edits_of name) actions → name ≡ name_of devices d → IsOpenTo live actions → IsStoreFor live d store
    → IfOk result (ComesTo store moves edits d) → IfOk result (IsStoreBehind devices live actions d store)
came-behind devices live d actions store name moves edits (Ok (Ok new)) ms es ns open_to for came =
    moved-behind devices live d actions store new open_to.once for
    (subst (λ (e : List BaseEdit). IsMoved store (moves_in devices live d actions) e new)
    (es ∙ ap (λ (n : List ℕ). flat_map (edits_of n) actions) ns)
    (subst (λ (m : List Move). IsMoved store m edits new) ms came))
came-behind devices live d actions store name moves edits (Ok (Err answer)) ms es ns open_to for came =
    clash_found devices live d actions (written_by store) came.0 came.1 open_to.once
    (after_unique devices actions live (named_unique live open_to.differ))
    (λ id p. written-behind devices live d id p (written_by store) actions live open_to.once (for.of.writers id p) (for.of.writers id p))
    (subst (λ (m : List Move). ClashesAt (writes_after m (written_by store)) m came.0 came.1) ms came.3)
    ∙ ap (λ (a : Answer). Some a) (sym came.2)
came-behind devices live d actions store name moves edits (Err fault) ms es ns open_to for came = came

-- a store after a call meets no clash
pub behind-clear : (devices : List (List ℕ)) (live : List Service) (actions : List Action) (d : ℕ) (store new : Store) → IsOpenTo live actions
    → IsBehind devices live actions d store.base new → clash_on devices live actions d ≡ None
behind-clear devices live actions d store new open_to behind =
    no_clash_on devices live actions d new open_to.once (after_unique devices actions live (named_unique live open_to.differ)) behind.holds

-- devices that are not touched

not_among : (p : ℕ → Bool) (a n d : ℕ) → a ≤ d → d < a + n → list_any (λ e. e == d) (filter p (range_with_len a n)) ≡ false → p d ≡ false
not_among p a zero d le lt h = absurd (omega (arith, le, lt))
not_among p a (suc n) d le lt h =
    elim (cases_lt a d) [
      | inl less ↦ not_among p (a + 1) n d (omega (arith, less)) (omega (arith, lt)) (rest (p a) h)
      | inr upto ↦ here (p a) refl (omega (arith, le, upto)) h
    ]
  where
    later : List ℕ
    later = filter p (range_with_len (a + 1) n)

    rest : (t : Bool) → list_any (λ e. e == d) (cond t (a ∷ later) later) ≡ false → list_any (λ e. e == d) later ≡ false
    rest true k = or_second (a == d) (list_any (λ e. e == d) later) k
    rest false k = k

    itself : (x : ℕ) → (x == x) ≡ true
    itself x = (unsigned_Decides x x).1 refl

    here : (t : Bool) → p a ≡ t → a ≡ d → list_any (λ e. e == d) (cond t (a ∷ later) later) ≡ false → p d ≡ false
    here true is same k =
        absurd (true_not_false (sym (ap (λ x. x || list_any (λ e. e == d) later) (ap (λ x. x == d) same ∙ itself d)) ∙ k))
    here false is same k = ap p (sym same) ∙ is

pub untouched-stays : (devices : List (List ℕ)) (state : Datastore) (actions : List Action) (live : List Service) (touched : List ℕ) (d : ℕ)
    → live ≡ state.live → touched ≡ touched_among devices state actions → IsOpenTo live actions → d < length devices
    → list_any (λ e. e == d) touched ≡ false → StaysOn devices live actions d
untouched-stays devices state actions live touched d ls ts open_to lt off =
    let quiet : is_touched_among devices state actions d ≡ false =
    not_among (is_touched_among devices state actions) 0 (length devices) d (omega arith) (omega (arith, lt))
    (ap (list_any (λ e. e == d)) (sym ts) ∙ off) in
    subst (λ (l : List Service). StaysOn devices l actions d) (sym ls) (device-stays devices state d actions open_to.once quiet)

-- the changes of the first stores, which meet no clash
pub record AreClear (devices : List (List ℕ)) (live : List Service) (actions : List Action) (stores : List Store) (changes : List (Option Store)) (n : ℕ) : Type 0 where
  pub count : length changes ≡ n
  pub grown : AreChanges devices live actions stores changes
  pub clear : (device : ℕ) → device < n → clash_on devices live actions device ≡ None

pub none-yet : (devices : List (List ℕ)) (live : List Service) (actions : List Action) (stores : List Store) (changes : List (Option Store))
    → changes ≡ [] → AreClear devices live actions stores changes 0
none-yet devices live actions stores changes none = record {
  count = ap (λ (l : List (Option Store)). length l) none;
  grown = record { each = λ d s c hs hc. nothing (ap (λ (l : List (Option Store)). slice_get l d) (sym none) ∙ hc) };
  clear = λ d lt. absurd (omega (arith, lt));
}
  where
    nothing : {X : Type 0} {c : Option Store} → None ≡ Some c → X
    nothing e = absurd cc

pub one-more : (devices : List (List ℕ)) (live : List Service) (actions : List Action) (stores : List Store) (changes new : List (Option Store)) (n : ℕ)
    (store : Store) (change : Option Store) → IsOpenTo live actions → AreClear devices live actions stores changes n → slice_get stores n ≡ Some store
    → IsBehind devices live actions n store.base (picked store change) → new ≡ changes ++ change ∷ []
    → AreClear devices live actions stores new (n + 1)
one-more devices live actions stores changes new n store change open_to before at behind more = record {
  count = omega (arith, ap (λ (l : List (Option Store)). length l) more, length-append changes (change ∷ []), before.count);
  grown = subst (AreChanges devices live actions stores) (sym more)
      (more-changes devices live actions stores changes store change before.grown
      (ap (slice_get stores) before.count ∙ at)
      (subst (λ m. IsBehind devices live actions m store.base (picked store change)) (sym before.count) behind));
  clear = clear-more (clash_on devices live actions) n before.clear (behind-clear devices live actions n store (picked store change) open_to behind);
}

pub all-clear : (devices : List (List ℕ)) (live : List Service) (actions : List Action) (stores : List Store) (changes : List (Option Store)) (n : ℕ)
    → length stores ≡ length devices → n ≡ length stores → AreClear devices live actions stores changes n
    → (length changes ≡ length stores) × AreChanges devices live actions stores changes × (clash devices live actions ≡ None)
all-clear devices live actions stores changes n count is clear = (
  clear.count ∙ is,
  clear.grown,
  clash-none devices live actions (λ j lt. clear.clear j (omega (arith, lt, count, is))),
)

pub first-clash : (devices : List (List ℕ)) (live : List Service) (actions : List Action) (stores : List Store) (changes : List (Option Store)) (n : ℕ)
    (answer : Answer) → n < length devices → AreClear devices live actions stores changes n → clash_on devices live actions n ≡ Some answer
    → clash devices live actions ≡ Some answer
first-clash devices live actions stores changes n answer lt clear here = clash-some devices live actions n answer lt clear.clear here

-- what a change came to, by its cases
pub clash-here : (devices : List (List ℕ)) (live : List Service) (actions : List Action) (d : ℕ) (store : Store) (result : Result (Option Store) Answer)
    (answer : Answer) → IsChangeOf devices live actions d store result → result ≡ Err answer → clash_on devices live actions d ≡ Some answer
clash-here devices live actions d store result answer of is = subst (IsChangeOf devices live actions d store) is of

pub change-here : (devices : List (List ℕ)) (live : List Service) (actions : List Action) (d : ℕ) (store : Store) (result : Result (Option Store) Answer)
    (change : Option Store) → IsChangeOf devices live actions d store result → result ≡ Ok change
    → IsBehind devices live actions d store.base (picked store change)
change-here devices live actions d store result change of is = subst (IsChangeOf devices live actions d store) is of
