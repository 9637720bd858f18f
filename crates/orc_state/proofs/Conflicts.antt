-- Which entry wrote what a plan read.
use Rattle.std.proofs.Common.{◌≡◌, ℕ, zero, suc, ◌+◌, ◌-◌, ◌<◌, false, List, [], ◌∷◌, Some, None, take, drop, length, Contains, refl, sym, ap, subst, ◌∙◌, arith}
use Rattle.std.specs.Prelude.{slice_get}
use Rattle.std.proofs.lemmas.List.Elements.{All-contains, Contains-get_or}
use Rattle.std.proofs.lemmas.List.{take_all}
use Rattle.std.proofs.lemmas.Option.{get_or_from_slice_get, same_Some, slice_get-get_or, slice_get_within}
use Rattle.orc_path.specs.declared.item.Write.{Write}
use Rattle.orc_call.specs.declared.call.Call.{Call}
use Rattle.orc_expr.specs.Touches.{IsUntouched, write_touches_any}
use Rattle.orc_expr.specs.declared.read.Read.{Read}
use Rattle.orc_datastore.specs.Histories.{fold_from}
use Rattle.orc_datastore.specs.Next.{after}
use Rattle.orc_datastore.specs.States.{Datastore, opening}
use Rattle.orc_decls.specs.declared.declarations.Decls.{Decls}
use Rattle.orc_datastore.specs.declared.plan.Plan.{Plan}
use Rattle.orc_plans.specs.Plans.{EachAlong, LeavesReads}
use Rattle.orc_state.specs.Writes.{AreWritesAlong, AreWritesOf}
use Rattle.orc_state.specs.Checks.{Checks, IsConflict, IsUnread, conflicts, reads_of, refused_early}
use Rattle.orc_state.specs.States.{state_at}
use Rattle.orc_call.specs.declared.answer.Answer.{Answer}
use Rattle.orc_call.specs.declared.answer.Answer.TheVariants.{Conflict}
use Rattle.std.specs.declared.result.Result.TheVariants.{Err}
use Rattle.orc_datastore.specs.Legal.{state_of}
use Rattle.orc_state.specs.inside.Firsts.{AreUntouched, IsAnswerAt, IsFirstIn}

-- a row that touches no read is that of a call that leaves them
leaves : (reads : List Read) (s : Datastore) (call : Call) (row : List Write) → AreWritesOf s call row → IsUntouched reads row → LeavesReads reads s call
leaves reads s call row are untouched written is = All-contains (λ (w : Write). write_touches_any reads w ≡ false) row written untouched (are.whole written is)

-- the rows after a front
along_behind : (decls : Decls) (front : ℕ) (s : Datastore) (calls : List Call) (rows : List (List Write)) → AreWritesAlong decls s calls rows
    → AreWritesAlong decls (fold_from decls s (take front calls)) (drop front calls) (drop front rows)
along_behind decls zero s calls rows h = h
along_behind decls (suc n) s [] [] h = h
along_behind decls (suc n) s [] (row ∷ rows) h = absurd h
along_behind decls (suc n) s (call ∷ calls) [] h = absurd h
along_behind decls (suc n) s (call ∷ calls) (row ∷ rows) h = along_behind decls n (after decls s call) calls rows h.1

-- as many rows as calls
pub along_count : (decls : Decls) (s : Datastore) (calls : List Call) (rows : List (List Write)) → AreWritesAlong decls s calls rows → length rows ≡ length calls
along_count decls s [] [] h = refl
along_count decls s [] (row ∷ rows) h = absurd h
along_count decls s (call ∷ calls) [] h = absurd h
along_count decls s (call ∷ calls) (row ∷ rows) h = ap suc (along_count decls (after decls s call) calls rows h.1)

-- the first so many calls leave the reads, where their rows do
each_leaves : (decls : Decls) (reads : List Read) (n : ℕ) (s : Datastore) (calls : List Call) (rows : List (List Write)) → AreWritesAlong decls s calls rows
    → ((i : ℕ) (row : List Write) → i < n → slice_get rows i ≡ Some row → IsUntouched reads row)
    → EachAlong (LeavesReads reads) decls s (take n calls)
each_leaves decls reads zero s calls rows h untouched = tt
each_leaves decls reads (suc n) s [] rows h untouched = tt
each_leaves decls reads (suc n) s (call ∷ calls) [] h untouched = absurd h
each_leaves decls reads (suc n) s (call ∷ calls) (row ∷ rows) h untouched = (
  leaves reads s call row h.0 (untouched 0 row (omega arith) refl),
  each_leaves decls reads n (after decls s call) calls rows h.1 (λ i r lt at. untouched (suc i) r (omega (arith, lt)) at),
)

-- a place after a front
behind_at : {X : Type 0} (front : ℕ) (xs : List X) (i : ℕ) (x : X) → slice_get (drop front xs) i ≡ Some x → slice_get xs (front + i) ≡ Some x
behind_at zero xs i x h = subst (λ k. slice_get xs k ≡ Some x) (omega arith) h
behind_at (suc n) [] i x h = let not_so : None ≡ Some x = h in absurd cc
behind_at (suc n) (y ∷ xs) i x h = let next : suc (n + i) ≡ suc n + i = omega arith in subst (λ k. slice_get (y ∷ xs) k ≡ Some x) next (behind_at n xs i x h)

-- the call of a row
entry_of : (decls : Decls) (at : ℕ) (s : Datastore) (calls : List Call) (rows : List (List Write)) (row : List Write) → AreWritesAlong decls s calls rows
    → slice_get rows at ≡ Some row
    → (call : Call) × (slice_get calls at ≡ Some call) × AreWritesOf (fold_from decls s (take at calls)) call row
entry_of decls at s calls [] row h is = let not_so : None ≡ Some row = is in absurd cc
entry_of decls at s [] (r ∷ rows) row h is = absurd h
entry_of decls zero s (call ∷ calls) (r ∷ rows) row h is = let same : r ≡ row = cc in (call, refl, subst (AreWritesOf s call) same h.0)
entry_of decls (suc n) s (call ∷ calls) (r ∷ rows) row h is = entry_of decls n (after decls s call) calls rows row h.1 is

-- an element has a place
placed : {X : Type 0} (xs : List X) (x : X) → Contains xs x → (i : ℕ) × (slice_get xs i ≡ Some x)
placed {X} xs x h = (h.0, slice_get-get_or xs h.0 x h.1 ∙ ap (λ (y : X). Some y) h.2)

module _ (decls : Decls) (history : List Call) (rows : List (List Write)) (along : AreWritesAlong decls (opening decls) history rows) (plan : Plan) where
  pub unread_whole : AreUntouched (reads_of plan) rows plan.front (length rows) → IsUnread decls history plan
  unread_whole untouched =
      let later = drop plan.front history in
      subst (EachAlong (LeavesReads (reads_of plan)) decls (state_at decls history plan.front)) (take_all (length later) later (omega arith))
      (each_leaves decls (reads_of plan) (length later) (state_at decls history plan.front) later (drop plan.front rows)
      (along_behind decls plan.front (opening decls) history rows along)
      (λ i row lt at. untouched (plan.front + i) row (omega arith) (slice_get_within rows (plan.front + i) row (behind_at plan.front rows i row at)) (behind_at plan.front rows i row at)))

  pub conflict_is : (at : ℕ × ℕ) (first : IsFirstIn (reads_of plan) rows plan.front at) → IsConflict decls history plan at.0 first.first.written
  conflict_is at first =
      let entry = entry_of decls at.0 (opening decls) history rows first.row along first.there in
      let writes : AreWritesOf (state_at decls history at.0) entry.0 first.row = entry.2 in
      let place = slice_get_within first.row at.1 first.first.written first.first.there in
      record {
        later = first.later;
        unread =
            each_leaves decls (reads_of plan) (at.0 - plan.front) (state_at decls history plan.front) (drop plan.front history) (drop plan.front rows)
            (along_behind decls plan.front (opening decls) history rows along)
            (λ i row lt there. first.untouched (plan.front + i) row (omega arith) (let le = first.later in omega (arith, lt, le)) (behind_at plan.front rows i row there));
        entry = entry.0;
        there = entry.1;
        written = writes.sound first.first.written
            (subst (Contains first.row) (get_or_from_slice_get first.row at.1 first.first.written first.first.written first.first.there)
            (Contains-get_or first.row at.1 first.first.written place));
        touching = first.first.touching;
        least = λ other is touches.
            let there = placed first.row other (writes.whole other is) in
            first.first.least there.0 other there.1 touches;
      }

  pub answer_is : (call : Call) (s : Datastore) (at : ℕ × ℕ) (answer : Answer) → s ≡ state_of decls history → refused_early decls s call ≡ None
      → IsFirstIn (reads_of plan) rows plan.front at → IsAnswerAt rows at answer → Checks decls history call plan (Err answer)
  answer_is call s at answer same none first is =
      let row : is.0 ≡ first.row = same_Some is.0 first.row (sym is.1 ∙ first.there) in
      let write : is.2 ≡ first.first.written =
      same_Some is.2 first.first.written (sym is.3 ∙ ap (λ (l : List Write). slice_get l at.1) row ∙ first.first.there) in
      let told : answer ≡ Conflict (at.0 + 1) first.first.written = is.4 ∙ ap (λ (w : Write). Conflict (at.0 + 1) w) write in
      subst (λ (a : Answer). Checks decls history call plan (Err a)) (sym told)
      (conflicts at.0 first.first.written (subst (λ (x : Datastore). refused_early decls x call ≡ None) same none) (conflict_is at first))
