-- No two living services have one name after actions either.
use Rattle.std.proofs.Common.{◌≡◌, ℕ, Bool, true, false, cond, not, List, [], ◌∷◌, ◌++◌, map, refl, sym, subst, append-nil}
use Rattle.std.specs.List.{filter, AllByRecursion, IsDistinct}
use Rattle.orc_call.specs.declared.call.Action.{Action}
use Rattle.orc_call.specs.declared.call.Action.TheVariants.{Literal}
use Rattle.orc_datastore.specs.States.{expansion}
use Rattle.orc_decls.specs.Devices.{is_same_text}
use Rattle.orc_datastore.specs.Actions.{live_after, live_step, names}
use Rattle.orc_datastore.specs.inside.Placed.{AreNamedOnce}
use Rattle.orc_datastore.specs.declared.service.Service.{Service}

-- this name is that of none of these services
abbrev Apart : List ℕ → List Service → Type 0
Apart own xs = AllByRecursion (λ y. is_same_text own y ≡ false) (map (λ (s : Service). s.id) xs)

-- none of these services has this name
abbrev Away : List ℕ → List Service → Type 0
Away id xs = AllByRecursion (λ (s : Service). is_same_text s.id id ≡ false) xs

apart_left : (p : Service → Bool) (own : List ℕ) (xs : List Service) → Apart own xs → Apart own (filter p xs)
apart_left p own [] h = h
apart_left p own (x ∷ xs) h = on (p x) (apart_left p own xs h.1)
  where
    on : (t : Bool) → Apart own (filter p xs) → Apart own (cond t (x ∷ filter p xs) (filter p xs))
    on true rest = (h.0, rest)
    on false rest = rest

apart_more : (own : List ℕ) (xs : List Service) (s : Service) → Apart own xs → is_same_text own s.id ≡ false → Apart own (xs ++ s ∷ [])
apart_more own [] s h away = (away, tt)
apart_more own (x ∷ xs) s h away = (h.0, apart_more own xs s h.1 away)

once_left : (p : Service → Bool) (xs : List Service) → AreNamedOnce xs → AreNamedOnce (filter p xs)
unfolding IsDistinct
once_left p [] h = h
once_left p (x ∷ xs) h = on (p x) (once_left p xs h.1)
  where
    on : (t : Bool) → AreNamedOnce (filter p xs) → AreNamedOnce (cond t (x ∷ filter p xs) (filter p xs))
    on true rest = (apart_left p x.id xs h.0, rest)
    on false rest = rest

once_more : (xs : List Service) (s : Service) → AreNamedOnce xs → Away s.id xs → AreNamedOnce (xs ++ s ∷ [])
unfolding IsDistinct
once_more [] s h away = (tt, tt)
once_more (x ∷ xs) s h away = (apart_more x.id xs s h.0 away.0, once_more xs s h.1 away.1)

away_left : (id : List ℕ) (xs : List Service) → Away id (filter (λ (s : Service). not (is_same_text s.id id)) xs)
away_left id [] = tt
away_left id (x ∷ xs) = on (is_same_text x.id id) refl (away_left id xs)
  where
    on : (t : Bool) → is_same_text x.id id ≡ t → Away id (filter (λ (s : Service). not (is_same_text s.id id)) xs)
        → Away id (cond (not t) (x ∷ filter (λ (s : Service). not (is_same_text s.id id)) xs) (filter (λ (s : Service). not (is_same_text s.id id)) xs))
    on true is rest = rest
    on false is rest = (is, rest)

nothing_more : (xs : List Service) → AreNamedOnce xs → AreNamedOnce (xs ++ [])
nothing_more xs h = subst AreNamedOnce (sym (append-nil xs)) h

step_once : (devices : List (List ℕ)) (action : Action) (live : List Service) → AreNamedOnce live → AreNamedOnce (live_step devices live action)
step_once devices (Literal id ws) live h =
    once_more (filter (λ (s : Service). not (is_same_text s.id id)) live) (record { id = id; parts = expansion devices ws })
    (once_left (λ (s : Service). not (is_same_text s.id id)) live h) (away_left id live)
step_once devices other live h = nothing_more (filter (λ (s : Service). not (names other s.id)) live) (once_left (λ (s : Service). not (names other s.id)) live h)

pub once_after : (devices : List (List ℕ)) (actions : List Action) (live : List Service) → AreNamedOnce live → AreNamedOnce (live_after devices actions live)
once_after devices [] live h = h
once_after devices (action ∷ actions) live h = once_after devices actions (live_step devices live action) (step_once devices action live h)
