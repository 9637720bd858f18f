-- The devices that a call touches, by look-ups of the services that it takes away.
use Rattle.std.proofs.Common.{◌≡◌, ℕ, ◌<◌, Bool, true, false, ◌&&◌, ◌||◌, List, [], ◌∷◌, map, length, Some, refl, sym, ap, ◌∙◌, arith}
use Rattle.std.specs.Prelude.{if◌then◌else◌}
use Rattle.std.specs.Option.{option_to_list}
use Rattle.std.specs.List.{filter, find, list_any, range_with_len, AllByRecursion, IsDistinct}
use Rattle.std.proofs.Math.Path.{fun_ext}
use Rattle.std.specs.Cmp.Lexicographic.{bytes_decides}
use Rattle.std.proofs.Math.Bool.{or-false}
use Rattle.orc_call.specs.declared.call.Action.{Action}
use Rattle.orc_call.specs.declared.call.Action.TheVariants.{Literal, Delete, BasePut, BaseRemove}
use Rattle.orc_datastore.specs.States.{Datastore, has_id}
use Rattle.orc_decls.specs.Devices.{is_same_text, name_of}
use Rattle.orc_datastore.specs.Touched.{is_held_by, is_touched_by, is_written_by}
use Rattle.orc_datastore.specs.inside.Placed.{AreNamedOnce}
use Rattle.orc_datastore.specs.inside.Marks.{AddsMarks, AreTouched, is_marked, marks_on}
use Rattle.orc_datastore.specs.inside.Touching.{is_on}
use Rattle.orc_datastore.specs.declared.service.Service.{Service}
use Rattle.orc_datastore.proofs.Named.{other_way}
use Rattle.orc_datastore.proofs.Ranges.{filter_in}

-- of services of which no two have one name, those of a name that have an item on a device: the one that is found

none_held : (d : ℕ) (id own : List ℕ) (xs : List Service) → own ≡ id → AllByRecursion (λ other. is_same_text own other ≡ false) (map (λ service. service.id) xs)
    → list_any (is_held_by id d) xs ≡ false
none_held d id own [] same h = refl
none_held d id own (y ∷ ys) same h =
    let another : has_id id y ≡ false = ap (λ (n : List ℕ). is_same_text y.id n) (sym same) ∙ other_way own y.id h.0 in
    ap (λ t. (t && is_on d y) || list_any (is_held_by id d) ys) another ∙ none_held d id own ys same h.1

held_found : (d : ℕ) (id : List ℕ) (live : List Service) → AreNamedOnce live
    → list_any (is_held_by id d) live ≡ list_any (is_on d) (option_to_list (find (has_id id) live))
unfolding IsDistinct
held_found d id [] once = refl
held_found d id (x ∷ xs) once = on (has_id id x) refl (held_found d id xs once.1)
  where
    on : (t : Bool) → has_id id x ≡ t → list_any (is_held_by id d) xs ≡ list_any (is_on d) (option_to_list (find (has_id id) xs))
        → ((t && is_on d x) || list_any (is_held_by id d) xs) ≡ list_any (is_on d) (option_to_list (if t then Some x else find (has_id id) xs))
    on true is rest = ap (λ t. is_on d x || t) (none_held d id x.id xs ((bytes_decides x.id id).0 is) once.0)
    on false is rest = rest

-- what is looked at for a device

module _ (names : List (List ℕ)) (state : Datastore) (once : AreNamedOnce state.live) where
  one : (d : ℕ) (action : Action) → marks_on names state.live action d ≡ is_touched_by names state d action
  one d (Literal id writes) = ap (λ t. is_written_by writes (name_of names d) || t) (sym (held_found d id state.live once))
  one d (Delete id) = sym (held_found d id state.live once)
  one d (BasePut put) = or-false (is_same_text put.device (name_of names d))
  one d (BaseRemove device path) = or-false (is_same_text device (name_of names d))
  one d other = refl

  -- the marks are those of the devices that are touched
  pub marks_touched : (actions : List Action) (none marks : List Bool) → length none ≡ length names → ((d : ℕ) → is_marked none d ≡ false)
      → AddsMarks (λ d. list_any (λ action. marks_on names state.live action d) actions) none marks → AreTouched names state actions marks
  marks_touched actions none marks count clear adds = record {
    len = adds.len ∙ count;
    each = λ d lt.
        adds.each d (omega (arith, lt, count))
        ∙ ap (λ t. t || list_any (λ action. marks_on names state.live action d) actions) (clear d)
        ∙ ap (λ (f : Action → Bool). list_any f actions) (fun_ext (λ action. one d action));
  }

-- their numbers are those that pass the test of the marks

pub numbers_so : (test : ℕ → Bool) (n : ℕ) (marks : List Bool) → length marks ≡ n → ((d : ℕ) → d < n → is_marked marks d ≡ test d)
    → filter (is_marked marks) (range_with_len 0 (length marks)) ≡ filter test (range_with_len 0 n)
numbers_so test n marks len each =
    ap (λ k. filter (is_marked marks) (range_with_len 0 k)) len ∙ filter_in (is_marked marks) test 0 n (λ d less. each d (omega (arith, less)))
