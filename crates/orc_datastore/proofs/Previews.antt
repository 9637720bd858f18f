-- What a device shows of expanded actions that aren't done.
use Rattle.std.proofs.Common.{◌≡◌, ℕ, zero, suc, ◌+◌, ◌<◌, Bool, true, false, List, [], ◌∷◌, ◌++◌, map, length, None, Some, slice_get, refl, sym, ap, subst, ◌∙◌, arith}
use Rattle.std.specs.declared.result.Result.{Result}
use Rattle.std.specs.declared.result.Result.TheVariants.{Ok, Err}
use Rattle.std.specs.Prelude.{IfOk}
use Rattle.std.specs.List.{filter, flat_map, fold, range_with_len}
use Rattle.std.proofs.lemmas.List.{length-map}
use Rattle.orc_path.specs.Configurations.{Config}
use Rattle.orc_call.specs.declared.answer.Answer.{Answer}
use Rattle.orc_call.specs.declared.call.Action.{Action}
use Rattle.orc_change.specs.Differences.{difference}
use Rattle.orc_refs.specs.Live.{StoreIsOverlay, overlaid}
use Rattle.orc_refs.specs.Stores.{Store}
use Rattle.orc_refs.specs.declared.moves.BaseEdit.{BaseEdit}
use Rattle.orc_refs.specs.declared.moves.Move.{Move}
use Rattle.orc_tree.specs.declared.change.Change.{Change}
use Rattle.orc_tree.specs.declared.change.ChangeSet.{ChangeSet}
use Rattle.orc_datastore.specs.States.{Datastore, config_of, part, tree_due}
use Rattle.orc_decls.specs.Devices.{name_of}
use Rattle.orc_datastore.specs.Actions.{base_step, bases_after, live_after}
use Rattle.orc_datastore.specs.Sets.{AreSets, on_devices, set_between, sets_between}
use Rattle.orc_datastore.specs.Touched.{is_touched_among}
use Rattle.orc_datastore.specs.inside.Keeping.{AreKept, IsBehind, IsOpenTo, IsStoreFor, clash_on, on_device}
use Rattle.orc_datastore.specs.inside.Placed.{AreNamedOnce}
use Rattle.orc_datastore.specs.inside.Previews.{IsSetAt, Shows}
use Rattle.orc_datastore.specs.inside.Turns.{edits_of}
use Rattle.orc_datastore.specs.declared.service.Service.{Service}
use Rattle.orc_datastore.proofs.Changing.{Course}
use Rattle.orc_datastore.proofs.Devices.{behind-clear, came-behind}
use Rattle.orc_datastore.proofs.Once.{once_after}
use Rattle.orc_datastore.proofs.OnDevice.{device-stays, moves_in}
use Rattle.orc_datastore.proofs.Placing.{based, clash-none, clash-some, clear-more, laid_same, named_apart, tree-kept}
use Rattle.orc_datastore.proofs.Ranges.{filter-more_no, filter-more_yes}

-- the base of a device after actions
base_is : (names : List (List ℕ)) (acts : List Action) (bases : List Config) (d : ℕ) → d < length names → length bases ≡ length names
    → config_of (bases_after names acts bases) d ≡ fold (base_step (name_of names d)) (config_of bases d) acts
base_is [] acts bases d lt count = absurd (omega (arith, lt))
base_is (name ∷ names) acts [] d lt count = absurd (omega (arith, count))
base_is (name ∷ names) acts (base ∷ bases) zero lt count = refl
base_is (name ∷ names) acts (base ∷ bases) (suc d) lt count = base_is names acts bases d (omega (arith, lt)) (omega (arith, count))

module _ (law : StoreIsOverlay) (s : Datastore) (names : List (List ℕ)) (acts : List Action) (live : List Service) (stores : List Store)
    (c : Course s names acts live stores) (differ : AreNamedOnce live) (d : ℕ) (store : Store) (within : d < length names)
    (at : slice_get stores d ≡ Some store) where
  same_live : live ≡ s.live
  same_live = ap (λ (z : Datastore). z.live) c.view

  open_to : IsOpenTo live acts
  open_to = record { once = c.once; differ = differ }

  for : IsStoreFor live d store
  for = c.kept.each d store at

  -- the tree before them
  tree_is : store.tree ≡ tree_due s d
  tree_is =
      tree-kept law s stores d store (subst (AreKept stores) same_live c.kept) (subst AreNamedOnce same_live differ)
      (sym (ap (λ (z : Datastore). z.bases) c.view)) at

  base_at : config_of s.bases d ≡ store.base
  base_at = ap (λ (z : Datastore). config_of z.bases d) (sym c.view) ∙ based stores d store at

  -- and after them
  tree_behind : (new : Store) → IsBehind names live acts d store.base new → new.tree ≡ tree_due (on_devices names acts s) d
  tree_behind new behind =
      let after = live_after names acts live in
      let base : new.base ≡ config_of (bases_after names acts s.bases) d =
      behind.edited ∙ ap (λ (b : Config). fold (base_step (name_of names d)) b acts) (sym base_at) ∙ sym (base_is names acts s.bases d within c.bases) in
      (law (on_device after d) new.base new behind.holds.sound behind.holds.of (named_apart after d (once_after names acts live differ))).0
      ∙ laid_same after d new.base
      ∙ ap (λ (l : List Service). overlaid (map (λ service. part service d) (live_after names acts l)) new.base) same_live
      ∙ ap (overlaid (map (λ service. part service d) (live_after names acts s.live))) base

  pub set-at : {E : Type 0} (name : List ℕ) (moves : List Move) (edits : List BaseEdit) (result : Result (Result ChangeSet Answer) E)
      → moves ≡ moves_in names live d acts → edits ≡ flat_map (edits_of name) acts → name ≡ name_of names d
      → IfOk result (Shows store moves edits d) → IfOk result (IsSetAt names acts s d)
  set-at {E} name moves edits (Ok (Ok set)) ms es ns came =
      let none : Result (Result Store Answer) E = Ok (Ok came.after) in
      let behind : IsBehind names live acts d store.base came.after =
      came-behind names live d acts store name moves edits none ms es ns open_to for came.moved in (
        ap (λ (l : List Service). clash_on names l acts d) (sym same_live) ∙ behind-clear names live acts d store came.after open_to behind,
        ap (λ (l : List Change). record { changes = l })
            (came.exact ∙ ap (λ (t : Config). difference t came.after.tree) tree_is ∙ ap (difference (tree_due s d)) (tree_behind came.after behind)),
      )
  set-at {E} name moves edits (Ok (Err answer)) ms es ns came =
      let clashes : Result (Result Store Answer) E = Ok (Err answer) in
      ap (λ (l : List Service). clash_on names l acts d) (sym same_live)
      ∙ came-behind names live d acts store name moves edits clashes ms es ns open_to for came
  set-at {E} name moves edits (Err fault) ms es ns came = came

-- the sets of the devices so far

pub record AreSetsTo (names : List (List ℕ)) (acts : List Action) (s : Datastore) (sets : List (ℕ × ChangeSet)) (n : ℕ) : Type 0 where
  pub clear : (device : ℕ) → device < n → clash_on names s.live acts device ≡ None
  pub made : sets ≡ sets_between s (on_devices names acts s) (filter (is_touched_among names s acts) (range_with_len 0 n))

there_is : {X : Type 0} (xs : List X) (n : ℕ) → n < length xs → (x : X) × (slice_get xs n ≡ Some x)
there_is [] n lt = absurd (omega (arith, lt))
there_is (x ∷ xs) zero lt = (x, refl)
there_is (x ∷ xs) (suc n) lt = there_is xs n (omega (arith, lt))

mapped : {X Y : Type 0} (f : X → Y) (xs : List X) (x : X) → map f (xs ++ x ∷ []) ≡ map f xs ++ f x ∷ []
mapped f [] x = refl
mapped f (y ∷ xs) x = ap (λ l. f y ∷ l) (mapped f xs x)

module _ (names : List (List ℕ)) (acts : List Action) (s : Datastore) where
  pub no-sets : (sets : List (ℕ × ChangeSet)) → sets ≡ [] → AreSetsTo names acts s sets 0
  no-sets sets none = record { clear = λ d lt. absurd (omega (arith, lt)); made = none }

  -- a device that they touch
  pub one-set : (sets new : List (ℕ × ChangeSet)) (n : ℕ) (test : Bool) (found : Result ChangeSet Answer) (set : ChangeSet) → AreSetsTo names acts s sets n
      → test ≡ is_touched_among names s acts n → test ≡ true → IsSetAt names acts s n found → found ≡ Ok set → new ≡ sets ++ (n, set) ∷ []
      → AreSetsTo names acts s new (n + 1)
  one-set sets new n test found set so passes is at was more =
      let here : IsSetAt names acts s n (Ok set) = subst (IsSetAt names acts s n) was at in
      let one : ℕ → ℕ × ChangeSet = λ device. (device, record { changes = set_between s (on_devices names acts s) device }) in
      record {
        clear = clear-more (clash_on names s.live acts) n so.clear here.0;
        made =
            more ∙ ap (λ (l : List (ℕ × ChangeSet)). l ++ (n, set) ∷ []) so.made
            ∙ ap (λ (x : ChangeSet). sets_between s (on_devices names acts s) (filter (is_touched_among names s acts) (range_with_len 0 n)) ++ (n, x) ∷ []) here.1
            ∙ sym (mapped one (filter (is_touched_among names s acts) (range_with_len 0 n)) n)
            ∙ ap (map one) (filter-more_yes (is_touched_among names s acts) n test (filter (is_touched_among names s acts) (range_with_len 0 n))
            (filter (is_touched_among names s acts) (range_with_len 0 n) ++ n ∷ []) passes is refl refl);
      }

  -- and one that they don't
  pub no-set : (sets : List (ℕ × ChangeSet)) (n : ℕ) (test : Bool) (live : List Service) (stores : List Store) → Course s names acts live stores → AreNamedOnce live
      → AreSetsTo names acts s sets n → test ≡ is_touched_among names s acts n → test ≡ false → n < length names → AreSetsTo names acts s sets (n + 1)
  no-set sets n test live stores c differ so fails is within =
      let same : live ≡ s.live = ap (λ (z : Datastore). z.live) c.view in
      let count : length stores ≡ length names =
      sym (length-map stores (λ (store : Store). store.base)) ∙ ap (λ (z : Datastore). length z.bases) c.view ∙ c.bases in
      let one = there_is stores n (omega (arith, within, count)) in
      let behind : IsBehind names s.live acts n one.0.base one.0 =
      device-stays names s n acts c.once (sym fails ∙ is) one.0 (subst (λ (l : List Service). IsStoreFor l n one.0) same (c.kept.each n one.0 one.1)) in
      record {
        clear = clear-more (clash_on names s.live acts) n so.clear
            (behind-clear names s.live acts n one.0 one.0 (record { once = c.once; differ = subst AreNamedOnce same differ }) behind);
        made =
            so.made ∙ ap (sets_between s (on_devices names acts s))
            (filter-more_no (is_touched_among names s acts) n test (filter (is_touched_among names s acts) (range_with_len 0 n)) fails is refl);
      }

  pub all-sets : (sets : List (ℕ × ChangeSet)) (n : ℕ) → AreSetsTo names acts s sets n → n ≡ length names → AreSets names acts s (Ok sets)
  all-sets sets n so is = (
    clash-none names s.live acts (λ j lt. so.clear j (omega (arith, lt, is))),
    so.made ∙ ap (λ m. sets_between s (on_devices names acts s) (filter (is_touched_among names s acts) (range_with_len 0 m))) is,
  )

  pub clash-there : (sets : List (ℕ × ChangeSet)) (n : ℕ) (found : Result ChangeSet Answer) (answer : Answer) → AreSetsTo names acts s sets n → n < length names
      → IsSetAt names acts s n found → found ≡ Err answer → AreSets names acts s (Err answer)
  clash-there sets n found answer so lt at was = clash-some names s.live acts n answer lt so.clear (subst (IsSetAt names acts s n) was at)
