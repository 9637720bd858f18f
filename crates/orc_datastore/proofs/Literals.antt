-- What an expansion writes is what its literal service holds.
use Rattle.std.proofs.Common.{◌≡◌, ℕ, zero, suc, Bool, true, false, cond, List, [], ◌∷◌, ◌++◌, ◌⊎◌, inl, inr, map, length, Some, None, is_some, refl, sym, ap, ◌∙◌, arith, append_assoc, append-nil}
use Rattle.std.specs.Prelude.{Option, slice_get}
use Rattle.std.specs.List.{AllByRecursion, IsDistinct}
use Rattle.std.specs.FinMap.{empty, entries, get, get-empty, get-entries}
use Rattle.std.specs.FinMap as rows
use Rattle.std.specs.Ordering.{eq_by_cmp}
use Rattle.std.proofs.lemmas.List.{length-map}
use Rattle.std.proofs.lemmas.Map.Keys.{IsDistinct-head, IsDistinct-tail}
use Rattle.orc_path.specs.Steps.{PathStep}
use Rattle.orc_path.specs.Order.{path_cmp}
use Rattle.orc_path.specs.Configurations.{Config, IsConfig, IsWay, put_item}
use Rattle.orc_path.specs.declared.item.Item.{Item}
use Rattle.orc_path.specs.declared.item.Item.TheVariants.{Entry}
use Rattle.orc_path.proofs.ConfigurationLaws.{get-put_item-here, put_item_cases, same_config, same_path, is_entry-some}
use Rattle.orc_change.specs.inside.Held.{AreHeld}
use Rattle.orc_change.proofs.Exact.{entries_are}
use Rattle.orc_call.specs.declared.call.DevicePut.{DevicePut}
use Rattle.orc_call.specs.declared.call.Put.{Put}
use Rattle.orc_refs.specs.Moves.{items_of}
use Rattle.orc_template.specs.Expansions.{row_put}
use Rattle.orc_template.specs.Laws.{AreDeviceTrees, WrittenIsTyped}
use Rattle.orc_services.specs.Expanded.{write_of, writes_of, writes_to}
use Rattle.orc_datastore.specs.States.{expansion, puts_on}
use Rattle.orc_decls.specs.Devices.{is_same_text}
use Rattle.orc_decls.specs.Openings.{put_all}
use Rattle.orc_datastore.specs.Laws.{LiteralIsExpansion}
use Rattle.orc_decls.specs.declared.declarations.Device.{Device}
use Rattle.orc_datastore.proofs.Named.{is_text_itself, other_way}
use Rattle.orc_datastore.proofs.Written.{own_schema}

-- a configuration is made again by putting its items, in path order, into none

module _ (m : Config) (whole : IsConfig m) where
  put_stays : (n : Config) (p : List PathStep) (item : Item) (q : List PathStep) → get m p ≡ Some item → get n q ≡ get m q
      → get (put_item n p item) q ≡ get m q
  put_stays n p item q held h = on (put_item_cases n p item q)
    where
      on : ((q ≡ p) × (get (put_item n p item) q ≡ Some item)) ⊎ ((IsWay q p × (get (put_item n p item) q ≡ Some Entry)) ⊎ (get (put_item n p item) q ≡ get n q))
          → get (put_item n p item) q ≡ get m q
      on (inl here) = here.1 ∙ sym (ap (λ (x : List PathStep). get m x) here.0 ∙ held)
      on (inr (inl way)) = way.1 ∙ sym (is_entry-some (get m q) (whole.ways p q (ap is_some held) way.0))
      on (inr (inr same)) = same ∙ h

  all_stay : (held : List (List PathStep × Item)) (n : Config) (q : List PathStep) → AreHeld m held → get n q ≡ get m q
      → get (put_all (map row_put held) n) q ≡ get m q
  all_stay [] n q are h = h
  all_stay (row ∷ held) n q are h = all_stay held (put_item n row.0 row.1) q are.1 (put_stays n row.0 row.1 q are.0 h)

  one_there : (held : List (List PathStep × Item)) (n : Config) (q : List PathStep) (item : Item) → AreHeld m held → rows.find path_cmp q held ≡ Some item
      → get (put_all (map row_put held) n) q ≡ get m q
  one_there [] n q item are h = let not_so : None ≡ Some item = h in absurd cc
  one_there (row ∷ held) n q item are h = on (eq_by_cmp path_cmp q row.0) refl h (one_there held (put_item n row.0 row.1) q item are.1)
    where
      on : (t : Bool) → eq_by_cmp path_cmp q row.0 ≡ t → cond t (Some row.1) (rows.find path_cmp q held) ≡ Some item
          → (rows.find path_cmp q held ≡ Some item → get (put_all (map row_put held) (put_item n row.0 row.1)) q ≡ get m q)
          → get (put_all (map row_put held) (put_item n row.0 row.1)) q ≡ get m q
      on true is e rest =
          let same : q ≡ row.0 = same_path q row.0 is in
          all_stay held (put_item n row.0 row.1) q are.1
          (ap (λ (x : List PathStep). get (put_item n row.0 row.1) x) same ∙ get-put_item-here n row.0 row.1 ∙ sym (ap (λ (x : List PathStep). get m x) same ∙ are.0))
      on false is e rest = rest e

  rebuilt : put_all (items_of m) empty ≡ m
  rebuilt = same_config (put_all (items_of m) empty) m (λ q. on q (get m q) refl)
    where
      on : (q : List PathStep) (o : Option Item) → get m q ≡ o → get (put_all (items_of m) empty) q ≡ get m q
      on q None is = all_stay (entries m) empty q (entries_are m) (get-empty path_cmp q ∙ sym is)
      on q (Some item) is = one_there (entries m) empty q item (entries_are m) (sym (get-entries m q) ∙ is)

-- the writes of devices, on one of them

puts-append : (name : List ℕ) (xs ys : List DevicePut) → puts_on name (xs ++ ys) ≡ puts_on name xs ++ puts_on name ys
puts-append name [] ys = refl
puts-append name (x ∷ xs) ys = on (is_same_text x.device name) (puts-append name xs ys)
  where
    put : Put
    put = record { path = x.path; item = x.item }

    on : (t : Bool) → puts_on name (xs ++ ys) ≡ puts_on name xs ++ puts_on name ys
        → cond t (put ∷ puts_on name (xs ++ ys)) (puts_on name (xs ++ ys)) ≡ cond t (put ∷ puts_on name xs) (puts_on name xs) ++ puts_on name ys
    on true rest = ap (λ (l : List Put). put ∷ l) rest
    on false rest = rest

own_rows : (name : List ℕ) (held : List (List PathStep × Item)) → puts_on name (map (write_of name) held) ≡ map row_put held
own_rows name [] = refl
own_rows name (row ∷ held) =
    ap (λ t. cond t (row_put row ∷ puts_on name (map (write_of name) held)) (puts_on name (map (write_of name) held))) (is_text_itself name)
    ∙ ap (λ (l : List Put). row_put row ∷ l) (own_rows name held)

other_rows : (own name : List ℕ) (held : List (List PathStep × Item)) → is_same_text own name ≡ false → puts_on name (map (write_of own) held) ≡ []
other_rows own name [] h = refl
other_rows own name (row ∷ held) h =
    ap (λ t. cond t (row_put row ∷ puts_on name (map (write_of own) held)) (puts_on name (map (write_of own) held))) h ∙ other_rows own name held h

none_on : (name : List ℕ) (names : List (List ℕ)) (trees : List Config) → AllByRecursion (λ other. is_same_text name other ≡ false) names
    → puts_on name (writes_of names trees) ≡ []
none_on name [] trees h = refl
none_on name (n ∷ names) [] h = refl
none_on name (n ∷ names) (t ∷ trees) h =
    puts-append name (writes_to n t) (writes_of names trees)
    ∙ ap (λ (l : List Put). l ++ puts_on name (writes_of names trees)) (other_rows n name (entries t) (other_way name n h.0))
    ∙ none_on name names trees h.1

-- none of these devices has a write before
abbrev AreBare : List DevicePut → List (List ℕ) → Type 0
AreBare front names = AllByRecursion (λ name. puts_on name front ≡ []) names

bare_more : (front : List DevicePut) (own : List ℕ) (t : Config) (names : List (List ℕ)) → AreBare front names
    → AllByRecursion (λ other. is_same_text own other ≡ false) names → AreBare (front ++ writes_to own t) names
bare_more front own t [] bare h = tt
bare_more front own t (name ∷ names) bare h = (
  puts-append name front (writes_to own t) ∙ ap (λ (l : List Put). l ++ puts_on name (writes_to own t)) bare.0 ∙ other_rows own name (entries t) h.0,
  bare_more front own t names bare.1 h.1,
)

held_parts : (names : List (List ℕ)) (trees : List Config) (front : List DevicePut) → IsDistinct is_same_text names → length trees ≡ length names
    → ((n : ℕ) (t : Config) → slice_get trees n ≡ Some t → IsConfig t) → AreBare front names
    → expansion names (front ++ writes_of names trees) ≡ trees
held_parts [] [] front once count whole bare = refl
held_parts [] (t ∷ trees) front once count whole bare = absurd (omega (arith, count))
held_parts (name ∷ names) [] front once count whole bare = absurd (omega (arith, count))
held_parts (name ∷ names) (t ∷ trees) front once count whole bare =
    ap (λ (c : Config). c ∷ map (λ (n : List ℕ). put_all (puts_on n all) empty) names) own
    ∙ ap (λ (l : List Config). t ∷ l)
    (ap (λ (ws : List DevicePut). expansion names ws) (sym (append_assoc front (writes_to name t) (writes_of names trees)))
    ∙ held_parts names trees (front ++ writes_to name t) (IsDistinct-tail is_same_text name names once) (omega (arith, count))
    (λ n x there. whole (suc n) x there) (bare_more front name t names bare.1 others))
  where
    all : List DevicePut
    all = front ++ (writes_to name t ++ writes_of names trees)

    others : AllByRecursion (λ other. is_same_text name other ≡ false) names
    others = IsDistinct-head is_same_text name names once

    mine : puts_on name all ≡ items_of t
    mine =
        puts-append name front (writes_to name t ++ writes_of names trees)
        ∙ ap (λ (l : List Put). l ++ puts_on name (writes_to name t ++ writes_of names trees)) bare.0
        ∙ puts-append name (writes_to name t) (writes_of names trees)
        ∙ ap (λ (l : List Put). puts_on name (writes_to name t) ++ l) (none_on name names trees others)
        ∙ append-nil (puts_on name (writes_to name t))
        ∙ own_rows name (entries t)

    own : put_all (puts_on name all) empty ≡ t
    own = ap (λ (l : List Put). put_all l empty) mine ∙ rebuilt t (whole 0 t refl)

-- the trees of an expansion are configurations

both_there : {X Y : Type 0} (xs : List X) (ys : List Y) (n : ℕ) (y : Y) → length ys ≡ length xs → slice_get ys n ≡ Some y → (x : X) × (slice_get xs n ≡ Some x)
both_there xs [] n y count h = let not_so : None ≡ Some y = h in absurd cc
both_there [] (z ∷ ys) n y count h = absurd (omega (arith, count))
both_there (x ∷ xs) (z ∷ ys) zero y count h = (x, refl)
both_there (x ∷ xs) (z ∷ ys) (suc n) y count h = both_there xs ys n y (omega (arith, count)) h

no_front : (names : List (List ℕ)) → AreBare [] names
no_front [] = tt
no_front (name ∷ names) = (refl, no_front names)

pub literal_is_expansion : WrittenIsTyped → LiteralIsExpansion
literal_is_expansion law decls config it e is due =
    held_parts decls.names e.written [] is.distinct (are.one_each ∙ named)
    (λ n t there. let device = both_there decls.devices e.written n t (are.one_each ∙ named ∙ count) there in (are.written n t _ there (own_schema decls is n device.0 device.1)).whole)
    (no_front decls.names)
  where
    are : AreDeviceTrees decls.table e.written
    are = law _ decls.table it.path it.template _ e due

    named : length decls.table.names ≡ length decls.names
    named = ap (λ t. length t.names) is.table

    count : length decls.names ≡ length decls.devices
    count = ap (λ (l : List (List ℕ)). length l) is.named ∙ length-map decls.devices (λ (d : Device). d.name)
