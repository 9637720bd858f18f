-- Entries of lists that are reached through containers alone: none lies inside another one.
use Rattle.std.proofs.Common.{◌≡◌, ◌≢◌, ◌⊎◌, inl, inr, Bool, true, false, not, cond, ◌&&◌, List, [], ◌∷◌, ◌++◌, length, None, refl, sym, ap, subst, ◌∙◌, append-nil}
use Rattle.std.specs.List.{list_all}
use Rattle.std.specs.Cmp.{first_so, second_so}
use Rattle.std.specs.Cmp.Lexicographic.{bytes_decides}
use Rattle.std.specs.Ordering.{eq_by_cmp}
use Rattle.std.specs.FinMap.{get}
use Rattle.std.proofs.lemmas.Bool.{and_from}
use Rattle.orc_path.specs.Steps.{PathStep, ends_in_keys, has_keys}
use Rattle.orc_path.specs.Order.{is_prefix, path_cmp, step_eq}
use Rattle.orc_path.specs.Configurations.{Config, IsWay, drop_item, is_removed_with, list_of, put_item}
use Rattle.orc_path.specs.declared.item.Item.{Item}
use Rattle.orc_path.specs.declared.item.Item.TheVariants.{Entry}
use Rattle.orc_path.proofs.ConfigurationLaws.{get-drop_item, get-put_item-elsewhere, same_path}
use Rattle.orc_path.proofs.Extensions.{is_prefix_rest}
use Rattle.orc_path.proofs.Prefixes.{is_prefix-from_take}
use Rattle.orc_call.specs.declared.call.Put.{Put}
use Rattle.orc_decls.specs.Devices.{is_same_text}
use Rattle.orc_decls.specs.Openings.{put_all}
use Rattle.orc_decls.specs.Calls.{meets}
use Rattle.orc_decls.proofs.Lists.{true_not_false}
use Rattle.orc_datastore.proofs.Planning.{below_itself, way_below}

falls : (t : Bool) → (t ≡ true → ⊥) → t ≡ false
falls true h = absurd (h refl)
falls false h = refl

-- beginnings of paths

pub way_begins : (way path : List PathStep) → IsWay way path → is_prefix way path ≡ true
way_begins way path is = is_prefix-from_take way path (length way) (ap (is_prefix way) (sym is.begins) ∙ below_itself way)

-- the last step of the path has keys, and no step above it
abbrev pub is_lone : List PathStep → Bool
is_lone [] = false
is_lone (last ∷ []) = has_keys last
is_lone (step ∷ next ∷ rest) = not (has_keys step) && is_lone (next ∷ rest)

lone_ends : (path : List PathStep) (step : PathStep) (rest : List PathStep) → is_lone path ≡ true → is_lone (path ++ (step ∷ rest)) ≡ true → ⊥
lone_ends [] step rest h k = true_not_false (sym h)
lone_ends (last ∷ []) step rest h k =
    true_not_false (sym (first_so (not (has_keys last)) (is_lone (step ∷ rest)) k) ∙ ap not h)
lone_ends (first ∷ next ∷ path) step rest h k =
    lone_ends (next ∷ path) step rest (second_so (not (has_keys first)) (is_lone (next ∷ path)) h)
    (second_so (not (has_keys first)) (is_lone ((next ∷ path) ++ (step ∷ rest))) k)

-- of two such paths none begins the other
pub lone_alone : (path other : List PathStep) → is_lone path ≡ true → is_lone other ≡ true → is_prefix path other ≡ true → path ≡ other
lone_alone path other h k begins = let rest = is_prefix_rest path other begins in on rest.0 rest.1
  where
    on : (rest : List PathStep) → other ≡ path ++ rest → path ≡ other
    on [] is = sym (is ∙ append-nil path)
    on (step ∷ rest) is = absurd (lone_ends path step rest h (ap is_lone (sym is) ∙ k))

-- the path of an entry is such a one, where no step of its list's path has keys
pub lone_entry : (path : List PathStep) → ends_in_keys path ≡ true → list_all (λ step. not (has_keys step)) (list_of path) ≡ true → is_lone path ≡ true
lone_entry [] h k = absurd (true_not_false (sym h))
lone_entry (last ∷ []) h k = h
lone_entry (step ∷ next ∷ rest) h k =
    and_from (not (has_keys step)) (is_lone (next ∷ rest)) (first_so (not (has_keys step)) _ k)
    (lone_entry (next ∷ rest) h (second_so (not (has_keys step)) (list_all (λ (s : PathStep). not (has_keys s)) (list_of (next ∷ rest))) k))

pub lone_keyed : (path : List PathStep) → is_lone path ≡ true → ends_in_keys path ≡ true
lone_keyed [] h = h
lone_keyed (last ∷ []) h = h
lone_keyed (step ∷ next ∷ rest) h = lone_keyed (next ∷ rest) (second_so (not (has_keys step)) (is_lone (next ∷ rest)) h)

-- paths at, under or above one

pub meets_list : (path other : List PathStep) → meets (list_of path) other ≡ meets path other
meets_list [] other = refl
meets_list (last ∷ []) [] = refl
meets_list (last ∷ []) (own ∷ below) = refl
meets_list (step ∷ next ∷ rest) [] = refl
meets_list (step ∷ next ∷ rest) (own ∷ below) = ap (λ t. is_same_text own.node step.node && t) (meets_list (next ∷ rest) below)

pub list_meets : (list path : List PathStep) → meets list (list_of path) ≡ meets list path
list_meets [] path = refl
list_meets (s ∷ list) [] = refl
list_meets (s ∷ list) (last ∷ []) = refl
list_meets (s ∷ list) (step ∷ next ∷ rest) = ap (λ t. is_same_text step.node s.node && t) (list_meets list (next ∷ rest))

under_meets : (path other : List PathStep) → is_prefix path other ≡ true → meets path other ≡ true
under_meets [] other h = refl
under_meets (step ∷ later) [] h = refl
under_meets (step ∷ later) (own ∷ below) h =
    let same = first_so (is_same_text step.node own.node) _ (first_so (step_eq step own) (is_prefix later below) h) in
    and_from (is_same_text own.node step.node) (meets later below) ((bytes_decides own.node step.node).1 (sym ((bytes_decides step.node own.node).0 same)))
    (under_meets later below (second_so (step_eq step own) (is_prefix later below) h))

above_meets : (path other : List PathStep) → is_prefix other path ≡ true → meets path other ≡ true
above_meets [] other h = refl
above_meets (step ∷ later) [] h = refl
above_meets (step ∷ later) (own ∷ below) h =
    and_from (is_same_text own.node step.node) (meets later below)
    (first_so (is_same_text own.node step.node) _ (first_so (step_eq own step) (is_prefix below later) h))
    (above_meets later below (second_so (step_eq own step) (is_prefix below later) h))

-- what is put or removed elsewhere leaves a path as it is

removed_begins : (path other : List PathStep) → is_removed_with path other ≡ true → is_prefix path other ≡ true
removed_begins path other h = on (ends_in_keys path) h
  where
    on : (t : Bool) → cond t (is_prefix path other) (eq_by_cmp path_cmp path other) ≡ true → is_prefix path other ≡ true
    on true e = e
    on false e = subst (λ (x : List PathStep). is_prefix path x ≡ true) (same_path path other e) (below_itself path)

pub put_elsewhere : (m : Config) (other : List PathStep) (item : Item) (path : List PathStep) → meets path other ≡ false
    → get (put_item m other item) path ≡ get m path
put_elsewhere m other item path un =
    get-put_item-elsewhere m other item path
    (λ same. true_not_false (sym (under_meets path other (subst (λ (x : List PathStep). is_prefix path x ≡ true) same (below_itself path))) ∙ un))
    (λ way. true_not_false (sym (under_meets path other (way_begins path other way)) ∙ un))

pub drop_elsewhere : (m : Config) (other path : List PathStep) → meets path other ≡ false → get (drop_item m other) path ≡ get m path
drop_elsewhere m other path un =
    get-drop_item m other path
    ∙ ap (λ t. cond t None (get m path))
    (falls (is_removed_with other path) (λ h. true_not_false (sym (above_meets path other (removed_begins other path h)) ∙ un)))

-- so does another entry, with its body

module _ (entry path : List PathStep) (h : is_lone entry ≡ true) (k : is_lone path ≡ true) (differ : entry ≢ path) where
  not_under : is_prefix entry path ≡ true → ⊥
  not_under begins = differ (lone_alone entry path h k begins)

  not_above : IsWay path entry → ⊥
  not_above way = differ (sym (lone_alone path entry k h (way_begins path entry way)))

  pub entry_elsewhere : (m : Config) → get (put_item m entry Entry) path ≡ get m path
  entry_elsewhere m = get-put_item-elsewhere m entry Entry path (λ same. differ (sym same)) not_above

  pub leave_elsewhere : (m : Config) → get (drop_item m entry) path ≡ get m path
  leave_elsewhere m =
      get-drop_item m entry path
      ∙ ap (λ t. cond t None (get m path)) (falls (is_removed_with entry path) (λ e. not_under (removed_begins entry path e)))

  pub body_elsewhere : (puts : List Put) (m : Config) → list_all (λ put. is_prefix entry put.path) puts ≡ true → get (put_all puts m) path ≡ get m path
  body_elsewhere [] m below = refl
  body_elsewhere (put ∷ puts) m below =
      let own = first_so (is_prefix entry put.path) (list_all (λ (p : Put). is_prefix entry p.path) puts) below in
      body_elsewhere puts (put_item m put.path put.item) (second_so (is_prefix entry put.path) (list_all (λ (p : Put). is_prefix entry p.path) puts) below)
      ∙ get-put_item-elsewhere m put.path put.item path
      (λ same. not_under (ap (is_prefix entry) same ∙ own))
      (λ way. on (way_below entry put.path path own way))
    where
      on : IsWay path entry ⊎ (is_prefix entry path ≡ true) → ⊥
      on (inl above) = not_above above
      on (inr under) = not_under under
