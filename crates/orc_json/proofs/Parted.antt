-- The first rows belong to the first node, or to the first entry.
use Rattle.std.proofs.Common.{◌≡◌, ◌≢◌, ◌≤◌, ℕ, ◌+◌, Bool, true, false, cond, T, List, [], ◌∷◌, ◌++◌, length, nat_eq, Some, refl, sym, ap, subst, ◌∙◌, append-nil, arith}
use Rattle.std.specs.Prelude.{IsTrue, ◌&&◌, slice_get}
use Rattle.std.specs.FinMap.{is_sorted}
use Rattle.std.specs.FinMap.Entries.{below_all}
use Rattle.std.specs.Cmp.Lexicographic.{pointwise, bytes_decides, nat_list_cmp_total}
use Rattle.std.specs.Ordering.{is_lt}
use Rattle.std.proofs.lemmas.Cmp.{tied_itself}
use Rattle.serde_json.specs.Data.{Data, object, Items, item, Members, member}
use Rattle.orc_path.specs.Order.{text_cmp, path_cmp, step_eq}
use Rattle.orc_path.specs.Steps.{PathStep}
use Rattle.orc_path.specs.declared.item.Item.TheVariants.{Entry}
use Rattle.orc_path.proofs.Bools.{first_of_both, second_of_both}
use Rattle.orc_path.proofs.Equality.{step_eq_decides}
use Rattle.orc_path.proofs.PathOrder.{path_cmp_total}
use Rattle.orc_schema_nodes.specs.Schemas.{SchemaTable, path_names}
use Rattle.orc_json.specs.Findings.{below, node_below}
use Rattle.orc_json.specs.inside.Fronts.{Row, same_name, same_step, both_steps, passing, front, longest, AreLaid}
use Rattle.orc_json.specs.Written.{Rows, AreMembers, IsNode, AreEntries, is_before, are_keys, with_key_members}
use Rattle.orc_json.specs.Written.AreMembers.{no_member, child}
use Rattle.orc_json.specs.Written.AreEntries.{no_entry, entry}
use Rattle.orc_json.proofs.Under.{Each, each_so, step_of, IsUnder, IsInside, under_next, members_under, node_under, node_some, step_under}

-- How many rows pass from the start on --------------------------------------------------------------------------------

-- the first of the rows doesn't pass
abbrev Stops : (Row → Bool) → Rows → Type 0
Stops f [] = Unit {0}
Stops f (row ∷ rows) = f row ≡ false

passing-all : (f : Row → Bool) (xs ys : Rows) → Each (λ row. f row ≡ true) xs → Stops f ys → passing f (xs ++ ys) ≡ length xs
passing-all f [] [] h k = refl
passing-all f [] (y ∷ ys) h k = ap (λ t. cond t (passing f ys + 1) 0) k
passing-all f (x ∷ xs) ys h k =
    let here : passing f (x ∷ (xs ++ ys)) ≡ passing f (xs ++ ys) + 1 = ap (λ t. cond t (passing f (xs ++ ys) + 1) 0) h.0 in
    let rest = passing-all f xs ys h.1 k in
    omega (arith, here, rest)

front-all : (same : Row → Row → Bool) (row : Row) (xs ys : Rows) → Each (λ other. same row other ≡ true) xs → Stops (same row) ys
    → front same ((row ∷ xs) ++ ys) ≡ length (row ∷ xs)
front-all same row xs ys h k = let rest = passing-all (same row) xs ys h k in omega (arith, rest)

never : (b : Bool) → (b ≡ true → ⊥) → b ≡ false
never true h = absurd (h refl)
never false h = refl

same_name_under : (at : List PathStep) (name : List ℕ) (row other : Row) → IsUnder at name row → IsUnder at name other → same_name (length at) row other ≡ true
same_name_under at name row other u v =
    ap (λ o. both_steps (λ a b. pointwise nat_eq a.node b.node) o (slice_get other.0 (length at))) (step_under at name row u)
    ∙ ap (λ o. both_steps (λ a b. pointwise nat_eq a.node b.node) (Some (step_of name u.keys)) o) (step_under at name other v)
    ∙ (bytes_decides name name).1 refl

not_less_itself : (name other : List ℕ) → is_lt (text_cmp name other) ≡ true → name ≡ other → ⊥
not_less_itself name other h e =
    let tied : is_lt (text_cmp name other) ≡ false = ap (λ x. is_lt (text_cmp name x)) (sym e) ∙ ap is_lt (tied_itself nat_list_cmp_total name) in
    cc

other_name_under : (at : List PathStep) (name next : List ℕ) (row other : Row) → IsUnder at name row → IsUnder at next other → is_lt (text_cmp name next) ≡ true
    → same_name (length at) row other ≡ false
other_name_under at name next row other u v less =
    ap (λ o. both_steps (λ a b. pointwise nat_eq a.node b.node) o (slice_get other.0 (length at))) (step_under at name row u)
    ∙ ap (λ o. both_steps (λ a b. pointwise nat_eq a.node b.node) (Some (step_of name u.keys)) o) (step_under at next other v)
    ∙ never (pointwise nat_eq name next) (λ e. not_less_itself name next less ((bytes_decides name next).0 e))

-- Rows in two parts --------------------------------------------------------------------------------------------------

both : (a b : Bool) → T a → T b → T (a && b)
both true b p q = q
both false b p q = p

below_front : (p : List PathStep) (xs ys : Rows) → T (below_all path_cmp p (xs ++ ys)) → T (below_all path_cmp p xs)
below_front p [] ys h = tt
below_front p (x ∷ xs) ys h =
    both (is_lt (path_cmp p x.0)) (below_all path_cmp p xs) (first_of_both (is_lt (path_cmp p x.0)) (below_all path_cmp p (xs ++ ys)) h)
    (below_front p xs ys (second_of_both (is_lt (path_cmp p x.0)) (below_all path_cmp p (xs ++ ys)) h))

below_back : (p : List PathStep) (xs ys : Rows) → T (below_all path_cmp p (xs ++ ys)) → T (below_all path_cmp p ys)
below_back p [] ys h = h
below_back p (x ∷ xs) ys h = below_back p xs ys (second_of_both (is_lt (path_cmp p x.0)) (below_all path_cmp p (xs ++ ys)) h)

sorted_front : (xs ys : Rows) → T (is_sorted path_cmp (xs ++ ys)) → T (is_sorted path_cmp xs)
sorted_front [] ys h = tt
sorted_front (x ∷ xs) ys h =
    both (below_all path_cmp x.0 xs) (is_sorted path_cmp xs) (below_front x.0 xs ys (first_of_both (below_all path_cmp x.0 (xs ++ ys)) (is_sorted path_cmp (xs ++ ys)) h))
    (sorted_front xs ys (second_of_both (below_all path_cmp x.0 (xs ++ ys)) (is_sorted path_cmp (xs ++ ys)) h))

sorted_back : (xs ys : Rows) → T (is_sorted path_cmp (xs ++ ys)) → T (is_sorted path_cmp ys)
sorted_back [] ys h = h
sorted_back (x ∷ xs) ys h = sorted_back xs ys (second_of_both (below_all path_cmp x.0 (xs ++ ys)) (is_sorted path_cmp (xs ++ ys)) h)

pub longest_front : (xs ys : Rows) → longest xs ≤ longest (xs ++ ys)
longest_front [] ys = omega arith
longest_front (x ∷ xs) ys = let rest = longest_front xs ys in omega (arith, rest)

pub longest_back : (xs ys : Rows) → longest ys ≤ longest (xs ++ ys)
longest_back [] ys = omega arith
longest_back (x ∷ xs) ys = let rest = longest_back xs ys in omega (arith, rest)

pub laid_front : (bound : ℕ) (xs ys : Rows) → AreLaid bound (xs ++ ys) → AreLaid bound xs
laid_front bound xs ys h = record { ascending = sorted_front xs ys h.ascending; short = let e = longest_front xs ys in let f = h.short in omega (arith, e, f) }

pub laid_back : (bound : ℕ) (xs ys : Rows) → AreLaid bound (xs ++ ys) → AreLaid bound ys
laid_back bound xs ys h = record { ascending = sorted_back xs ys h.ascending; short = let e = longest_back xs ys in let f = h.short in omega (arith, e, f) }

-- Members ------------------------------------------------------------------------------------------------------------

stops_behind : (f : Row → Bool) (part rest : Rows) → part ≢ [] → Each (λ row. f row ≡ false) part → Stops f (part ++ rest)
stops_behind f [] rest some h = absurd (some refl)
stops_behind f (row ∷ part) rest some h = h.0

later_stops : (s : SchemaTable) (keys : List (List ℕ)) (at : List PathStep) (name : List ℕ) (row : Row) (rows : Rows) (ms : Members)
    → IsUnder at name row → is_before name ms ≡ true → AreMembers s keys at rows ms → Stops (same_name (length at) row) rows
later_stops s keys at name row rows ms u less no_member = tt
later_stops s keys at name row rows ms u less (child next d part later rest other named one before more) =
    stops_behind (same_name (length at) row) part later (node_some s at next (node_below s at next) part d one)
    (each_so (IsUnder at next) (λ r. same_name (length at) row r ≡ false) (λ r v. other_name_under at name next row r u v less) part (node_under s at next (node_below s at next) part d one))

child_front : (at : List PathStep) (name : List ℕ) (part later : Rows) → part ≢ [] → Each (IsUnder at name) part
    → ((row : Row) → IsUnder at name row → Stops (same_name (length at) row) later) → front (same_name (length at)) (part ++ later) ≡ length part
child_front at name [] later some h stops = absurd (some refl)
child_front at name (row ∷ part) later some h stops =
    front-all (same_name (length at)) row part later (each_so (IsUnder at name) (λ other. same_name (length at) row other ≡ true) (λ other v. same_name_under at name row other h.0 v) part h.1) (stops row h.0)

-- the first member has the first rows
pub record FirstMember (s : SchemaTable) (keys : List (List ℕ)) (at : List PathStep) (all : Rows) (whole : Members) : Type 0 where
  pub name : List ℕ
  pub value : Data
  pub rows : Rows
  pub later : Rows
  pub others : Members
  pub all_are : all ≡ rows ++ later
  pub whole_is : whole ≡ member name value others
  pub node : IsNode s at name (node_below s at name) rows value
  pub members : AreMembers s keys at later others
  pub count : front (same_name (length at)) all ≡ length rows

pub first_member : (s : SchemaTable) (keys : List (List ℕ)) (at : List PathStep) (all : Rows) (whole : Members) → all ≢ [] → AreMembers s keys at all whole
    → FirstMember s keys at all whole
first_member s keys at all whole some no_member = absurd (some refl)
first_member s keys at all whole some (child name d part later rest other named one before more) = record {
  name = name;
  value = d;
  rows = part;
  later = later;
  others = rest;
  all_are = refl;
  whole_is = refl;
  node = one;
  members = more;
  count = child_front at name part later (node_some s at name (node_below s at name) part d one) (node_under s at name (node_below s at name) part d one)
      (λ row u. later_stops s keys at name row later rest u before more);
}

-- Entries ------------------------------------------------------------------------------------------------------------

same_step_under : (at : List PathStep) (name : List ℕ) (texts : List (List ℕ)) (row other : Row) (u : IsUnder at name row) (v : IsUnder at name other)
    → u.keys ≡ texts → v.keys ≡ texts → same_step (length at) row other ≡ true
same_step_under at name texts row other u v k l =
    ap (λ o. both_steps step_eq o (slice_get other.0 (length at))) (step_under at name row u)
    ∙ ap (λ o. both_steps step_eq (Some (step_of name u.keys)) o) (step_under at name other v)
    ∙ (step_eq_decides (step_of name u.keys) (step_of name v.keys)).1 (ap (step_of name) (k ∙ sym l))

not_below_itself : (p q : List PathStep) → T (is_lt (path_cmp p q)) → p ≡ q → ⊥
not_below_itself p q h e = subst (λ o. T (is_lt o)) (ap (path_cmp p) (sym e) ∙ tied_itself path_cmp_total p) h

other_step_under : (at : List PathStep) (name : List ℕ) (row other : Row) (u : IsUnder at name row) (v : IsUnder at name other)
    → (u.keys ≡ v.keys → ⊥) → same_step (length at) row other ≡ false
other_step_under at name row other u v differ =
    ap (λ o. both_steps step_eq o (slice_get other.0 (length at))) (step_under at name row u)
    ∙ ap (λ o. both_steps step_eq (Some (step_of name u.keys)) o) (step_under at name other v)
    ∙ never (step_eq (step_of name u.keys) (step_of name v.keys))
    (λ e. differ (ap (λ (x : PathStep). x.keys) ((step_eq_decides (step_of name u.keys) (step_of name v.keys)).0 e)))

abbrev entry_under : (at : List PathStep) (name : List ℕ) (texts : List (List ℕ)) → IsUnder at name (below at name texts, Entry)
entry_under at name texts = record { keys = texts; more = []; is = sym (append-nil (below at name texts)) }

entries_stop : (s : SchemaTable) (keys : List (List ℕ)) (at : List PathStep) (name : List ℕ) (texts : List (List ℕ)) (rows : Rows) (ds : Items)
    → T (below_all path_cmp (below at name texts) rows) → AreEntries s keys at name rows ds
    → Stops (same_step (length at) (below at name texts, Entry)) rows
entries_stop s keys at name texts rows ds h no_entry = tt
entries_stop s keys at name texts rows ds h (entry others inside later ms es well within more) =
    other_step_under at name (below at name texts, Entry) (below at name others, Entry) (entry_under at name texts) (entry_under at name others)
    (λ e. not_below_itself (below at name texts) (below at name others)
    (first_of_both (is_lt (path_cmp (below at name texts) (below at name others))) (below_all path_cmp (below at name texts) (inside ++ later)) h)
    (ap (below at name) e))

-- the first entry has the first rows
pub record FirstEntry (s : SchemaTable) (keys : List (List ℕ)) (at : List PathStep) (name : List ℕ) (all : Rows) (whole : Items) : Type 0 where
  pub texts : List (List ℕ)
  pub inside : Rows
  pub later : Rows
  pub ms : Members
  pub others : Items
  pub all_are : all ≡ ((below at name texts, Entry) ∷ inside) ++ later
  pub whole_is : whole ≡ item (object (with_key_members s (path_names at ++ name ∷ []) keys texts ms)) others
  pub well : IsTrue (are_keys s (path_names at ++ name ∷ []) keys texts)
  pub within : AreMembers s keys (below at name texts) inside ms
  pub entries : AreEntries s keys at name later others
  pub count : front (same_step (length at)) all ≡ length ((below at name texts, Entry) ∷ inside)

pub first_entry : (s : SchemaTable) (keys : List (List ℕ)) (at : List PathStep) (name : List ℕ) (all : Rows) (whole : Items) → all ≢ []
    → T (is_sorted path_cmp all) → AreEntries s keys at name all whole → FirstEntry s keys at name all whole
first_entry s keys at name all whole some h no_entry = absurd (some refl)
first_entry s keys at name all whole some h (entry texts inside later ms es well within more) = record {
  texts = texts;
  inside = inside;
  later = later;
  ms = ms;
  others = es;
  all_are = refl;
  whole_is = refl;
  well = well;
  within = within;
  entries = more;
  count = front-all (same_step (length at)) (below at name texts, Entry) inside later
      (each_so (IsInside (below at name texts)) (λ other. same_step (length at) (below at name texts, Entry) other ≡ true)
      (λ other v. same_step_under at name texts (below at name texts, Entry) other (entry_under at name texts) (under_next at name texts other v) refl refl)
      inside (members_under s keys (below at name texts) inside ms within))
      (entries_stop s keys at name texts later es
      (below_back (below at name texts) inside later (first_of_both (below_all path_cmp (below at name texts) (inside ++ later)) (is_sorted path_cmp (inside ++ later)) h))
      more);
}
