-- Lines that are put in the order of their names: the one list in that order with the same lines.
use Rattle.std.proofs.Common.{◌≡◌, refl, sym, ◌∙◌, ap, subst, List, [], ◌∷◌, map, ℕ, ◌+◌, ◌≤◌, Bool, true, false, cond, arith}
use Rattle.std.specs.Prelude.{Option, Some, None, Result, Ok, Err}
use Rattle.std.specs.List.{find, AllByRecursion, sum_by}
use Rattle.std.specs.Option.{option_map_or}
use Rattle.std.specs.List.Sorted.{IsStrictlySortedBy, IsPermutation}
use Rattle.std.specs.Ordering.{ordering_reverse, is_eq, is_lt}
use Rattle.std.specs.declared.cmp.Ordering.{Ordering}
use Rattle.std.specs.declared.cmp.Ordering.TheVariants.{Less, Equal, Greater}
use Rattle.std.specs.Cmp.{tied_itself}
use Rattle.std.proofs.lemmas.Map.Keys.{sorted_head, sorted_tail}
use Rattle.std.proofs.lemmas.Bool.{false≢true}
use Rattle.std.proofs.lemmas.List.Sums.{sum_by-cons}
use Rattle.std.proofs.lemmas.List.Sorted.{sum_by-IsPermutation}
use Rattle.orc_schema.specs.declared.draft.Draft.{Draft}
use Rattle.orc_schema_nodes.specs.declared.line.SchemaLine.{SchemaLine}
use Rattle.orc_statements.specs.declared.fault.SchemaFault.{SchemaFault}
use Rattle.orc_yang.specs.declared.statement.Stmt.{Stmt}
use Rattle.orc_statements.specs.declared.fault.SchemaFault.TheVariants.{Unsupported, Unknown, Duplicate, BadArgument, NoKey, Loop, Memory}
use Rattle.orc_schema_nodes.specs.Names.{names_cmp}
use Rattle.orc_schema_nodes.specs.Schemas.{SchemaTable}
use Rattle.orc_schema.specs.Schemas.{put_in, in_order, table_of, schema_lines, drafts, IsTableOf, Builds, GivesSchema, schema_of}
use Rattle.orc_schema_nodes.proofs.Ordered.{Names, Sorted, is_at, pick, names_total, same_is, less_before, some_is, is_none, others_fail, equal_is, later_less, find_sorted}

abbrev pub names_at : SchemaLine → Names
names_at l = l.names

abbrev pub at : Names → SchemaLine → Bool
at k = is_at names_at k

abbrev pub InOrder : List SchemaLine → Type 0
InOrder = Sorted names_at

at_itself : (l : SchemaLine) → at l.names l ≡ true
at_itself l = same_is l.names l.names ∙ ap is_eq (tied_itself names_total l.names)

-- how many lines have these names
abbrev pub one_at : Names → SchemaLine → ℕ
one_at k l = cond (at k l) 1 0

abbrev pub count : Names → List SchemaLine → ℕ
count k ls = sum_by (one_at k) ls

count-none : (k : Names) (ls : List SchemaLine) → AllByRecursion (λ l. at k l ≡ false) ls → count k ls ≡ 0
count-none k [] h = refl
count-none k (l ∷ ls) h =
    let c : count k (l ∷ ls) ≡ one_at k l + count k ls = sum_by-cons (one_at k) l ls in
    let none : one_at k l ≡ 0 = ap (λ b. cond b 1 0) h.0 in
    omega (arith, c, none, count-none k ls h.1)

pub one_most : (k : Names) (ls : List SchemaLine) → InOrder ls → count k ls ≤ 1
one_most k [] s = omega arith
one_most k (l ∷ ls) s = on (at k l) refl (one_most k ls (sorted_tail names_cmp l.names (map names_at ls) s))
  where
    on : (b : Bool) → at k l ≡ b → count k ls ≤ 1 → count k (l ∷ ls) ≤ 1
    on true is rest =
        let c : count k (l ∷ ls) ≡ one_at k l + count k ls = sum_by-cons (one_at k) l ls in
        let one : one_at k l ≡ 1 = ap (λ b. cond b 1 0) is in
        let none : count k ls ≡ 0 = count-none k ls (others_fail names_at k l ls (sorted_head names_cmp l.names (map names_at ls) s) (equal_is names_at k (names_cmp l.names k) (sym (same_is l.names k) ∙ is))) in
        omega (arith, c, one, none)
    on false is rest =
        let c : count k (l ∷ ls) ≡ one_at k l + count k ls = sum_by-cons (one_at k) l ls in
        let none : one_at k l ≡ 0 = ap (λ b. cond b 1 0) is in
        omega (arith, c, none, rest)

none_counted : (k : Names) (ls : List SchemaLine) → count k ls ≡ 0 → find (at k) ls ≡ None
none_counted k [] h = refl
none_counted k (l ∷ ls) h = on (at k l) refl (none_counted k ls)
  where
    on : (b : Bool) → at k l ≡ b → (count k ls ≡ 0 → find (at k) ls ≡ None) → find (at k) (l ∷ ls) ≡ None
    on true is rest =
        let c : count k (l ∷ ls) ≡ one_at k l + count k ls = sum_by-cons (one_at k) l ls in
        let one : one_at k l ≡ 1 = ap (λ b. cond b 1 0) is in
        absurd (omega (arith, c, one, h))
    on false is rest =
        let c : count k (l ∷ ls) ≡ one_at k l + count k ls = sum_by-cons (one_at k) l ls in
        pick names_at k l ls false is ∙ rest (omega (arith, c, h))

-- no two lines have the same names
abbrev Apart : List SchemaLine → Type 0
Apart [] = Unit {0}
Apart (l ∷ ls) = (find (at l.names) ls ≡ None) × Apart ls

apart : (ls : List SchemaLine) → ((k : Names) → count k ls ≤ 1) → Apart ls
apart [] h = tt
apart (l ∷ ls) h = (
  none_counted l.names ls (let c : count l.names (l ∷ ls) ≡ one_at l.names l + count l.names ls = sum_by-cons (one_at l.names) l ls in
      let own : one_at l.names l ≡ 1 = ap (λ b. cond b 1 0) (at_itself l) in omega (arith, c, own, h l.names)),
  apart ls (λ k. let c : count k (l ∷ ls) ≡ one_at k l + count k ls = sum_by-cons (one_at k) l ls in omega (arith, c, h k)),
)

-- a line that is put in among lines in order
module _ (line : SchemaLine) where
  put-behind : (ls : List SchemaLine) (b : Names) → names_cmp b line.names ≡ Less → AllByRecursion (λ y. names_cmp b y ≡ Less) (map names_at ls)
      → AllByRecursion (λ y. names_cmp b y ≡ Less) (map names_at (put_in line ls))
  put-behind [] b less all = (less, tt)
  put-behind (l ∷ ls) b less all = on (is_lt (names_cmp l.names line.names)) (put-behind ls b less all.1)
    where
      on : (c : Bool) → AllByRecursion (λ y. names_cmp b y ≡ Less) (map names_at (put_in line ls)) → AllByRecursion (λ y. names_cmp b y ≡ Less) (map names_at (cond c (l ∷ put_in line ls) (line ∷ l ∷ ls)))
      on true rest = (all.0, rest)
      on false rest = (less, all)

  put-sorted : (ls : List SchemaLine) → InOrder ls → find (at line.names) ls ≡ None → InOrder (put_in line ls)
  unfolding IsStrictlySortedBy
  put-sorted [] s none = (tt, tt)
  put-sorted (l ∷ ls) s none = on (names_cmp l.names line.names) refl (put-sorted ls s.1)
    where
      on : (o : Ordering) → names_cmp l.names line.names ≡ o → (find (at line.names) ls ≡ None → InOrder (put_in line ls)) → InOrder (put_in line (l ∷ ls))
      on Less is rest = subst (λ o. InOrder (cond (is_lt o) (l ∷ put_in line ls) (line ∷ l ∷ ls))) (sym is)
          (put-behind ls l.names is s.0, rest (sym (pick names_at line.names l ls false (same_is l.names line.names ∙ ap is_eq is)) ∙ none))
      on Equal is rest = absurd (false≢true (ap is_none (sym (pick names_at line.names l ls true (same_is l.names line.names ∙ ap is_eq is)) ∙ none)))
      on Greater is rest = subst (λ o. InOrder (cond (is_lt o) (l ∷ put_in line ls) (line ∷ l ∷ ls))) (sym is)
          (let less : names_cmp line.names l.names ≡ Less = names_total.antisymm line.names l.names ∙ ap ordering_reverse is in
          ((less, later_less line.names l.names (map names_at ls) less s.0), s))

  put-found : (k : Names) (ls : List SchemaLine) → find (at k) (put_in line ls) ≡ cond (at k line) (Some line) (find (at k) ls)
  put-found k [] = refl
  put-found k (l ∷ ls) = on (names_cmp l.names line.names) refl (put-found k ls)
    where
      swapped : names_cmp l.names line.names ≡ Less → (a b : Bool) → at k l ≡ a → at k line ≡ b
          → cond a (Some l) (cond b (Some line) (find (at k) ls)) ≡ cond b (Some line) (cond a (Some l) (find (at k) ls))
      swapped less true true here there = absurd (false≢true (ap is_eq (sym (less_before l.names line.names k less (equal_is names_at k (names_cmp line.names k) (sym (same_is line.names k) ∙ there)))
          ∙ equal_is names_at k (names_cmp l.names k) (sym (same_is l.names k) ∙ here))))
      swapped less true false here there = refl
      swapped less false b here there = refl

      on : (o : Ordering) → names_cmp l.names line.names ≡ o → find (at k) (put_in line ls) ≡ cond (at k line) (Some line) (find (at k) ls)
          → find (at k) (put_in line (l ∷ ls)) ≡ cond (at k line) (Some line) (find (at k) (l ∷ ls))
      on Less is rest = ap (λ o. find (at k) (cond (is_lt o) (l ∷ put_in line ls) (line ∷ l ∷ ls))) is ∙ ap (λ r. cond (at k l) (Some l) r) rest ∙ swapped is (at k l) (at k line) refl refl
      on Equal is rest = ap (λ o. find (at k) (cond (is_lt o) (l ∷ put_in line ls) (line ∷ l ∷ ls))) is
      on Greater is rest = ap (λ o. find (at k) (cond (is_lt o) (l ∷ put_in line ls) (line ∷ l ∷ ls))) is

found_in_order : (ls : List SchemaLine) (k : Names) → find (at k) (in_order ls) ≡ find (at k) ls
found_in_order [] k = refl
found_in_order (l ∷ ls) k = put-found l k (in_order ls) ∙ ap (λ r. cond (at k l) (Some l) r) (found_in_order ls k)

sorted_in_order : (ls : List SchemaLine) → Apart ls → InOrder (in_order ls)
unfolding IsStrictlySortedBy
sorted_in_order [] h = tt
sorted_in_order (l ∷ ls) h = put-sorted l (in_order ls) (sorted_in_order ls h.1) (found_in_order ls l.names ∙ h.0)

-- lists in order that look-ups can't tell apart
others_none : (k : Names) (ls : List SchemaLine) → AllByRecursion (λ l. at k l ≡ false) ls → find (at k) ls ≡ None
others_none k [] h = refl
others_none k (l ∷ ls) h = pick names_at k l ls false h.0 ∙ others_none k ls h.1

-- what is less than the first line of a list in order isn't in it
before_none : (k : Names) (l : SchemaLine) (ls : List SchemaLine) → names_cmp k l.names ≡ Less → AllByRecursion (λ y. names_cmp l.names y ≡ Less) (map names_at ls) → AllByRecursion (λ x. at k x ≡ false) (l ∷ ls)
before_none k l ls less all = (fails l less, rest ls (later_less k l.names (map names_at ls) less all))
  where
    fails : (x : SchemaLine) → names_cmp k x.names ≡ Less → at k x ≡ false
    fails x h = same_is x.names k ∙ ap is_eq (names_total.antisymm x.names k ∙ ap ordering_reverse h)

    rest : (xs : List SchemaLine) → AllByRecursion (λ y. names_cmp k y ≡ Less) (map names_at xs) → AllByRecursion (λ x. at k x ≡ false) xs
    rest [] h = tt
    rest (x ∷ xs) h = (fails x h.0, rest xs h.1)

same_lines : (xs ys : List SchemaLine) → InOrder xs → InOrder ys → ((k : Names) → find (at k) xs ≡ find (at k) ys) → xs ≡ ys
unfolding IsStrictlySortedBy
same_lines [] [] s t h = refl
same_lines [] (y ∷ ys) s t h = absurd (false≢true (ap is_none (sym (h y.names ∙ pick names_at y.names y ys true (at_itself y)))))
same_lines (x ∷ xs) [] s t h = absurd (false≢true (ap is_none (sym (sym (h x.names) ∙ pick names_at x.names x xs true (at_itself x)))))
same_lines (x ∷ xs) (y ∷ ys) s t h = on (names_cmp x.names y.names) refl (same_lines xs ys s.1 t.1)
  where
    here : find (at x.names) (x ∷ xs) ≡ Some x
    here = pick names_at x.names x xs true (at_itself x)

    there : find (at y.names) (y ∷ ys) ≡ Some y
    there = pick names_at y.names y ys true (at_itself y)

    tails : x ≡ y → (k : Names) (b : Bool) → at k x ≡ b → find (at k) xs ≡ find (at k) ys
    tails same k true is = others_none k xs (others_fail names_at k x xs s.0 (equal_is names_at k (names_cmp x.names k) (sym (same_is x.names k) ∙ is)))
        ∙ sym (others_none k ys (others_fail names_at k y ys t.0 (equal_is names_at k (names_cmp y.names k) (sym (same_is y.names k) ∙ ap (at k) (sym same) ∙ is))))
    tails same k false is = sym (pick names_at k x xs false is) ∙ h k ∙ pick names_at k y ys false (ap (at k) (sym same) ∙ is)

    on : (o : Ordering) → names_cmp x.names y.names ≡ o → (((k : Names) → find (at k) xs ≡ find (at k) ys) → xs ≡ ys) → x ∷ xs ≡ y ∷ ys
    on Less is rest = absurd (false≢true (ap is_none (sym here ∙ h x.names ∙ others_none x.names (y ∷ ys) (before_none x.names y ys is t.0))))
    on Equal is rest =
        let same : x ≡ y = some_is x x y (sym here ∙ h x.names ∙ pick names_at x.names y ys true (same_is y.names x.names ∙ ap is_eq (names_total.antisymm y.names x.names ∙ ap ordering_reverse is))) in
        ap (λ l. l ∷ xs) same ∙ ap (λ ls. y ∷ ls) (rest (λ k. tails same k (at k x) refl))
    on Greater is rest = absurd (false≢true (ap is_none (sym there ∙ sym (h y.names) ∙ others_none y.names (x ∷ xs)
        (before_none y.names x xs (names_total.antisymm y.names x.names ∙ ap ordering_reverse is) s.0))))

pub one_order : (xs ys : List SchemaLine) → IsPermutation xs ys → InOrder ys → ys ≡ in_order xs
one_order xs ys shuffled s = same_lines ys (in_order xs) s
    (sorted_in_order xs (apart xs (λ k. subst (λ n. n ≤ 1) (sum_by-IsPermutation (one_at k) xs ys shuffled) (one_most k ys s))))
    (λ k. sym (found_in_order xs k ∙ find_sorted names_at k xs ys shuffled s))

pub one_table : (ds : List Draft) (s : SchemaTable) → IsTableOf ds s → s ≡ table_of ds
one_table ds s h = λ i. record { plain = h.typed i; lines = one_order (schema_lines ds) s.lines h.lines h.order i }

abbrev given : SchemaTable → Option SchemaFault → Result SchemaTable SchemaFault
given table due = option_map_or Err due (Ok table)

pub builds-schema : (modules : List Stmt) (r : Result SchemaTable SchemaFault) → Builds modules r → GivesSchema (schema_of modules) r
builds-schema modules (Ok s) h = ap (given (table_of (drafts modules))) h.0 ∙ ap Ok (sym (one_table (drafts modules) s h.1))
builds-schema modules (Err (Unsupported keyword)) h = ap (given (table_of (drafts modules))) h
builds-schema modules (Err (Unknown name)) h = ap (given (table_of (drafts modules))) h
builds-schema modules (Err (Duplicate name)) h = ap (given (table_of (drafts modules))) h
builds-schema modules (Err (BadArgument keyword)) h = ap (given (table_of (drafts modules))) h
builds-schema modules (Err (NoKey list)) h = ap (given (table_of (drafts modules))) h
builds-schema modules (Err (Loop name)) h = ap (given (table_of (drafts modules))) h
builds-schema modules (Err Memory) h = tt
