-- Paths that go on from the entries that a leafref shares through containers alone.
use Rattle.std.proofs.Common.{◌≡◌, ℕ, zero, suc, ◌≤◌, Bool, true, ◌&&◌, nat_eq, List, [], ◌∷◌, ◌++◌, length, take, drop, refl, sym, ap, subst, ◌∙◌, arith, append_assoc, append-nil}
use Rattle.std.specs.Prelude.{Option, Some, None, is_some}
use Rattle.std.specs.Option.{option_map_or}
use Rattle.std.specs.Cmp.Lexicographic.{bytes_decides, pointwise_decides}
use Rattle.std.proofs.lemmas.Bool.{false≢true, and_parts, eqb-true}
use Rattle.std.proofs.lemmas.List.{take-append-drop, length-append, length-map}
use Rattle.orc_path.specs.Steps.{PathStep}
use Rattle.orc_path.proofs.Equality.{path_eq_decides}
use Rattle.orc_schema_nodes.specs.Names.{same_names}
use Rattle.orc_schema_nodes.specs.Schemas.{SchemaTable, path_names, node_at}
use Rattle.orc_schema_nodes.specs.declared.line.Node.{Node}
use Rattle.orc_schema_nodes.specs.declared.line.Node.TheVariants.{Container, List as ListOf, Leaf, LeafList}
use Rattle.orc_typed.specs.Typed.{each_step, stands_at, stand, step_kinds, kind_of_names}
use Rattle.orc_check.specs.Validity.{last_keys, is_container, goes_down, plain_step, plain_steps, shares}
use Rattle.orc_check.specs.inside.Named.{is_list_of}
use Rattle.orc_check.proofs.Folds.{last_keys-last}

abbrev pub Names : Type 0
Names = List (List ℕ)

pub names_are : (a b : Names) → same_names a b ≡ true → a ≡ b
names_are a b h = (pointwise_decides bytes_decides a b).0 h

-- ---- lists

same_head : {X : Type 0} (x y : X) (xs ys : List X) → x ∷ xs ≡ y ∷ ys → x ≡ y
same_head x y xs ys e = cc

same_tail : {X : Type 0} (x y : X) (xs ys : List X) → x ∷ xs ≡ y ∷ ys → xs ≡ ys
same_tail x y xs ys e = cc

pub same_ends : {X : Type 0} (xs ys : List X) (x y : X) → xs ++ x ∷ [] ≡ ys ++ y ∷ [] → (xs ≡ ys) × (x ≡ y)
same_ends [] [] x y e = (refl, same_head x y [] [] e)
same_ends [] (v ∷ vs) x y e = absurd (omega (arith, ap length e, length-append vs (y ∷ [])))
same_ends (u ∷ us) [] x y e = absurd (omega (arith, ap length e, length-append us (x ∷ [])))
same_ends (u ∷ us) (v ∷ vs) x y e =
    let ends = same_ends us vs x y (same_tail u v (us ++ x ∷ []) (vs ++ y ∷ []) e) in
    (ap (λ z. z ∷ us) (same_head u v (us ++ x ∷ []) (vs ++ y ∷ []) e) ∙ ap (λ zs. v ∷ zs) ends.0, ends.1)

pub names_of-append : (xs ys : List PathStep) → path_names (xs ++ ys) ≡ path_names xs ++ path_names ys
names_of-append [] ys = refl
names_of-append (x ∷ xs) ys = ap (λ (ns : Names). x.node ∷ ns) (names_of-append xs ys)

pub path_names-drop : (n : ℕ) (p : List PathStep) → path_names (drop n p) ≡ drop n (path_names p)
path_names-drop zero p = refl
path_names-drop (suc n) [] = refl
path_names-drop (suc n) (s ∷ p) = path_names-drop n p

pub path_names-take : (n : ℕ) (p : List PathStep) → path_names (take n p) ≡ take n (path_names p)
path_names-take zero p = refl
path_names-take (suc n) [] = refl
path_names-take (suc n) (s ∷ p) = ap (λ ns. s.node ∷ ns) (path_names-take n p)

pub drop_front : (n : ℕ) (xs : Names) (x : List ℕ) → n ≤ length xs → drop n (xs ++ x ∷ []) ≡ drop n xs ++ x ∷ []
drop_front zero xs x l = refl
drop_front (suc n) [] x l = absurd (omega arith)
drop_front (suc n) (y ∷ xs) x l = drop_front n xs x (omega arith)

-- what is said of the steps after the first ones
pub each_behind : (test : Names → PathStep → Bool) (above : Names) (front back : List PathStep) → each_step test above (front ++ back) ≡ true
    → each_step test (above ++ path_names front) back ≡ true
each_behind test above [] back h = ap (λ ns. each_step test ns back) (append-nil above) ∙ h
each_behind test above (s ∷ front) back h =
    let parts = and_parts (test (above ++ s.node ∷ []) s) (each_step test (above ++ s.node ∷ []) (front ++ back)) h in
    ap (λ ns. each_step test ns back) (sym (append_assoc above (s.node ∷ []) (path_names front)))
    ∙ each_behind test (above ++ s.node ∷ []) front back parts.1

pub no_keys : (keys : List (List ℕ)) → length keys ≡ 0 → keys ≡ []
no_keys [] e = refl
no_keys (k ∷ ks) e = absurd (omega arith)

-- ---- a step that stands at a container, and at the list

module _ (s : SchemaTable) where
  pub at_container : (names : Names) (step : PathStep) → is_container (node_at s names) ≡ true → stands_at s names step ≡ true → step.keys ≡ []
  at_container names step c h = on (node_at s names) c h
    where
      on : (o : Option Node) → is_container o ≡ true → (is_some o && nat_eq (length step.keys) (length (option_map_or (step_kinds s names) o []))) ≡ true
          → step.keys ≡ []
      on None c h = absurd (false≢true c)
      on (Some Container) c h = no_keys step.keys (eqb-true _ _ h)
      on (Some (ListOf l)) c h = absurd (false≢true c)
      on (Some (Leaf l)) c h = absurd (false≢true c)
      on (Some (LeafList l)) c h = absurd (false≢true c)

  pub at_list : (names : Names) (key : List ℕ) (step : PathStep) → is_list_of key (node_at s names) ≡ true → stands_at s names step ≡ true → length step.keys ≡ 1
  at_list names key step c h = on (node_at s names) c h
    where
      on : (o : Option Node) → is_list_of key o ≡ true → (is_some o && nat_eq (length step.keys) (length (option_map_or (step_kinds s names) o []))) ≡ true
          → length step.keys ≡ 1
      on None c h = absurd (false≢true c)
      on (Some Container) c h = absurd (false≢true c)
      on (Some (ListOf l)) c h =
          let one = ap length (names_are l.keys (key ∷ []) c) in
          eqb-true _ _ h ∙ length-map l.keys (λ (k : List ℕ). kind_of_names s (names ++ k ∷ [])) ∙ one
      on (Some (Leaf l)) c h = absurd (false≢true c)
      on (Some (LeafList l)) c h = absurd (false≢true c)

  down_first : (above : Names) (b : List ℕ) (before : Names) (list : List ℕ)
      → goes_down s above (b ∷ (before ++ list ∷ [])) ≡ (is_container (node_at s (above ++ b ∷ [])) && goes_down s (above ++ b ∷ []) (before ++ list ∷ []))
  down_first above b [] list = refl
  down_first above b (c ∷ cs) list = refl

  -- steps below containers are plain ones, but for the last
  pub record PlainBefore (above before : Names) (list : List ℕ) (p : List PathStep) : Type 0 where
    pub last : PathStep
    pub parts : p ≡ plain_steps before ++ last ∷ []
    pub name : last.node ≡ list
    pub stands : stands_at s (above ++ (before ++ list ∷ [])) last ≡ true

  pub plain_before : (before above : Names) (list : List ℕ) (p : List PathStep) → path_names p ≡ before ++ list ∷ [] → stand s above p ≡ true
      → goes_down s above (before ++ list ∷ []) ≡ true → PlainBefore above before list p
  plain_before [] above list [] e st down = absurd (omega (arith, ap length e))
  plain_before [] above list (x ∷ y ∷ p) e st down = absurd (omega (arith, ap length e))
  plain_before [] above list (x ∷ []) e st down =
      let name : x.node ≡ list = same_head _ _ _ _ e in
      let here = (and_parts (stands_at s (above ++ x.node ∷ []) x) true st).0 in
      record { last = x; parts = refl; name = name; stands = subst (λ (n : List ℕ). stands_at s (above ++ n ∷ []) x ≡ true) name here }
  plain_before (b ∷ before) above list [] e st down = absurd (omega (arith, ap length e))
  plain_before (b ∷ before) above list (x ∷ p) e st down =
      let name : x.node ≡ b = same_head _ _ _ _ e in
      let later : path_names p ≡ before ++ list ∷ [] = same_tail _ _ _ _ e in
      let steps = and_parts (stands_at s (above ++ x.node ∷ []) x) (stand s (above ++ x.node ∷ []) p) st in
      let downs = and_parts (is_container (node_at s (above ++ b ∷ []))) (goes_down s (above ++ b ∷ []) (before ++ list ∷ [])) (sym (down_first above b before list) ∙ down) in
      let bare : x.keys ≡ [] = at_container (above ++ b ∷ []) x downs.0 (subst (λ (n : List ℕ). stands_at s (above ++ n ∷ []) x ≡ true) name steps.0) in
      let plain : x ≡ plain_step b = ap (λ (n : List ℕ). record { node = n; keys = x.keys }) name ∙ ap (λ (ks : List (List ℕ)). record { node = b; keys = ks }) bare in
      let rest = plain_before before (above ++ b ∷ []) list p later (subst (λ (n : List ℕ). stand s (above ++ n ∷ []) p ≡ true) name steps.1) downs.1 in
      record {
        last = rest.last;
        parts = ap (λ (y : PathStep). y ∷ p) plain ∙ ap (λ (ys : List PathStep). plain_step b ∷ ys) rest.parts;
        name = rest.name;
        stands = subst (λ (ns : Names). stands_at s ns rest.last ≡ true) (append_assoc above (b ∷ []) (before ++ list ∷ [])) rest.stands;
      }

-- ---- a path that has the names of the node below these containers, under the same entries as another

pub record Ended (s : SchemaTable) (n : ℕ) (before : Names) (list : List ℕ) (path p : List PathStep) : Type 0 where
  pub last : PathStep
  pub parts : p ≡ take n path ++ (plain_steps (drop n before) ++ last ∷ [])
  pub name : last.node ≡ list
  pub stands : stands_at s (before ++ list ∷ []) last ≡ true
  pub keys : last_keys p ≡ last.keys

pub ended : (s : SchemaTable) (n : ℕ) (before : Names) (list : List ℕ) → n ≤ length before
    → goes_down s (take n (before ++ list ∷ [])) (drop n (before ++ list ∷ [])) ≡ true
    → (path p : List PathStep) → shares n p path ≡ true → stand s [] p ≡ true → path_names p ≡ before ++ list ∷ [] → Ended s n before list path p
ended s n before list shared down path p sh st names =
    let front = take n p in
    let back = drop n p in
    let cut : front ++ back ≡ p = take-append-drop n p in
    let same : front ≡ take n path = (path_eq_decides front (take n path)).0 sh in
    let above : path_names front ≡ take n (before ++ list ∷ []) = path_names-take n p ∙ ap (take n) names in
    let later : path_names back ≡ drop n before ++ list ∷ [] = path_names-drop n p ∙ ap (drop n) names ∙ drop_front n before list shared in
    let downs : goes_down s (path_names front) (drop n before ++ list ∷ []) ≡ true =
    ap (λ (ns : Names). goes_down s ns (drop n before ++ list ∷ [])) above
    ∙ ap (λ (ns : Names). goes_down s (take n (before ++ list ∷ [])) ns) (sym (drop_front n before list shared)) ∙ down in
    let stands : stand s (path_names front) back ≡ true = each_behind (stands_at s) [] front back (ap (stand s []) cut ∙ st) in
    let plain = plain_before s (drop n before) (path_names front) list back later stands downs in
    let whole : path_names front ++ (drop n before ++ list ∷ []) ≡ before ++ list ∷ [] =
    ap (λ (ns : Names). path_names front ++ ns) (sym later) ∙ sym (names_of-append front back) ∙ ap path_names cut ∙ names in
    let parts : p ≡ (front ++ plain_steps (drop n before)) ++ plain.last ∷ [] =
    sym cut ∙ ap (λ (ys : List PathStep). front ++ ys) plain.parts ∙ sym (append_assoc front (plain_steps (drop n before)) (plain.last ∷ [])) in
    record {
      last = plain.last;
      parts = sym cut ∙ ap (λ (ys : List PathStep). front ++ ys) plain.parts
          ∙ ap (λ (xs : List PathStep). xs ++ (plain_steps (drop n before) ++ plain.last ∷ [])) same;
      name = plain.name;
      stands = subst (λ (ns : Names). stands_at s ns plain.last ≡ true) whole plain.stands;
      keys = ap last_keys parts ∙ last_keys-last (front ++ plain_steps (drop n before)) plain.last;
    }
