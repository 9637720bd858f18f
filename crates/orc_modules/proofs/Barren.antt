-- Groupings that bring nothing.
use Rattle.std.proofs.Common.{◌≡◌, refl, sym, ◌∙◌, ap, arith, ℕ, zero, suc, ◌+◌, ◌-◌, ◌<◌, length, get_or, Bool, true, false, List, [], ◌∷◌, ◌++◌}
use Rattle.std.specs.Prelude.{Option, Some, None, Result, Ok, Err, IfOk, codes, cond, drop, ◌||◌, ◌&&◌, nat_le}
use Rattle.std.specs.List.{list_any}
use Rattle.std.specs.Cmp.Lexicographic.{bytes_decides}
use Rattle.std.specs.Option.{option_map_or, option_or}
use Rattle.std.proofs.lemmas.Bool.{false≢true, leb-true}
use Rattle.std.proofs.lemmas.List.{drop_more}
use Rattle.orc_value.specs.Canon.{same_text}
use Rattle.orc_yang.specs.declared.statement.Stmt.{Stmt}
use Rattle.orc_types.specs.Statements.{subs}
use Rattle.orc_modules.specs.declared.parts.Part.{Part}
use Rattle.orc_modules.specs.declared.parts.Part.TheVariants.{Node as node, Uses as uses, Nothing as nothing}
use Rattle.orc_modules.specs.declared.bare.Known.{Known}
use Rattle.orc_modules.specs.declared.meant.Typed.{Typed}
use Rattle.orc_modules.specs.Scopes.{Modules, Found}
use Rattle.orc_modules.specs.Bases.{type_in}
use Rattle.orc_modules.specs.Statements.{defines}
use Rattle.orc_modules.specs.Bare.{brings_in, brings_at, may_bring, Brings}
use Rattle.orc_modules.specs.Children.{block_part, grouping, is_deeper, deeper_at, deeper_in, brought, children_by, child}
use Rattle.orc_modules.specs.inside.Beside.{beside, beside_brings}
use Rattle.orc_modules.specs.inside.Known.{AreBare, is_known}
use Rattle.orc_modules.specs.inside.Leaves.{leaf_brought, leaf_by, leaf_at}

first_of_or : (a b : Bool) → (a || b) ≡ false → a ≡ false
first_of_or true b h = h
first_of_or false b h = refl

rest_of_or : (a b : Bool) → (a || b) ≡ false → b ≡ false
rest_of_or true b h = absurd (false≢true (sym h))
rest_of_or false b h = h

pub first_of_and : (a b : Bool) → (a && b) ≡ true → a ≡ true
first_of_and true b h = refl
first_of_and false b h = h

pub rest_of_and : (a b : Bool) → (a && b) ≡ true → b ≡ true
rest_of_and true b h = h
rest_of_and false b h = absurd (false≢true h)

-- what brings nothing brings nothing in whatever is asked of it
module _ (modules : List Stmt) (inner : List Stmt → Stmt → Bool) where
  module _ (other : List Stmt → Stmt → Bool) (less : (a : List Stmt) (s : Stmt) → inner a s ≡ false → other a s ≡ false) (above : List Stmt) where
    brings_too : (o : Option Found) → option_map_or (brings_in inner) o true ≡ false → option_map_or (brings_in other) o true ≡ false
    brings_too None h = h
    brings_too (Some g) h = less (g.here ∷ g.above) g.here h

    brings_one : (t : Stmt) (p : Part) → brings_at inner modules above t p ≡ false → brings_at other modules above t p ≡ false
    brings_one t node h = h
    brings_one t uses h = brings_too (grouping modules above t) h
    brings_one t nothing h = refl

    pub brings_all : (ss : List Stmt) → list_any (λ t. brings_at inner modules above t (block_part t)) ss ≡ false
        → list_any (λ t. brings_at other modules above t (block_part t)) ss ≡ false
    brings_all [] h = refl
    brings_all (t ∷ ts) h =
        let one : Bool = brings_at inner modules above t (block_part t) in
        let rest : Bool = list_any (λ u. brings_at inner modules above u (block_part u)) ts in
        ap (λ b. b || list_any (λ u. brings_at other modules above u (block_part u)) ts) (brings_one t (block_part t) (first_of_or one rest h))
        ∙ brings_all ts (rest_of_or one rest h)

    deeper_too : (o : Option Found) → option_map_or (brings_in inner) o true ≡ false → option_map_or (deeper_in other) o false ≡ false
    deeper_too None h = refl
    deeper_too (Some g) h = less (g.here ∷ g.above) g.here h

    deeper_one : (t : Stmt) (p : Part) → brings_at inner modules above t p ≡ false → deeper_at other modules above t p ≡ false
    deeper_one t node h = absurd (false≢true (sym h))
    deeper_one t uses h = deeper_too (grouping modules above t) h
    deeper_one t nothing h = refl

    pub deeper_all : (ss : List Stmt) → list_any (λ t. brings_at inner modules above t (block_part t)) ss ≡ false
        → list_any (λ t. deeper_at other modules above t (block_part t)) ss ≡ false
    deeper_all [] h = refl
    deeper_all (t ∷ ts) h =
        let one : Bool = brings_at inner modules above t (block_part t) in
        let rest : Bool = list_any (λ u. brings_at inner modules above u (block_part u)) ts in
        ap (λ b. b || list_any (λ u. deeper_at other modules above u (block_part u)) ts) (deeper_one t (block_part t) (first_of_or one rest h))
        ∙ deeper_all ts (rest_of_or one rest h)

  module _ (nodes : Found → List Found) (none : (g : Found) → inner (g.here ∷ g.above) g.here ≡ false → nodes g ≡ []) (above : List Stmt) where
    no_child_of : (o : Option Found) → option_map_or (brings_in inner) o true ≡ false → option_map_or nodes o [] ≡ []
    no_child_of None h = refl
    no_child_of (Some g) h = none g h

    no_child : (t : Stmt) (p : Part) → brings_at inner modules above t p ≡ false → child nodes modules above t p ≡ []
    no_child t node h = absurd (false≢true (sym h))
    no_child t uses h = no_child_of (grouping modules above t) h
    no_child t nothing h = refl

    pub no_children : (ss : List Stmt) → list_any (λ t. brings_at inner modules above t (block_part t)) ss ≡ false → children_by nodes modules above ss ≡ []
    no_children [] h = refl
    no_children (t ∷ ts) h =
        let one : Bool = brings_at inner modules above t (block_part t) in
        let rest : Bool = list_any (λ u. brings_at inner modules above u (block_part u)) ts in
        ap (λ cs. cs ++ children_by nodes modules above ts) (no_child t (block_part t) (first_of_or one rest h))
        ∙ no_children ts (rest_of_or one rest h)

module _ (modules : List Stmt) where
  one_deeper : (n : ℕ) (a : List Stmt) (s : Stmt) → may_bring n modules a s ≡ false → may_bring (suc n) modules a s ≡ false
  one_deeper zero a s h = absurd (false≢true (sym h))
  one_deeper (suc n) a s h = brings_all modules (may_bring n modules) (may_bring (suc n) modules) (one_deeper n) a (subs s) h

  as_deep : (k n : ℕ) (a : List Stmt) (s : Stmt) → may_bring n modules a s ≡ false → may_bring (k + n) modules a s ≡ false
  as_deep zero n a s h = let e : zero + n ≡ n = omega arith in ap (λ m. may_bring m modules a s) e ∙ h
  as_deep (suc k) n a s h = let e : suc k + n ≡ suc (k + n) = omega arith in
      ap (λ m. may_bring m modules a s) e ∙ one_deeper (k + n) a s (as_deep k n a s h)

  pub deep_too : (n m : ℕ) (a : List Stmt) (s : Stmt) → nat_le n m ≡ true → may_bring n modules a s ≡ false → may_bring m modules a s ≡ false
  deep_too n m a s le h = let e : m ≡ (m - n) + n = omega (arith, leb-true n m le) in
      ap (λ k. may_bring k modules a s) e ∙ as_deep (m - n) n a s h

  not_deeper : (n : ℕ) (a : List Stmt) (s : Stmt) → may_bring n modules a s ≡ false → is_deeper n modules a s ≡ false
  not_deeper zero a s h = h
  not_deeper (suc n) a s h = deeper_all modules (may_bring n modules) (is_deeper n modules) (not_deeper n) a (subs s) h

  nothing_brought : (n : ℕ) (a : List Stmt) (s : Stmt) → may_bring n modules a s ≡ false → brought n modules a (subs s) ≡ []
  nothing_brought zero a s h = refl
  nothing_brought (suc n) a s h = no_children modules (may_bring n modules) (λ g. brought n modules (g.here ∷ g.above) (subs g.here))
      (λ g h. nothing_brought n (g.here ∷ g.above) g.here h) a (subs s) h

  -- what is found for a `uses` decides, where what brings nothing isn't found
  pub bare_deeper : (n : ℕ) (o : Option Found) → option_map_or (brings_in (may_bring n modules)) o false ≡ false → option_map_or (deeper_in (is_deeper n modules)) o false ≡ false
  bare_deeper n None h = refl
  bare_deeper n (Some g) h = not_deeper n (g.here ∷ g.above) g.here h

  bare_brought : (n : ℕ) (o : Option Found) → option_map_or (brings_in (may_bring n modules)) o false ≡ false → option_map_or (λ g. brought n modules (g.here ∷ g.above) (subs g.here)) o [] ≡ []
  bare_brought n None h = refl
  bare_brought n (Some g) h = nothing_brought n (g.here ∷ g.above) g.here h

  pub nodes_by : (n : ℕ) (above : List Stmt) (s : Stmt) (o : Option Found) → Brings n modules above s o
      → option_map_or (λ g. brought n modules (g.here ∷ g.above) (subs g.here)) (grouping modules above s) [] ≡ option_map_or (λ g. brought n modules (g.here ∷ g.above) (subs g.here)) o []
  nodes_by n above s None h = bare_brought n (grouping modules above s) h
  nodes_by n above s (Some g) h = ap (λ o. option_map_or (λ g. brought n modules (g.here ∷ g.above) (subs g.here)) o []) h

  module _ (above : List Stmt) where
    -- what is known of a grouping of this name
    pub known_of : (ks : List Known) (n : ℕ) (name : List ℕ) (h : Stmt) → AreBare modules above ks → beside above name ≡ Some h
        → list_any (is_known n name) ks ≡ true → may_bring n modules (h ∷ above) h ≡ false
    known_of [] n name h bare is some = absurd (false≢true some)
    known_of (k ∷ ks) n name h bare is some = on (is_known n name k) refl (known_of ks n name h (rest_of_or (beside_brings k.depth modules above k.name.now) (list_any (λ j. beside_brings j.depth modules above j.name.now) ks) bare) is)
      where
        on : (b : Bool) → is_known n name k ≡ b → (list_any (is_known n name) ks ≡ true → may_bring n modules (h ∷ above) h ≡ false) → may_bring n modules (h ∷ above) h ≡ false
        on false not later = later (sym (ap (λ b. b || list_any (is_known n name) ks) not) ∙ some)
        on true same later =
            let le : nat_le k.depth n ≡ true = first_of_and (nat_le k.depth n) (same_text k.name.now name) same in
            let named : k.name.now ≡ name = (bytes_decides k.name.now name).0 (rest_of_and (nat_le k.depth n) (same_text k.name.now name) same) in
            deep_too k.depth n (h ∷ above) h le
            (sym (ap (λ o. option_map_or (λ g. may_bring k.depth modules (g ∷ above) g) o true) (ap (beside above) named ∙ is)) ∙ first_of_or (beside_brings k.depth modules above k.name.now) (list_any (λ j. beside_brings j.depth modules above j.name.now) ks) bare)

module _ (ms : Modules) (name : List ℕ) where
  module _ (inner : List Stmt → Stmt → Bool) (types : Found → Option (Option Typed)) (none : (g : Found) → inner (g.here ∷ g.above) g.here ≡ false → types g ≡ None) (above : List Stmt) where
    no_leaf_of : (o : Option Found) → option_map_or (brings_in inner) o true ≡ false → option_map_or types o None ≡ None
    no_leaf_of None h = refl
    no_leaf_of (Some g) h = none g h

    no_leaf : (t : Stmt) (p : Part) → brings_at inner ms.all above t p ≡ false → leaf_at types ms above name t p ≡ None
    no_leaf t node h = absurd (false≢true (sym h))
    no_leaf t uses h = no_leaf_of (grouping ms.all above t) h
    no_leaf t nothing h = refl

    no_leaves : (ss : List Stmt) → list_any (λ t. brings_at inner ms.all above t (block_part t)) ss ≡ false → leaf_by types ms above name ss ≡ None
    no_leaves [] h = refl
    no_leaves (t ∷ ts) h =
        let one : Bool = brings_at inner ms.all above t (block_part t) in
        let rest : Bool = list_any (λ u. brings_at inner ms.all above u (block_part u)) ts in
        ap (λ o. option_or o (leaf_by types ms above name ts)) (no_leaf t (block_part t) (first_of_or one rest h))
        ∙ no_leaves ts (rest_of_or one rest h)

  no_leaf_brought : (n : ℕ) (a : List Stmt) (s : Stmt) → may_bring n ms.all a s ≡ false → leaf_brought n ms a name (subs s) ≡ None
  no_leaf_brought zero a s h = refl
  no_leaf_brought (suc n) a s h = no_leaves (may_bring n ms.all) (λ g. leaf_brought n ms (g.here ∷ g.above) name (subs g.here))
      (λ g h. no_leaf_brought n (g.here ∷ g.above) g.here h) a (subs s) h

  bare_leaf : (n : ℕ) (o : Option Found) → option_map_or (brings_in (may_bring n ms.all)) o false ≡ false → option_map_or (λ g. leaf_brought n ms (g.here ∷ g.above) name (subs g.here)) o None ≡ None
  bare_leaf n None h = refl
  bare_leaf n (Some g) h = no_leaf_brought n (g.here ∷ g.above) g.here h

  pub leaf_from : (n : ℕ) (above : List Stmt) (s : Stmt) (o : Option Found) → Brings n ms.all above s o
      → option_map_or (λ g. leaf_brought n ms (g.here ∷ g.above) name (subs g.here)) (grouping ms.all above s) None ≡ option_map_or (λ g. leaf_brought n ms (g.here ∷ g.above) name (subs g.here)) o None
  leaf_from n above s None h = bare_leaf n (grouping ms.all above s) h
  leaf_from n above s (Some g) h = ap (λ o. option_map_or (λ g. leaf_brought n ms (g.here ∷ g.above) name (subs g.here)) o None) h

-- what follows of a value
pub if_ok : {X E : Type 0} (P Q : X → Type 0) → ((x : X) → P x → Q x) → (r : Result X E) → IfOk r P → IfOk r Q
if_ok P Q follows (Ok x) h = follows x h
if_ok P Q follows (Err e) h = h

module _ (inner : List Stmt → Stmt → Bool) (modules above : List Stmt) (s : Stmt) where
  pub brings-nothing : block_part s ≡ nothing → brings_at inner modules above s (block_part s) ≡ false
  brings-nothing is = ap (brings_at inner modules above s) is

  pub brings-uses : (g : Found) → block_part s ≡ uses → grouping modules above s ≡ Some g → inner (g.here ∷ g.above) g.here ≡ false → brings_at inner modules above s (block_part s) ≡ false
  brings-uses g is names bare = ap (brings_at inner modules above s) is ∙ ap (λ o. option_map_or (brings_in inner) o true) names ∙ bare

pub deeper-none : (inner : List Stmt → Stmt → Bool) (modules above : List Stmt) (s : Stmt) → block_part s ≡ uses → option_map_or (deeper_in inner) (grouping modules above s) false ≡ false
    → deeper_at inner modules above s (block_part s) ≡ false
deeper-none inner modules above s is shallow = ap (deeper_at inner modules above s) is ∙ shallow

-- one statement of a block further
module _ (types : Found → Option (Option Typed)) (ms : Modules) (above : List Stmt) (name : List ℕ) where
  module _ (xs : List Stmt) (i : ℕ) (x : Stmt) (below : i < length xs) (is : get_or xs i x ≡ x) where
    leaf-opened : leaf_by types ms above name (drop i xs) ≡ option_or (leaf_at types ms above name x (block_part x)) (leaf_by types ms above name (drop (i + 1) xs))
    leaf-opened = ap (leaf_by types ms above name) (drop_more xs i x below ∙ ap (λ y. y ∷ drop (i + 1) xs) is)

    pub leaf-past : leaf_at types ms above name x (block_part x) ≡ None → leaf_by types ms above name (drop i xs) ≡ leaf_by types ms above name (drop (i + 1) xs)
    leaf-past none = leaf-opened ∙ ap (λ o. option_or o (leaf_by types ms above name (drop (i + 1) xs))) none

    pub leaf-here : (typed : Option Typed) → leaf_at types ms above name x (block_part x) ≡ Some typed → leaf_by types ms above name (drop i xs) ≡ Some typed
    leaf-here typed some = leaf-opened ∙ ap (λ o. option_or o (leaf_by types ms above name (drop (i + 1) xs))) some

  pub at-uses : (x : Stmt) (o : Option Found) (r : Option (Option Typed)) → block_part x ≡ uses → option_map_or types (grouping ms.all above x) None ≡ option_map_or types o None
      → option_map_or types o None ≡ r → leaf_at types ms above name x (block_part x) ≡ r
  at-uses x o r part found is = ap (leaf_at types ms above name x) part ∙ found ∙ is

  pub at-node : (x : Stmt) → block_part x ≡ node → defines (codes "leaf") name x ≡ false → leaf_at types ms above name x (block_part x) ≡ None
  at-node x part other = ap (leaf_at types ms above name x) part ∙ ap (λ b. cond b (Some (type_in ms.most ms.all above x)) None) other

  pub at-nothing : (x : Stmt) → block_part x ≡ nothing → leaf_at types ms above name x (block_part x) ≡ None
  at-nothing x part = ap (leaf_at types ms above name x) part
