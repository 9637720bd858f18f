-- Statements without fault: what stands below them is read, and is without fault too.
use Rattle.std.proofs.Common.{◌≡◌, refl, sym, ◌∙◌, ap, subst, List, [], ◌∷◌, ◌++◌, map, ℕ, inl, inr, Bool, true, false, cond}
use Rattle.std.specs.Prelude.{◌||◌, not, Option, Some, None, codes, is_some, option_map, option_and_then}
use Rattle.std.specs.List.{find, position, before_first, after_first, AllByRecursion}
use Rattle.std.specs.Option.{option_or}
use Rattle.std.proofs.lemmas.Bool.{false≢true}
use Rattle.orc_yang.specs.declared.statement.Stmt.{Stmt}
use Rattle.orc_types.specs.Statements.{keyword, subs, argument, is_a}
use Rattle.orc_types.specs.Paths.{is_colon}
use Rattle.orc_modules.specs.declared.word.Word.{Word}
use Rattle.orc_modules.specs.declared.word.Word.TheVariants.{Module, Grouping, Container, List as ListOf, Leaf, LeafList, Uses}
use Rattle.orc_modules.specs.declared.parts.Part.{Part}
use Rattle.orc_modules.specs.declared.parts.Part.TheVariants.{Node as node, Uses as uses}
use Rattle.orc_modules.specs.Words.{word_of}
use Rattle.orc_modules.specs.Statements.{Place, word, is_state, reads, is_read, read_at, places_in, places_below, module_places, defines}
use Rattle.orc_modules.specs.Children.{block_part_of, grouping}
use Rattle.orc_modules.specs.Scopes.{Modules, Found, module_around, in_block_of, in_scope, is_own, imported, module_called, imports_as, behind_prefix}
use Rattle.orc_statements.specs.declared.fault.SchemaFault.{SchemaFault}
use Rattle.orc_statements.specs.Placement.{stands_below, is_module}
use Rattle.orc_statements.specs.Names.{fault_if, unknown, duplicate}
use Rattle.orc_statements.specs.Arguments.{bad_argument}
use Rattle.orc_statements.specs.Faults.{innermost, has_no_default, unsupported, no_key, loops, own_fault_here, type_fault_here, fault_here}
use Rattle.orc_statements.proofs.Blocks.{with_below, below_is}
use Rattle.orc_schema.proofs.SoundLists.{In, some_same, none_some, none_first, none_second, and_left, or_left, not_false, all_left, all_right, found_in, same_text-is}

-- Words ---------------------------------------------------------------------------------------------------------------
-- what data definitions stand in
abbrev pub is_scope : Word → Bool
is_scope Module = true
is_scope Grouping = true
is_scope Container = true
is_scope ListOf = true
is_scope Leaf = true
is_scope LeafList = true
is_scope w = false

-- what holds of these six words
pub scoped : (P : Word → Type 0) → P Module → P Grouping → P Container → P ListOf → P Leaf → P LeafList → (w : Word) → is_scope w ≡ true → P w
scoped P m g c l f v Module h = m
scoped P m g c l f v Grouping h = g
scoped P m g c l f v Container h = c
scoped P m g c l f v ListOf h = l
scoped P m g c l f v Leaf h = f
scoped P m g c l f v LeafList h = v
scoped P m g c l f v w h = absurd (false≢true h)

abbrev is_node_part : Part → Bool
is_node_part node = true
is_node_part p = false

abbrev is_uses_part : Part → Bool
is_uses_part uses = true
is_uses_part p = false

-- what holds of the four words for nodes, where there is no `config false`
pub nodes : (P : Word → Bool → Type 0) → P Container false → P ListOf false → P Leaf false → P LeafList false → (w : Word) (state : Bool) → block_part_of w state ≡ node → P w state
nodes P c l f v Container true h = absurd (false≢true (ap is_node_part h))
nodes P c l f v Container false h = c
nodes P c l f v ListOf true h = absurd (false≢true (ap is_node_part h))
nodes P c l f v ListOf false h = l
nodes P c l f v Leaf true h = absurd (false≢true (ap is_node_part h))
nodes P c l f v Leaf false h = f
nodes P c l f v LeafList true h = absurd (false≢true (ap is_node_part h))
nodes P c l f v LeafList false h = v
nodes P c l f v w state h = absurd (false≢true (ap is_node_part h))

pub used : (P : Word → Type 0) → P Uses → (w : Word) (state : Bool) → block_part_of w state ≡ uses → P w
used P u Uses state h = u
used P u Container true h = absurd (false≢true (ap is_uses_part h))
used P u Container false h = absurd (false≢true (ap is_uses_part h))
used P u ListOf true h = absurd (false≢true (ap is_uses_part h))
used P u ListOf false h = absurd (false≢true (ap is_uses_part h))
used P u Leaf true h = absurd (false≢true (ap is_uses_part h))
used P u Leaf false h = absurd (false≢true (ap is_uses_part h))
used P u LeafList true h = absurd (false≢true (ap is_uses_part h))
used P u LeafList false h = absurd (false≢true (ap is_uses_part h))
used P u w state h = absurd (false≢true (ap is_uses_part h))

module_scope : (w : Word) → is_module w ≡ true → is_scope w ≡ true
module_scope Module h = refl
module_scope w h = absurd (false≢true h)

pub word_is : (s : Stmt) (kw : List ℕ) → is_a kw s ≡ true → word s ≡ word_of kw
word_is s kw h = ap word_of (same_text-is (keyword s) kw h)

-- what is read in a statement of the six words
pub node_read : (p : Word) → is_scope p ≡ true → (w : Word) (state : Bool) → block_part_of w state ≡ node → reads p w state ≡ true
node_read p h w state is = scoped (λ p. reads p w state ≡ true) (of Module refl refl refl refl) (of Grouping refl refl refl refl) (of Container refl refl refl refl)
    (of ListOf refl refl refl refl) (of Leaf refl refl refl refl) (of LeafList refl refl refl refl) p h
  where
    of : (p : Word) → reads p Container false ≡ true → reads p ListOf false ≡ true → reads p Leaf false ≡ true → reads p LeafList false ≡ true → reads p w state ≡ true
    of p c l f v = nodes (λ w state. reads p w state ≡ true) c l f v w state is

pub uses_read : (p : Word) → is_scope p ≡ true → (w : Word) (state : Bool) → block_part_of w state ≡ uses → reads p w state ≡ true
uses_read p h w state is = used (λ w. reads p w state ≡ true) (scoped (λ p. reads p Uses state ≡ true) refl refl refl refl refl refl p h) w state is

grouping_read : (p : Word) → is_scope p ≡ true → (state : Bool) → reads p Grouping state ≡ true
grouping_read p h state = scoped (λ p. reads p Grouping state ≡ true) refl refl refl refl refl refl p h

-- Statements without fault --------------------------------------------------------------------------------------------
pub fault_none : (b : Bool) (f : SchemaFault) → fault_if b f ≡ None → b ≡ false
fault_none true f h = absurd (none_some f (sym h))
fault_none false f h = refl

pub then_some : {X Y : Type 0} (f : X → Option Y) (o : Option X) (y : Y) → option_and_then f o ≡ Some y → (x : X) × (o ≡ Some x) × (f x ≡ Some y)
then_some f None y h = absurd (none_some y h)
then_some f (Some x) y h = (x, refl, h)

module _ (ms : Modules) where
  abbrev pub Free : List Place → Type 0
  Free ps = AllByRecursion (λ p. fault_here ms p ≡ None) ps

  -- the statement below these is not at fault, nor is what is read below it
  pub record Well (above : List Stmt) (s : Stmt) : Type 0 where
    pub before : List Stmt
    pub here : fault_here ms (record { above = above; before = before; here = s }) ≡ None
    pub below : Free (places_below s (s ∷ above))

  module _ (above : List Stmt) (s : Stmt) (w : Well above s) where
    abbrev pub at : Place
    at = record { above = above; before = w.before; here = s }

    -- the faults of a statement from one of the six on
    abbrev from_key : Option SchemaFault
    from_key = option_or (no_key at (word s)) (loops ms at (word s))

    abbrev from_argument : Option SchemaFault
    from_argument = option_or (bad_argument ms at (word s)) from_key

    abbrev from_duplicate : Option SchemaFault
    from_duplicate = option_or (duplicate ms at (word s)) from_argument

    abbrev from_unknown : Option SchemaFault
    from_unknown = option_or (unknown ms at (word s)) from_duplicate

    own : own_fault_here ms at (word s) ≡ None
    own = none_first (own_fault_here ms at (word s)) (type_fault_here ms at (word s)) w.here

    placed_none : unsupported ms at (word s) ≡ None
    placed_none = none_first (unsupported ms at (word s)) from_unknown own

    no_unknown : from_unknown ≡ None
    no_unknown = none_second (unsupported ms at (word s)) from_unknown own

    no_duplicate : from_duplicate ≡ None
    no_duplicate = none_second (unknown ms at (word s)) from_duplicate no_unknown

    no_argument : from_argument ≡ None
    no_argument = none_second (duplicate ms at (word s)) from_argument no_duplicate

    pub placed : stands_below (innermost above) (word s) ≡ true
    placed = not_false (stands_below (innermost above) (word s)) (or_left (not (stands_below (innermost above) (word s))) (has_no_default ms at (word s))
        (fault_none (not (stands_below (innermost above) (word s)) || has_no_default ms at (word s)) _ placed_none))

    pub known : unknown ms at (word s) ≡ None
    known = none_first (unknown ms at (word s)) from_duplicate no_unknown

    pub new : duplicate ms at (word s) ≡ None
    new = none_first (duplicate ms at (word s)) from_argument no_duplicate

    pub formed : bad_argument ms at (word s) ≡ None
    formed = none_first (bad_argument ms at (word s)) from_key no_argument

    pub keyed : no_key at (word s) ≡ None
    keyed = none_first (no_key at (word s)) (loops ms at (word s)) (none_second (bad_argument ms at (word s)) from_key no_argument)

  -- each statement of a block that is read
  each : (parent : Word) (above before ss : List Stmt) → Free (places_in parent above before (map with_below ss)) → (t : Stmt) → In ss t → is_read parent t ≡ true → Well above t
  each parent above before [] free t i read = absurd i
  each parent above before (s ∷ ss) free t (inl e) read = subst (Well above) e
      (let two : Free (cond true (record { above = above; before = before; here = s } ∷ places_below s (s ∷ above)) []) =
      subst (λ b. Free (cond b (record { above = above; before = before; here = s } ∷ places_below s (s ∷ above)) [])) (subst (λ u. is_read parent u ≡ true) (sym e) read)
      (all_left (λ p. fault_here ms p ≡ None) (read_at parent above before s (places_below s (s ∷ above))) (places_in parent above (before ++ s ∷ []) (map with_below ss)) free) in
      record { before = before; here = two.0; below = two.1 })
  each parent above before (s ∷ ss) free t (inr i) read = each parent above (before ++ s ∷ []) ss
      (all_right (λ p. fault_here ms p ≡ None) (read_at parent above before s (places_below s (s ∷ above))) (places_in parent above (before ++ s ∷ []) (map with_below ss)) free) t i read

  pub well_below : (above : List Stmt) (s : Stmt) → Well above s → (t : Stmt) → In (subs s) t → is_read (word s) t ≡ true → Well (s ∷ above) t
  well_below above s w t i read = each (word s) (s ∷ above) [] (subs s) (subst Free (below_is s (s ∷ above)) w.below) t i read

  -- statements that stand in one another, the innermost first, are without fault
  abbrev pub Good : List Stmt → Type 0
  Good [] = Unit {0}
  Good (s ∷ above) = Well above s × (is_scope (word s) ≡ true) × Good above

  modules_well : (before all : List Stmt) → Free (module_places before all) → (m : Stmt) → In all m → Well [] m
  modules_well before [] free m i = absurd i
  modules_well before (s ∷ ss) free m (inl e) = subst (Well []) e (record {
    before = before;
    here = free.0;
    below = all_left (λ p. fault_here ms p ≡ None) (places_below s (s ∷ [])) (module_places (before ++ s ∷ []) ss) free.1;
  })
  modules_well before (s ∷ ss) free m (inr i) = modules_well (before ++ s ∷ []) ss
      (all_right (λ p. fault_here ms p ≡ None) (record { above = []; before = before; here = s } ∷ places_below s (s ∷ [])) (module_places (before ++ s ∷ []) ss) free) m i

  module _ (free : Free (module_places [] ms.all)) where
    pub module_well : (m : Stmt) → In ms.all m → Well [] m
    module_well m i = modules_well [] ms.all free m i

    pub module_good : (m : Stmt) → In ms.all m → Good (m ∷ [])
    module_good m i = let w = module_well m i in (w, module_scope (word m) (placed [] m w), tt)

    -- what a name finds stands among statements without fault
    in_block : (name : List ℕ) (s : Stmt) (above : List Stmt) (g : Found) → Good (s ∷ above) → in_block_of (codes "grouping") name s above ≡ Some g → Good (g.here ∷ g.above)
    in_block name s above g good h = on (find (defines (codes "grouping") name) (subs s)) refl h
      where
        on : (o : Option Stmt) → find (defines (codes "grouping") name) (subs s) ≡ o → option_map (λ d. record { above = s ∷ above; here = d }) o ≡ Some g → Good (g.here ∷ g.above)
        on None is h = absurd (none_some g h)
        on (Some d) is h =
            let f = found_in (defines (codes "grouping") name) (subs s) d is in
            let w : word d ≡ Grouping = word_is d (codes "grouping") (and_left (is_a (codes "grouping") d) _ f.1) in
            let read : is_read (word s) d ≡ true = ap (λ v. reads (word s) v (is_state d)) w ∙ grouping_read (word s) good.1 (is_state d) in
            subst (λ (x : Found). Good (x.here ∷ x.above)) (some_same (record { above = s ∷ above; here = d }) g h)
            (well_below above s good.0 d f.0 read, ap is_scope w, good)

    in_scopes : (name : List ℕ) (above : List Stmt) (g : Found) → Good above → in_scope (codes "grouping") name above ≡ Some g → Good (g.here ∷ g.above)
    in_scopes name [] g good h = absurd (none_some g h)
    in_scopes name (s ∷ above) g good h = on (in_block_of (codes "grouping") name s above) refl h (in_scopes name above g good.2)
      where
        on : (o : Option Found) → in_block_of (codes "grouping") name s above ≡ o → option_or o (in_scope (codes "grouping") name above) ≡ Some g
            → (in_scope (codes "grouping") name above ≡ Some g → Good (g.here ∷ g.above)) → Good (g.here ∷ g.above)
        on None is h rest = rest h
        on (Some x) is h rest = in_block name s above g good (is ∙ h)

    behind : (prefix name : List ℕ) (above : List Stmt) (m : Stmt) (g : Found) → Good above → (b : Bool)
        → cond b (in_scope (codes "grouping") name above) (option_and_then (λ other. in_block_of (codes "grouping") name other []) (imported ms.all prefix m)) ≡ Some g → Good (g.here ∷ g.above)
    behind prefix name above m g good true h = in_scopes name above g good h
    behind prefix name above m g good false h =
        let other = then_some (λ o. in_block_of (codes "grouping") name o []) (imported ms.all prefix m) g h in
        let found = then_some (λ i. module_called ms.all (argument i)) (find (imports_as prefix) _) other.0 other.1 in
        let is = found_in (defines (codes "module") (argument found.0)) ms.all other.0 found.2 in
        in_block name other.0 [] g (module_good other.0 is.0) other.2

    meant : (text : List ℕ) (above : List Stmt) (g : Found) → Good above → (b : Bool)
        → cond b (option_and_then (behind_prefix ms.all (codes "grouping") (before_first is_colon text) (after_first is_colon text) above) (module_around above)) (in_scope (codes "grouping") text above) ≡ Some g
        → Good (g.here ∷ g.above)
    meant text above g good true h =
        let m = then_some (behind_prefix ms.all (codes "grouping") (before_first is_colon text) (after_first is_colon text) above) (module_around above) g h in
        behind (before_first is_colon text) (after_first is_colon text) above m.0 g good (is_own (before_first is_colon text) m.0) m.2
    meant text above g good false h = in_scopes text above g good h

    pub grouping_good : (above : List Stmt) (s : Stmt) (g : Found) → Good above → grouping ms.all above s ≡ Some g → Good (g.here ∷ g.above)
    grouping_good above s g good h = meant (argument s) above g good (is_some (position is_colon (argument s))) h
