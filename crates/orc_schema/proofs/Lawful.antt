-- The laws of specs/Laws.antt.
use Rattle.std.proofs.Common.{◌≡◌, refl, sym, ◌∙◌, ap, subst, List, [], ◌∷◌, ◌++◌, map, ℕ, zero, suc, Bool, true, false}
use Rattle.std.specs.Prelude.{Option, Some, None, ◌||◌, Contains}
use Rattle.std.specs.Option.{option_or, option_map_or}
use Rattle.std.specs.List.{list_any, AllByRecursion, IsDistinct}
use Rattle.std.proofs.lemmas.Bool.{false≢true}
use Rattle.std.proofs.lemmas.List.Elements.{All-from_recursion}
use Rattle.std.proofs.lemmas.Map.Keys.{IsDistinct-from_sorted}
use Rattle.orc_yang.specs.declared.statement.Stmt.{Stmt}
use Rattle.orc_types.specs.Statements.{subs}
use Rattle.orc_modules.specs.declared.parts.Part.{Part}
use Rattle.orc_modules.specs.declared.parts.Part.TheVariants.{Node as node, Uses as uses, Nothing as nothing}
use Rattle.orc_modules.specs.Statements.{Place, module_places}
use Rattle.orc_modules.specs.Scopes.{Modules, Found, the_modules}
use Rattle.orc_modules.specs.Children.{is_deeper, deeper_at, deeper_in, block_part, grouping}
use Rattle.orc_statements.specs.declared.fault.SchemaFault.{SchemaFault}
use Rattle.orc_schema.specs.declared.draft.Draft.{Draft}
use Rattle.orc_statements.specs.Faults.{fault_here, first_some}
use Rattle.orc_schema.specs.Drafts.{Where, drafts_below, drafts_in, drafts_at, drafts_of, draft, inside_node, in_grouping, inside_module}
use Rattle.orc_schema_nodes.specs.Names.{names_cmp}
use Rattle.orc_schema.specs.Links.{chain, node_in, link_fault}
use Rattle.orc_schema.specs.Laws.{AreFaultless, FirstFaultIsLeast, FirstLinkFaultIsLeast, StandsIn, StandsFor, NodesStandForStatements, DepthIsNoLimit, NamesDiffer}
use Rattle.orc_schema_nodes.proofs.Ordered.{same_is}
use Rattle.orc_schema.proofs.Standing.{contains_here, contains_there, Holds, FoundIn, StandAround, grouping_stands}

is_none_type : {X : Type 0} → Option X → Type 0
is_none_type None = Unit {0}
is_none_type (Some x) = ⊥

none_not_some : {X : Type 0} (x : X) → None ≡ Some x → ⊥
unfolding is_none_type
none_not_some x h = subst (λ o. is_none_type o) h tt

-- the first fault of a list, with what stands before it
module _ {X : Type 0} (fault_at : X → Option SchemaFault) where
  abbrev Faultless : List X → Type 0
  Faultless xs = AllByRecursion (λ x. fault_at x ≡ None) xs

  record First (xs : List X) (f : SchemaFault) : Type 0 where
    front : List X
    at : X
    back : List X
    whole : xs ≡ front ++ at ∷ back
    before : Faultless front
    fault : fault_at at ≡ Some f

  least : (xs : List X) (f : SchemaFault) → first_some fault_at xs ≡ Some f → First xs f
  least [] f h = absurd (none_not_some f h)
  least (x ∷ xs) f h = on (fault_at x) refl h (least xs f)
    where
      on : (o : Option SchemaFault) → fault_at x ≡ o → option_or o (first_some fault_at xs) ≡ Some f
          → (first_some fault_at xs ≡ Some f → First xs f) → First (x ∷ xs) f
      on (Some g) is h rest = record { front = []; at = x; back = xs; whole = refl; before = tt; fault = is ∙ h }
      on None is h rest = let r = rest h in record { front = x ∷ r.front; at = r.at; back = r.back; whole = ap (λ l. x ∷ l) r.whole; before = (is, r.before); fault = r.fault }

are_faultless : (all : List Stmt) (ps : List Place) → Faultless (fault_here (the_modules all)) ps → AreFaultless all ps
are_faultless all [] h = tt
are_faultless all (p ∷ ps) h = (h.0, are_faultless all ps h.1)

pub first_fault_is_least : FirstFaultIsLeast
first_fault_is_least all f h = let r = least (fault_here (the_modules all)) (module_places [] all) f h in
    record { front = r.front; place = r.at; back = r.back; places = r.whole; before = are_faultless all r.front r.before; fault = r.fault }

pub first_link_fault_is_least : FirstLinkFaultIsLeast
first_link_fault_is_least ds f h = let r = least (link_fault chain (node_in ds)) ds f h in
    record { front = r.front; node = r.at; back = r.back; nodes = r.whole; before = All-from_recursion (λ d. link_fault chain (node_in ds) d ≡ None) r.front r.before; fault = r.fault }

-- a deeper look finds nothing more
module _ (n : ℕ) (ms : Modules) (ih : (w : Where) (s : Stmt) → is_deeper n ms.all w.above s ≡ false → drafts_below (suc n) ms w s ≡ drafts_below n ms w s) where
  under : (w : Where) (o : Option Found) → option_map_or (deeper_in (is_deeper n ms.all)) o false ≡ false
      → option_map_or (λ g. drafts_below (suc n) ms (in_grouping w g) g.here) o [] ≡ option_map_or (λ g. drafts_below n ms (in_grouping w g) g.here) o []
  under w None h = refl
  under w (Some g) h = ih (in_grouping w g) g.here h

  one : (w : Where) (t : Stmt) (p : Part) → deeper_at (is_deeper n ms.all) ms.all w.above t p ≡ false → drafts_at ms (drafts_below (suc n) ms) w t p ≡ drafts_at ms (drafts_below n ms) w t p
  one w t node h = ap (λ r. draft ms w t ∷ r) (ih (inside_node w t) t h)
  one w t uses h = under w (grouping ms.all w.above t) h
  one w t nothing h = refl

  or_left : (a b : Bool) → (a || b) ≡ false → a ≡ false
  or_left true b h = h
  or_left false b h = refl

  or_right : (a b : Bool) → (a || b) ≡ false → b ≡ false
  or_right true b h = absurd (false≢true (sym h))
  or_right false b h = h

  block : (w : Where) (ss : List Stmt) → list_any (λ t. deeper_at (is_deeper n ms.all) ms.all w.above t (block_part t)) ss ≡ false
      → drafts_in ms (drafts_below (suc n) ms) w ss ≡ drafts_in ms (drafts_below n ms) w ss
  block w [] h = refl
  block w (t ∷ ts) h = let rest : Bool = list_any (λ u. deeper_at (is_deeper n ms.all) ms.all w.above u (block_part u)) ts in
      ap (λ r. r ++ drafts_in ms (drafts_below (suc n) ms) w ts) (one w t (block_part t) (or_left (deeper_at (is_deeper n ms.all) ms.all w.above t (block_part t)) rest h))
      ∙ ap (λ r. drafts_at ms (drafts_below n ms) w t (block_part t) ++ r) (block w ts (or_right (deeper_at (is_deeper n ms.all) ms.all w.above t (block_part t)) rest h))

pub depth_is_no_limit : DepthIsNoLimit
depth_is_no_limit zero ms w s h = absurd (false≢true (sym h))
depth_is_no_limit (suc n) ms w s h = block n ms (λ v t. depth_is_no_limit n ms v t) w (subs s) h

-- each node stands for a statement
module _ (ms : Modules) where
  abbrev Stand : List Draft → Type 0
  Stand ds = AllByRecursion (StandsFor ms) ds

  stand-append : (xs ys : List Draft) → Stand xs → Stand ys → Stand (xs ++ ys)
  stand-append [] ys a b = b
  stand-append (x ∷ xs) ys a b = (a.0, stand-append xs ys a.1 b)

  -- what stands in the block of s comes to stand at w, with s and what is around it around that
  record Surrounds (w : Where) (s : Stmt) : Type 0 where
    around : StandAround ms.all w.above
    block : (t : Stmt) → Contains (subs s) t → StandsIn ms.all w.above t

  of_node : (w : Where) (s : Stmt) → StandsIn ms.all w.above s → Surrounds (inside_node w s) s
  of_node w s h = record { around = h; block = λ t c. (c, h) }

  of_grouping : (w : Where) (g : Found) → FoundIn ms.all g → Surrounds (in_grouping w g) g.here
  of_grouping w g h = record { around = h; block = λ t c. (c, h) }

  of_module : (m : Stmt) → Contains ms.all m → Surrounds (inside_module m) m
  of_module m h = record { around = h; block = λ t c. (c, h) }

  module _ (below : Where → Stmt → List Draft) (ih : (w : Where) (s : Stmt) → Surrounds w s → Stand (below w s)) where
    brings : (w : Where) (o : Option Found) → Holds (FoundIn ms.all) o → Stand (option_map_or (λ g. below (in_grouping w g) g.here) o [])
    brings w None h = tt
    brings w (Some g) h = ih (in_grouping w g) g.here (of_grouping w g h)

    at_one : (w : Where) (s : Stmt) (p : Part) → block_part s ≡ p → StandAround ms.all w.above → StandsIn ms.all w.above s → Stand (drafts_at ms below w s p)
    at_one w s node is around h = (record { at = w; statement = s; stands = h; is_node = is; made = refl }, ih (inside_node w s) s (of_node w s h))
    at_one w s uses is around h = brings w (grouping ms.all w.above s) (grouping_stands ms.all w.above s around)
    at_one w s nothing is around h = tt

    in_all : (w : Where) (ss : List Stmt) → StandAround ms.all w.above → ((t : Stmt) → Contains ss t → StandsIn ms.all w.above t) → Stand (drafts_in ms below w ss)
    in_all w [] around h = tt
    in_all w (s ∷ ss) around h = stand-append (drafts_at ms below w s (block_part s)) (drafts_in ms below w ss)
        (at_one w s (block_part s) refl around (h s (contains_here s ss))) (in_all w ss around (λ t c. h t (contains_there s ss t c)))

  below_all : (n : ℕ) (w : Where) (s : Stmt) → Surrounds w s → Stand (drafts_below n ms w s)
  below_all zero w s h = tt
  below_all (suc n) w s h = in_all (drafts_below n ms) (below_all n) w (subs s) h.around h.block

  of_all : (modules : List Stmt) → ((m : Stmt) → Contains modules m → Contains ms.all m) → Stand (drafts_of ms modules)
  of_all [] h = tt
  of_all (m ∷ rest) h = stand-append (drafts_below ms.most ms (inside_module m) m) (drafts_of ms rest)
      (below_all ms.most (inside_module m) m (of_module m (h m (contains_here m rest)))) (of_all rest (λ t c. h t (contains_there m rest t c)))

pub nodes_stand_for_statements : NodesStandForStatements
nodes_stand_for_statements ms = All-from_recursion (StandsFor ms) (drafts_of ms ms.all) (of_all ms ms.all (λ m c. c))

pub names_differ : NamesDiffer
names_differ s ascends = subst (λ (e : List (List ℕ) → List (List ℕ) → Bool). IsDistinct e (map (λ l. l.names) s.lines)) (sym (λ i x y. same_is x y i)) (IsDistinct-from_sorted names_cmp (map (λ l. l.names) s.lines) ascends)
