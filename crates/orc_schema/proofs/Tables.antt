-- The schema of nodes, by their lines in the order of their names.
use Rattle.std.proofs.Common.{◌≡◌, refl, sym, ◌∙◌, ap, subst, List, [], ◌∷◌, map, ℕ, false}
use Rattle.std.specs.Prelude.{IfOk, Option, None, Result, Ok, Err}
use Rattle.std.specs.Option.{option_or}
use Rattle.std.specs.List.{list_any}
use Rattle.orc_yang.specs.declared.statement.Stmt.{Stmt}
use Rattle.orc_modules.specs.Scopes.{the_modules}
use Rattle.std.specs.List.Sorted.{IsPermutation, IsStrictlySortedBy}
use Rattle.std.proofs.lemmas.List.Sorted.{IsPermutation-map}
use denote.Ref.{Bor}
use Rattle.orc_statements.specs.declared.fault.SchemaFault.{SchemaFault}
use Rattle.orc_statements.specs.declared.fault.SchemaFault.TheVariants.{Unsupported, Unknown, Duplicate, BadArgument, NoKey, Loop, Memory}
use Rattle.orc_modules.specs.declared.place.TheConstants.{MAX_CHAIN}
use Rattle.orc_schema.specs.declared.draft.Draft.{Draft}
use Rattle.orc_schema_nodes.specs.declared.line.SchemaLine.{SchemaLine}
use Rattle.orc_statements.specs.Faults.{first_some}
use Rattle.orc_schema_nodes.specs.Names.{names_cmp}
use Rattle.orc_schema.specs.Links.{Lookup, chain, node_in, link_fault, first_link_fault}
use Rattle.orc_schema_nodes.specs.Schemas.{SchemaTable, Ascends}
use Rattle.orc_schema.specs.Schemas.{schema_line, schema_lines, IsTableOf, GivesTable, drafts, is_deep_module, is_cut, IsWhole}
use Rattle.orc_schema.specs.inside.Indexes.{lent, names_of, IsIndex}
use Rattle.orc_statements.specs.Meeting.{Meets}
use Rattle.orc_schema_nodes.proofs.Ordered.{find_sorted}

module _ (ds : List Draft) (index : List (Bor Draft)) (shuffled : IsPermutation ds (lent index)) (sorted : IsIndex index) where
  -- a look-up in the index finds what one in the order of the text finds
  look_same : (names : List (List _)) → node_in (lent index) names ≡ node_in ds names
  look_same names = sym (find_sorted (λ (d : Draft). d.names) names ds (lent index) shuffled sorted)

  pub looks_same : node_in (lent index) ≡ node_in ds
  looks_same = λ i names. look_same names i

  pub faults_same : first_some (link_fault chain (node_in (lent index))) ds ≡ first_link_fault ds
  faults_same = ap (λ look. first_some (link_fault chain look) ds) looks_same

  names_kept : (look : Lookup) (xs : List Draft) → map (λ l. l.names) (map (schema_line chain look) xs) ≡ names_of xs
  names_kept look [] = refl
  names_kept look (x ∷ xs) = ap (λ r. x.names ∷ r) (names_kept look xs)

  pub in_order : (look : Lookup) → Ascends (map (schema_line chain look) (lent index))
  in_order look = subst (IsStrictlySortedBy names_cmp) (sym (names_kept look (lent index))) sorted

  pub table_of : IsTableOf ds (record { plain = false; lines = map (schema_line chain (node_in (lent index))) (lent index) })
  table_of = record {
    typed = refl;
    lines = subst (λ look. IsPermutation (schema_lines ds) (map (schema_line chain look) (lent index))) (sym looks_same)
        (IsPermutation-map (schema_line chain (node_in ds)) ds (lent index) shuffled);
    order = in_order (node_in (lent index));
  }

-- what is due first is due
pub Gives-is : (due other : Option SchemaFault) (ds : List Draft) (r : Result SchemaTable SchemaFault) → other ≡ due → GivesTable due ds r → GivesTable other ds r
Gives-is due other ds r is h = subst (λ o. GivesTable o ds r) (sym is) h

pub Gives-first : (due rest : Option SchemaFault) (ds : List Draft) (f : SchemaFault) → Meets due (Err f) → GivesTable (option_or due rest) ds (Err f)
Gives-first due rest ds (Unsupported keyword) h = ap (λ o. option_or o rest) h
Gives-first due rest ds (Unknown name) h = ap (λ o. option_or o rest) h
Gives-first due rest ds (Duplicate name) h = ap (λ o. option_or o rest) h
Gives-first due rest ds (BadArgument keyword) h = ap (λ o. option_or o rest) h
Gives-first due rest ds (NoKey list) h = ap (λ o. option_or o rest) h
Gives-first due rest ds (Loop name) h = ap (λ o. option_or o rest) h
Gives-first due rest ds Memory h = h

pub Gives-later : (due rest : Option SchemaFault) (ds : List Draft) (r : Result SchemaTable SchemaFault) → due ≡ None → GivesTable rest ds r → GivesTable (option_or due rest) ds r
Gives-later due rest ds r none h = Gives-is rest (option_or due rest) ds r (ap (λ o. option_or o rest) none) h

pub Gives-alone : (due : Option SchemaFault) (ds : List Draft) (f : SchemaFault) → Meets due (Err f) → GivesTable due ds (Err f)
Gives-alone due ds (Unsupported keyword) h = h
Gives-alone due ds (Unknown name) h = h
Gives-alone due ds (Duplicate name) h = h
Gives-alone due ds (BadArgument keyword) h = h
Gives-alone due ds (NoKey list) h = h
Gives-alone due ds (Loop name) h = h
Gives-alone due ds Memory h = h

pub chain_is : MAX_CHAIN ≡ chain
unfolding chain
chain_is = refl

module _ (ds : List Draft) (index : List (Bor Draft)) (shuffled : IsPermutation ds (lent index)) (sorted : IsIndex index) where
  faults_at : (n : ℕ) → n ≡ chain → first_some (link_fault n (node_in (lent index))) ds ≡ first_link_fault ds
  faults_at n is = ap (λ m. first_some (link_fault m (node_in (lent index))) ds) is ∙ faults_same ds index shuffled sorted

  pub fault_given : (n : ℕ) → n ≡ chain → (f : SchemaFault) → Meets (first_some (link_fault n (node_in (lent index))) ds) (Err f) → GivesTable (first_link_fault ds) ds (Err f)
  fault_given n is f h = Gives-alone (first_link_fault ds) ds f (subst (λ due. Meets due (Err f)) (faults_at n is) h)

  pub table_given : (n : ℕ) → n ≡ chain → (lines : List SchemaLine) → first_some (link_fault n (node_in (lent index))) ds ≡ None → lines ≡ map (schema_line n (node_in (lent index))) (lent index)
      → GivesTable (first_link_fault ds) ds (Ok (record { plain = false; lines = lines }))
  table_given n is lines none made = (sym (faults_at n is) ∙ none, subst (λ ls. IsTableOf ds (record { plain = false; lines = ls })) (sym (made ∙ ap (λ m. map (schema_line m (node_in (lent index))) (lent index)) is)) (table_of ds index shuffled sorted))

  pub in_order_at : (n : ℕ) → n ≡ chain → (lines : List SchemaLine) → lines ≡ map (schema_line n (node_in (lent index))) (lent index) → Ascends lines
  in_order_at n is lines made = subst Ascends (sym (made ∙ ap (λ m. map (schema_line m (node_in (lent index))) (lent index)) is)) (in_order ds index shuffled sorted (node_in (lent index)))

  pub whole_at : (n : ℕ) → n ≡ chain → list_any (is_cut n (node_in (lent index))) ds ≡ false → list_any (is_cut chain (node_in ds)) ds ≡ false
  whole_at n is h = subst (λ look. list_any (is_cut chain look) ds ≡ false) (looks_same ds index shuffled sorted) (subst (λ m. list_any (is_cut m (node_in (lent index))) ds ≡ false) is h)

pub all_whole : (modules : List Stmt) (ds : List Draft) (r : Result SchemaTable SchemaFault) → ds ≡ drafts modules
    → list_any (is_deep_module (the_modules modules)) modules ≡ false
    → IfOk r (λ s. list_any (is_cut chain (node_in ds)) ds ≡ false) → IfOk r (λ s. IsWhole modules)
all_whole modules ds (Ok s) is deep h = record { nodes = deep; kinds = subst (λ xs. list_any (is_cut chain (node_in xs)) xs ≡ false) is h }
all_whole modules ds (Err f) is deep h = tt
