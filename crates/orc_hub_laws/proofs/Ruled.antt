-- Each breach names one of the rules of validity.
use Rattle.std.proofs.Common.{ℕ, Bool, true, false, cond, List, [], ◌∷◌, ◌++◌, Some, None, IsTrue, refl}
use Rattle.std.specs.declared.option.Option.{Option}
use Rattle.std.specs.Prelude.{nat_lt, not}
use Rattle.std.specs.Option.{option_map_or}
use Rattle.std.specs.Ordering.{is_lt}
use Rattle.std.specs.List.{flat_map, fold, list_any}
use Rattle.std.specs.FinMap.{entries}
use Rattle.orc_path.specs.Steps.{PathStep}
use Rattle.orc_path.specs.Configurations.{Config}
use Rattle.orc_path.specs.declared.item.Item.{Item}
use Rattle.orc_schema_nodes.specs.Schemas.{SchemaTable}
use Rattle.orc_schema_nodes.specs.declared.line.Node.{Node}
use Rattle.orc_schema_nodes.specs.declared.line.Node.TheVariants.{Container, List as ListOf, Leaf, LeafList}
use Rattle.orc_schema_nodes.specs.declared.line.SchemaLine.{SchemaLine}
use Rattle.orc_check.specs.Validity.{Breach, breach_cmp, breach_if, breaches, broken_of, count_breaches, entry_count, has_canonical_last_keys, is_missing, is_of_kind, lacks_instance, least_breach, lesser_breach, line_breaches, node_breaches, place_breaches, places, reached, row_breaches, values_of}
use Rattle.orc_check.specs.declared.rules.TheConstants.{KIND, KEY, MANDATORY, MIN_ELEMENTS, MAX_ELEMENTS, LEAFREF}
use Rattle.orc_print.specs.Printed.{is_rule}

-- each of these breaches names a rule
abbrev AreRuled : List Breach → Type 0
AreRuled [] = Unit {0}
AreRuled (b ∷ bs) = IsTrue (is_rule b.rule) × AreRuled bs

ruled-append : (bs cs : List Breach) → AreRuled bs → AreRuled cs → AreRuled (bs ++ cs)
ruled-append [] cs h k = k
ruled-append (b ∷ bs) cs h k = (h.0, ruled-append bs cs h.1 k)

ruled-flat_map : {X : Type 0} (f : X → List Breach) → ((x : X) → AreRuled (f x)) → (xs : List X) → AreRuled (flat_map f xs)
ruled-flat_map f each [] = tt
ruled-flat_map f each (x ∷ xs) = ruled-append (f x) (flat_map f xs) (each x) (ruled-flat_map f each xs)

ruled-if : (broken : Bool) (path : List PathStep) (rule : ℕ) → IsTrue (is_rule rule) → AreRuled (breach_if broken path rule)
ruled-if true path rule h = (h, tt)
ruled-if false path rule h = tt

rows_ruled : (s : SchemaTable) (c : Config) (row : List PathStep × Item) → AreRuled (row_breaches s c row)
rows_ruled s c row =
    let kind = not (is_of_kind s row) in
    let key = not (has_canonical_last_keys s row.0) in
    let lacks = list_any (lacks_instance s c row.0) (values_of s row) in
    ruled-append (breach_if kind row.0 KIND) (breach_if key row.0 KEY ++ breach_if lacks row.0 LEAFREF) (ruled-if kind row.0 KIND refl)
    (ruled-append (breach_if key row.0 KEY) (breach_if lacks row.0 LEAFREF) (ruled-if key row.0 KEY refl) (ruled-if lacks row.0 LEAFREF refl))

counts_ruled : (c : Config) (path : List PathStep) (least : ℕ) (most : Option ℕ) → AreRuled (count_breaches c path least most)
counts_ruled c path least most =
    let few = nat_lt (entry_count c path) least in
    let many = option_map_or (λ n. nat_lt n (entry_count c path)) most false in
    ruled-append (breach_if few path MIN_ELEMENTS) (breach_if many path MAX_ELEMENTS) (ruled-if few path MIN_ELEMENTS refl) (ruled-if many path MAX_ELEMENTS refl)

node_ruled : (c : Config) (node : Node) (path : List PathStep) → AreRuled (node_breaches c node path)
node_ruled c Container path = tt
node_ruled c (ListOf l) path = counts_ruled c path l.least l.most
node_ruled c (Leaf l) path = ruled-if (is_missing c path l) path MANDATORY refl
node_ruled c (LeafList l) path = counts_ruled c path l.least l.most

line_ruled : (s : SchemaTable) (c : Config) (place : List PathStep) (line : SchemaLine) → AreRuled (line_breaches s c place line)
line_ruled s c place line = on (reached s place line.names)
  where
    on : (o : Option (List PathStep)) → AreRuled (option_map_or (node_breaches c line.node) o [])
    on None = tt
    on (Some path) = node_ruled c line.node path

all_ruled : (s : SchemaTable) (c : Config) → AreRuled (breaches s c)
all_ruled s c =
    ruled-append (flat_map (row_breaches s c) (entries c)) (flat_map (place_breaches s c) (places s c)) (ruled-flat_map (row_breaches s c) (rows_ruled s c) (entries c))
    (ruled-flat_map (place_breaches s c) (λ place. ruled-flat_map (line_breaches s c place) (line_ruled s c place) s.lines) (places s c))

-- a breach that was found, if one was, names a rule
abbrev pub IsRuled : Option Breach → Type 0
IsRuled None = Unit {0}
IsRuled (Some b) = IsTrue (is_rule b.rule)

lesser_ruled : (found : Option Breach) (b : Breach) → IsRuled found → IsTrue (is_rule b.rule) → IsRuled (lesser_breach found b)
lesser_ruled None b h k = k
lesser_ruled (Some a) b h k = on (is_lt (breach_cmp b a))
  where
    on : (t : Bool) → IsRuled (cond t (Some b) (Some a))
    on true = k
    on false = h

least_ruled : (found : Option Breach) (bs : List Breach) → IsRuled found → AreRuled bs → IsRuled (fold lesser_breach found bs)
least_ruled found [] h k = h
least_ruled found (b ∷ bs) h k = least_ruled (lesser_breach found b) bs (lesser_ruled found b h k.0) k.1

pub broken_ruled : (s : SchemaTable) (c : Config) → IsRuled (broken_of s c)
broken_ruled s c = on s.plain
  where
    on : (t : Bool) → IsRuled (cond t None (least_breach (breaches s c)))
    on true = tt
    on false = least_ruled None (breaches s c) tt (all_ruled s c)
