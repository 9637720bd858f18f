-- Nodes at which nothing can be missing, or too many.
use Rattle.std.proofs.Common.{◌≡◌, ℕ, zero, suc, Bool, true, false, ◌&&◌, ◌||◌, List, [], ◌++◌, take, Some, None, refl, sym, ap, ◌∙◌, arith}
use Rattle.std.specs.declared.option.Option.{Option}
use Rattle.std.specs.Prelude.{is_none, is_some, nat_lt, if◌then◌else◌}
use Rattle.std.specs.Option.{option_map_or}
use Rattle.std.specs.FinMap.{get}
use Rattle.std.proofs.lemmas.Bool.{false≢true, ltb-true, ltb-false}
use Rattle.orc_path.specs.Steps.{PathStep}
use Rattle.orc_path.specs.Configurations.{Config}
use Rattle.orc_schema_nodes.specs.Schemas.{SchemaTable}
use Rattle.orc_schema_nodes.specs.declared.line.Node.{Node}
use Rattle.orc_schema_nodes.specs.declared.line.Node.TheVariants.{Container, List as ListOf, Leaf, LeafList}
use Rattle.orc_schema_nodes.specs.declared.line.SchemaLine.{SchemaLine}
use Rattle.orc_check.specs.Validity.{Breach, breach_if, count_breaches, entry_count, node_breaches, line_breaches, reached}
use Rattle.orc_check.specs.declared.rules.TheConstants.{MANDATORY, MIN_ELEMENTS, MAX_ELEMENTS}
use Rattle.orc_revalidate.specs.inside.Looked.{can_lack, has_bound, front_breaches, stands}
use Rattle.orc_revalidate.proofs.Standing.{no_breaches}

never_fewer : (n least : ℕ) → nat_lt 0 least ≡ false → nat_lt n least ≡ false
never_fewer n least h = on (nat_lt n least) refl
  where
    on : (t : Bool) → nat_lt n least ≡ t → nat_lt n least ≡ false
    on true is = absurd (omega (arith, ltb-true n least is, ltb-false 0 least h))
    on false is = is

neither : (path : List PathStep) (count : ℕ) (few : Bool) (most : Option ℕ) → few ≡ false → is_some most ≡ false
    → breach_if few path MIN_ELEMENTS ++ breach_if (option_map_or (λ n. nat_lt n count) most false) path MAX_ELEMENTS ≡ no_breaches
neither path count few None e h = ap (λ (t : Bool). breach_if t path MIN_ELEMENTS ++ no_breaches) e
neither path count few (Some n) e h = absurd (false≢true (sym h))

unbounded : (c : Config) (path : List PathStep) (least : ℕ) (most : Option ℕ) → has_bound least most ≡ false → count_breaches c path least most ≡ no_breaches
unbounded c path least most h = on (nat_lt 0 least) refl h
  where
    on : (t : Bool) → nat_lt 0 least ≡ t → (t || is_some most) ≡ false → count_breaches c path least most ≡ no_breaches
    on true is h = absurd (false≢true (sym h))
    on false is h = neither path (entry_count c path) (nat_lt (entry_count c path) least) most (never_fewer (entry_count c path) least is) h

never_missing : (key mandatory none : Bool) → (key && mandatory) ≡ false → (key && (mandatory && none)) ≡ false
never_missing false mandatory none h = refl
never_missing true false none h = refl
never_missing true true none h = absurd (false≢true (sym h))

lacks_nothing : (c : Config) (node : Node) (path : List PathStep) → can_lack node ≡ false → node_breaches c node path ≡ no_breaches
lacks_nothing c Container path h = refl
lacks_nothing c (ListOf l) path h = unbounded c path l.least l.most h
lacks_nothing c (Leaf l) path h =
    ap (λ (t : Bool). breach_if t path MANDATORY) (never_missing (is_none l.key) l.mandatory (is_none (get c path)) h)
lacks_nothing c (LeafList l) path h = unbounded c path l.least l.most h

module _ (s : SchemaTable) (c : Config) (line : SchemaLine) (h : can_lack line.node ≡ false) where
  line_lacks_nothing : (place : List PathStep) → line_breaches s c place line ≡ no_breaches
  line_lacks_nothing place = on (reached s place line.names)
    where
      on : (o : Option (List PathStep)) → option_map_or (node_breaches c line.node) o [] ≡ no_breaches
      on None = refl
      on (Some path) = lacks_nothing c line.node path h

  stands_or_not : (t : Bool) (bs : List Breach) → bs ≡ no_breaches → (if t then bs else []) ≡ no_breaches
  stands_or_not true bs e = e
  stands_or_not false bs e = refl

  pub fronts_lack_nothing : (path : List PathStep) (n : ℕ) → front_breaches s c line path n ≡ no_breaches
  fronts_lack_nothing path zero = line_lacks_nothing []
  fronts_lack_nothing path (suc n) =
      ap (λ (bs : List Breach). bs ++ front_breaches s c line path n)
      (stands_or_not (stands s c (take (suc n) path)) (line_breaches s c (take (suc n) path) line) (line_lacks_nothing (take (suc n) path)))
      ∙ fronts_lack_nothing path n
