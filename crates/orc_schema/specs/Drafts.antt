-- The nodes that modules define, in the order of the text, with each `uses` replaced by what its grouping defines:
-- RFC 7950 sections 7.5 to 7.8 and 7.13.
use Rattle.std.specs.Prelude.{ℕ, zero, suc, ◌&&◌, not, List, [], ◌∷◌, ◌++◌, Option, Some, None, codes, is_some, unwrap_or, option_and_then, if◌then◌else◌}
use Rattle.std.specs.List.{position}
use Rattle.std.specs.Option.{option_map_or, option_or}
use Rattle.orc_value.specs.Canon.{same_text}
use Rattle.orc_value.specs.declared.kind.Kind.{Kind}
use Rattle.orc_value.specs.declared.kind.Kind.TheVariants as kind
use Rattle.orc_yang.specs.declared.statement.Stmt.{Stmt}
use Rattle.orc_types.specs.declared.types.LeafType.{LeafType}
use Rattle.orc_types.specs.declared.types.LeafType.TheVariants.{Leafref}
use Rattle.orc_types.specs.Statements.{subs, argument}
use Rattle.orc_types.specs.Types.{kind_of}
use Rattle.orc_types.specs.Defaults as types
use Rattle.orc_modules.specs.declared.word.Word.{Word}
use Rattle.orc_modules.specs.declared.word.Word.TheVariants as words_of
use Rattle.orc_modules.specs.declared.parts.Part.{Part}
use Rattle.orc_modules.specs.declared.parts.Part.TheVariants as parts_of
use Rattle.orc_modules.specs.Statements.{word, argument_below, sub_text}
use Rattle.orc_modules.specs.Scopes.{Modules, Found, module_called}
use Rattle.orc_modules.specs.declared.meant.Typed.{Typed}
use Rattle.orc_modules.specs.Children.{block_part, grouping}
use Rattle.orc_schema.specs.declared.draft.Draft.{Draft}
use Rattle.orc_schema.specs.declared.draft.DraftType.{DraftType}
use Rattle.orc_schema.specs.declared.draft.DraftType.TheVariants.{Own, To}
use Rattle.orc_schema.specs.declared.draft.DraftNode.{DraftNode}
use Rattle.orc_schema.specs.declared.draft.DraftNode.TheVariants.{Container, List as ListOf, Leaf, LeafList}
use Rattle.orc_statements.specs.References.{reference_of}
use Rattle.orc_statements.specs.Arguments.{typed, count_of, is_mandatory, keys_of}

-- where a block's nodes come to stand: the statements around it, the module that has them, the names down to it, and
-- the keys of the list that it belongs to
pub record Where : Type 0 where
  pub above : List Stmt
  pub owner : List ℕ
  pub names : List (List ℕ)
  pub keys : List (List ℕ)

-- a node's names: the first has its module
abbrev pub name_behind : List ℕ → List (List ℕ) → List ℕ → List ℕ
name_behind owner [] name = owner ++ (58 ∷ name)
name_behind owner (first ∷ later) name = name

abbrev pub names_at : Where → Stmt → List (List ℕ)
names_at at statement = at.names ++ name_behind at.owner at.names (argument statement) ∷ []

-- how many entries there are at least and at most
abbrev pub least_count : Stmt → ℕ
least_count statement = unwrap_or (count_of (sub_text (codes "min-elements") statement)) 0

abbrev pub most_count : Stmt → Option ℕ
most_count statement = count_of (sub_text (codes "max-elements") statement)

-- a leafref's path stands in the module `home`
abbrev pub draft_kind : Option Kind → DraftType
draft_kind of_kind = Own (unwrap_or of_kind kind.Empty)

abbrev pub draft_of : Modules → List ℕ → LeafType → DraftType
draft_of modules home (Leafref path) = To (reference_of modules.all (module_called modules.all home) path)
draft_of modules home leaf_type = draft_kind (kind_of leaf_type)

abbrev pub draft_type : Modules → Option Typed → DraftType
draft_type modules None = draft_kind None
draft_type modules (Some known) = draft_of modules known.home known.of_type

-- a default's canonical text
abbrev pub canonical : Option Typed → List ℕ → Option (List ℕ)
canonical None text = None
canonical (Some known) text = option_and_then (λ of_kind. types.default_of of_kind text) (kind_of known.of_type)

abbrev pub inherited : Option Typed → Option (List ℕ)
inherited None = None
inherited (Some known) = known.default

-- its own default, or else that of its typedefs, where it is neither a key nor mandatory
abbrev pub default_text : Option Typed → Stmt → Option (List ℕ)
default_text known statement = option_or (argument_below (codes "default") statement) (inherited known)

abbrev pub leaf_default : Option Typed → Stmt → Option ℕ → Option (List ℕ)
leaf_default known statement (Some place) = None
leaf_default known statement None =
    if is_mandatory statement then None else option_and_then (canonical known) (default_text known statement)

abbrev pub leaf_node : Modules → Option Typed → Stmt → Option ℕ → DraftNode
leaf_node modules known statement key = Leaf (record {
  of_type = draft_type modules known;
  default = leaf_default known statement key;
  mandatory = is_mandatory statement && not (is_some key);
  key = key;
})

abbrev pub draft_node : Modules → Where → Stmt → Word → DraftNode
draft_node modules at statement words_of.List =
    ListOf (record { keys = keys_of statement; least = least_count statement; most = most_count statement })
draft_node modules at statement words_of.Leaf = leaf_node modules (typed modules at.above statement) statement
    (position (same_text (argument statement)) at.keys)
draft_node modules at statement words_of.LeafList = LeafList (record {
  of_type = draft_type modules (typed modules at.above statement);
  least = least_count statement;
  most = most_count statement;
})
draft_node modules at statement _ = Container

abbrev pub draft : Modules → Where → Stmt → Draft
draft modules at statement =
    record { names = names_at at statement; node = draft_node modules at statement (word statement) }

-- where what stands in a node comes to stand
abbrev pub inside_node : Where → Stmt → Where
inside_node at statement =
    record { above = statement ∷ at.above; owner = at.owner; names = names_at at statement; keys = keys_of statement }

-- where what a grouping defines comes to stand: in the place of the `uses` that names it
abbrev pub in_grouping : Where → Found → Where
in_grouping at found = record { above = found.here ∷ found.above; owner = at.owner; names = at.names; keys = at.keys }

-- what one statement of a block defines, by what the statements below another define
abbrev pub drafts_at : Modules → (Where → Stmt → List Draft) → Where → Stmt → Part → List Draft
drafts_at modules below at statement parts_of.Node =
    draft modules at statement ∷ below (inside_node at statement) statement
drafts_at modules below at statement parts_of.Uses = option_map_or (λ found. below (in_grouping at found) found.here)
    (grouping modules.all at.above statement) []
drafts_at modules below at statement parts_of.Nothing = []

abbrev pub drafts_in : Modules → (Where → Stmt → List Draft) → Where → List Stmt → List Draft
drafts_in modules below at [] = []
drafts_in modules below at (statement ∷ later) =
    drafts_at modules below at statement (block_part statement) ++ drafts_in modules below at later

-- What the statements below one define, where nodes and groupings stand in one another at most `depth` deep.
abbrev pub drafts_below : ℕ → Modules → Where → Stmt → List Draft
drafts_below zero modules at statement = []
drafts_below (suc depth) modules at statement = drafts_in modules (drafts_below depth modules) at (subs statement)

abbrev pub inside_module : Stmt → Where
inside_module the_module = record { above = the_module ∷ []; owner = argument the_module; names = []; keys = [] }

abbrev pub drafts_of : Modules → List Stmt → List Draft
drafts_of modules [] = []
drafts_of modules (the_module ∷ rest) =
    drafts_below modules.most modules (inside_module the_module) the_module ++ drafts_of modules rest
