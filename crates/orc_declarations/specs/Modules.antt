-- The YANG module of a block.
use Rattle.std.specs.Prelude.{ℕ, Bool, false, ◌&&◌, ◌||◌, List, [], ◌∷◌, codes, Option, Result, option_map, if◌then◌else◌}
use Rattle.std.specs.declared.option.Option.TheVariants.{None, Some}
use Rattle.std.specs.declared.result.Result.TheVariants.{Ok, Err}
use Rattle.std.specs.List.{list_any}
use Rattle.std.specs.Option.{option_map_or}
use Rattle.orc_path.specs.Alphabet.{is_identifier}
use Rattle.orc_path.specs.Limits.{is_long_name}
use Rattle.orc_decls.specs.declared.rule.Rule.{Rule}
use Rattle.orc_decls.specs.declared.rule.Rule.TheVariants as rule
use Rattle.orc_yang.specs.Parsing.{statements_of}
use Rattle.orc_yang.specs.Statement.{statement}
use Rattle.orc_yang.specs.declared.fault.YangFault.{YangFault}
use Rattle.orc_yang.specs.declared.statement.Stmt.{Stmt}
use Rattle.orc_yang.specs.declared.statement.Stmt.TheOpen.{Stmt-F}
use Rattle.orc_yang.specs.declared.statement.Stmt.TheViews.{out-Stmt}
use Rattle.orc_yang.specs.declared.statement.Stmt.TheFolds.{fold-Stmt}
use Rattle.orc_lines.specs.Rules.{checked, of_option}
use Rattle.orc_lines.specs.Words.{cut_at, is_text}
use Rattle.orc_declarations.specs.declared.module.Module.{Module}

-- identifiers past their limit

-- an identifier past the limit
abbrev pub is_long_identifier : List ℕ → Bool
is_long_identifier word = is_identifier word && is_long_name word

-- of a word with or without a prefix and a colon
abbrev pub has_long_part : List ℕ → Option (List ℕ × List ℕ) → Bool
has_long_part word None = is_long_identifier word
has_long_part word (Some parts) = is_long_identifier parts.0 || is_long_identifier parts.1

abbrev pub is_long_word : List ℕ → Bool
is_long_word word = has_long_part word (cut_at 58 word)

-- the keywords of operations, identities, features, extensions and bits
unfoldable pub other_words : List (List ℕ)
other_words =
    codes "rpc" ∷ codes "action" ∷ codes "notification" ∷ codes "identity" ∷ codes "base" ∷ codes "feature"
    ∷ codes "extension" ∷ codes "argument" ∷ codes "bit" ∷ []

-- the keywords of statements that make nodes or name a type, and those above
unfoldable pub node_words : List (List ℕ)
node_words =
    codes "container" ∷ codes "list" ∷ codes "leaf" ∷ codes "leaf-list" ∷ codes "type" ∷ codes "choice" ∷ codes "case"
    ∷ codes "anydata" ∷ codes "anyxml" ∷ other_words

-- the statements whose argument is a name, an identifier with or without a prefix (RFC 7950)
unfoldable pub takes_name : List ℕ → Bool
takes_name keyword = list_any (is_text keyword) (
    codes "module" ∷ codes "import" ∷ codes "prefix" ∷ codes "submodule" ∷ codes "include" ∷ codes "belongs-to"
    ∷ codes "typedef" ∷ codes "grouping" ∷ codes "uses" ∷ node_words)

-- the keyword, or the name that the argument is, has a part past the limit
abbrev pub is_long_head : List ℕ → Option (List ℕ) → Bool
is_long_head keyword argument =
    is_long_word keyword || (takes_name keyword && option_map_or is_long_word argument false)

abbrev pub long_step : Stmt-F Bool → Bool
long_step level = is_long_head level.keyword level.argument || list_any (λ is_long. is_long) level.subs

-- the statement or one below it has a keyword or a name with a part past the limit
abbrev pub has_long_name : Stmt → Bool
has_long_name = fold-Stmt Bool long_step

-- modules

-- the identifier of a `module` statement
abbrev pub identifier_of : Option (List ℕ) → Option (List ℕ)
identifier_of None = None
identifier_of (Some argument) = if is_identifier argument then Some argument else None

abbrev pub module_name : Stmt → Option (List ℕ)
module_name the_statement = if is_text (out-Stmt the_statement).keyword (codes "module")
    then identifier_of (out-Stmt the_statement).argument else None

abbrev pub module_of_statement : Stmt → Option Module
module_of_statement the_statement =
    option_map (λ name. record { name = name; statement = the_statement }) (module_name the_statement)

-- statements that are one such statement
abbrev pub only_module : List Stmt → Option Module
only_module [] = None
only_module (the_statement ∷ []) = module_of_statement the_statement
only_module (the_statement ∷ next ∷ rest) = None

abbrev pub module_of_statements : Result (List Stmt) YangFault → Result Module Rule
module_of_statements (Err fault) = Err rule.Yang
module_of_statements (Ok statements) =
    checked ((list_any has_long_name statements, rule.Size) ∷ [])
    (of_option (only_module statements) rule.Yang)

-- the module that a block's text is
unfoldable pub module_of : List ℕ → Result Module Rule
module_of text = module_of_statements (statements_of text)

-- the built-in module

-- a statement with an argument; the place where it stands says nothing
abbrev pub with_argument : List ℕ → List ℕ → List Stmt → Stmt
with_argument keyword argument subs = statement keyword (Some argument) subs 0

-- list device { key name; leaf name { type string; } }
abbrev pub device_list : Stmt
device_list =
    with_argument (codes "list") (codes "device") (
    with_argument (codes "key") (codes "name") []
    ∷ with_argument (codes "leaf") (codes "name") (with_argument (codes "type") (codes "string") [] ∷ [])
    ∷ [])

-- module orc { namespace "urn:orc"; prefix orc; list device { key name; leaf name { type string; } } }
unfoldable pub orc_module : Stmt
orc_module =
    with_argument (codes "module") (codes "orc") (
    with_argument (codes "namespace") (codes "urn:orc") []
    ∷ with_argument (codes "prefix") (codes "orc") []
    ∷ device_list
    ∷ [])
