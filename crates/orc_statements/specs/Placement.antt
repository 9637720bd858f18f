-- Which statements may stand in which: RFC 7950 section 7, in this profile. The statements without effect are not read.
use Rattle.std.specs.Prelude.{Bool, true, false, Option, Some, None}
use Rattle.orc_yang.specs.declared.statement.Stmt.{Stmt}
use Rattle.orc_modules.specs.declared.word.Word.{Word}
use Rattle.orc_modules.specs.declared.word.Word.TheVariants.{Module, YangVersion, Namespace, Prefix, Import, Typedef, Grouping, Container, List as ListOf, Leaf, LeafList, Uses, TypeName, Default, Mandatory, Config, Key, MinElements, MaxElements, OrderedBy}
use Rattle.orc_modules.specs.Statements.{word}

-- what a module, a grouping, a container and a list have in common
abbrev pub is_definition : Word → Bool
is_definition Typedef = true
is_definition Grouping = true
is_definition Container = true
is_definition ListOf = true
is_definition Leaf = true
is_definition LeafList = true
is_definition Uses = true
is_definition _ = false

abbrev pub in_module : Word → Bool
in_module YangVersion = true
in_module Namespace = true
in_module Prefix = true
in_module Import = true
in_module w = is_definition w

abbrev pub in_import : Word → Bool
in_import Prefix = true
in_import _ = false

abbrev pub in_typedef : Word → Bool
in_typedef TypeName = true
in_typedef Default = true
in_typedef _ = false

abbrev pub in_container : Word → Bool
in_container Config = true
in_container w = is_definition w

abbrev pub in_list : Word → Bool
in_list Key = true
in_list MinElements = true
in_list MaxElements = true
in_list OrderedBy = true
in_list w = in_container w

abbrev pub in_leaf : Word → Bool
in_leaf TypeName = true
in_leaf Default = true
in_leaf Mandatory = true
in_leaf Config = true
in_leaf _ = false

abbrev pub in_leaf_list : Word → Bool
in_leaf_list TypeName = true
in_leaf_list MinElements = true
in_leaf_list MaxElements = true
in_leaf_list Config = true
in_leaf_list OrderedBy = true
in_leaf_list _ = false

abbrev pub stands_in : Word → Word → Bool
stands_in Module w = in_module w
stands_in Import w = in_import w
stands_in Typedef w = in_typedef w
stands_in Grouping w = is_definition w
stands_in Container w = in_container w
stands_in ListOf w = in_list w
stands_in Leaf w = in_leaf w
stands_in LeafList w = in_leaf_list w
stands_in _ w = false

abbrev pub is_module : Word → Bool
is_module Module = true
is_module _ = false

-- the statement stands at the top, or in the one around it
abbrev pub stands_below : Option Stmt → Word → Bool
stands_below None w = is_module w
stands_below (Some parent) w = stands_in (word parent) w
