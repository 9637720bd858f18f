-- The keywords of this profile of YANG.
use Rattle.std.specs.Prelude.{ℕ, List, codes, if◌then◌else◌}
use Rattle.orc_value.specs.Canon.{same_text}
use Rattle.orc_types.specs.Statements.{is_idle}
use Rattle.orc_modules.specs.declared.word.Word.{Word}
use Rattle.orc_modules.specs.declared.word.Word.TheVariants.{Module, YangVersion, Namespace, Prefix, Import, Typedef, Grouping, Container, List as ListOf, Leaf, LeafList, Uses, TypeName, Default, Mandatory, Config, Key, MinElements, MaxElements, OrderedBy, Dropped, Idle, Other}

-- `rpc`, `action` and `notification` define no configuration; statements without effect are idle
abbrev pub other_word : List ℕ → Word
other_word keyword = if same_text keyword (codes "rpc") then Dropped
    else (if same_text keyword (codes "action") then Dropped
    else (if same_text keyword (codes "notification") then Dropped
    else (if is_idle keyword then Idle else Other)))

-- what nodes and types have
abbrev pub part_word : List ℕ → Word
part_word keyword = if same_text keyword (codes "type") then TypeName
    else (if same_text keyword (codes "default") then Default
    else (if same_text keyword (codes "mandatory") then Mandatory
    else (if same_text keyword (codes "config") then Config
    else (if same_text keyword (codes "key") then Key
    else (if same_text keyword (codes "min-elements") then MinElements
    else (if same_text keyword (codes "max-elements") then MaxElements
    else (if same_text keyword (codes "ordered-by") then OrderedBy
    else other_word keyword)))))))

-- data definitions
abbrev pub node_word : List ℕ → Word
node_word keyword = if same_text keyword (codes "container") then Container
    else (if same_text keyword (codes "list") then ListOf
    else (if same_text keyword (codes "leaf") then Leaf
    else (if same_text keyword (codes "leaf-list") then LeafList
    else (if same_text keyword (codes "uses") then Uses
    else part_word keyword))))

-- modules and what they have besides
abbrev pub word_of : List ℕ → Word
word_of keyword = if same_text keyword (codes "module") then Module
    else (if same_text keyword (codes "yang-version") then YangVersion
    else (if same_text keyword (codes "namespace") then Namespace
    else (if same_text keyword (codes "prefix") then Prefix
    else (if same_text keyword (codes "import") then Import
    else (if same_text keyword (codes "typedef") then Typedef
    else (if same_text keyword (codes "grouping") then Grouping
    else node_word keyword))))))
