-- What a statement says, and which statements are read.
use Rattle.std.specs.Prelude.{ℕ, Bool, true, false, ◌+◌, ◌&&◌, ◌||◌, not, List, [], ◌∷◌, ◌++◌, map, Option, is_some, codes, option_map, unwrap_or, if◌then◌else◌}
use Rattle.std.specs.List.{list_any, sum_by}
use Rattle.orc_value.specs.Canon.{same_text}
use Rattle.orc_yang.specs.declared.statement.Stmt.{Stmt}
use Rattle.orc_yang.specs.declared.statement.Stmt.TheOpen.{Stmt-F}
use Rattle.orc_yang.specs.declared.statement.Stmt.TheViews.{out-Stmt}
use Rattle.orc_yang.specs.declared.statement.Stmt.TheFolds.{para-Stmt}
use Rattle.orc_types.specs.Statements.{keyword, subs, argument, is_a, first_of}
use Rattle.orc_modules.specs.declared.word.Word.{Word}
use Rattle.orc_modules.specs.declared.word.Word.TheVariants.{Module, Grouping, Container, List as ListOf, Leaf, LeafList, Uses, TypeName, Dropped, Idle}
use Rattle.orc_modules.specs.Words.{word_of}

abbrev pub word : Stmt → Word
word s = word_of (keyword s)

abbrev pub has_argument : Stmt → Bool
has_argument s = is_some (out-Stmt s).argument

-- s has this keyword and this argument
abbrev pub defines : List ℕ → List ℕ → Stmt → Bool
defines keyword name s = is_a keyword s && same_text (argument s) name

-- the argument of the first statement below s with this keyword, where there is one
abbrev pub argument_below : List ℕ → Stmt → Option (List ℕ)
argument_below keyword s = option_map argument (first_of keyword (subs s))

-- that argument, or the empty text
abbrev pub sub_text : List ℕ → Stmt → List ℕ
sub_text keyword s = unwrap_or (argument_below keyword s) []

-- s has `config false`: it holds state and no configuration (RFC 7950 section 7.21.1)
abbrev pub is_state : Stmt → Bool
is_state s = list_any (defines (codes "config") (codes "false")) (subs s)

-- data definitions may stand in such a statement
abbrev pub holds_data : Word → Bool
holds_data Module = true
holds_data Grouping = true
holds_data Container = true
holds_data ListOf = true
holds_data _ = false

-- a data definition: a node, or a `uses`, which stands for nodes
abbrev pub is_data : Word → Bool
is_data Container = true
is_data ListOf = true
is_data Leaf = true
is_data LeafList = true
is_data Uses = true
is_data w = false

-- A statement with this keyword and these statements below it may lead on to others: it is a typedef, or has data
-- definitions.
abbrev pub may_lead : List ℕ → List Stmt → Bool
may_lead keyword ss = same_text keyword (codes "typedef") || list_any (λ t. is_data (word t)) ss

abbrev pub leader_step : Stmt-F (Stmt × ℕ) → ℕ
leader_step s = sum_by (λ t. t.1) s.subs + (if may_lead s.keyword (map (λ t. t.0) s.subs) then 1 else 0)

-- how many such statements s is and has in it
abbrev pub leaders : Stmt → ℕ
leaders = para-Stmt ℕ leader_step

-- Whether a statement of the second word is read in one of the first. Nothing below `type` is read here: orc_types says
-- what a whole `type` statement makes. A statement without effect is unread, and so is one that defines no
-- configuration, where a data definition may stand.
abbrev pub reads : Word → Word → Bool → Bool
reads TypeName _ state = false
reads parent Idle state = false
reads parent Dropped state = not (holds_data parent)
reads parent Container state = not (holds_data parent && state)
reads parent ListOf state = not (holds_data parent && state)
reads parent Leaf state = not (holds_data parent && state)
reads parent LeafList state = not (holds_data parent && state)
reads parent _ state = true

abbrev pub is_read : Word → Stmt → Bool
is_read parent s = reads parent (word s) (is_state s)

-- A statement where it stands: the statements around it, the innermost first, and those before it in the same block.
pub record Place : Type 0 where
  pub above : List Stmt
  pub before : List Stmt
  pub here : Stmt

-- what is read at one statement of a block: itself, and then what is read below it
abbrev pub read_at : Word → List Stmt → List Stmt → Stmt → List Place → List Place
read_at parent above before s below = if is_read parent s
    then record { above = above; before = before; here = s } ∷ below else []

-- what is read in a block, in the order of the text, where each statement comes with what is read below it
abbrev pub places_in : Word → List Stmt → List Stmt → List (Stmt × (List Stmt → List Place)) → List Place
places_in parent above before [] = []
places_in parent above before (s ∷ rest) = read_at parent above before s.0 (s.1 (s.0 ∷ above))
    ++ places_in parent above (before ++ s.0 ∷ []) rest

abbrev pub below_step : Stmt-F (Stmt × (List Stmt → List Place)) → List Stmt → List Place
below_step s above = places_in (word_of s.keyword) above [] s.subs

-- what is read below s, which stands first in its list
abbrev pub places_below : Stmt → List Stmt → List Place
places_below = para-Stmt (List Stmt → List Place) below_step

-- every statement of the modules that is read, in the order of the text, after other modules
abbrev pub module_places : List Stmt → List Stmt → List Place
module_places before [] = []
module_places before (m ∷ ms) = (record { above = []; before = before; here = m } ∷ places_below m (m ∷ []))
    ++ module_places (before ++ m ∷ []) ms
