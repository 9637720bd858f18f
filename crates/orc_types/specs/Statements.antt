-- The parts of a statement, and the statements without effect.
use Rattle.std.specs.Prelude.{ℕ, ◌==◌, Bool, ◌||◌, not, List, [], Option, codes, unwrap_or, option_map}
use Rattle.std.specs.List.{list_any, find}
use Rattle.orc_value.specs.Canon.{same_text}
use Rattle.orc_yang.specs.declared.statement.Stmt.{Stmt}
use Rattle.orc_yang.specs.declared.statement.Stmt.TheViews.{out-Stmt}
use Rattle.orc_types.specs.declared.fault.TypeFault.{TypeFault}
use Rattle.orc_types.specs.declared.fault.TypeFault.TheVariants.{Unsupported}

abbrev pub keyword : Stmt → List ℕ
keyword statement = (out-Stmt statement).keyword

abbrev pub subs : Stmt → List Stmt
subs statement = (out-Stmt statement).subs

-- the argument; a statement without one has the empty text
abbrev pub argument : Stmt → List ℕ
argument statement = unwrap_or (out-Stmt statement).argument []

abbrev pub is_a : List ℕ → Stmt → Bool
is_a word statement = same_text (keyword statement) word

-- one of the statements has this keyword
abbrev pub has : List ℕ → List Stmt → Bool
has word statements = list_any (is_a word) statements

-- the first statement with this keyword
abbrev pub first_of : List ℕ → List Stmt → Option Stmt
first_of word statements = find (is_a word) statements

-- a keyword of an extension has a prefix
abbrev pub has_prefix : List ℕ → Bool
has_prefix word = list_any (λ byte. byte == 58) word

-- what says something about a module, or about another statement, and has no effect on data
abbrev pub is_idle : List ℕ → Bool
is_idle word = has_prefix word
    || (same_text word (codes "description")
    || (same_text word (codes "reference")
    || (same_text word (codes "status")
    || (same_text word (codes "units")
    || (same_text word (codes "error-message")
    || (same_text word (codes "organization")
    || (same_text word (codes "contact")
    || (same_text word (codes "revision")
    || same_text word (codes "revision-date")))))))))

-- a statement of which none but those without effect may stand below it: the first other one is at fault
abbrev pub none_below : Stmt → Option TypeFault
none_below statement =
    option_map (λ below. Unsupported (keyword below)) (find (λ below. not (is_idle (keyword below))) (subs statement))
