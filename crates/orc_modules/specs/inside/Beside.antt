-- The groupings of the innermost block.
use Rattle.std.specs.Prelude.{ℕ, Bool, true, false, List, [], ◌∷◌, Option, None, codes}
use Rattle.std.specs.List.{find}
use Rattle.std.specs.Option.{option_map_or}
use Rattle.orc_value.specs.Canon.{same_text}
use Rattle.orc_yang.specs.declared.statement.Stmt.{Stmt}
use Rattle.orc_types.specs.Statements.{subs}
use Rattle.orc_modules.specs.Bare.{may_bring}
use Rattle.orc_modules.specs.Scopes.{prefix_of, is_own, module_around}
use Rattle.orc_modules.specs.Statements.{defines}

-- the grouping of this name in the innermost block
abbrev pub beside : List Stmt → List ℕ → Option Stmt
beside [] name = None
beside (s ∷ above) name = find (defines (codes "grouping") name) (subs s)

-- what it may bring
abbrev pub beside_brings : ℕ → List Stmt → List Stmt → List ℕ → Bool
beside_brings n modules above name = option_map_or (λ h. may_bring n modules (h ∷ above) h) (beside above name) true

-- a name has no prefix, or this one
abbrev pub is_near : List ℕ → List ℕ → Bool
is_near prefix text = option_map_or (same_text prefix) (prefix_of text) true

-- a name has no prefix, or that of the module around
abbrev pub is_local : List Stmt → List ℕ → Bool
is_local above text = option_map_or (λ prefix. option_map_or (is_own prefix) (module_around above) false)
    (prefix_of text) true
