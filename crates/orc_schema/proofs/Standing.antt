-- What a name means stands in the modules, where that which stands around it does.
use Rattle.std.proofs.Common.{List, [], ◌∷◌, ℕ, Bool, true, false, cond}
use Rattle.std.specs.Prelude.{Option, Some, None, Contains, option_map, option_and_then, codes, is_some}
use Rattle.std.specs.List.{find, position, before_first, after_first}
use Rattle.std.specs.Option.{option_or}
use Rattle.std.proofs.lemmas.List.Elements.{Contains-push, Contains-append_left, Contains-append_right}
use Rattle.orc_yang.specs.declared.statement.Stmt.{Stmt}
use Rattle.orc_types.specs.Statements.{subs, argument}
use Rattle.orc_types.specs.Paths.{is_colon}
use Rattle.orc_modules.specs.Statements.{defines}
use Rattle.orc_modules.specs.Scopes.{Found, module_called, imports_as, imported, is_own, module_around, in_block_of, in_scope, behind_prefix, meaning}
use Rattle.orc_modules.specs.Children.{grouping}
use Rattle.orc_schema.specs.Laws.{StandsIn}

pub contains_here : {X : Type 0} (x : X) (xs : List X) → Contains (x ∷ xs) x
contains_here x xs = Contains-append_left (x ∷ []) xs x (Contains-push [] x)

pub contains_there : {X : Type 0} (x : X) (xs : List X) (y : X) → Contains xs y → Contains (x ∷ xs) y
contains_there x xs y h = Contains-append_right (x ∷ []) xs y h

-- it holds of what is there
abbrev pub Holds : {X : Type 0} → (X → Type 0) → Option X → Type 0
Holds P None = Unit {0}
Holds P (Some x) = P x

module _ {X : Type 0} (P : X → Type 0) where
  holds-if : (b : Bool) (o p : Option X) → Holds P o → Holds P p → Holds P (cond b o p)
  holds-if true o p h k = h
  holds-if false o p h k = k

  holds-or : (o p : Option X) → Holds P o → Holds P p → Holds P (option_or o p)
  holds-or None p h k = k
  holds-or (Some x) p h k = h

  holds-then : {Y : Type 0} (Q : Y → Type 0) (f : Y → Option X) (o : Option Y) → Holds Q o → ((y : Y) → Q y → Holds P (f y)) → Holds P (option_and_then f o)
  holds-then Q f None h k = tt
  holds-then Q f (Some y) h k = k y h

module _ {X : Type 0} (p : X → Bool) where
  holds-behind : (x : X) (xs : List X) (o : Option X) → Holds (Contains xs) o → Holds (Contains (x ∷ xs)) o
  holds-behind x xs None h = tt
  holds-behind x xs (Some y) h = contains_there x xs y h

  find_contains : (xs : List X) → Holds (Contains xs) (find p xs)
  find_contains [] = tt
  find_contains (x ∷ xs) = holds-if (Contains (x ∷ xs)) (p x) (Some x) (find p xs) (contains_here x xs) (holds-behind x xs (find p xs) (find_contains xs))

module _ (all : List Stmt) where
  abbrev pub FoundIn : Found → Type 0
  FoundIn g = StandsIn all g.above g.here

  -- the first stands in the modules, with the others around it
  abbrev pub StandAround : List Stmt → Type 0
  StandAround [] = Unit {0}
  StandAround (s ∷ above) = StandsIn all above s

  outwards : (s : Stmt) (above : List Stmt) → StandsIn all above s → StandAround above
  outwards s [] h = tt
  outwards s (t ∷ above) h = h.1

  in_block : (keyword name : List ℕ) (s : Stmt) (above : List Stmt) → StandsIn all above s → Holds FoundIn (in_block_of keyword name s above)
  in_block keyword name s above h = on (find (defines keyword name) (subs s)) (find_contains (defines keyword name) (subs s))
    where
      on : (o : Option Stmt) → Holds (Contains (subs s)) o → Holds FoundIn (option_map (λ d. record { above = s ∷ above; here = d }) o)
      on None c = tt
      on (Some d) c = (c, h)

  scope : (keyword name : List ℕ) (above : List Stmt) → StandAround above → Holds FoundIn (in_scope keyword name above)
  scope keyword name [] h = tt
  scope keyword name (s ∷ above) h = holds-or FoundIn (in_block_of keyword name s above) (in_scope keyword name above)
      (in_block keyword name s above h) (scope keyword name above (outwards s above h))

  import_stands : (prefix : List ℕ) (m : Stmt) → Holds (Contains all) (imported all prefix m)
  import_stands prefix m = on (find (imports_as prefix) (subs m))
    where
      on : (o : Option Stmt) → Holds (Contains all) (option_and_then (λ i. module_called all (argument i)) o)
      on None = tt
      on (Some i) = find_contains (defines (codes "module") (argument i)) all

  behind : (keyword prefix name : List ℕ) (above : List Stmt) (m : Stmt) → StandAround above → Holds FoundIn (behind_prefix all keyword prefix name above m)
  behind keyword prefix name above m h = holds-if FoundIn (is_own prefix m) (in_scope keyword name above)
      (option_and_then (λ other. in_block_of keyword name other []) (imported all prefix m))
      (scope keyword name above h)
      (holds-then FoundIn (Contains all) (λ other. in_block_of keyword name other []) (imported all prefix m) (import_stands prefix m) (λ other c. in_block keyword name other [] c))

  meaning_stands : (keyword text : List ℕ) (above : List Stmt) → StandAround above → Holds FoundIn (meaning all keyword text above)
  meaning_stands keyword text above h = holds-if FoundIn (is_some (position is_colon text))
      (option_and_then (behind_prefix all keyword (before_first is_colon text) (after_first is_colon text) above) (module_around above))
      (in_scope keyword text above) (on (module_around above)) (scope keyword text above h)
    where
      on : (o : Option Stmt) → Holds FoundIn (option_and_then (behind_prefix all keyword (before_first is_colon text) (after_first is_colon text) above) o)
      on None = tt
      on (Some m) = behind keyword (before_first is_colon text) (after_first is_colon text) above m h

  pub grouping_stands : (above : List Stmt) (s : Stmt) → StandAround above → Holds FoundIn (grouping all above s)
  grouping_stands above s h = meaning_stands (codes "grouping") (argument s) above h
