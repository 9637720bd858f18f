-- Groupings that bring nothing define no node.
use Rattle.std.proofs.Common.{◌≡◌, refl, sym, ◌∙◌, ap, ℕ, zero, suc, Bool, true, false, List, [], ◌∷◌, ◌++◌}
use Rattle.std.specs.Prelude.{Option, Some, None, Result, Ok, Err, IfOk}
use Rattle.std.specs.List.{list_any}
use Rattle.std.specs.Option.{option_map_or}
use Rattle.std.proofs.lemmas.Bool.{false≢true, or_parts}
use Rattle.orc_yang.specs.declared.statement.Stmt.{Stmt}
use Rattle.orc_types.specs.Statements.{subs}
use Rattle.orc_modules.specs.declared.parts.Part.{Part}
use Rattle.orc_modules.specs.declared.parts.Part.TheVariants.{Node as node, Uses as uses, Nothing as nothing}
use Rattle.orc_modules.specs.Scopes.{Modules, Found}
use Rattle.orc_modules.specs.Bare.{brings_in, brings_at, may_bring, Brings}
use Rattle.orc_modules.specs.Children.{block_part, grouping}
use Rattle.orc_schema.specs.declared.draft.Draft.{Draft}
use Rattle.orc_schema.specs.Drafts.{Where, in_grouping, drafts_at, drafts_in, drafts_below}

module _ (ms : Modules) where
  module _ (inner : List Stmt → Stmt → Bool) (below : Where → Stmt → List Draft) (none : (w : Where) (s : Stmt) → inner w.above s ≡ false → below w s ≡ []) (w : Where) where
    none_of : (o : Option Found) → option_map_or (brings_in inner) o true ≡ false → option_map_or (λ g. below (in_grouping w g) g.here) o [] ≡ []
    none_of None h = refl
    none_of (Some g) h = none (in_grouping w g) g.here h

    none_at : (t : Stmt) (p : Part) → brings_at inner ms.all w.above t p ≡ false → drafts_at ms below w t p ≡ []
    none_at t node h = absurd (false≢true (sym h))
    none_at t uses h = none_of (grouping ms.all w.above t) h
    none_at t nothing h = refl

    none_in : (ss : List Stmt) → list_any (λ t. brings_at inner ms.all w.above t (block_part t)) ss ≡ false → drafts_in ms below w ss ≡ []
    none_in [] h = refl
    none_in (t ∷ ts) h =
        let one : Bool = brings_at inner ms.all w.above t (block_part t) in
        let rest : Bool = list_any (λ u. brings_at inner ms.all w.above u (block_part u)) ts in
        ap (λ ds. ds ++ drafts_in ms below w ts) (none_at t (block_part t) (or_parts one rest h).0)
        ∙ none_in ts (or_parts one rest h).1

  none_below : (n : ℕ) (w : Where) (s : Stmt) → may_bring n ms.all w.above s ≡ false → drafts_below n ms w s ≡ []
  none_below zero w s h = refl
  none_below (suc n) w s h = none_in (may_bring n ms.all) (drafts_below n ms) (none_below n) w (subs s) h

  bare_drafts : (n : ℕ) (w : Where) (o : Option Found) → option_map_or (brings_in (may_bring n ms.all)) o false ≡ false
      → option_map_or (λ g. drafts_below n ms (in_grouping w g) g.here) o [] ≡ []
  bare_drafts n w None h = refl
  bare_drafts n w (Some g) h = none_below n (in_grouping w g) g.here h

  pub drafts_by : (n : ℕ) (w : Where) (s : Stmt) (o : Option Found) → Brings n ms.all w.above s o
      → option_map_or (λ g. drafts_below n ms (in_grouping w g) g.here) (grouping ms.all w.above s) [] ≡ option_map_or (λ g. drafts_below n ms (in_grouping w g) g.here) o []
  drafts_by n w s None h = bare_drafts n w (grouping ms.all w.above s) h
  drafts_by n w s (Some g) h = ap (λ o. option_map_or (λ g. drafts_below n ms (in_grouping w g) g.here) o []) h

-- what follows of a value
pub if_ok : {X E : Type 0} (P Q : X → Type 0) → ((x : X) → P x → Q x) → (r : Result X E) → IfOk r P → IfOk r Q
if_ok P Q follows (Ok x) h = follows x h
if_ok P Q follows (Err e) h = h
