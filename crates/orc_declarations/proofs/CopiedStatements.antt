-- A statement of the parts of another is that one.
use Rattle.std.proofs.Common.{◌≡◌, ◌≤◌, ℕ, List, Option, length, take, ap, ◌∙◌}
use Rattle.std.proofs.lemmas.List.{take_all}
use Rattle.orc_yang.specs.Statement.{statement}
use Rattle.orc_yang.specs.declared.statement.Stmt.{Stmt}
use Rattle.orc_yang.specs.declared.statement.Stmt.TheViews.{out-Stmt, roll-out-Stmt}

pub same_parts : (s : Stmt) (keyword : List ℕ) (argument : Option (List ℕ)) (subs : List Stmt) (at : ℕ)
    → keyword ≡ (out-Stmt s).keyword → argument ≡ (out-Stmt s).argument → subs ≡ (out-Stmt s).subs → at ≡ (out-Stmt s).at
    → statement keyword argument subs at ≡ s
same_parts s keyword argument subs at k a b p =
    ap (λ (x : List ℕ). statement x argument subs at) k
    ∙ ap (λ (x : Option (List ℕ)). statement (out-Stmt s).keyword x subs at) a
    ∙ ap (λ (x : List Stmt). statement (out-Stmt s).keyword (out-Stmt s).argument x at) b
    ∙ ap (λ (x : ℕ). statement (out-Stmt s).keyword (out-Stmt s).argument (out-Stmt s).subs x) p
    ∙ roll-out-Stmt s

-- all of the first n are all
pub all_taken : (subs items : List Stmt) (n : ℕ) → length items ≤ n → subs ≡ take n items → subs ≡ items
all_taken subs items n all h = h ∙ take_all n items all
