-- How many statements lead on, one level opened.
use Rattle.std.proofs.Common.{◌≡◌, refl, sym, ◌∙◌, ap, List, [], ◌∷◌, map, ℕ, ◌+◌, if◌then◌else◌}
use Rattle.std.specs.List.{sum_by, fold}
use Rattle.orc_yang.specs.declared.statement.Stmt.{Stmt}
use Rattle.orc_yang.specs.declared.statement.Stmt.TheViews.{out-Stmt, roll-out-Stmt}
use Rattle.orc_yang.specs.declared.statement.Stmt.TheFolds.{para-roll-Stmt}
use Rattle.orc_types.specs.Statements.{keyword, subs}
use Rattle.orc_modules.specs.Statements.{may_lead, leaders, leader_step}

abbrev with_count : Stmt → Stmt × ℕ
with_count t = (t, leaders t)

counts_from : (a : ℕ) (xs : List Stmt) → fold (λ (n : ℕ) (t : Stmt × ℕ). n + t.1) a (map with_count xs) ≡ fold (λ (n : ℕ) (t : Stmt). n + leaders t) a xs
counts_from a [] = refl
counts_from a (x ∷ xs) = counts_from (a + leaders x) xs

themselves : (xs : List Stmt) → map (λ (t : Stmt × ℕ). t.0) (map with_count xs) ≡ xs
themselves [] = refl
themselves (x ∷ xs) = ap (λ ys. x ∷ ys) (themselves xs)

pub leaders_are : (s : Stmt) → leaders s ≡ sum_by leaders (subs s) + (if may_lead (keyword s) (subs s) then 1 else 0)
leaders_are s = ap leaders (sym (roll-out-Stmt s)) ∙ para-roll-Stmt ℕ leader_step (out-Stmt s)
    ∙ ap (λ n. n + (if may_lead (keyword s) (map (λ (t : Stmt × ℕ). t.0) (map with_count (subs s))) then 1 else 0)) (counts_from 0 (subs s))
    ∙ ap (λ ts. sum_by leaders (subs s) + (if may_lead (keyword s) ts then 1 else 0)) (themselves (subs s))
