-- The names of a block's nodes, with one statement more.
use Rattle.std.proofs.Common.{◌≡◌, refl, sym, ◌∙◌, ap, List, [], ◌∷◌, ◌++◌, ℕ, suc, ◌+◌, ◌<◌, length, get_or, arith}
use Rattle.std.specs.Prelude.{take}
use Rattle.std.proofs.Math.Seq.{take-suc}
use Rattle.std.proofs.lemmas.List.{append_assoc, map-append}
use Rattle.orc_yang.specs.declared.statement.Stmt.{Stmt}
use Rattle.orc_types.specs.Statements.{argument}
use Rattle.orc_modules.specs.Scopes.{Found}
use Rattle.orc_modules.specs.Children.{block_part, child, children_by, children, child_names, brought_by}

children_by-append : (inner : Found → List Found) (modules above xs ys : List Stmt)
    → children_by inner modules above (xs ++ ys) ≡ children_by inner modules above xs ++ children_by inner modules above ys
children_by-append inner modules above [] ys = refl
children_by-append inner modules above (x ∷ xs) ys = ap (λ r. child inner modules above x (block_part x) ++ r) (children_by-append inner modules above xs ys)
    ∙ sym (append_assoc (child inner modules above x (block_part x)) (children_by inner modules above xs) (children_by inner modules above ys))

names-append : (n : ℕ) (modules above xs ys : List Stmt)
    → child_names (children n modules above (xs ++ ys)) ≡ child_names (children n modules above xs) ++ child_names (children n modules above ys)
names-append n modules above xs ys = ap child_names (children_by-append (brought_by n modules) modules above xs ys)
    ∙ map-append (λ c. argument c.here) (children n modules above xs) (children n modules above ys)

pub names-grown : (n : ℕ) (modules above block : List Stmt) (i : ℕ) (x : Stmt) → i < length block → get_or block i x ≡ x
    → child_names (children n modules above (take i block)) ++ child_names (children n modules above (x ∷ [])) ≡ child_names (children n modules above (take (i + 1) block))
names-grown n modules above block i x below is = sym (names-append n modules above (take i block) (x ∷ []))
    ∙ ap (λ b. child_names (children n modules above b))
    (ap (λ y. take i block ++ y ∷ []) (sym is) ∙ sym (let e : i + 1 ≡ suc i = omega arith in ap (λ m. take m block) e ∙ take-suc block i x below))
