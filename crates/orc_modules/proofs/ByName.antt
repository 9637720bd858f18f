-- Definitions found by name are the first ones.
use Rattle.std.proofs.Common.{◌≡◌, refl, ◌∙◌, ap, List, ℕ, Bool, true, false, cond}
use Rattle.std.specs.Prelude.{Option, Some, option_map}
use Rattle.std.specs.Str.{bytes_eq}
use Rattle.std.specs.Cmp.Lexicographic.{slice_cmp}
use Rattle.std.specs.Cmp.Lexicographic as lexicographic
use Rattle.std.specs.Ordering.{nat_cmp}
use Rattle.std.specs.BTreeMap.{BTreeMap, get_by}
use denote.Ref.{Bor}
use Rattle.orc_value.specs.Canon.{same_text}
use Rattle.orc_yang.specs.declared.statement.Stmt.{Stmt}
use Rattle.orc_modules.specs.inside.Blocks.{by_name}

-- what a map gives, without its place
abbrev pub lent : Option (Bor Stmt) → Option Stmt
lent o = option_map (λ s. s.now) o

-- what is under a name, once something was put under one
pub under : (old new : BTreeMap (Bor (List ℕ)) (Bor Stmt)) (name q : List ℕ) (s : Bor Stmt)
    → get_by (λ k. slice_cmp nat_cmp q k.now) new ≡ cond (bytes_eq name q) (Some s) (get_by (λ k. slice_cmp nat_cmp q k.now) old)
    → by_name new q ≡ cond (same_text name q) (Some s.now) (by_name old q)
under old new name q s put = ap lent put ∙ by (bytes_eq name q) (get_by (λ k. slice_cmp nat_cmp q k.now) old)
  where
    by : (b : Bool) (o : Option (Bor Stmt)) → lent (cond b (Some s) o) ≡ cond b (Some s.now) (lent o)
    by true o = refl
    by false o = refl
