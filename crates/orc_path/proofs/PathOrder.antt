-- The order of paths is a total one, in which only equal paths tie.
use Rattle.std.specs.Prelude.{ℕ, List}
use Rattle.std.proofs.Common.{ap}
use Rattle.std.specs.Cmp.{IsTotalOrder, on_total}
use Rattle.std.specs.Cmp.Lexicographic.{slice_cmp, lists_total, nat_list_cmp_total}
use Rattle.std.specs.FinMap.{IsAntisymmetric, nat_cmp-IsAntisymmetric, slice_cmp-IsAntisymmetric}
use Rattle.std.proofs.lemmas.Cmp.{then_total}
use Rattle.std.proofs.lemmas.Map.Lookups.{exact_pairs}
use Rattle.orc_path.specs.Steps.{PathStep}
use Rattle.orc_path.specs.Order.{text_cmp, step_cmp, path_cmp}

pub step_cmp_total : IsTotalOrder step_cmp
step_cmp_total =
    then_total (on_total (λ (s : PathStep). s.node) nat_list_cmp_total)
    (on_total (λ (s : PathStep). s.keys) (lists_total nat_list_cmp_total))

-- it is a total order
pub path_cmp_total : IsTotalOrder path_cmp
path_cmp_total = lists_total step_cmp_total

text_exact : IsAntisymmetric text_cmp
text_exact = slice_cmp-IsAntisymmetric nat_cmp-IsAntisymmetric

step_exact : IsAntisymmetric step_cmp
step_exact a b h =
    let keys = slice_cmp-IsAntisymmetric text_exact in
    ap (λ (p : List ℕ × List (List ℕ)). record { node = p.0; keys = p.1 })
    (exact_pairs text_cmp (slice_cmp text_cmp) text_exact keys (a.node, a.keys) (b.node, b.keys) h)

-- only equal paths tie
pub path_cmp_exact : IsAntisymmetric path_cmp
path_cmp_exact = slice_cmp-IsAntisymmetric step_exact
