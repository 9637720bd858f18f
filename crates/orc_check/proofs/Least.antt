-- The least of breaches.
use Rattle.std.proofs.Common.{◌≡◌, false, List, [], ◌∷◌, ◌++◌, refl, sym, ap, subst, ◌∙◌, append-nil}
use Rattle.std.specs.Prelude.{Option, Some, None, if◌then◌else◌}
use Rattle.std.specs.List.{fold}
use Rattle.std.specs.Ordering.{is_lt}
use Rattle.std.specs.declared.cmp.Ordering.{Ordering}
use Rattle.std.specs.declared.cmp.Ordering.TheVariants.{Less, Equal, Greater}
use Rattle.std.specs.Cmp.{IsTotalOrder, on_total, tied_itself, nat_cmp_total}
use Rattle.std.proofs.lemmas.Cmp.{then_total}
use Rattle.std.proofs.lemmas.Bool.{false≢true}
use Rattle.std.proofs.lemmas.List.{append_assoc}
use Rattle.std.proofs.lemmas.List.Elements.{All-nil, All-push, All-weaker, Contains-push, Contains-append_left}
use Rattle.orc_path.proofs.PathOrder.{path_cmp_total}
use Rattle.orc_check.specs.Validity.{Breach, breach_cmp, lesser_breach}
use Rattle.orc_check.specs.Laws.{IsLeastBreach, LeastBreachIsLeast}

breach_cmp_total : IsTotalOrder breach_cmp
breach_cmp_total = then_total (on_total (λ (b : Breach). b.path) path_cmp_total) (on_total (λ (b : Breach). b.rule) nat_cmp_total)

-- the first isn't less than the second
abbrev NotLess : Breach → Breach → Type 0
NotLess b other = is_lt (breach_cmp other b) ≡ false

itself : (b : Breach) → NotLess b b
itself b = ap is_lt (tied_itself breach_cmp_total b)

-- what isn't less than one isn't less than a lesser one either
than_lesser : (a b x : Breach) → breach_cmp b a ≡ Less → NotLess a x → NotLess b x
than_lesser a b x less h = on (breach_cmp x b) refl
  where
    on : (r : Ordering) → breach_cmp x b ≡ r → is_lt r ≡ false
    on Less e = absurd (false≢true (sym h ∙ ap is_lt (breach_cmp_total.trans x b a e less)))
    on Equal e = refl
    on Greater e = refl

-- the best of those that were seen
abbrev IsBest : List Breach → Option Breach → Type 0
IsBest seen None = seen ≡ []
IsBest seen (Some b) = IsLeastBreach seen b

step : (seen : List Breach) (best : Option Breach) (b : Breach) → IsBest seen best → IsBest (seen ++ b ∷ []) (lesser_breach best b)
step seen None b is =
    subst (λ (s : List Breach). IsLeastBreach (s ++ b ∷ []) b) (sym is)
    (record { among = Contains-push [] b; least = All-push (NotLess b) [] b (All-nil (NotLess b)) (itself b) })
step seen (Some a) b is = on (breach_cmp b a) refl
  where
    stays : is_lt (breach_cmp b a) ≡ false → IsLeastBreach (seen ++ b ∷ []) a
    stays h = record { among = Contains-append_left seen (b ∷ []) a is.among; least = All-push (NotLess a) seen b is.least h }

    on : (r : Ordering) → breach_cmp b a ≡ r → IsBest (seen ++ b ∷ []) (if is_lt r then Some b else Some a)
    on Less e = record {
      among = Contains-push seen b;
      least = All-push (NotLess b) seen b (All-weaker (NotLess a) (NotLess b) (λ x h. than_lesser a b x e h) seen is.least) (itself b);
    }
    on Equal e = stays (ap is_lt e)
    on Greater e = stays (ap is_lt e)

go_on : (more seen : List Breach) (best : Option Breach) → IsBest seen best → IsBest (seen ++ more) (fold lesser_breach best more)
go_on [] seen best is = subst (λ (s : List Breach). IsBest s best) (sym (append-nil seen)) is
go_on (b ∷ more) seen best is =
    subst (λ (s : List Breach). IsBest s (fold lesser_breach (lesser_breach best b) more)) (append_assoc seen (b ∷ []) more)
    (go_on more (seen ++ b ∷ []) (lesser_breach best b) (step seen best b is))

pub least_is : LeastBreachIsLeast
least_is all = record {
  some = λ b e. subst (λ (o : Option Breach). IsBest all o) e (go_on all [] None refl);
  none = λ e. subst (λ (o : Option Breach). IsBest all o) e (go_on all [] None refl);
}
