-- The least of what is looked at is the least of all breaches.
use Rattle.std.proofs.Common.{◌≡◌, Bool, true, false, List, [], Some, None, refl, sym, ap, ◌∙◌}
use Rattle.std.specs.declared.option.Option.{Option}
use Rattle.std.specs.Prelude.{if◌then◌else◌}
use Rattle.std.specs.Ordering.{is_lt, nat_cmp, ordering_reverse, ordering_then}
use Rattle.std.specs.declared.cmp.Ordering.{Ordering}
use Rattle.std.specs.declared.cmp.Ordering.TheVariants.{Less, Equal, Greater}
use Rattle.std.specs.Cmp.{IsTotalOrder, on_total, nat_cmp_total}
use Rattle.std.specs.FinMap.{nat_cmp-IsAntisymmetric}
use Rattle.std.proofs.lemmas.Cmp.{then_total}
use Rattle.std.proofs.lemmas.Bool.{false≢true}
use Rattle.std.proofs.lemmas.List.Elements.{All-contains}
use Rattle.orc_path.specs.Order.{path_cmp}
use Rattle.orc_path.specs.Configurations.{Config, IsConfig}
use Rattle.orc_path.proofs.PathOrder.{path_cmp_total, path_cmp_exact}
use Rattle.orc_schema_nodes.specs.Schemas.{SchemaTable, Ascends}
use Rattle.orc_check.specs.Laws.{IsLeastBreach, LeastBreachIsLeast}
use Rattle.orc_check.specs.Validity.{Breach, breach_cmp, least_breach, breaches, broken_of}
use Rattle.orc_expr.specs.declared.read.Target.{Target}
use Rattle.orc_revalidate.specs.Changes.{DiffersInside}
use Rattle.orc_revalidate.specs.inside.Looked.{change_breaches}
use Rattle.orc_revalidate.specs.inside.Led.{may_lose}
use Rattle.orc_revalidate.proofs.Members.{In, in_none, contains_in, in_contains}
use Rattle.orc_revalidate.proofs.Seen.{all_seen}
use Rattle.orc_revalidate.proofs.Within.{target_looks, takes_none, covers_none}
use Rattle.orc_revalidate.proofs.Genuine.{genuine}

breach_total : IsTotalOrder breach_cmp
breach_total = then_total (on_total (λ (b : Breach). b.path) path_cmp_total) (on_total (λ (b : Breach). b.rule) nat_cmp_total)

is_apart : Ordering → Bool
is_apart Less = true
is_apart Equal = false
is_apart Greater = true

-- breaches that tie are the same
tied : (a b : Breach) → breach_cmp a b ≡ Equal → a ≡ b
unfolding is_apart
tied a b h = on (path_cmp a.path b.path) refl h
  where
    on : (o : Ordering) → path_cmp a.path b.path ≡ o → ordering_then o (nat_cmp a.rule b.rule) ≡ Equal → a ≡ b
    on Less e h = absurd (false≢true (sym (ap is_apart h)))
    on Greater e h = absurd (false≢true (sym (ap is_apart h)))
    on Equal e h =
        let path : a.path ≡ b.path = path_cmp_exact a.path b.path e in
        let rule : a.rule ≡ b.rule = nat_cmp-IsAntisymmetric a.rule b.rule h in
        λ i. record { path = path i; rule = rule i }

-- neither of two is less
neither : (a b : Breach) → is_lt (breach_cmp a b) ≡ false → is_lt (breach_cmp b a) ≡ false → a ≡ b
neither a b h k = on (breach_cmp a b) refl h
  where
    on : (o : Ordering) → breach_cmp a b ≡ o → is_lt o ≡ false → a ≡ b
    on Less e h = absurd (false≢true (sym h))
    on Equal e h = tied a b e
    on Greater e h =
        let less : breach_cmp b a ≡ Less = breach_total.antisymm b a ∙ ap ordering_reverse e in
        absurd (false≢true (sym k ∙ ap is_lt less))

module _ (least_is : LeastBreachIsLeast) (xs ys : List Breach) (to : (b : Breach) → In xs b → In ys b) (from : (b : Breach) → In ys b → In xs b) where
  not_less : (zs : List Breach) (a b : Breach) → IsLeastBreach zs a → In zs b → is_lt (breach_cmp b a) ≡ false
  not_less zs a b is h = All-contains (λ other. is_lt (breach_cmp other a) ≡ false) zs b is.least (contains_in zs b h)

  -- lists with the same breaches have the same least one
  pub same_least : least_breach xs ≡ least_breach ys
  same_least = on (least_breach xs) refl (least_breach ys) refl
    where
      among : (zs : List Breach) (a : Breach) → IsLeastBreach zs a → In zs a
      among zs a is = in_contains zs a is.among

      on : (o : Option Breach) → least_breach xs ≡ o → (p : Option Breach) → least_breach ys ≡ p → o ≡ p
      on None e None f = refl
      on None e (Some b) f =
          absurd (in_none xs b ((least_is xs).none e) (from b (among ys b ((least_is ys).some b f))))
      on (Some a) e None f =
          absurd (in_none ys a ((least_is ys).none f) (to a (among xs a ((least_is xs).some a e))))
      on (Some a) e (Some b) f =
          let first = (least_is xs).some a e in
          let second = (least_is ys).some b f in
          ap Some (neither a b (not_less ys b a second (to a (among xs a first))) (not_less xs a b first (from b (among ys b second))))

-- After a change inside targets of a valid configuration, by which no instance may have gone, the least of what is
-- looked at is what is broken.
module _ (least_is : LeastBreachIsLeast) (s : SchemaTable) (ascends : Ascends s.lines) (old new : Config) (config : IsConfig new) (targets : List Target) where
  broken_is : s.plain ≡ false → (c : Config) → broken_of s c ≡ least_breach (breaches s c)
  broken_is modules c = ap (λ b. if b then None else least_breach (breaches s c)) modules

  pub least_looked : s.plain ≡ false → broken_of s old ≡ None → DiffersInside targets old new → may_lose s old new targets ≡ false
      → least_breach (change_breaches s old new targets) ≡ broken_of s new
  least_looked modules valid changed none =
      let unbroken : breaches s old ≡ [] = (least_is (breaches s old)).none (sym (broken_is modules old) ∙ valid) in
      same_least least_is (change_breaches s old new targets) (breaches s new) (genuine s old new targets)
      (all_seen s ascends old new config unbroken (takes_none s old new targets changed none) (covers_none s old new targets changed none)
      (change_breaches s old new targets) (target_looks s old new targets changed))
      ∙ sym (broken_is modules new)
