-- How two steps stand to each other, by their names and then by their keys.
use Rattle.std.proofs.Common.{◌≡◌, ℕ, true, false, List, nat_eq, refl, sym, ◌∙◌}
use Rattle.std.specs.declared.cmp.Ordering.{Ordering}
use Rattle.std.specs.declared.cmp.Ordering.TheVariants.{Less, Equal, Greater}
use Rattle.std.specs.Ordering.{is_eq, ordering_then}
use Rattle.std.specs.Cmp.Lexicographic.{pointwise, texts_ties}
use Rattle.std.proofs.lemmas.Bool.{false≢true}
use Rattle.orc_path.specs.Order.{text_cmp}

on_equal : (first second : Ordering) → is_eq first ≡ true → second ≡ ordering_then first second
on_equal Less second h = absurd (false≢true h)
on_equal Equal second h = refl
on_equal Greater second h = absurd (false≢true h)

on_unequal : (first second : Ordering) → is_eq first ≡ false → first ≡ ordering_then first second
on_unequal Less second h = refl
on_unequal Equal second h = absurd (false≢true (sym h))
on_unequal Greater second h = refl

-- of equal names the keys decide
pub same_name : (name other : List ℕ) (keys : Ordering) → pointwise nat_eq name other ≡ true → keys ≡ ordering_then (text_cmp name other) keys
same_name name other keys h = on_equal (text_cmp name other) keys (sym (texts_ties name other) ∙ h)

-- and else the names do
pub other_name : (name other : List ℕ) (keys : Ordering) → pointwise nat_eq name other ≡ false → text_cmp name other ≡ ordering_then (text_cmp name other) keys
other_name name other keys h = on_unequal (text_cmp name other) keys (sym (texts_ties name other) ∙ h)
