-- The search by halves for the line of names, which knows how many names the lines at the ends share with them.
use Rattle.std.proofs.Common.{◌≡◌, refl, sym, ◌∙◌, ap, subst, List, [], ◌∷◌, map, ℕ, zero, suc, ◌+◌, ◌-◌, ◌<◌, ◌≤◌, ⊎_elim, length, get_or, arith}
use Rattle.std.specs.Prelude.{Some, None, min}
use Rattle.std.specs.List.{find}
use Rattle.std.specs.Ordering.{ordering_reverse, is_eq}
use Rattle.std.specs.declared.cmp.Ordering.{Ordering}
use Rattle.std.specs.declared.cmp.Ordering.TheVariants.{Less, Equal, Greater}
use Rattle.std.proofs.Math.Nat.{min-le_left, min-le_right}
use Rattle.std.proofs.lemmas.Map.Keys.{sorted_head, sorted_tail}
use Rattle.std.proofs.lemmas.Bool.{cases_lt}
use Rattle.std.proofs.lemmas.List.{get_or_read}
use Rattle.orc_schema_nodes.specs.declared.line.SchemaLine.{SchemaLine}
use Rattle.orc_schema_nodes.specs.Names.{names_cmp}
use Rattle.orc_schema_nodes.specs.Schemas.{Ascends, is_line_at}
use Rattle.orc_schema_nodes.specs.inside.Fronts.{Shares}
use Rattle.orc_schema_nodes.proofs.Ordered.{Names, names_total, head_less, found, not_found}
use Rattle.orc_schema_nodes.proofs.Alike.{shares_fewer, shares_between}

-- of two lines in order the earlier has the lesser names
rises : (lines : List SchemaLine) → Ascends lines → (i j : ℕ) (d : SchemaLine) → i < j → j < length lines → names_cmp (get_or lines i d).names (get_or lines j d).names ≡ Less
rises [] s i j d less inside = absurd (omega arith)
rises (x ∷ xs) s i zero d less inside = absurd (omega arith)
rises (x ∷ xs) s zero (suc j) d less inside = head_less (λ (l : SchemaLine). l.names) x xs j d (sorted_head names_cmp x.names (map (λ l. l.names) xs) s) (omega arith)
rises (x ∷ xs) s (suc i) (suc j) d less inside = rises xs (sorted_tail names_cmp x.names (map (λ l. l.names) xs) s) i j d (omega arith) (omega arith)

-- how a line's names stand to those that are sought, and how many first names are the same
abbrev pub IsSide : Ordering → ℕ → Names → SchemaLine → Type 0
IsSide o shared names line = (names_cmp line.names names ≡ o) × Shares shared line.names names

-- the line before `low` is less than the names, and that at `high` greater
pub record IsHalving (lines : List SchemaLine) (names : Names) (low high below above : ℕ) : Type 0 where
  pub order : low ≤ high
  pub within : high ≤ length lines
  pub first : low ≡ 0 → below ≡ 0
  pub last : high ≡ length lines → above ≡ 0
  pub before : (i : ℕ) (d : SchemaLine) → i + 1 ≡ low → IsSide Less below names (get_or lines i d)
  pub behind : (d : SchemaLine) → high < length lines → IsSide Greater above names (get_or lines high d)

pub halving_start : (lines : List SchemaLine) (names : Names) → IsHalving lines names 0 (length lines) 0 0
halving_start lines names = record {
  order = omega arith;
  within = omega arith;
  first = λ none. refl;
  last = λ none. refl;
  before = λ i d is. absurd (omega (arith, is));
  behind = λ d less. absurd (omega (arith, less));
}

module _ (lines : List SchemaLine) (names : Names) (sorted : Ascends lines) (low high below above : ℕ) (known : IsHalving lines names low high below above) where
  -- a line between, and its names
  module _ (at : ℕ) (line : SchemaLine) (is : line ≡ get_or lines at line) (least : low ≤ at) (most : at < high) (own : Names) (are : own ≡ line.names) where
    inside : at < length lines
    inside = omega (arith, most, known.within)

    -- the line has at least as many names in common with those that are sought as both ends have
    pub shares_here : (n : ℕ) → n ≡ min below above → Shares n own names
    shares_here n is_least = ⊎_elim
        (λ some_before. ⊎_elim
        (λ some_behind.
        let i = low - 1 in
        let lower = known.before i line (omega (arith, some_before)) in
        let upper = known.behind line some_behind in
        shares_between n (get_or lines i line).names own (get_or lines high line).names names
        (shares_fewer below n (get_or lines i line).names names few_below lower.1)
        (shares_fewer above n (get_or lines high line).names names few_above upper.1)
        (subst (λ ns. names_cmp (get_or lines i line).names ns ≡ Less) read (rises lines sorted i at line (omega (arith, some_before, least)) inside))
        (subst (λ ns. names_cmp ns (get_or lines high line).names ≡ Less) read (rises lines sorted at high line most some_behind)))
        (λ none. nothing (omega (arith, few_above, known.last (omega (arith, none, known.within)))))
        (cases_lt high (length lines)))
        (λ none. nothing (omega (arith, few_below, known.first (omega (arith, none)))))
        (cases_lt 0 low)
      where
        few_below : n ≤ below
        few_below = subst (λ k. k ≤ below) (sym is_least) (min-le_left below above)

        few_above : n ≤ above
        few_above = subst (λ k. k ≤ above) (sym is_least) (min-le_right below above)

        read : (get_or lines at line).names ≡ own
        read = ap (λ (l : SchemaLine). l.names) (sym is) ∙ sym are

        nothing : n ≡ 0 → Shares n own names
        nothing e = subst (λ k. Shares k own names) (sym e) tt

    side : (n : ℕ) (told o : Ordering) → told ≡ o → told ≡ names_cmp own names → Shares n own names → IsSide o n names line
    side n told o which ordered shared = subst (λ ns. (names_cmp ns names ≡ o) × Shares n ns names) are (sym ordered ∙ which, shared)

    pub upper_half : (n : ℕ) (told : Ordering) → told ≡ Less → told ≡ names_cmp own names → Shares n own names → IsHalving lines names (at + 1) high n above
    upper_half n told less ordered shared = record {
      order = omega (arith, most);
      within = known.within;
      first = λ none. absurd (omega (arith, none));
      last = known.last;
      before = λ i d next.
          let same : at ≡ i = omega (arith, next) in
          subst (IsSide Less n names) (get_or_read lines at line inside is d ∙ ap (λ k. get_or lines k d) same) (side n told Less less ordered shared);
      behind = known.behind;
    }

    pub lower_half : (n : ℕ) (told : Ordering) → told ≡ Greater → told ≡ names_cmp own names → Shares n own names → IsHalving lines names low at below n
    lower_half n told greater ordered shared = record {
      order = least;
      within = omega (arith, inside);
      first = known.first;
      last = λ end. absurd (omega (arith, end, inside));
      before = known.before;
      behind = λ d less. subst (IsSide Greater n names) (get_or_read lines at line inside is d) (side n told Greater greater ordered shared);
    }

    pub found_here : (told : Ordering) → told ≡ Equal → told ≡ names_cmp own names → Some line ≡ find (is_line_at names) lines
    found_here told equal ordered = ap Some is ∙ sym (found (λ (l : SchemaLine). l.names) names lines at line sorted inside
        (ap (λ (l : SchemaLine). names_cmp l.names names) (sym is) ∙ ap (λ ns. names_cmp ns names) (sym are) ∙ sym ordered ∙ equal))

  -- nothing is left between
  module _ (done : high ≤ low) where
    earlier : (i : ℕ) (d : SchemaLine) → i < low → names_cmp (get_or lines i d).names names ≡ Less
    earlier i d less =
        let j = low - 1 in
        let side = known.before j d (omega (arith, less)) in
        ⊎_elim
        (λ far. names_total.trans (get_or lines i d).names (get_or lines j d).names names (rises lines sorted i j d far (omega (arith, less, known.order, known.within))) side.0)
        (λ near. let same : j ≡ i = omega (arith, near, less) in subst (λ k. names_cmp (get_or lines k d).names names ≡ Less) same side.0)
        (cases_lt i j)

    later : (i : ℕ) (d : SchemaLine) → low ≤ i → i < length lines → names_cmp (get_or lines i d).names names ≡ Greater
    later i d least within =
        let side = known.behind d (omega (arith, done, least, within)) in
        ⊎_elim
        (λ far. names_total.antisymm (get_or lines i d).names names ∙ ap ordering_reverse
        (names_total.trans names (get_or lines high d).names (get_or lines i d).names
        (names_total.antisymm names (get_or lines high d).names ∙ ap ordering_reverse side.0) (rises lines sorted high i d far within)))
        (λ near. let same : high ≡ i = omega (arith, near, done, least) in subst (λ k. names_cmp (get_or lines k d).names names ≡ Greater) same side.0)
        (cases_lt high i)

    pub none_here : None ≡ find (is_line_at names) lines
    none_here = sym (not_found (λ (l : SchemaLine). l.names) names lines (λ i d within. ⊎_elim
        (λ less. ap is_eq (earlier i d less))
        (λ least. ap is_eq (later i d least within))
        (cases_lt i low)))
