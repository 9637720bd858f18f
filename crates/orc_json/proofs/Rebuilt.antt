-- The rows of a configuration, stated in their order, give it again, and none of them is stated twice.
use Rattle.std.proofs.Common.{◌≡◌, true, false, cond, T, List, [], ◌∷◌, ◌++◌, length, take, drop, Option, Some, None, ⊎_elim, refl, sym, ap, subst, ◌∙◌, arith}
use Rattle.std.specs.Prelude.{◌&&◌, is_some}
use Rattle.std.specs.Option.{option_or}
use Rattle.std.specs.FinMap.{empty, get, entries, entries_sorted, find as find_in, is_sorted, get-empty, get-entries}
use Rattle.std.specs.FinMap.Entries.{below_all}
use Rattle.std.specs.Ordering.{is_lt, eq_by_cmp}
use Rattle.std.specs.declared.cmp.Ordering.{Ordering}
use Rattle.std.specs.declared.cmp.Ordering.TheVariants.{Less}
use Rattle.std.proofs.lemmas.Bool.{cases_Bool, false≢true}
use Rattle.std.proofs.lemmas.List.{take-append-drop}
use Rattle.orc_path.specs.Configurations.{Config, IsConfig, IsWay, put_item}
use Rattle.orc_path.specs.Order.{path_cmp, is_prefix}
use Rattle.orc_path.specs.Steps.{PathStep}
use Rattle.orc_path.specs.declared.item.Item.{Item}
use Rattle.orc_path.specs.declared.item.Item.TheVariants.{Entry}
use Rattle.orc_path.proofs.ConfigurationLaws.{same_config, same_path, path_ties, put_item_cases, get-put_item-here, is_entry-some}
use Rattle.orc_path.proofs.Bools.{first_of_both, second_of_both}
use Rattle.orc_path.proofs.Extensions.{is_prefix-append, path_cmp-extension}
use Rattle.orc_path.proofs.PathOrder.{path_cmp_total}
use Rattle.orc_tree.proofs.InOrder.{is_less, T_is_true}
use Rattle.orc_tree.proofs.Pieces.{find_piece}
use Rattle.orc_json.specs.Readings.{find_all, nothing_read, with_fault}
use Rattle.orc_json.specs.declared.fault.TheConstants.{DUPLICATE}
use Rattle.orc_json.specs.Written.{Rows}
use Rattle.orc_json.specs.declared.reading.Reading.{Reading}
use Rattle.orc_json.proofs.WrittenRead.{stated}

abbrev Path : Type 0
Path = List PathStep

none_below : (q : Path) (es : Rows) → T (below_all path_cmp q es) → find_in path_cmp q es ≡ None
none_below q es h = find_piece path_cmp path_cmp_total q [] [] es refl (T_is_true _ h)

below_more : (q p : Path) (es : Rows) → path_cmp q p ≡ Less → T (below_all path_cmp p es) → T (below_all path_cmp q es)
below_more q p [] less h = tt
below_more q p (e ∷ es) less h =
    let rest = below_more q p es less (second_of_both (is_lt (path_cmp p e.0)) (below_all path_cmp p es) h) in
    let first = path_cmp_total.trans q p e.0 less (is_less (path_cmp p e.0) (first_of_both (is_lt (path_cmp p e.0)) (below_all path_cmp p es) h)) in
    subst (λ (o : Ordering). T (is_lt o && below_all path_cmp q es)) (sym first) rest

way_less : (q p : Path) → IsWay q p → path_cmp q p ≡ Less
way_less q p way =
    let whole : take (length q) p ++ drop (length q) p ≡ p = take-append-drop (length q) p in
    let front : is_prefix q p ≡ true =
    subst (λ (x : Path). is_prefix x p ≡ true) (sym way.begins) (subst (λ (x : Path). is_prefix (take (length q) p) x ≡ true) whole (is_prefix-append (take (length q) p) (drop (length q) p))) in
    path_cmp-extension q p front (λ e. omega (arith, way.shorter, ap length e))

no_some : {X : Type 0} (o : Option X) → is_some o ≡ true → o ≡ None → ⊥
no_some None h e = false≢true h
no_some (Some x) h e = false≢true (sym (ap is_some e) ∙ h)

module _ (c : Config) (config : IsConfig c) where
  -- the rest is what the configuration has more than a part of it
  record Left (m : Config) (rest : Rows) : Type 0 where
    all : (q : Path) → get c q ≡ option_or (find_in path_cmp q rest) (get m q)
    none : (q : Path) → is_some (find_in path_cmp q rest) ≡ true → get m q ≡ None

  module _ (m : Config) (p : Path) (i : Item) (later : Rows) (above : T (below_all path_cmp p later)) (left : Left m ((p, i) ∷ later)) where
    here : find_in path_cmp p ((p, i) ∷ later) ≡ Some i
    here = ap (λ t. cond t (Some i) (find_in path_cmp p later)) (path_ties p p refl)

    fresh : get m p ≡ None
    fresh = left.none p (ap is_some here)

    has : get c p ≡ Some i
    has = left.all p ∙ ap (λ o. option_or o (get m p)) here

    skipped : (q : Path) → eq_by_cmp path_cmp q p ≡ false → find_in path_cmp q ((p, i) ∷ later) ≡ find_in path_cmp q later
    skipped q other = ap (λ t. cond t (Some i) (find_in path_cmp q later)) other

    way_has : (q : Path) → IsWay q p → get c q ≡ Some Entry
    way_has q way = is_entry-some (get c q) (config.ways p q (ap is_some has) way)

    way_none : (q : Path) → IsWay q p → find_in path_cmp q later ≡ None
    way_none q way = none_below q later (below_more q p later (way_less q p way) above)

    turn : Left (put_item m p i) later
    turn = record { all = all; none = none }
      where
        all_tied : (q : Path) → q ≡ p → get c q ≡ option_or (find_in path_cmp q later) (get (put_item m p i) q)
        all_tied q e = subst (λ (x : Path). get c x ≡ option_or (find_in path_cmp x later) (get (put_item m p i) x)) (sym e)
            (has ∙ sym (ap (λ o. option_or o (get (put_item m p i) p)) (none_below p later above) ∙ get-put_item-here m p i))

        all_other : (q : Path) → eq_by_cmp path_cmp q p ≡ false → get c q ≡ option_or (find_in path_cmp q later) (get (put_item m p i) q)
        all_other q other =
            ⊎_elim
            (λ here. all_tied q here.0)
            (λ rest. ⊎_elim
            (λ way. way_has q way.0 ∙ sym (ap (λ o. option_or o (get (put_item m p i) q)) (way_none q way.0) ∙ way.1))
            (λ same. left.all q ∙ ap (λ o. option_or o (get m q)) (skipped q other) ∙ ap (λ o. option_or (find_in path_cmp q later) o) (sym same))
            rest)
            (put_item_cases m p i q)

        all : (q : Path) → get c q ≡ option_or (find_in path_cmp q later) (get (put_item m p i) q)
        all q = ⊎_elim (λ tied. all_tied q (same_path q p tied)) (λ other. all_other q other) (cases_Bool (eq_by_cmp path_cmp q p))

        none_tied : (q : Path) → q ≡ p → is_some (find_in path_cmp q later) ≡ true → get (put_item m p i) q ≡ None
        none_tied q e some = absurd (no_some (find_in path_cmp q later) some (ap (λ (x : Path). find_in path_cmp x later) e ∙ none_below p later above))

        none_other : (q : Path) → eq_by_cmp path_cmp q p ≡ false → is_some (find_in path_cmp q later) ≡ true → get (put_item m p i) q ≡ None
        none_other q other some =
            ⊎_elim
            (λ here. none_tied q here.0 some)
            (λ rest. ⊎_elim
            (λ way. absurd (no_some (find_in path_cmp q later) some (way_none q way.0)))
            (λ same. same ∙ left.none q (ap is_some (skipped q other) ∙ some))
            rest)
            (put_item_cases m p i q)

        none : (q : Path) → is_some (find_in path_cmp q later) ≡ true → get (put_item m p i) q ≡ None
        none q some = ⊎_elim (λ tied. none_tied q (same_path q p tied) some) (λ other. none_other q other some) (cases_Bool (eq_by_cmp path_cmp q p))

  abbrev part : Config → Reading
  part m = record { tree = m; breach = None }

  from : (rest : Rows) (m : Config) → T (is_sorted path_cmp rest) → Left m rest → find_all (stated rest) (part m) ≡ part c
  from [] m h left = ap part (same_config m c (λ q. sym (left.all q)))
  from ((p, i) ∷ later) m h left =
      let above = first_of_both (below_all path_cmp p later) (is_sorted path_cmp later) h in
      let empty_place : is_some (get m p) ≡ false = ap is_some (fresh m p i later above left) in
      ap (λ t. find_all (stated later) (record { tree = put_item m p i; breach = cond t (with_fault p DUPLICATE (part m)).breach None })) empty_place
      ∙ from later (put_item m p i) (second_of_both (below_all path_cmp p later) (is_sorted path_cmp later) h) (turn m p i later above left)

  or_none : (o : Option Item) → o ≡ option_or o None
  or_none None = refl
  or_none (Some x) = refl

  pub rebuilt : find_all (stated (entries c)) nothing_read ≡ part c
  rebuilt = from (entries c) empty (entries_sorted c) (record {
    all = λ q. get-entries c q ∙ or_none (find_in path_cmp q (entries c)) ∙ ap (λ o. option_or (find_in path_cmp q (entries c)) o) (sym (get-empty path_cmp q));
    none = λ q some. get-empty path_cmp q;
  })
