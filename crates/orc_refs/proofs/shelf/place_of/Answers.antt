use Rattle.std.proofs.Common.{◌≡◌, ◌+◌, ◌<◌, ◌-◌, ◌/◌, List, ℕ, Less, Equal, Greater, length, ap, sym, ◌∙◌, arith}
use Rattle.std.proofs.lemmas.List.{get_or_read}
use Rattle.orc_path.specs.Steps.{PathStep}
use Rattle.orc_path.specs.Order.{path_cmp}
use Rattle.orc_path.proofs.PathOrder.{path_cmp_total, path_cmp_exact}
use Rattle.orc_tree.proofs.InOrder.{is_true_T, before_more, behind_more}
use Rattle.orc_refs.specs.declared.shelf.Back.{Back}
use Rattle.orc_refs.specs.inside.Shelves.{back_row, back_rows}
use Rattle.orc_refs.proofs.ShelfLaws.{as_many, kept-at}
use Rattle.orc_refs.proofs.shelf.place_of.Goals as goal

pub loop-low-preserved-in-Less : goal.loop-low-preserved-in-Less
loop-low-preserved-in-Less c =
    let rows = c.args.rows.now in
    let q = c.args.path.now in
    let middle = c.loop-low.low + (c.loop-low.high - c.loop-low.low) / 2 in
    let row = c.index-rows-middle.result in
    let within : middle < length rows = omega arith in
    let less : path_cmp q (back_row row).0 ≡ Less = ap (λ (b : Back). path_cmp q b.path) (sym c.deref.ensures) ∙ ap (λ (steps : List PathStep). path_cmp steps c.deref.result.now.path) (sym (c.as_slice.ensures ∙ c.path.view_is)) ∙ sym c.in-Less.ensures in
    record {
      order = omega arith;
      within = omega arith;
      before = c.loop-low.invariant.before;
      behind = behind_more path_cmp path_cmp_total (back_rows rows) q middle (back_row row) (is_true_T _ c.requires) (omega (arith, as_many rows)) (kept-at rows middle row within c.index-rows-middle.is) less;
    }

pub returns-in-Equal-clause-found : goal.returns-in-Equal-clause-found
returns-in-Equal-clause-found c =
    let rows = c.args.rows.now in
    let q = c.args.path.now in
    let middle = c.loop-low.low + (c.loop-low.high - c.loop-low.low) / 2 in
    let row = c.index-rows-middle.result in
    let within : middle < length rows = omega arith in
    let equal : path_cmp q (back_row row).0 ≡ Equal = ap (λ (b : Back). path_cmp q b.path) (sym c.deref.ensures) ∙ ap (λ (steps : List PathStep). path_cmp steps c.deref.result.now.path) (sym (c.as_slice.ensures ∙ c.path.view_is)) ∙ sym c.in-Equal.ensures in
    record {
      within = omega (arith, as_many rows);
      here = λ d. ap (λ (e : List PathStep × List (List ℕ)). e.0) (sym (get_or_read (back_rows rows) middle (back_row row) (omega (arith, as_many rows)) (kept-at rows middle row within c.index-rows-middle.is) d))
          ∙ sym (path_cmp_exact q (back_row row).0 equal);
    }

pub loop-low-preserved : goal.loop-low-preserved
loop-low-preserved c =
    let rows = c.args.rows.now in
    let q = c.args.path.now in
    let middle = c.loop-low.low + (c.loop-low.high - c.loop-low.low) / 2 in
    let row = c.index-rows-middle.result in
    let within : middle < length rows = omega arith in
    let greater : path_cmp q (back_row row).0 ≡ Greater = ap (λ (b : Back). path_cmp q b.path) (sym c.deref.ensures) ∙ ap (λ (steps : List PathStep). path_cmp steps c.deref.result.now.path) (sym (c.as_slice.ensures ∙ c.path.view_is)) ∙ sym c.in-Greater.ensures in
    record {
      order = omega arith;
      within = omega arith;
      before = before_more path_cmp path_cmp_total (back_rows rows) q middle (back_row row) (is_true_T _ c.requires) (omega (arith, as_many rows)) (kept-at rows middle row within c.index-rows-middle.is) greater;
      behind = c.loop-low.invariant.behind;
    }
