use Rattle.std.proofs.Common.{◌≡◌, ◌∷◌, List, ap, sym, ◌∙◌}
use Rattle.orc_path.specs.Steps.{PathStep}
use Rattle.orc_path.specs.declared.item.Item.{Item}
use Rattle.orc_path.specs.Configurations.{Config, insert_all}
use Rattle.orc_tree.specs.Pages.{chapters_rows}
use Rattle.orc_tree.proofs.Maps.{Rows, map_of}
use Rattle.orc_tree.proofs.Edited.{insert_all-put, sorted_after}
use Rattle.orc_tree.proofs.overlay.lay_chapters.Goals as goal

pub loop-row-preserved : goal.loop-row-preserved
loop-row-preserved c =
    let rest = c.next.new.self in
    let row = c.in-Some.row.now in
    let q = c.in_ok-copy.field-0 in
    let v = c.in_ok-copy-2.field-0 in
    let old = chapters_rows c.loop-row.chapters.items in
    let new = chapters_rows c.put_in_chapters.new.chapters.items in
    let copied : (q, v) ≡ row = λ k. (c.in_ok-copy.ensures k, c.in_ok-copy-2.ensures k) in
    record {
      next = tt;
      ends = tt;
      set = ap (λ (m : Config). insert_all rest m) (insert_all-put q v c.new.result.items old new c.loop-row.invariant.sorted c.new.ensures.items c.in_ok-put_in_chapters.ensures.ok)
          ∙ ap (λ (x : List PathStep × Item). insert_all (x ∷ rest) (map_of old)) copied
          ∙ ap (λ (r : Rows). insert_all r (map_of old)) (sym c.in-Some.ensures.steps)
          ∙ c.loop-row.invariant.set;
      sorted = sorted_after q v c.new.result.items old new c.loop-row.invariant.sorted c.in_ok-put_in_chapters.ensures.ok;
      laid = c.put_in_chapters.ensures.laid;
    }
