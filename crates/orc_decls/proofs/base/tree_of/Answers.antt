use Rattle.std.proofs.Common.{rules, ◌≡◌, ◌∙◌, List, subst, sym, ap, IsTrue}
use Rattle.std.specs.FinMap.{empty}
use Rattle.std.specs.Vec.Iter.{into_iter_items}
use Rattle.orc_call.specs.declared.call.Put.{Put}
use Rattle.orc_decls.specs.Openings.{fits_puts}
use Rattle.orc_decls.specs.Openings.{put_all}
use Rattle.orc_decls.proofs.PutOrder.{put_all-kept}
use Rattle.orc_decls.proofs.base.tree_of.Goals as goal

pub loop-put-init : goal.loop-put-init
loop-put-init c =
    let sorted = c.in_ok-put-items.put-items.items in
    let items : into_iter_items c.into_iter-put-iterator.result ≡ sorted = search rules in
    let kept = put_all-kept c.args.puts.now sorted empty c.requires c.in_ok-put-items.ensures in
    record {
      fit = subst (λ (puts : List Put). IsTrue (fits_puts puts)) (sym items) kept.0;
      left = ap (put_all (into_iter_items c.into_iter-put-iterator.result)) c.new-tree.ensures ∙ ap (λ (puts : List Put). put_all puts empty) items ∙ kept.1;
    }
