use Rattle.std.proofs.Common.{◌≡◌, IsTrue}
use Rattle.std.specs.FinMap.{empty}
use Rattle.std.specs.Vec.Iter.{into_iter_items}
use Rattle.orc_decls.specs.Openings.{fits_puts}
use Rattle.orc_decls.specs.Openings.{put_all}
use Rattle.orc_decls.proofs.base.tree_of.Given as goal

-- to put the items that are left gives the whole
abbrev pub invariant-loop-put : goal.invariant-loop-put
invariant-loop-put l = record {
  fit : IsTrue (fits_puts (into_iter_items l.put-iterator));
  left : put_all (into_iter_items l.put-iterator) l.tree ≡ put_all l.puts empty;
}
