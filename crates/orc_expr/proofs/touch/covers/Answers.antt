use Rattle.std.proofs.Common.{◌↔◌, IsTrue, sym, subst}
use Rattle.orc_expr.specs.Touches.{Covers}
use Rattle.orc_expr.specs.declared.read.Read.{Read}
use Rattle.orc_expr.proofs.Covering.{covers_item, covers_keys}
use Rattle.orc_expr.proofs.touch.covers.Goals as goal

pub returns-in-Item : goal.returns-in-Item
returns-in-Item c =
    subst (λ (x : Read). IsTrue c.is_inside.result ↔ Covers c.args.target.now x) (sym c.in-Item.is)
    (covers_item c.args.target.now c.in-Item.path c.is_inside.result c.is_inside.ensures)

pub returns-in-Keys : goal.returns-in-Keys
returns-in-Keys c =
    subst (λ (x : Read). IsTrue c.has_entry_inside.result ↔ Covers c.args.target.now x) (sym c.in-Keys.is)
    (covers_keys c.args.target.now c.in-Keys.list c.has_entry_inside.result c.has_entry_inside.ensures)
