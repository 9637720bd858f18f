use Rattle.std.proofs.Common.{◌≡◌, length, sym, subst, ap, arith}
use Rattle.orc_tables.specs.Holdings.{Writes}
use Rattle.orc_tables.proofs.stores.items.bring_first.Goals as goal

pub bring-requires : goal.bring-requires
bring-requires g c = record {
  holds = subst (Writes c.args.refs.now c.args.service.now) (sym c.new.ensures) c.requires.nothing;
  whole = c.requires.whole;
}

pub returns-clause-steps : goal.returns-clause-steps
returns-clause-steps g c =
    let none : length c.new.result ≡ 0 = ap length c.new.ensures in
    omega (arith, c.bring.ensures.steps, none)
