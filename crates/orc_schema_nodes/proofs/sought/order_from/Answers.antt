use Rattle.std.proofs.Common.{refl, ◌∙◌, ap}
use Rattle.std.specs.declared.cmp.Ordering.TheVariants.{Less, Greater}
use Rattle.orc_schema_nodes.proofs.Alike.{name_cmp, shares_more, order_next, order_longer, order_shorter, order_same}
use Rattle.orc_schema_nodes.proofs.sought.order_from.Goals as goal

pub loop-place-init : goal.loop-place-init
loop-place-init g c = c.requires

pub loop-place-preserved : goal.loop-place-preserved
loop-place-preserved g c =
    shares_more c.loop-place.place c.args.names.now (g.T.Sought.names c.args.sought.now) c.index-names-place.result c.in-Some.name.now
    c.loop-place.invariant c.loop-place-test.true c.index-names-place.is c.in-Some.ensures
    (c.in-Equal.ensures ∙ ap (λ x. name_cmp x c.in-Some.name.now) c.as_str.ensures)

pub returns-in-Less-clause-order : goal.returns-in-Less-clause-order
returns-in-Less-clause-order g c =
    order_next c.loop-place.place c.args.names.now (g.T.Sought.names c.args.sought.now) c.index-names-place.result c.in-Some.name.now Less
    c.loop-place.invariant c.loop-place-test.true c.index-names-place.is c.in-Some.ensures
    (c.in-Less.ensures ∙ ap (λ x. name_cmp x c.in-Some.name.now) c.as_str.ensures) (λ rest. refl)

pub returns-in-Less-clause-shared : goal.returns-in-Less-clause-shared
returns-in-Less-clause-shared g c = c.loop-place.invariant

pub returns-in-Greater-clause-order : goal.returns-in-Greater-clause-order
returns-in-Greater-clause-order g c =
    order_next c.loop-place.place c.args.names.now (g.T.Sought.names c.args.sought.now) c.index-names-place.result c.in-Some.name.now Greater
    c.loop-place.invariant c.loop-place-test.true c.index-names-place.is c.in-Some.ensures
    (c.in-Greater.ensures ∙ ap (λ x. name_cmp x c.in-Some.name.now) c.as_str.ensures) (λ rest. refl)

pub returns-in-Greater-clause-shared : goal.returns-in-Greater-clause-shared
returns-in-Greater-clause-shared g c = c.loop-place.invariant

pub returns-in-None-clause-order : goal.returns-in-None-clause-order
returns-in-None-clause-order g c =
    order_longer c.loop-place.place c.args.names.now (g.T.Sought.names c.args.sought.now) c.loop-place.invariant c.loop-place-test.true c.in-None.ensures

pub returns-in-None-clause-shared : goal.returns-in-None-clause-shared
returns-in-None-clause-shared g c = c.loop-place.invariant

pub returns-in-Some-name_at-clause-order : goal.returns-in-Some-name_at-clause-order
returns-in-Some-name_at-clause-order g c =
    order_shorter c.loop-place.place c.args.names.now (g.T.Sought.names c.args.sought.now) c.in-Some-name_at.field-0.now
    c.loop-place.invariant c.loop-place-test.false c.in-Some-name_at.ensures

pub returns-in-Some-name_at-clause-shared : goal.returns-in-Some-name_at-clause-shared
returns-in-Some-name_at-clause-shared g c = c.loop-place.invariant

pub returns-in-None-name_at-clause-order : goal.returns-in-None-name_at-clause-order
returns-in-None-name_at-clause-order g c =
    order_same c.loop-place.place c.args.names.now (g.T.Sought.names c.args.sought.now) c.loop-place.invariant c.loop-place-test.false c.in-None-name_at.ensures

pub returns-in-None-name_at-clause-shared : goal.returns-in-None-name_at-clause-shared
returns-in-None-name_at-clause-shared g c = c.loop-place.invariant
