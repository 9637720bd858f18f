use Rattle.std.proofs.Common.{refl}
use Rattle.orc_change.proofs.Exact.{applied-difference}
use Rattle.orc_tree.proofs.Equated.{configs_decided}
use Rattle.orc_node.proofs.laws.kinds_are_right.Goals as goal

pub returns : goal.returns
returns c = λ accept. record {
  same = λ config other. (configs_decided config other).0;
  equal = λ config. (configs_decided config config).1 refl;
  changed = applied-difference;
}
