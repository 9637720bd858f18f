-- What the program keeps between the calls of a bundle.
use Rattle.orc_decls.specs.declared.declarations.Decls.{Decls}
use Rattle.orc_state.specs.States.{IsSnapshotAt, IsStateUnder}
use Rattle.orc_tables.specs.declared.plans.planning.Bench.{Bench}

-- the state is one of these declarations, and each snapshot one at a front of its history
pub record IsBench (decls : Decls) (bench : Bench) : Type 0 where
  pub state : IsStateUnder decls bench.state
  pub first : IsSnapshotAt decls bench.state.history bench.first
  pub older : IsSnapshotAt decls bench.state.history bench.older
  pub newer : IsSnapshotAt decls bench.state.history bench.newer
