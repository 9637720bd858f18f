use Rattle.orc_refs.proofs.OneStore.{one_store}
use Rattle.orc_refs.proofs.laws.moves_lead_to_one_store.Goals as goal

pub returns : goal.returns
returns c = one_store
