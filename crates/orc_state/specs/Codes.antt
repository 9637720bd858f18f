-- The code of a state with its history, which its model needs.
use Rattle.std.specs.Prelude.{List, refl}
use Rattle.std.specs.Coded.{Coded, code_by, coded×, coded_list}
use Rattle.orc_path.specs.declared.item.Write.{Write}
use Rattle.orc_path.specs.contracts.item.Write as write
use Rattle.orc_call.specs.declared.call.Call.{Call}
use Rattle.orc_call.specs.contracts.call.Call as call
use Rattle.orc_datastore.specs.Codes.{datastore_code}
use Rattle.orc_datastore.specs.States.{Datastore}
use Rattle.orc_state.specs.States.{State}

abbrev pub state_code : Coded State
state_code =
    code_by (Datastore × (List Call × List (List Write)))
    (coded× datastore_code (coded× (coded_list call.the_row.coded) (coded_list (coded_list write.the_row.coded))))
    (λ state. (state.datastore, (state.history, state.writes)))
    (λ parts. record { datastore = parts.0; history = parts.1.0; writes = parts.1.1 }) (λ _. refl)
