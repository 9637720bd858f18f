-- The codes of a service, of a datastore and of a snapshot, which a model that is made of them needs.
use Rattle.std.specs.Prelude.{ℕ, List, refl}
use Rattle.std.specs.Coded.{Coded, code_by, coded×, coded_ℕ, coded_list}
use Rattle.orc_path.specs.Codes.{config_code}
use Rattle.orc_path.specs.Configurations.{Config}
use Rattle.orc_datastore.specs.Services.{living_service_code}
use Rattle.orc_datastore.specs.Snapshots.{Snapshot}
use Rattle.orc_datastore.specs.States.{Datastore}
use Rattle.orc_datastore.specs.declared.service.Service.{Service}

abbrev pub service_code : Coded Service
service_code = living_service_code

abbrev pub datastore_code : Coded Datastore
datastore_code =
    code_by (Config × (List Config × List Service))
    (coded× config_code (coded× (coded_list config_code) (coded_list service_code)))
    (λ state. (state.data, (state.bases, state.live)))
    (λ parts. record { «data» = parts.0; bases = parts.1.0; live = parts.1.1 }) (λ _. refl)

abbrev pub snapshot_code : Coded Snapshot
snapshot_code =
    code_by (ℕ × (Config × Config)) (coded× coded_ℕ (coded× config_code config_code))
    (λ snapshot. (snapshot.front, (snapshot.data, snapshot.known)))
    (λ parts. record { front = parts.0; «data» = parts.1.0; known = parts.1.1 }) (λ _. refl)
