-- A living service, and the configurations that stand for what it writes.
use Rattle.std.specs.Prelude.{ℕ, zero, suc, ◌+◌, ◌==◌, List, [], ◌∷◌, refl, if◌then◌else◌}
use Rattle.std.specs.Coded.{Coded, code_by, coded×, coded_ℕ, coded_list}
use Rattle.std.specs.FinMap.{empty}
use Rattle.orc_path.specs.Codes.{config_code}
use Rattle.orc_path.specs.Configurations.{Config}

-- A living service: its name, and the items that it writes on each declared device, in the order of declaration.
pub record LivingService : Type 0 where
  pub id : List ℕ
  pub parts : List Config

abbrev pub living_service_code : Coded LivingService
living_service_code =
    code_by (List ℕ × List Config) (coded× (coded_list coded_ℕ) (coded_list config_code))
    (λ service. (service.id, service.parts)) (λ pair. record { id = pair.0; parts = pair.1 }) (λ _. refl)

-- the first configuration that has this number, and one without items where none has it
abbrev pub written_on : List (ℕ × Config) → ℕ → Config
written_on [] device = empty
written_on (one ∷ written) device = if one.0 == device then one.1 else written_on written device

-- those of so many devices, which are counted from a number on
abbrev pub spread : List (ℕ × Config) → ℕ → ℕ → List Config
spread written from zero = []
spread written from (suc count) = written_on written from ∷ spread written (from + 1) count
