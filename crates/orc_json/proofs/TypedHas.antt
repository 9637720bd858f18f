-- A typed configuration has members.
use Rattle.std.proofs.Common.{◌≡◌, true, false, [], sym, ap, subst, ◌∙◌, arith}
use Rattle.std.specs.Prelude.{is_some}
use Rattle.std.specs.FinMap.{entries, entries_sorted, get-entries}
use Rattle.std.proofs.lemmas.Bool.{false≢true}
use Rattle.orc_path.specs.Configurations.{Config, IsWay, is_entry}
use Rattle.orc_schema_nodes.specs.Schemas.{SchemaTable}
use Rattle.orc_schema_nodes.specs.Sound.{IsSound}
use Rattle.orc_json.specs.TypedJson.{IsTypedConfig}
use Rattle.orc_json.specs.Written.{Rows, HasJson, AreMembers}
use Rattle.orc_json.proofs.TypedRows.{Path, look, below_path-root, weight}
use Rattle.orc_json.proofs.TypedPlaces.{typed-lies}
use Rattle.orc_json.proofs.TypedWalk.{Level, Built, walked}

pub has_json : (s : SchemaTable) (config : Config) → IsSound s → s.plain ≡ false → IsTypedConfig s config → HasJson s config
has_json s config sound modules is =
    (built.ms, subst (λ (r : Rows). AreMembers s [] [] r built.ms) (below_path-root (entries config)) built.are)
  where
    ways : (p w : Path) → is_some (look (entries config) p) ≡ true → IsWay w p → is_entry (look (entries config) w) ≡ true
    ways p w h way = ap is_entry (sym (get-entries config w)) ∙ is.whole.ways p w (ap is_some (get-entries config p) ∙ h) way

    level : Level s [] [] (entries config)
    level = record {
      sorted = entries_sorted config;
      lies = λ p it h. typed-lies s p it modules (is.typed p it (get-entries config p ∙ h));
      ways = ways;
      own = λ key h. absurd (false≢true h);
    }

    built : Built s [] [] (entries config)
    built = walked s sound (weight (entries config)) [] [] (entries config) level (omega arith)
