-- The readers that go byte by byte.
use Rattle.std.specs.Prelude.{ℕ, Bool, true, false, List, Option}
use Rattle.std.specs.Option.{option_map, option_and_then}
use Rattle.orc_expr.specs.Expressions.{Condition}
use Rattle.orc_expr.specs.inside.Reading.{feed_all, start, whole}
use Rattle.orc_path.specs.Steps.{PathStep}
use Rattle.orc_path.specs.Views.{Viewed}
use Rattle.orc_template.specs.Readers.{Readers}
use Rattle.orc_template.specs.Values.{Scene}
use Rattle.orc_expr.specs.Resolved.{Shapes}
use Rattle.orc_template.specs.Templates.{Site}
use Rattle.orc_template.specs.Expansions.{Ground}
use Rattle.orc_template.specs.Devices.{DeviceTable}

abbrev pub read_text : Bool → List ℕ → Option Condition
read_text conditional text = option_and_then whole (feed_all (start conditional) text)

-- the readers of texts; nothing but `again` and `only` is known of them elsewhere
unfoldable pub the_readers : Readers
the_readers = record {
  expression = λ text. option_map (λ condition. condition.look) (read_text false text);
  condition = read_text true;
}

-- a scene with them
abbrev pub scene : Viewed → List PathStep → Scene
scene view here = record { readers = the_readers; view = view; here = here }

-- a node of a schema with them
abbrev pub site : Shapes → List PathStep → Site
site shapes node = record { readers = the_readers; shapes = shapes; node = node }

-- what an expansion stands on, with them
abbrev pub ground : Viewed → DeviceTable → Ground
ground view devices = record { readers = the_readers; view = view; devices = devices }
