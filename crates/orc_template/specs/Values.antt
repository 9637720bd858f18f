-- What the strings and values of a template give at a context.
use Rattle.std.specs.Prelude.{◌≡◌, ℕ, not, ◌&&◌, List, [], ◌∷◌, ◌++◌, Option, Result, if◌then◌else◌}
use Rattle.std.specs.declared.option.Option.TheVariants.{None, Some}
use Rattle.std.specs.declared.result.Result.TheVariants.{Ok, Err}
use Rattle.serde_json.specs.Data.{Data, null, boolean, number, string, array, object}
use Rattle.serde_json.specs.Find.{get}
use Rattle.orc_path.specs.Alphabet.{is_key}
use Rattle.orc_path.specs.Limits.{is_long_value}
use Rattle.orc_path.specs.Steps.{PathStep}
use Rattle.orc_path.specs.Views.{Viewed}
use Rattle.orc_value.specs.Canon.{canon_of}
use Rattle.orc_value.specs.Json.{canon_of_json}
use Rattle.orc_value.specs.declared.kind.Kind.{Kind}
use Rattle.orc_expr.specs.Expressions.{Expression}
use Rattle.orc_expr.specs.Looks.{texts_of}
use Rattle.orc_expr.specs.declared.read.Read.{Read}
use Rattle.orc_schema_nodes.specs.Schemas.{SchemaTable}
use Rattle.orc_json.specs.Findings.{key_kind}
use Rattle.orc_template.specs.Readers.{Readers}
use Rattle.orc_template.specs.Strings.{cut_parts}
use Rattle.orc_template.specs.declared.strings.Part.{Part}
use Rattle.orc_template.specs.declared.strings.Part.TheVariants.{Written, Braced}
use Rattle.orc_template.specs.declared.fault.TheConstants.{NO_VALUE, MANY_VALUES, BAD_LEAF}
use Rattle.orc_template.specs.declared.fault.Halt.{Halt}
use Rattle.orc_template.specs.declared.fault.Halt.TheVariants.{Rule, Memory}

-- where expressions are looked at: what is seen there, and the context
pub record Scene : Type 0 where
  pub readers : Readers
  pub view : Viewed
  pub here : List PathStep

-- What was done: what it gave, or the rule that is broken; and all that was read so far, in order.
pub record Done (X : Type 0) : Type 0 where
  pub value : Result X ℕ
  pub reads : List Read

abbrev pub done : {X : Type 0} → Result X ℕ → List Read → Done X
done value reads = record { value = value; reads = reads }

-- one thing after another: where the first broke a rule, nothing is done after it
abbrev pub then_by : {X Y : Type 0} → Result X ℕ → List Read → (X → List Read → Done Y) → Done Y
then_by (Ok value) reads more = more value reads
then_by (Err rule) reads more = done (Err rule) reads

abbrev pub then_done : {X Y : Type 0} → Done X → (X → List Read → Done Y) → Done Y
then_done first more = then_by first.value first.reads more

-- Strings -------------------------------------------------------------------------------------------------------------

-- the one text that was found
abbrev pub one_found : Option (List (List ℕ)) → Result (List ℕ) ℕ
one_found None = Err MANY_VALUES
one_found (Some []) = Err NO_VALUE
one_found (Some (text ∷ [])) = Ok text
one_found (Some (text ∷ other ∷ more)) = Err MANY_VALUES

-- of what a look found and read
abbrev pub one_text : Option (List (List ℕ)) → List Read → List Read → Done (List ℕ)
one_text found read reads = done (one_found found) (reads ++ read)

-- the one text of an expression; a text that is no expression's has none
abbrev pub expression_done : Scene → Option Expression → List Read → Done (List ℕ)
expression_done scene None reads = done (Err NO_VALUE) reads
expression_done scene (Some expression) reads =
    one_text (texts_of expression scene.here scene.view).found (texts_of expression scene.here scene.view).reads reads

abbrev pub part_done : Scene → Part → List Read → Done (List ℕ)
part_done scene (Written text) reads = done (Ok text) reads
part_done scene (Braced text) reads = expression_done scene (scene.readers.expression text) reads

-- the texts of parts, one after another, appended to a text
abbrev pub parts_done : Scene → List ℕ → List Part → List Read → Done (List ℕ)
parts_done scene front [] reads = done (Ok front) reads
parts_done scene front (part ∷ later) reads =
    then_done (part_done scene part reads) (λ text. parts_done scene (front ++ text) later)

-- the text of a string; what isn't one has none
abbrev pub string_by : Scene → Option (List Part) → List Read → Done (List ℕ)
string_by scene None reads = done (Err NO_VALUE) reads
string_by scene (Some parts) reads = parts_done scene [] parts reads

abbrev pub string_done : Scene → List ℕ → List Read → Done (List ℕ)
string_done scene text reads = string_by scene (cut_parts text) reads

-- Values --------------------------------------------------------------------------------------------------------------

-- a canonical text that may be a key and is within the limit of a value, and else a bad leaf
abbrev pub fitted : Result (List ℕ) ℕ → Result (List ℕ) ℕ
fitted (Ok text) = if is_key text && not (is_long_value text) then Ok text else Err BAD_LEAF
fitted (Err rule) = Err BAD_LEAF

-- that of the text of a string, which is itself within the limit
abbrev pub lexical : Kind → List ℕ → Result (List ℕ) ℕ
lexical kind text = if is_long_value text then Err BAD_LEAF else fitted (canon_of kind text)

-- The canonical text of a JSON value of a kind. The text of a string is read by the lexical form of the kind, and all
-- else as in the JSON of a configuration: RFC 7951 section 6.
abbrev pub value_done : Scene → Kind → Data → List Read → Done (List ℕ)
value_done scene kind null reads = done (fitted (canon_of_json kind null)) reads
value_done scene kind (boolean truth) reads = done (fitted (canon_of_json kind (boolean truth))) reads
value_done scene kind (number amount) reads = done (fitted (canon_of_json kind (number amount))) reads
value_done scene kind (string written) reads =
    then_done (string_done scene written reads) (λ text. done (lexical kind text))
value_done scene kind (array items) reads = done (fitted (canon_of_json kind (array items))) reads
value_done scene kind (object pairs) reads = done (fitted (canon_of_json kind (object pairs))) reads

-- the text of a key of an entry: a bad leaf where the entry lacks it
abbrev pub key_value : Scene → Option Kind → Option Data → List Read → Done (List ℕ)
key_value scene None value reads = done (Err BAD_LEAF) reads
key_value scene (Some kind) None reads = done (Err BAD_LEAF) reads
key_value scene (Some kind) (Some value) reads = value_done scene kind value reads

abbrev pub key_done : Scene → SchemaTable → List (List ℕ) → Data → List ℕ → List Read → Done (List ℕ)
key_done scene schema names entry key reads = key_value scene (key_kind schema names key) (get key entry) reads

-- the texts of the keys of an entry, in their order, after some others
abbrev pub more_keys : Scene → SchemaTable → List (List ℕ) → Data → List (List ℕ) → List (List ℕ) → List Read
    → Done (List (List ℕ))
more_keys scene schema names entry front [] reads = done (Ok front) reads
more_keys scene schema names entry front (key ∷ later) reads = then_done (key_done scene schema names entry key reads)
    (λ text. more_keys scene schema names entry (front ++ text ∷ []) later)

-- all of them, of which there is one at least
abbrev pub keys_done : Scene → SchemaTable → List (List ℕ) → Data → List (List ℕ) → List Read
    → Done (List (List ℕ))
keys_done scene schema names entry [] reads = done (Err BAD_LEAF) reads
keys_done scene schema names entry (key ∷ later) reads = more_keys scene schema names entry [] (key ∷ later) reads

-- Answers -------------------------------------------------------------------------------------------------------------

-- The answer is what was given, and the reads are those so far; nothing is said where memory runs out.
abbrev pub Does : {X : Type 0} → Done X → List Read → Result X Halt → Type 0
Does due new (Ok value) = due ≡ done (Ok value) new
Does due new (Err (Rule rule)) = due ≡ done (Err rule) new
Does due new (Err Memory) = Unit {0}

-- The answer is what was given, where nothing is read; nothing is said where memory runs out.
abbrev pub GivesValue : {X : Type 0} → Result X ℕ → Result X Halt → Type 0
GivesValue due (Ok value) = due ≡ Ok value
GivesValue due (Err (Rule rule)) = due ≡ Err rule
GivesValue due (Err Memory) = Unit {0}
