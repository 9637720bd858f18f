-- Reading a value from the start of the bytes: what is read, and what stands where no value is.
use Rattle.std.specs.Prelude.{◌≡◌, ℕ, ◌<◌, ◌≤◌, List, [], ◌∷◌, ◌++◌, length, take, Option, Result, Ok, Err}
use Rattle.std.specs.declared.option.Option.TheVariants.{None, Some}
use Rattle.std.specs.List.{flat_map}
use Rattle.std.specs.Borrow.{Bor}
use Rattle.orc_path.specs.Steps.{PathStep}
use Rattle.orc_path.specs.declared.item.Item.{Item}
use Rattle.orc_path.specs.declared.item.Item.TheVariants.{Leaf}
use Rattle.orc_call.specs.declared.call.Put.{Put}
use Rattle.orc_call.specs.declared.call.DevicePut.{DevicePut}
use Rattle.orc_call.specs.declared.call.Action.{Action}
use Rattle.orc_call.specs.declared.fields.Stuck.{Stuck}
use Rattle.orc_call.specs.declared.fields.Stuck.TheVariants.{Bad, Memory}
use Rattle.orc_call.specs.Fields.{Field, a_text, a_kind, a_path, spelled, AreLawful, HasText, IsItem, item_bytes}
use Rattle.orc_call.specs.Encoding.{puts_fields, body_fields, literal_fields, action_kind, content_fields}

-- a kind of value: which ones it has, and the fields of each
pub record Grammar (X : Type 0) : Type 1 where
  pub has : X → Type 0
  pub fields : X → List Field

-- the bytes begin with so many fields of the value, all lawful, and the rest follows
pub record BeginsWith {X : Type 0} (g : Grammar X) (bytes : List ℕ) (x : X) (count : ℕ) (rest : List ℕ) : Type 0 where
  pub has : g.has x
  pub lawful : AreLawful (take count (g.fields x))
  pub parts : bytes ≡ spelled (take count (g.fields x)) ++ rest

-- the bytes begin with all fields of the value
pub record IsWhole {X : Type 0} (g : Grammar X) (bytes : List ℕ) (x : X) (rest : List ℕ) : Type 0 where
  pub has : g.has x
  pub lawful : AreLawful (g.fields x)
  pub parts : bytes ≡ spelled (g.fields x) ++ rest

-- so many bytes are left after the last field that some value has there, and no value has all its fields there
pub record IsStuck {X : Type 0} (g : Grammar X) (bytes : List ℕ) (left : ℕ) : Type 0 where
  pub begins : (x : X) × (count : ℕ) × (rest : List ℕ) × BeginsWith g bytes x count rest × (length rest ≡ left)
  pub no_further : (x : X) (count : ℕ) (rest : List ℕ) → BeginsWith g bytes x count rest
      → (left ≤ length rest) × (count < length (g.fields x))

abbrev pub ReadFails : {X : Type 0} → Grammar X → List ℕ → Stuck → Type 0
ReadFails g bytes (Bad left) = IsStuck g bytes left
ReadFails g bytes Memory = Unit {0}

-- what a function returned was read from the start of the bytes
abbrev pub ReadsFront : {X : Type 0} → Grammar X → List ℕ → Result (X × Bor (List ℕ)) Stuck → Type 0
ReadsFront g bytes (Ok read) = IsWhole g bytes read.0 read.1.now
ReadsFront g bytes (Err stuck) = ReadFails g bytes stuck

-- one field
abbrev pub one : {X : Type 0} → (X → Field) → Grammar X
one field = record { has = λ _. Unit {0}; fields = λ x. field x ∷ [] }

-- any value, of these fields
abbrev pub any : {X : Type 0} → (X → List Field) → Grammar X
any fields = record { has = λ _. Unit {0}; fields = fields }

-- so many puts, after a path where there is one
abbrev pub puts : Option (List PathStep) → ℕ → Grammar (List Put)
puts before count = record { has = λ xs. length xs ≡ count; fields = puts_fields before }

-- so many values of these fields
abbrev pub many : {X : Type 0} → (X → List Field) → ℕ → Grammar (List X)
many fields count = record { has = λ xs. length xs ≡ count; fields = flat_map fields }

-- the path of the last put
abbrev pub last_path : Option (List PathStep) → List Put → Option (List PathStep)
last_path before [] = before
last_path before (put ∷ puts) = last_path (Some put.path) puts

-- a service and its puts
abbrev pub body : Grammar (List ℕ × List Put)
body = any (λ read. body_fields read.0 read.1)

-- a name and its writes
abbrev pub literal : Grammar (List ℕ × List DevicePut)
literal = any (λ read. literal_fields read.0 read.1)

-- a device and a path of it
abbrev pub device_path : Grammar (List ℕ × List PathStep)
device_path = any (λ read. a_text read.0 ∷ a_path None read.1 ∷ [])

-- the byte of an action's kind
abbrev pub kind : Grammar ℕ
kind = record { has = λ byte. (1 ≤ byte) × (byte ≤ 9); fields = λ byte. a_kind byte ∷ [] }

-- the actions of a kind, after its byte
abbrev pub content : ℕ → Grammar Action
content byte = record { has = λ action. action_kind action ≡ byte; fields = content_fields }

-- the bytes begin with no text
abbrev pub HasNoText : List ℕ → Type 0
HasNoText bytes = (text rest : List ℕ) → HasText bytes text rest → ⊥

-- the bytes begin with this item, and the rest follows
pub record HasItem (bytes : List ℕ) (item : Item) (rest : List ℕ) : Type 0 where
  pub is_item : IsItem item
  pub parts : bytes ≡ item_bytes item ++ rest

-- the bytes begin with a leaf
abbrev pub HasSomeLeaf : List ℕ → Type 0
HasSomeLeaf bytes = (text rest : List ℕ) × HasItem bytes (Leaf text) rest

-- the bytes begin with no item
abbrev pub HasNoItem : List ℕ → Type 0
HasNoItem bytes = (item : Item) (rest : List ℕ) → HasItem bytes item rest → ⊥
