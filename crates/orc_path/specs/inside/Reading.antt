-- Reading a path or a name byte by byte.
use Rattle.std.specs.Prelude.{◌≡◌, ℕ, Bool, true, false, ◌==◌, ◌&&◌, ◌||◌, not, nat_le, ◌-◌, List, [], ◌∷◌, ◌++◌, length, encode_utf8, Option, Result, IsTrue, IfOk, MatchBool, if◌then◌else◌}
use Rattle.std.specs.declared.option.Option.TheVariants.{None, Some}
use Rattle.std.specs.Option.{option_map, option_map_or, option_and_then}
use Rattle.std.specs.List.{list_all}
use Rattle.orc_text.specs.Characters.{is_plain_character}
use Rattle.orc_path.specs.Alphabet.{is_name_start, is_name_byte, is_identifier, is_qualified, is_key}
use Rattle.orc_path.specs.Steps.{PathStep, is_path, is_name_behind}
use Rattle.orc_path.specs.declared.mode.Mode.{Mode}
use Rattle.orc_path.specs.declared.mode.Mode.TheVariants.{Start, Slash, Module, Colon, Inside, Next, Key, Escape, Closed}
use Rattle.orc_path.specs.declared.reader.Reader.{Reader}

-- the byte that this one means after a backslash
abbrev pub unescape : ℕ → Option ℕ
unescape b =
    if b == 92 then Some 92 else
    if b == 93 then Some 93 else
    if b == 115 then Some 32 else
    if b == 116 then Some 9 else
    if b == 110 then Some 10 else
    if b == 114 then Some 13 else None

-- tab, line feed, carriage return and the bytes from the space on: what the UTF-8 of a key is made of
abbrev pub is_key_byte : ℕ → Bool
is_key_byte b = (b == 9) || (b == 10) || (b == 13) || nat_le 32 b

-- a byte of a key that stands for itself
abbrev pub is_raw : ℕ → Bool
is_raw b =
    is_key_byte b && not (b == 92) && not (b == 93) && not (b == 32) && not (b == 9) && not (b == 10) && not (b == 13)

-- the mode after a byte of a name
abbrev pub name_mode : Mode → ℕ → Option Mode
name_mode Slash b = if is_name_start b then Some Module else None
name_mode Module b = if b == 58 then Some Colon else if is_name_byte b then Some Module else None
name_mode Colon b = if is_name_start b then Some Inside else None
name_mode Inside b = if is_name_byte b then Some Inside else None
name_mode Next b = if is_name_start b then Some Inside else None
name_mode Start b = None
name_mode Key b = None
name_mode Escape b = None
name_mode Closed b = None

-- a name may end here
abbrev pub is_name_end : Mode → Bool
is_name_end Module = true
is_name_end Inside = true
is_name_end Start = false
is_name_end Slash = false
is_name_end Colon = false
is_name_end Next = false
is_name_end Key = false
is_name_end Escape = false
is_name_end Closed = false

-- the step that is being read
abbrev pub present_step : Reader → PathStep
present_step r = record { node = r.node; keys = r.keys }

-- a slash
abbrev pub feed_start : Reader → ℕ → Option Reader
feed_start r b = if b == 47 then Some (record r { mode = Slash }) else None

-- after a name or a key: a further key, or a further step
abbrev pub feed_end : Reader → ℕ → Option Reader
feed_end r b =
    if b == 91 then Some (record r { mode = Key; key = [] }) else
    if b == 47 then Some (record r { mode = Next; done = r.done ++ present_step r ∷ []; node = []; keys = [] })
    else None

-- in a key
abbrev pub feed_key : Reader → ℕ → Option Reader
feed_key r b =
    if b == 93 then Some (record r { mode = Closed; keys = r.keys ++ r.key ∷ []; key = [] }) else
    if b == 92 then Some (record r { mode = Escape }) else
    if is_raw b then Some (record r { key = r.key ++ b ∷ [] }) else None

-- after a backslash
abbrev pub feed_escape : Reader → ℕ → Option Reader
feed_escape r b = option_map (λ c. record r { mode = Key; key = r.key ++ c ∷ [] }) (unescape b)

-- a byte that is none of a name
abbrev pub feed_mark : Mode → Reader → ℕ → Option Reader
feed_mark Start r b = feed_start r b
feed_mark Inside r b = feed_end r b
feed_mark Closed r b = feed_end r b
feed_mark Key r b = feed_key r b
feed_mark Escape r b = feed_escape r b
feed_mark Slash r b = None
feed_mark Module r b = None
feed_mark Colon r b = None
feed_mark Next r b = None

-- the reader after a byte, where that byte may come
abbrev pub feed_at : Mode → Reader → ℕ → Option Reader
feed_at mode r b =
    option_map_or (λ next. Some (record r { mode = next; node = r.node ++ b ∷ [] }))
    (name_mode mode b) (feed_mark mode r b)

abbrev pub feed : Reader → ℕ → Option Reader
feed r b = feed_at r.mode r b

-- the reader after bytes, where each of them may come
abbrev pub feed_all : Reader → List ℕ → Option Reader
feed_all r [] = Some r
feed_all r (b ∷ bs) = option_and_then (λ next. feed_all next bs) (feed r b)

-- the reader after a character, where it is plain and its bytes may come
abbrev pub feed_character : Reader → ℕ → Option Reader
feed_character r c = if is_plain_character c then feed_all r (encode_utf8 c) else None

-- the mode after a byte that is not part of a name
abbrev pub end_mode : ℕ → Option Mode
end_mode b = if b == 91 then Some Key else if b == 47 then Some Next else None

abbrev pub key_mode : ℕ → Option Mode
key_mode b =
    if b == 93 then Some Closed else
    if b == 92 then Some Escape else
    if is_raw b then Some Key else None

abbrev pub mark_mode : Mode → ℕ → Option Mode
mark_mode Start b = if b == 47 then Some Slash else None
mark_mode Inside b = end_mode b
mark_mode Closed b = end_mode b
mark_mode Key b = key_mode b
mark_mode Escape b = option_map (λ _. Key) (unescape b)
mark_mode Slash b = None
mark_mode Module b = None
mark_mode Colon b = None
mark_mode Next b = None

-- the mode after a byte, where that byte may come
abbrev pub next_mode : Mode → ℕ → Option Mode
next_mode mode b = option_map_or (λ next. Some next) (name_mode mode b) (mark_mode mode b)

-- a reader at this mode goes on with a character to this one, or refuses it, whatever it read
abbrev pub Moves : Mode → ℕ → Option Mode → Type 0
Moves mode c next = (r : Reader) → r.mode ≡ mode → option_map (λ s. s.mode) (feed_character r c) ≡ next

-- a path may end here
abbrev pub is_path_end : Mode → Bool
is_path_end Slash = true
is_path_end Inside = true
is_path_end Closed = true
is_path_end Start = false
is_path_end Module = false
is_path_end Colon = false
is_path_end Next = false
is_path_end Key = false
is_path_end Escape = false

-- how many bytes of a character that is refused begin some path here: a key may hold another one that begins like it
abbrev pub begun_in : Mode → ℕ → ℕ
begun_in Key c = length (encode_utf8 c) - 1
begun_in Start c = 0
begun_in Slash c = 0
begun_in Module c = 0
begun_in Colon c = 0
begun_in Inside c = 0
begun_in Next c = 0
begun_in Escape c = 0
begun_in Closed c = 0

-- Whether a byte or a character was taken: it was where one may stand there, and this is then the next reader.
abbrev pub Fed : {E : Type 0} → Option Reader → Reader → Result Bool E → Type 0
Fed next new result = IfOk result (λ taken. MatchBool taken (next ≡ Some new) (next ≡ None))

-- nothing is read
abbrev pub at_start : Reader
at_start = record { mode = Start; done = []; node = []; keys = []; key = [] }

-- the path, where the text may end here
abbrev pub whole_at : Mode → Reader → Option (List PathStep)
whole_at Slash r = Some []
whole_at Inside r = Some (r.done ++ present_step r ∷ [])
whole_at Closed r = Some (r.done ++ present_step r ∷ [])
whole_at Start r = None
whole_at Module r = None
whole_at Colon r = None
whole_at Next r = None
whole_at Key r = None
whole_at Escape r = None

abbrev pub whole : Reader → Option (List PathStep)
whole r = whole_at r.mode r

-- what was read of a name, up to this mode
abbrev pub IsNamePart : List PathStep → Mode → List ℕ → Type 0
IsNamePart done Slash n = (done ≡ []) × (n ≡ [])
IsNamePart done Module n = (done ≡ []) × IsTrue (is_identifier n)
IsNamePart done Colon n = (done ≡ []) × ((b : ℕ) → IsTrue (is_name_start b) → IsTrue (is_qualified (n ++ b ∷ [])))
IsNamePart done Inside n = IsTrue (is_name_behind done n)
IsNamePart done Next n = ((m : List ℕ) → IsTrue (is_identifier m) → IsTrue (is_name_behind done m)) × (n ≡ [])
IsNamePart done Start n = ⊥
IsNamePart done Key n = ⊥
IsNamePart done Escape n = ⊥
IsNamePart done Closed n = ⊥

-- the step that is being read is a step, and may go on with keys
pub record IsStepRead (r : Reader) : Type 0 where
  pub before : IsTrue (is_path r.done)
  pub node : IsTrue (is_name_behind r.done r.node)
  pub keys : IsTrue (list_all is_key r.keys)

-- the step that is being read has a part of a further key
pub record IsKeyPart (r : Reader) : Type 0 where
  pub step : IsStepRead r
  pub key : IsTrue (is_key r.key)

-- the step that is being read has a part of its name and no key
pub record IsPart (mode : Mode) (r : Reader) : Type 0 where
  pub before : IsTrue (is_path r.done)
  pub node : IsNamePart r.done mode r.node
  pub keys : r.keys ≡ []

-- what the parts are at each mode
abbrev pub FitsAt : Mode → Reader → Type 0
FitsAt Start r = IsPart Slash r
FitsAt Slash r = IsPart Slash r
FitsAt Module r = IsPart Module r
FitsAt Colon r = IsPart Colon r
FitsAt Inside r = IsStepRead r × (r.keys ≡ [])
FitsAt Next r = IsPart Next r
FitsAt Key r = IsKeyPart r
FitsAt Escape r = IsKeyPart r
FitsAt Closed r = IsStepRead r

abbrev pub Fits : Reader → Type 0
Fits r = FitsAt r.mode r
