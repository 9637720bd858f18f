-- Reading a value character by character.
use Rattle.std.specs.Prelude.{◌≡◌, ℕ, Bool, false, ◌==◌, ◌||◌, List, [], ◌∷◌, ◌++◌, encode_utf8, Option, is_some, Result, IfOk, MatchBool, if◌then◌else◌}
use Rattle.std.specs.declared.option.Option.TheVariants.{None, Some}
use Rattle.std.specs.Option.{option_map, option_map_or}
use Rattle.orc_path.specs.declared.value.ValueReader.{ValueReader}

-- the byte that this one means after a backslash in the text of a value
abbrev pub value_unescape : ℕ → Option ℕ
value_unescape byte =
    if byte == 92 then Some 92 else
    if byte == 116 then Some 9 else
    if byte == 110 then Some 10 else
    if byte == 114 then Some 13 else None

-- tab, line feed and carriage return stand in the text of a value by their escapes alone
abbrev pub is_never_raw : ℕ → Bool
is_never_raw byte = (byte == 9) || (byte == 10) || (byte == 13)

-- the byte, and then others
abbrev pub led_by : ℕ → Option (List ℕ) → Option (List ℕ)
led_by byte rest = option_map (λ bytes. byte ∷ bytes) rest

-- the byte that is meant after a backslash, and then others
abbrev pub led_by_meant : Option ℕ → Option (List ℕ) → Option (List ℕ)
led_by_meant meant rest = option_map_or (λ byte. led_by byte rest) meant None

-- the bytes with their escapes read, where each backslash begins one and no byte stands raw that may not
abbrev pub unescaped : List ℕ → Option (List ℕ)
unescaped [] = Some []
unescaped (byte ∷ []) = if (byte == 92) || is_never_raw byte then None else Some (byte ∷ [])
unescaped (byte ∷ next ∷ rest) =
    if byte == 92 then led_by_meant (value_unescape next) (unescaped rest) else
    if is_never_raw byte then None else led_by byte (unescaped (next ∷ rest))

-- bytes before others
abbrev pub led : List ℕ → Option (List ℕ) → Option (List ℕ)
led bytes rest = option_map (λ more. bytes ++ more) rest

-- what is left means, where a backslash stands before it or not
abbrev pub behind : Bool → List ℕ → Option (List ℕ)
behind is_escaped rest = unescaped (if is_escaped then 92 ∷ rest else rest)

-- what the whole is, where this is left
abbrev pub ahead : ValueReader → List ℕ → Option (List ℕ)
ahead r rest = led r.value (behind r.is_escaped rest)

-- a character may come next exactly where there is an answer, which says whether what follows it is after a backslash
abbrev pub MayCome : Bool → ℕ → Option Bool → Type 0
MayCome is_escaped c next = (rest : List ℕ)
    → is_some (behind is_escaped (encode_utf8 c ++ rest))
    ≡ option_map_or (λ escaped. is_some (behind escaped rest)) next false

-- a character was taken, and the whole is what it was; or none can go on with it
abbrev pub Took : {E : Type 0} → ValueReader → ℕ → ValueReader → Result Bool E → Type 0
Took old c new result =
    IfOk result (λ taken. MatchBool taken
    ((rest : List ℕ) → ahead old (encode_utf8 c ++ rest) ≡ ahead new rest)
    ((rest : List ℕ) → ahead old (encode_utf8 c ++ rest) ≡ None))
