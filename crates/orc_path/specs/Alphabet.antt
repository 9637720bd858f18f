-- What names, keys and values are made of.
use Rattle.std.specs.Prelude.{ℕ, Bool, false, ◌&&◌, ◌||◌, ◌==◌, nat_le, List, [], ◌∷◌, if◌then◌else◌}
use Rattle.std.specs.List.{list_all}
use Rattle.orc_text.specs.Characters.{is_plain_text}

abbrev pub is_letter : ℕ → Bool
is_letter byte = (nat_le 65 byte && nat_le byte 90) || (nat_le 97 byte && nat_le byte 122)

-- a letter or _
abbrev pub is_name_start : ℕ → Bool
is_name_start byte = is_letter byte || (byte == 95)

-- a letter, a digit, - . or _
abbrev pub is_name_byte : ℕ → Bool
is_name_byte byte = is_name_start byte || (nat_le 48 byte && nat_le byte 57) || (byte == 45) || (byte == 46)

-- a letter or _, and then letters, digits, - . and _
abbrev pub is_identifier : List ℕ → Bool
is_identifier [] = false
is_identifier (byte ∷ rest) = is_name_start byte && list_all is_name_byte rest

-- the rest of a module's name, a colon and an identifier
abbrev pub is_qualified_rest : List ℕ → Bool
is_qualified_rest [] = false
is_qualified_rest (byte ∷ rest) = if byte == 58 then is_identifier rest else is_name_byte byte && is_qualified_rest rest

-- an identifier, a colon and an identifier
abbrev pub is_qualified : List ℕ → Bool
is_qualified [] = false
is_qualified (byte ∷ rest) = is_name_start byte && is_qualified_rest rest

-- an identifier, alone or after a module's name and a colon
abbrev pub is_node_name : List ℕ → Bool
is_node_name bytes = is_identifier bytes || is_qualified bytes

-- what may be a key
abbrev pub is_key : List ℕ → Bool
is_key bytes = is_plain_text bytes

-- what may be the value of a leaf
abbrev pub is_value : List ℕ → Bool
is_value bytes = is_plain_text bytes
