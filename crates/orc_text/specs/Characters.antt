-- The characters of texts.
use Rattle.std.specs.Prelude.{ℕ, Bool, ◌||◌, ◌&&◌, ◌==◌, ◌%◌, not, nat_le, List}
use Rattle.std.specs.List.{list_all}
use Rattle.std.specs.Str.{chars, is_utf8}

-- a noncharacter of Unicode: U+FDD0 to U+FDEF, and the last two of each plane of 65,536
abbrev pub is_noncharacter : ℕ → Bool
is_noncharacter character =
    nat_le 0xFDD0 character && nat_le character 0xFDEF || nat_le 0xFFFE (character % 0x10000)

-- a character of keys and values: tab, line feed, carriage return, and from the space on each that is no noncharacter
abbrev pub is_plain_character : ℕ → Bool
is_plain_character c = (c == 9) || (c == 10) || (c == 13) || (nat_le 32 c && not (is_noncharacter c))

-- UTF-8 of such characters alone
unfoldable pub is_plain_text : List ℕ → Bool
is_plain_text bytes = is_utf8 bytes && list_all is_plain_character (chars bytes)
