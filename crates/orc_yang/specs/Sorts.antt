-- What a character can be to the grammar (RFC 7950 sections 6.1.2, 6.2 and 14).
use Rattle.std.specs.Prelude.{ℕ, Bool, ◌||◌, ◌&&◌, ◌==◌, nat_lt, nat_le, if◌then◌else◌}
use Rattle.orc_text.specs.Characters.{is_noncharacter}
use Rattle.orc_yang.specs.declared.character.Sort.{Sort}
use Rattle.orc_yang.specs.declared.character.Sort.TheVariants.{LineFeed, Blank, Semicolon, OpenBrace, CloseBrace, DoubleQuote, SingleQuote, Slash, Star, Plus, Colon, Backslash, Start, Inner, Forbidden, Other}

-- a control character, or a noncharacter: forbidden (RFC 7950 section 14)
abbrev pub other_sort : ℕ → Sort
other_sort c = if nat_lt c 32 || is_noncharacter c then Forbidden else Other

abbrev pub is_between : ℕ → ℕ → ℕ → Bool
is_between low high c = nat_le low c && nat_le c high

abbrev pub sort_of : ℕ → Sort
sort_of c = if c == 10 then LineFeed
    else (if c == 32 || c == 9 || c == 13 then Blank
    else (if c == 59 then Semicolon
    else (if c == 123 then OpenBrace
    else (if c == 125 then CloseBrace
    else (if c == 34 then DoubleQuote
    else (if c == 39 then SingleQuote
    else (if c == 47 then Slash
    else (if c == 42 then Star
    else (if c == 43 then Plus
    else (if c == 58 then Colon
    else (if c == 92 then Backslash
    else (if is_between 97 122 c || is_between 65 90 c || c == 95 then Start
    else (if is_between 48 57 c || c == 45 || c == 46 then Inner
    else other_sort c)))))))))))))
