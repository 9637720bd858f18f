-- The value of a double-quoted string (RFC 7950 section 6.1.3), over its characters.
use Rattle.std.specs.Prelude.{ℕ, Bool, true, false, ◌||◌, ◌&&◌, ◌==◌, ◌-◌, nat_lt, List, [], ◌∷◌, ◌++◌, replicate, if◌then◌else◌}
use Rattle.std.specs.Str.{encode_utf8_all}

-- a space or a tab
abbrev pub is_space : ℕ → Bool
is_space c = c == 32 || c == 9

abbrev pub begins_line_feed : List ℕ → Bool
begins_line_feed [] = false
begins_line_feed (c ∷ cs) = c == 10

-- a line feed, or a carriage return and a line feed
abbrev pub begins_break : ℕ → List ℕ → Bool
begins_break c cs = if c == 13 then begins_line_feed cs else c == 10

-- spaces and tabs, and then a line break
abbrev pub ends_line : List ℕ → Bool
ends_line [] = false
ends_line (c ∷ cs) = if is_space c then ends_line cs else begins_break c cs

-- without the spaces and tabs that stand before a line break
abbrev pub without_trailing : List ℕ → List ℕ
without_trailing [] = []
without_trailing (c ∷ cs) = if is_space c && ends_line cs then without_trailing cs else c ∷ without_trailing cs

-- Without the spaces and tabs after a line break up to a column, of which `left` columns are left here; a tab is eight
-- spaces.
abbrev pub unindented : ℕ → ℕ → List ℕ → List ℕ
unindented column left [] = []
unindented column left (c ∷ cs) = if c == 10 then c ∷ unindented column column cs
    else (if c == 32 && nat_lt 0 left then unindented column (left - 1) cs
    else (if c == 9 && nat_lt 0 left then replicate (8 - left) 32 ++ unindented column (left - 8) cs
    else c ∷ unindented column 0 cs))

-- `\n`, `\t`, `\"` and `\\` are escapes
abbrev pub is_escape : ℕ → Bool
is_escape c = c == 110 || c == 116 || c == 34 || c == 92

-- the character that a backslash and this one stand for
abbrev pub escaped : ℕ → ℕ
escaped c = if c == 110 then 10 else (if c == 116 then 9 else c)

-- each backslash, with the character after it, read as what the two stand for
abbrev pub unescaped : Bool → List ℕ → List ℕ
unescaped true [] = []
unescaped false [] = []
unescaped true (c ∷ cs) = escaped c ∷ unescaped false cs
unescaped false (c ∷ cs) = if c == 92 then unescaped true cs else c ∷ unescaped false cs

-- The value of what stands between two double quotes, of which the first is in this column: escapes
-- are read last.
unfoldable pub string_value : ℕ → List ℕ → List ℕ
string_value column raw = encode_utf8_all (unescaped false (unindented column 0 (without_trailing raw)))
