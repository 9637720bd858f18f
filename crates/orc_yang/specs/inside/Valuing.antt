-- What a value of a double-quoted string becomes, as far as it is made, once the characters that are left are taken.
use Rattle.std.specs.Prelude.{ℕ, true, ◌≡◌, List, ◌++◌}
use Rattle.std.specs.Str.{encode_utf8_all}
use Rattle.orc_yang.specs.declared.quoted.Value.{Value}
use Rattle.orc_yang.specs.Quoted.{ends_line, without_trailing, unindented, unescaped}

-- where escapes alone are left to be read
abbrev pub spelled_with : Value → List ℕ → List ℕ
spelled_with value rest = value.text ++ encode_utf8_all (unescaped value.escaped rest)

-- where indentation up to this column is dropped first
abbrev pub lined_with : ℕ → Value → List ℕ → List ℕ
lined_with column value rest = spelled_with value (unindented column value.left rest)

-- where trailing blanks are dropped before that
abbrev pub valued_with : ℕ → Value → List ℕ → List ℕ
valued_with column value rest = lined_with column value (without_trailing rest)

-- after a blank it is known whether a line break comes after the blanks
abbrev pub KnowsBlanks : Value → List ℕ → Type 0
KnowsBlanks value rest = value.blank ≡ true → value.trailing ≡ ends_line rest
