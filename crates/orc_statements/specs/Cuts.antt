-- Arguments that are cut at single characters.
use Rattle.std.specs.Prelude.{ℕ, Bool, ◌==◌, ◌||◌, not, List, length}
use Rattle.std.specs.List.{filter, slice_split}
use Rattle.orc_statements.specs.declared.cuts.Mark.{Mark}
use Rattle.orc_statements.specs.declared.cuts.Mark.TheVariants.{White, Slash, Colon}

-- the characters of a mark: YANG's white space, `/` or `:`
abbrev pub is_mark : Mark → ℕ → Bool
is_mark White b = b == 32 || (b == 9 || (b == 10 || b == 13))
is_mark Slash b = b == 47
is_mark Colon b = b == 58

-- what stands between the marks
abbrev pub parts : Mark → List ℕ → List (List ℕ)
parts mark text = slice_split (is_mark mark) text

abbrev pub is_word : List ℕ → Bool
is_word text = not (length text == 0)

-- the words of a text, which white space parts
abbrev pub words : List ℕ → List (List ℕ)
words text = filter is_word (parts White text)
