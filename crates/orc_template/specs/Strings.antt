-- The strings of a template: what stands in braces is the text of an expression, and a doubled brace stands for one.
use Rattle.std.specs.Prelude.{◌≡◌, ℕ, ◌==◌, List, [], ◌∷◌, ◌++◌, Bool, Option, Result, IfOk, MatchBool, encode_utf8, if◌then◌else◌}
use Rattle.std.specs.declared.option.Option.TheVariants.{None, Some}
use Rattle.std.specs.Option.{option_and_then}
use Rattle.std.specs.Str.{chars}
use Rattle.orc_template.specs.declared.strings.Part.{Part}
use Rattle.orc_template.specs.declared.strings.Part.TheVariants.{Written, Braced}
use Rattle.orc_template.specs.declared.strings.Stage.{Stage}
use Rattle.orc_template.specs.declared.strings.Stage.TheVariants as stages
use Rattle.orc_template.specs.declared.strings.Cutter.{Cutter}

-- A string is cut character by character. A cutter has the finished parts, the text of the next one so far, and where
-- it stands: in what is written, after an opening brace there, in braces, or after a closing brace of what is
-- written.
abbrev pub kept_on : Cutter → ℕ → Stage → Cutter
kept_on cutter character stage =
    record { parts = cutter.parts; text = cutter.text ++ encode_utf8 character; stage = stage }

-- what is written ends, and braces begin
abbrev pub begun : Cutter → Cutter
begun cutter = record { parts = cutter.parts ++ Written cutter.text ∷ []; text = []; stage = stages.Braces }

abbrev pub cut_text : Cutter → ℕ → Option Cutter
cut_text cutter character =
    if character == 123 then Some (record cutter { stage = stages.Opened }) else
    if character == 125 then Some (record cutter { stage = stages.Closed }) else
    Some (kept_on cutter character stages.Written)

abbrev pub cut_braces : Cutter → ℕ → Option Cutter
cut_braces cutter character =
    if character == 125
    then Some (record { parts = cutter.parts ++ Braced cutter.text ∷ []; text = []; stage = stages.Written })
    else Some (kept_on cutter character stages.Braces)

abbrev pub cut_opened : Cutter → ℕ → Option Cutter
cut_opened cutter character =
    if character == 123 then Some (kept_on cutter character stages.Written) else cut_braces (begun cutter) character

abbrev pub cut_closed : Cutter → ℕ → Option Cutter
cut_closed cutter character = if character == 125 then Some (kept_on cutter character stages.Written) else None

abbrev pub cut_in : Stage → Cutter → ℕ → Option Cutter
cut_in stages.Written cutter character = cut_text cutter character
cut_in stages.Opened cutter character = cut_opened cutter character
cut_in stages.Braces cutter character = cut_braces cutter character
cut_in stages.Closed cutter character = cut_closed cutter character

-- one character more, where it may stand
abbrev pub cut_on : Cutter → ℕ → Option Cutter
cut_on cutter character = cut_in cutter.stage cutter character

abbrev pub cut_all : Cutter → List ℕ → Option Cutter
cut_all cutter [] = Some cutter
cut_all cutter (character ∷ later) = option_and_then (λ next. cut_all next later) (cut_on cutter character)

abbrev pub cut_start : Cutter
cut_start = record { parts = []; text = []; stage = stages.Written }

-- a string ends in what is written
abbrev pub end_at : Stage → List Part → Option (List Part)
end_at stages.Written parts = Some parts
end_at stages.Opened parts = None
end_at stages.Braces parts = None
end_at stages.Closed parts = None

abbrev pub cut_end : Cutter → Option (List Part)
cut_end cutter = end_at cutter.stage (cutter.parts ++ Written cutter.text ∷ [])

-- the parts of a string, where its braces are in pairs
abbrev pub cut_parts : List ℕ → Option (List Part)
cut_parts text = option_and_then cut_end (cut_all cut_start (chars text))

-- whether a character was taken: it was where one may stand there, and this is then the next cutter
abbrev pub Cuts : {E : Type 0} → Option Cutter → Cutter → Result Bool E → Type 0
Cuts next new result = IfOk result (λ taken. MatchBool taken (next ≡ Some new) (next ≡ None))
