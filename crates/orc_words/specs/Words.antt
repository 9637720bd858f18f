-- The command words, which stand after the program's name.
use Rattle.std.specs.Prelude.{ℕ, ◌<◌, ◌≤◌, ◌^◌, ◌-◌, Bool, List, [], ◌∷◌, ◌==◌, true, false, codes, drop, length, Option, if◌then◌else◌}
use Rattle.std.specs.Prelude.{nat_eq, option_and_then, option_map}
use Rattle.std.specs.declared.option.Option.TheVariants.{None, Some}
use Rattle.std.specs.List.{starts_with}
use Rattle.std.specs.Str.{bytes_eq}
use Rattle.clap.specs.Kinds.{Kinds}
use Rattle.clap.specs.Simple.{subcommand_of}
use Rattle.clap.specs.Walk.{Row, first_of}
use Rattle.clap.specs.Faults.{fault_of}
use Rattle.orc_words.specs.Interface.{program}
use Rattle.orc_words.specs.Numbers.{number_within}
use Rattle.orc_words.specs.declared.words.Command.{Command}
use Rattle.orc_words.specs.declared.words.Command.TheVariants.{Check, Run, History, Gen}
use Rattle.orc_words.specs.declared.words.TheConstants.{MOST_CALLS_MADE, MOST_DEVICES_MADE}

-- the command `gen` with what was found for it, where its numbers are in their ranges
abbrev pub generation_of : List Row → Option Command
generation_of rows =
    option_and_then (λ number.
    option_and_then (λ devices.
    option_map (λ calls. Gen number devices calls)
    (number_within 0 MOST_CALLS_MADE (first_of (codes "CALLS") rows)))
    (number_within 1 MOST_DEVICES_MADE (first_of (codes "DEVICES") rows)))
    (number_within 0 (2 ^ 64 - 1) (first_of (codes "NUMBER") rows))

-- the numbers of `gen` are in their ranges
abbrev pub IsInRanges : Command → Type 0
IsInRanges (Gen number devices calls) = (0 < devices) × (devices ≤ MOST_DEVICES_MADE) × (calls ≤ MOST_CALLS_MADE)
IsInRanges other = Unit {0}

-- the command of this name, with what was found for it
abbrev pub command_named : List ℕ → List Row → Option Command
command_named name rows =
    if bytes_eq name (codes "check") then Some Check else
    if bytes_eq name (codes "run") then Some Run else
    if bytes_eq name (codes "history") then Some History else
    if bytes_eq name (codes "gen") then generation_of rows else None

-- a command, where the parser has no cause to refuse the words
abbrev pub unless_refused : Kinds → Option Command → Option Command
unless_refused [] command = command
unless_refused (cause ∷ causes) command = None

-- The command of words: the one that the parser finds in them, where it has no cause to refuse them but that memory
-- ran out.
abbrev pub command_of : List (List ℕ) → Option Command
command_of words = unless_refused (fault_of program words)
    (option_and_then (λ found. command_named found.0 found.1) (subcommand_of program words))

-- the word that stands next, where there is one
abbrev pub next_word : List (List ℕ) → Option (List ℕ)
next_word [] = None
next_word (word ∷ words) = Some word

-- The file that the words name: what stands after the first of them that is `--journal` or begins with `--journal=`,
-- as the next word or after the `=`.
abbrev pub journal_word : List (List ℕ) → Option (List ℕ)
journal_word [] = None
journal_word (word ∷ words) =
    if bytes_eq word (codes "--journal") then next_word words else
    if starts_with nat_eq word (codes "--journal=") then Some (drop (length (codes "--journal=")) word)
    else journal_word words
