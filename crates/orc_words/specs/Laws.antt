-- The forms in which the words are written, and which words have no command.
use Rattle.std.specs.Prelude.{◌≡◌, ◌⊎◌, ◌^◌, ◌-◌, ℕ, List, [], ◌∷◌, ◌++◌, true, codes, is_some, Option}
use Rattle.std.specs.declared.option.Option.TheVariants.{None, Some}
use Rattle.std.specs.Str.{bytes_eq}
use Rattle.clap.specs.Faults.{fault_of}
use Rattle.clap.specs.Simple.{subcommand_of}
use Rattle.clap.specs.Walk.{Row}
use Rattle.orc_words.specs.Interface.{program}
use Rattle.orc_words.specs.Numbers.{number_within}
use Rattle.orc_words.specs.Words.{command_of, generation_of, journal_word}
use Rattle.orc_words.specs.declared.words.Command.{Command}
use Rattle.orc_words.specs.declared.words.Command.TheVariants.{Check, Run, History, Gen}
use Rattle.orc_words.specs.declared.words.TheConstants.{MOST_CALLS_MADE, MOST_DEVICES_MADE}

-- the word doesn't begin with a hyphen (it may be empty)
pub data IsPlainWord : List ℕ → Type 0 where
  empty : IsPlainWord []
  begins : (first : ℕ) (word : List ℕ) → (first ≡ 45 → ⊥) → IsPlainWord (first ∷ word)

-- the two ways to write that the journal is in a file: as two words, where the file's name doesn't begin with a hyphen,
-- or as one
pub data NamesJournal : List (List ℕ) → List ℕ → Type 0 where
  apart : (file : List ℕ) → IsPlainWord file → NamesJournal (codes "--journal" ∷ file ∷ []) file
  joined : (file : List ℕ) → NamesJournal ((codes "--journal=" ++ file) ∷ []) file

-- the commands that have a journal, with the words that name them
pub data HasJournal : List ℕ → Command → Type 0 where
  run : HasJournal (codes "run") Run
  history : HasJournal (codes "history") History

-- three words with the numbers of `gen`, each in its range
pub record AreGenNumbers (number devices calls : List ℕ) (n d c : ℕ) : Type 0 where
  pub number_is : number_within 0 (2 ^ 64 - 1) (Some number) ≡ Some n
  pub devices_is : number_within 1 MOST_DEVICES_MADE (Some devices) ≡ Some d
  pub calls_is : number_within 0 MOST_CALLS_MADE (Some calls) ≡ Some c

-- Words as they are written: `check`; `run` or `history`, alone or with a file, which is the journal's; `gen` with its
-- three numbers, alone or with a file.
pub data IsWritten : List (List ℕ) → Command → Option (List ℕ) → Type 0 where
  check : IsWritten (codes "check" ∷ []) Check None
  alone : (word : List ℕ) (command : Command) → HasJournal word command → IsWritten (word ∷ []) command None
  over : (word : List ℕ) (command : Command) (words : List (List ℕ)) (file : List ℕ) → HasJournal word command
      → NamesJournal words file → IsWritten (word ∷ words) command (Some file)
  gen : (number devices calls : List ℕ) (n d c : ℕ) → AreGenNumbers number devices calls n d c
      → IsWritten (codes "gen" ∷ number ∷ devices ∷ calls ∷ []) (Gen n d c) None
  gen_over : (number devices calls : List ℕ) (n d c : ℕ) (words : List (List ℕ)) (file : List ℕ)
      → AreGenNumbers number devices calls n d c → NamesJournal words file
      → IsWritten (codes "gen" ∷ number ∷ devices ∷ calls ∷ words) (Gen n d c) (Some file)

-- words as they are written have their command and their file
abbrev pub WrittenWordsAreTaken : Type 0
WrittenWordsAreTaken = (words : List (List ℕ)) (command : Command) (file : Option (List ℕ))
    → IsWritten words command file → (command_of words ≡ Some command) × (journal_word words ≡ file)

-- the words are those of `gen`, and its numbers are not all of their ranges
pub record HasBadNumbers (words : List (List ℕ)) : Type 0 where
  pub name : List ℕ
  pub rows : List Row
  pub met : subcommand_of program words ≡ Some (name, rows)
  pub gen : bytes_eq name (codes "gen") ≡ true
  pub none : generation_of rows ≡ None

-- words have no command only where the parser has a cause to refuse them, or where a number of `gen` isn't of its range
abbrev pub TakenWordsHaveCommand : Type 0
TakenWordsHaveCommand = (words : List (List ℕ)) → fault_of program words ≡ []
    → (is_some (command_of words) ≡ true) ⊎ HasBadNumbers words
