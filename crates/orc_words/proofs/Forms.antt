-- The forms in which words are written.
use Rattle.std.proofs.Common.{◌≡◌, ◌∙◌, ◌⊎◌, ap, sym, ◌==◌, ◌^◌, ◌-◌, ◌&&◌, ℕ, Bool, true, false, nat_le, nat_lt, List, [], ◌∷◌, ◌++◌, Option, Some, None, codes, refl, arith, option_and_then, if◌then◌else◌}
use Rattle.std.specs.Cmp.{first_so, second_so}
use Rattle.std.specs.Str.{all_ascii_digits}
use Rattle.std.specs.Str.Parse.{digits_value}
use Rattle.std.proofs.lemmas.Str.Parse.{tells_all_ascii_digits}
use Rattle.clap.proofs.OnLiterals.{clap_on_literals}
use Rattle.orc_words.specs.Numbers.{is_word_number, number_within}
use Rattle.orc_words.specs.Words.{command_of, journal_word}
use Rattle.orc_words.specs.Laws.{AreGenNumbers, HasJournal, IsPlainWord, NamesJournal, WrittenWordsAreTaken}
use Rattle.orc_words.specs.Laws.{empty, begins, apart, joined, run, history, check, alone, over, gen, gen_over}
use Rattle.orc_words.specs.declared.words.Command.{Command}
use Rattle.orc_words.specs.declared.words.Command.TheVariants.{Check, Gen}
use Rattle.orc_words.specs.declared.words.TheConstants.{MOST_CALLS_MADE, MOST_DEVICES_MADE}
use Rattle.orc_words.proofs.Numbered.{gen_with_file, gen_words, made, no_hyphen}

-- a hyphen is another byte
hyphen_not : (first : ℕ) → (first ≡ 45 → ⊥) → (45 == first) ≡ false
hyphen_not first other = grind arith

check_is : command_of (codes "check" ∷ []) ≡ Some Check
unfolding clap_on_literals
check_is = refl

alone_is : (word : List ℕ) (command : Command) → HasJournal word command → command_of (word ∷ []) ≡ Some command
unfolding clap_on_literals
alone_is _ _ run = refl
alone_is _ _ history = refl

joined_is : (word file : List ℕ) (command : Command) → HasJournal word command
    → command_of (word ∷ (codes "--journal=" ++ file) ∷ []) ≡ Some command
unfolding clap_on_literals
joined_is _ file _ run = refl
joined_is _ file _ history = refl

apart_is : (word : List ℕ) (first : ℕ) (file : List ℕ) (command : Command) → HasJournal word command
    → (first == 45) ≡ false → command_of (word ∷ codes "--journal" ∷ (first ∷ file) ∷ []) ≡ Some command
unfolding clap_on_literals
apart_is _ first file _ run other = rw (other, other) refl
apart_is _ first file _ history other = rw (other, other) refl

over_empty_is : (word : List ℕ) (command : Command) → HasJournal word command
    → command_of (word ∷ codes "--journal" ∷ [] ∷ []) ≡ Some command
unfolding clap_on_literals
over_empty_is _ _ run = refl
over_empty_is _ _ history = refl

over_is : (word : List ℕ) (words : List (List ℕ)) (file : List ℕ) (command : Command) → HasJournal word command
    → NamesJournal words file → command_of (word ∷ words) ≡ Some command
over_is word _ _ command has (apart _ empty) = over_empty_is word command has
over_is word _ _ command has (apart _ (begins first file other)) =
    apart_is word first file command has (no_hyphen first other)
over_is word _ _ command has (joined file) = joined_is word file command has

-- the file of such words
file_is : (word : List ℕ) (words : List (List ℕ)) (file : List ℕ) (command : Command) → HasJournal word command
    → NamesJournal words file → journal_word (word ∷ words) ≡ Some file
file_is _ _ _ _ run (apart file plain) = refl
file_is _ _ _ _ run (joined file) = refl
file_is _ _ _ _ history (apart file plain) = refl
file_is _ _ _ _ history (joined file) = refl

no_file_is : (word : List ℕ) (command : Command) → HasJournal word command → journal_word (word ∷ []) ≡ None
no_file_is _ _ run = refl
no_file_is _ _ history = refl

made_is : (number devices calls : List ℕ) (n d c : ℕ) → AreGenNumbers number devices calls n d c → made number devices calls ≡ Some (Gen n d c)
unfolding made
made_is number devices calls n d c are =
    rw (are.number_is, are.devices_is, are.calls_is) refl

-- a number's word begins with a digit
begins_so : (word : List ℕ) (least most n : ℕ) → number_within least most (Some word) ≡ Some n → IsPlainWord word
begins_so [] least most n is = empty
begins_so (first ∷ rest) least most n is = begins first rest (on (is_word_number (first ∷ rest)) refl)
  where
    on : (b : Bool) → is_word_number (first ∷ rest) ≡ b → first ≡ 45 → ⊥
    on true holds minus =
        let digits : all_ascii_digits (first ∷ rest) ≡ true =
        second_so _ (all_ascii_digits (first ∷ rest)) (first_so _ (nat_lt (digits_value 10 (first ∷ rest)) (2 ^ 64)) holds) in
        omega (arith, minus, (tells_all_ascii_digits.parts first rest digits).0.0)
    on false fails minus = nothing (sym is
        ∙ ap (λ (b : Bool). option_and_then (λ number. if nat_le least number && nat_le number most then Some number else None)
        (if b then Some (digits_value 10 (first ∷ rest)) else None)) fails)
      where
        nothing : ◌≡◌ {A = Option ℕ} (Some n) None → ⊥
        nothing wrong = cc

-- a word that doesn't begin with a hyphen names no file
passed : (word : List ℕ) (words : List (List ℕ)) → IsPlainWord word → journal_word (word ∷ words) ≡ journal_word words
passed _ words empty = refl
passed _ words (begins first rest other) = byte_passed first rest words (no_hyphen first other) (hyphen_not first other)
  where
    byte_passed : (a : ℕ) (xs : List ℕ) (words : List (List ℕ)) → (a == 45) ≡ false → (45 == a) ≡ false
        → journal_word ((a ∷ xs) ∷ words) ≡ journal_word words
    byte_passed a xs words one other = rw (one, other) refl

file_alone : (words : List (List ℕ)) (file : List ℕ) → NamesJournal words file → journal_word words ≡ Some file
file_alone _ _ (apart file plain) = refl
file_alone _ _ (joined file) = refl

module _ (number devices calls : List ℕ) (n d c : ℕ) (are : AreGenNumbers number devices calls n d c) where
  first : IsPlainWord number
  first = begins_so number 0 (2 ^ 64 - 1) n are.number_is

  second : IsPlainWord devices
  second = begins_so devices 1 MOST_DEVICES_MADE d are.devices_is

  third : IsPlainWord calls
  third = begins_so calls 0 MOST_CALLS_MADE c are.calls_is

  gen_is : command_of (codes "gen" ∷ number ∷ devices ∷ calls ∷ []) ≡ Some (Gen n d c)
  gen_is = gen_words number devices calls first second third ∙ made_is number devices calls n d c are

  gen_over_is : (words : List (List ℕ)) (file : List ℕ) → NamesJournal words file
      → command_of (codes "gen" ∷ number ∷ devices ∷ calls ∷ words) ≡ Some (Gen n d c)
  gen_over_is words file names = gen_with_file number devices calls first second third words file names ∙ made_is number devices calls n d c are

  no_word : (words : List (List ℕ)) → journal_word (codes "gen" ∷ number ∷ devices ∷ calls ∷ words) ≡ journal_word words
  no_word words =
      passed number (devices ∷ calls ∷ words) first ∙ passed devices (calls ∷ words) second ∙ passed calls words third

pub written_words_are_taken : WrittenWordsAreTaken
written_words_are_taken _ _ _ check = (check_is, refl)
written_words_are_taken _ _ _ (alone word command has) = (alone_is word command has, no_file_is word command has)
written_words_are_taken _ _ _ (over word command words file has names) =
    (over_is word words file command has names, file_is word words file command has names)
written_words_are_taken _ _ _ (gen number devices calls n d c are) =
    (gen_is number devices calls n d c are, no_word number devices calls n d c are [])
written_words_are_taken _ _ _ (gen_over number devices calls n d c words file are names) =
    (gen_over_is number devices calls n d c are words file names, no_word number devices calls n d c are words ∙ file_alone words file names)
