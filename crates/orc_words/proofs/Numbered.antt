-- The words of `gen`, one at a time: what the parser holds after each of its numbers.
use Rattle.std.proofs.Common.{arith, ◌≡◌, ◌∙◌, ap, ◌==◌, ℕ, false, true, List, [], ◌∷◌, ◌++◌, Option, Some, None, codes, refl, sym, append-nil, append_assoc, option_and_then, option_map, ◌^◌, ◌-◌}
use Rattle.std.specs.Prelude.{fold, is_some}
use Rattle.clap.proofs.OnLiterals.{clap_on_literals}
use Rattle.clap.specs.Faults.{check_fault, defaults_fault, entered_fault, fault_of, level_fault, settle_fault, step_fault, turn_fault, walk_fault}
use Rattle.clap.specs.Kinds.{Kinds, or_else}
use Rattle.clap.specs.Simple.{App, Shape, built, built_leaf, entered, inherited, marked_built, names_of, on_top, with_leaf_noted}
use Rattle.clap.specs.Walk.{Held, Names, Row, Rule, Text, Waiting, Walk, after_step, arg_by_index, finished, nothing_held, plain_word, rows_after, settled, to_positional, walk, walk_from, walked}
use Rattle.clap.specs.Walk.Waiting.{idle, option, positional}
use Rattle.orc_words.specs.Interface.{gen_interface, program}
use Rattle.orc_words.specs.Numbers.{number_within}
use Rattle.orc_words.specs.Laws.{IsPlainWord, NamesJournal, apart, begins, empty, joined}
use Rattle.orc_words.specs.Words.{command_named, command_of, unless_refused}
use Rattle.orc_words.specs.declared.words.Command.{Command}
use Rattle.orc_words.specs.declared.words.Command.TheVariants.{Gen}
use Rattle.orc_words.specs.declared.words.TheConstants.{MOST_CALLS_MADE, MOST_DEVICES_MADE}

-- ---- a word that doesn't begin with a hyphen

-- where the walk stands, at no end
abbrev at : Held → Waiting → ℕ → Walk
at held waiting position =
    record { held = held; waiting = waiting; position = position; is_trailing = false; stopped = None }

-- a byte that is no hyphen
pub no_hyphen : (first : ℕ) → (first ≡ 45 → ⊥) → (first == 45) ≡ false
no_hyphen first other = grind arith

module _ (first : ℕ) (rest : List ℕ) (other : (first == 45) ≡ false) where
  byte_passes : (c : List Rule) (waiting : Waiting) (position : ℕ) (h : Held)
      → walked c [] (at h waiting position) (first ∷ rest)
      ≡ after_step c (first ∷ rest) (at h waiting position) (plain_word c waiting (first ∷ rest) h).0 (plain_word c waiting (first ∷ rest) h).1
  unfolding walked
  byte_passes c idle position h = rw (other, other) refl
  byte_passes c (option id) position h = rw (other, other) refl
  byte_passes c positional position h = rw (other, other) refl

  byte_keeps_quiet : (s : Shape) (waiting : Waiting) (position : ℕ) (h : Held)
      → turn_fault s [] (at h waiting position) (first ∷ rest)
      ≡ step_fault s position (plain_word s.rules waiting (first ∷ rest) h).0 (plain_word s.rules waiting (first ∷ rest) h).1
  byte_keeps_quiet s idle position h = rw (other, other) refl
  byte_keeps_quiet s (option id) position h = rw (other, other) refl
  byte_keeps_quiet s positional position h = rw (other, other) refl

passes : (word : Text) → IsPlainWord word → (c : List Rule) (waiting : Waiting) (position : ℕ) (h : Held)
    → walked c [] (at h waiting position) word
    ≡ after_step c word (at h waiting position) (plain_word c waiting word h).0 (plain_word c waiting word h).1
unfolding walked
passes _ empty c idle position h = refl
passes _ empty c (option id) position h = refl
passes _ empty c positional position h = refl
passes _ (begins first rest other) c waiting position h = byte_passes first rest (no_hyphen first other) c waiting position h

keeps_quiet : (word : Text) → IsPlainWord word → (s : Shape) (waiting : Waiting) (position : ℕ) (h : Held)
    → turn_fault s [] (at h waiting position) word
    ≡ step_fault s position (plain_word s.rules waiting word h).0 (plain_word s.rules waiting word h).1
keeps_quiet _ empty s idle position h = refl
keeps_quiet _ empty s (option id) position h = refl
keeps_quiet _ empty s positional position h = refl
keeps_quiet _ (begins first rest other) s waiting position h = byte_keeps_quiet first rest (no_hyphen first other) s waiting position h

-- a word at which nothing is at fault
fault_step : (s : Shape) (w next : Walk) (word : Text) (words : List Text) → turn_fault s [] w word ≡ [] → walked s.rules [] w word ≡ next
    → walk_fault s [] w (word ∷ words) ≡ walk_fault s [] next words
unfolding walk_fault
fault_step s w next word words none to =
    ap (λ (k : Kinds). or_else k (walk_fault s [] (walked s.rules [] w word) words)) none ∙ ap (λ (x : Walk). walk_fault s [] x words) to

-- ---- the command `gen` by itself

-- the shape of `gen` as `clap` builds it
abbrev gen_shape : Shape
gen_shape = built_leaf (inherited (on_top with_leaf_noted (on_top marked_built program)).top gen_interface.top)

-- where the walk of `gen` stands after each of its numbers
abbrev behind_number : Text → Walk
behind_number number = to_positional gen_shape.rules (arg_by_index gen_shape.rules 1) number (walk_from nothing_held) nothing_held

abbrev behind_devices : Text → Text → Walk
behind_devices number devices =
    to_positional gen_shape.rules (arg_by_index gen_shape.rules 2) devices (behind_number number) (behind_number number).held

abbrev behind_calls : Text → Text → Text → Walk
behind_calls number devices calls =
    to_positional gen_shape.rules (arg_by_index gen_shape.rules 3) calls (behind_devices number devices) (behind_devices number devices).held

module _ (number devices calls : Text) (one : IsPlainWord number) (two : IsPlainWord devices) (three : IsPlainWord calls) where
  number_walked : walked gen_shape.rules [] (walk_from nothing_held) number ≡ behind_number number
  number_walked = passes number one gen_shape.rules idle 1 nothing_held

  devices_walked : walked gen_shape.rules [] (behind_number number) devices ≡ behind_devices number devices
  devices_walked = passes devices two gen_shape.rules idle 2 (behind_number number).held

  calls_walked : walked gen_shape.rules [] (behind_devices number devices) calls ≡ behind_calls number devices calls
  calls_walked = passes calls three gen_shape.rules idle 3 (behind_devices number devices).held

  numbers_walked : (words : List Text) → walk gen_shape.rules [] nothing_held (number ∷ devices ∷ calls ∷ words)
      ≡ fold (walked gen_shape.rules []) (behind_calls number devices calls) words
  numbers_walked words =
      ap (λ (w : Walk). fold (walked gen_shape.rules []) w (devices ∷ calls ∷ words)) number_walked
      ∙ ap (λ (w : Walk). fold (walked gen_shape.rules []) w (calls ∷ words)) devices_walked
      ∙ ap (λ (w : Walk). fold (walked gen_shape.rules []) w words) calls_walked

  numbers_quiet : (words : List Text) → walk_fault gen_shape [] (walk_from nothing_held) (number ∷ devices ∷ calls ∷ words)
      ≡ walk_fault gen_shape [] (behind_calls number devices calls) words
  numbers_quiet words =
      fault_step gen_shape (walk_from nothing_held) (behind_number number) number (devices ∷ calls ∷ words)
      (keeps_quiet number one gen_shape idle 1 nothing_held) number_walked
      ∙ fault_step gen_shape (behind_number number) (behind_devices number devices) devices (calls ∷ words)
      (keeps_quiet devices two gen_shape idle 2 (behind_number number).held) devices_walked
      ∙ fault_step gen_shape (behind_devices number devices) (behind_calls number devices calls) calls words
      (keeps_quiet calls three gen_shape idle 3 (behind_devices number devices).held) calls_walked

-- ---- the program, at the word `gen`

-- the words after a subcommand are its own
abbrev stopped_at : Text → List Text → Walk
stopped_at name words =
    record { held = nothing_held; waiting = idle; position = 1; is_trailing = false; stopped = Some (name, words) }

stays : (c : List Rule) (names : Names) (name : Text) (before words : List Text)
    → fold (walked c names) (stopped_at name before) words ≡ stopped_at name (before ++ words)
unfolding walked
stays c names name before [] = ap (stopped_at name) (sym (append-nil before))
stays c names name before (word ∷ words) =
    stays c names name (before ++ word ∷ []) words ∙ ap (stopped_at name) (append_assoc before (word ∷ []) words)

stays_quiet : (s : Shape) (names : Names) (name : Text) (before words : List Text) → walk_fault s names (stopped_at name before) words ≡ []
unfolding walked walk_fault
stays_quiet s names name before [] = refl
stays_quiet s names name before (word ∷ words) = stays_quiet s names name (before ++ word ∷ []) words

gen_walked : (words : List Text)
    → walk (built program).top.rules (names_of (built program)) nothing_held (codes "gen" ∷ words) ≡ stopped_at (codes "gen") words
unfolding walked
gen_walked words = stays (built program).top.rules (names_of (built program)) (codes "gen") [] words

gen_quiet : (words : List Text) → walk_fault (built program).top (names_of (built program)) (walk_from nothing_held) (codes "gen" ∷ words) ≡ []
unfolding walked walk_fault
gen_quiet words = stays_quiet (built program).top (names_of (built program)) (codes "gen") [] words

-- the command, from where the walk of the program ends, and from what is at fault in it
from_walk : App → Walk → Kinds → Option Command
from_walk a w fault = unless_refused
    (or_else fault
    (or_else (entered_fault a w.stopped)
    (or_else (settle_fault a.top.rules a.top.args_override_self w.held)
    (or_else (defaults_fault (settled a.top.rules w.held).rows a.top.rules)
    (check_fault a.top (finished a.top.rules w.held) (is_some (entered a w.stopped)))))))
    (option_and_then (λ found. command_named found.0 found.1) (entered a w.stopped))

-- the command that is read once the walk has entered `gen`
from_gen : Walk → Kinds → Option Command
from_gen w fault = unless_refused
    (or_else (or_else fault
    (or_else []
    (or_else (settle_fault gen_shape.rules gen_shape.args_override_self w.held)
    (or_else (defaults_fault (settled gen_shape.rules w.held).rows gen_shape.rules)
    (check_fault gen_shape (finished gen_shape.rules w.held) false))))) [])
    (command_named (codes "gen") (finished gen_shape.rules w.held))

walk_decides : (words : List Text) → command_of words
    ≡ from_walk (built program) (walk (built program).top.rules (names_of (built program)) nothing_held words)
    (walk_fault (built program).top (names_of (built program)) (walk_from nothing_held) words)
unfolding from_walk
walk_decides words = refl

gen_decides : (words : List Text) → from_walk (built program) (stopped_at (codes "gen") words) []
    ≡ from_gen (walk gen_shape.rules [] nothing_held words) (walk_fault gen_shape [] (walk_from nothing_held) words)
unfolding from_walk from_gen defaults_fault
gen_decides words = refl

-- the command of words after `gen` that begin with three numbers, from where the walk stands after these
numbers_decide : (number devices calls : Text) → IsPlainWord number → IsPlainWord devices → IsPlainWord calls → (words : List Text)
    → command_of (codes "gen" ∷ number ∷ devices ∷ calls ∷ words)
    ≡ from_gen (fold (walked gen_shape.rules []) (behind_calls number devices calls) words)
    (walk_fault gen_shape [] (behind_calls number devices calls) words)
numbers_decide number devices calls one two three words =
    let all : List Text = number ∷ devices ∷ calls ∷ words in
    let top = (built program).top in
    let names = names_of (built program) in
    walk_decides (codes "gen" ∷ all)
    ∙ ap (λ (w : Walk). from_walk (built program) w (walk_fault top names (walk_from nothing_held) (codes "gen" ∷ all))) (gen_walked all)
    ∙ ap (λ (k : Kinds). from_walk (built program) (stopped_at (codes "gen") all) k) (gen_quiet all)
    ∙ gen_decides all
    ∙ ap (λ (w : Walk). from_gen w (walk_fault gen_shape [] (walk_from nothing_held) all)) (numbers_walked number devices calls one two three words)
    ∙ ap (λ (k : Kinds). from_gen (fold (walked gen_shape.rules []) (behind_calls number devices calls) words) k)
    (numbers_quiet number devices calls one two three words)

-- ---- what stands after the numbers

-- the command of three numbers
unfoldable pub made : List ℕ → List ℕ → List ℕ → Option Command
made number devices calls =
    option_and_then (λ n.
    option_and_then (λ d.
    option_map (λ c. Gen n d c)
    (number_within 0 MOST_CALLS_MADE (Some calls)))
    (number_within 1 MOST_DEVICES_MADE (Some devices)))
    (number_within 0 (2 ^ 64 - 1) (Some number))

module _ (number devices calls : Text) where
  -- the command, where these words follow
  followed_by : List Text → Option Command
  followed_by words = from_gen (fold (walked gen_shape.rules []) (behind_calls number devices calls) words)
      (walk_fault gen_shape [] (behind_calls number devices calls) words)

  by_none : followed_by [] ≡ made number devices calls
  unfolding clap_on_literals from_gen followed_by made
  by_none = refl

  by_joined : (file : List ℕ) → followed_by ((codes "--journal=" ++ file) ∷ []) ≡ made number devices calls
  unfolding clap_on_literals from_gen followed_by made
  by_joined file = refl

  by_empty : followed_by (codes "--journal" ∷ [] ∷ []) ≡ made number devices calls
  unfolding clap_on_literals from_gen followed_by made
  by_empty = refl

  by_apart : (f : ℕ) (file : List ℕ) → (f == 45) ≡ false → followed_by (codes "--journal" ∷ (f ∷ file) ∷ []) ≡ made number devices calls
  unfolding clap_on_literals from_gen followed_by made
  by_apart f file other = rw (other, other) refl

module _ (number devices calls : Text) (one : IsPlainWord number) (two : IsPlainWord devices) (three : IsPlainWord calls) where
  pub gen_words : command_of (codes "gen" ∷ number ∷ devices ∷ calls ∷ []) ≡ made number devices calls
  unfolding followed_by
  gen_words = numbers_decide number devices calls one two three [] ∙ by_none number devices calls

  pub gen_with_file : (words : List Text) (file : List ℕ) → NamesJournal words file
      → command_of (codes "gen" ∷ number ∷ devices ∷ calls ∷ words) ≡ made number devices calls
  unfolding followed_by
  gen_with_file _ _ (joined file) =
      numbers_decide number devices calls one two three ((codes "--journal=" ++ file) ∷ []) ∙ by_joined number devices calls file
  gen_with_file _ _ (apart _ empty) =
      numbers_decide number devices calls one two three (codes "--journal" ∷ [] ∷ []) ∙ by_empty number devices calls
  gen_with_file _ _ (apart _ (begins first file other)) =
      numbers_decide number devices calls one two three (codes "--journal" ∷ (first ∷ file) ∷ [])
      ∙ by_apart number devices calls first file (no_hyphen first other)
