-- Words that the parser has no cause to refuse have a command.
use Rattle.std.proofs.Common.{◌≡◌, ◌⊎◌, inl, inr, ⊎_elim, ℕ, codes, ◌&&◌, Bool, true, false, not, List, [], ◌∷◌, Option, Some, None, is_some, cond, find, refl, option_map, option_and_then}
use Rattle.std.proofs.lemmas.Bool.{false≢true}
use Rattle.std.specs.Prelude.{◌||◌}
use Rattle.std.specs.List.{list_all, list_any}
use Rattle.std.specs.Str.{bytes_eq}
use Rattle.clap.specs.Facts.{explicit_source}
use Rattle.clap.specs.Takes.{is_given}
use Rattle.clap.specs.Kinds.{Kinds, check_kinds, or_else}
use Rattle.clap.specs.Walk.{Held, Names, Row, Text, answers_to, finished, nothing_held, rows_after, settled, walk, walk_from}
use Rattle.clap.specs.Simple.{Shape, argument_words, built, entered, label_of, names_of, rows_at}
use Rattle.clap.specs.Faults.{check_fault, defaults_fault, entered_fault, fault_of, level_fault, settle_fault, walk_fault}
use Rattle.orc_words.specs.Interface.{program}
use Rattle.orc_words.specs.Words.{command_named, generation_of, unless_refused}
use Rattle.orc_words.specs.Laws.{TakenWordsHaveCommand}
use Rattle.orc_words.specs.declared.words.Command.{Command}
use Rattle.orc_words.specs.declared.words.Command.TheVariants.{Check, Run, History}

and_left : (a b : Bool) → a && b ≡ true → a ≡ true
and_left true b both = refl
and_left false b both = absurd (false≢true both)

and_right : (a b : Bool) → a && b ≡ true → b ≡ true
and_right true b both = both
and_right false b both = absurd (false≢true both)

-- where a row of tests finds nothing, the last one doesn't
last_finds_none : (first next : Kinds) → or_else first next ≡ [] → next ≡ []
last_finds_none [] next free = free
last_finds_none (cause ∷ causes) next free = absurd cc

level_ends : (s : Shape) (names : Names) (held : Held) (words : List Text) (has : Bool) (below : Kinds)
    → level_fault s names held words has below ≡ []
    → check_fault s (finished s.rules (walk s.rules names held words).held) has ≡ []
level_ends s names held words has below free =
    let end = (walk s.rules names held words).held in
    last_finds_none (defaults_fault (settled s.rules end).rows s.rules) _
    (last_finds_none (settle_fault s.rules s.args_override_self end) _
    (last_finds_none below _ (last_finds_none (walk_fault s names (walk_from held) words) _ free)))

-- where a subcommand is wanted and none was met, the last test finds a cause
finds_cause : (help wanted missing : Bool) → wanted ≡ true → check_kinds help wanted missing ≡ [] → ⊥
finds_cause true wanted missing is free = cc
finds_cause false true missing is free = cc
finds_cause false false missing is free = false≢true is

was_met : (s : Shape) (rows : List Row) (has : Bool) → s.subcommand_required ≡ true → check_fault s rows has ≡ []
    → has ≡ true
was_met s rows true wanted free = refl
was_met s rows false wanted free =
    absurd (finds_cause (s.arg_required_else_help && not (list_any (λ r. explicit_source r.source) rows))
    s.subcommand_required
    (not (s.subcommand_negates_reqs && false) && list_any (λ a. a.required && not (is_given a.id rows)) s.rules)
    wanted free)

-- a name of a command
abbrev names_command : List ℕ → Bool
names_command name = bytes_eq name (codes "check") || bytes_eq name (codes "run") || bytes_eq name (codes "history")
    || bytes_eq name (codes "gen")

abbrev is_command : Shape → Bool
is_command s = names_command s.name

-- what was met is a command, or `gen` with a number out of its range
abbrev IsMet : Option (Text × List Row) → Type 0
IsMet met = (is_some (option_and_then (λ found. command_named found.0 found.1) met) ≡ true)
    ⊎ ((name : List ℕ) × (rows : List Row) × (met ≡ Some (name, rows)) × (bytes_eq name (codes "gen") ≡ true) × (generation_of rows ≡ None))

named_so : (a b c d : Bool) (made : Option Command) → (a || b || c || d) ≡ true
    → (is_some (cond a (Some Check) (cond b (Some Run) (cond c (Some History) (cond d made None)))) ≡ true) ⊎ ((d ≡ true) × (made ≡ None))
named_so true b c d made has = inl refl
named_so false true c d made has = inl refl
named_so false false true d made has = inl refl
named_so false false false true (Some command) has = inl refl
named_so false false false true None has = inr (refl, refl)
named_so false false false false made has = absurd (false≢true has)

met_so : (name : List ℕ) (rows : List Row) → names_command name ≡ true → IsMet (Some (name, rows))
met_so name rows is = ⊎_elim
    (λ has. inl has)
    (λ bad. inr (name, rows, refl, bad.0, bad.1))
    (named_so (bytes_eq name (codes "check")) (bytes_eq name (codes "run")) (bytes_eq name (codes "history")) (bytes_eq name (codes "gen")) (generation_of rows) is)

found_is_met : (is : Shape → Bool) (subs : List Shape) (words : List Text) → list_all is_command subs ≡ true
    → is_some (option_map (λ s. rows_at s words) (find is subs)) ≡ true
    → IsMet (option_map (λ s. rows_at s words) (find is subs))
found_is_met is [] words all met = absurd (false≢true met)
found_is_met is (s ∷ subs) words all met =
    on (is s) (found_is_met is subs words (and_right (is_command s) (list_all is_command subs) all)) met
  where
    on : (t : Bool)
        → (is_some (option_map (λ s. rows_at s words) (find is subs)) ≡ true
        → IsMet (option_map (λ s. rows_at s words) (find is subs)))
        → is_some (option_map (λ s. rows_at s words) (cond t (Some s) (find is subs))) ≡ true
        → IsMet (option_map (λ s. rows_at s words) (cond t (Some s) (find is subs)))
    on true rest met = met_so s.name (rows_after s.rules [] words) (and_left (is_command s) (list_all is_command subs) all)
    on false rest met = rest met

entered_is_met : (stop : Option (Text × List Text)) → is_some (entered (built program) stop) ≡ true
    → IsMet (entered (built program) stop)
entered_is_met None met = absurd (false≢true met)
entered_is_met (Some p) met = found_is_met (λ s. answers_to p.0 (label_of s)) (built program).subs p.1 refl met

unrefused : (causes : Kinds) (command : Option Command) → causes ≡ [] → is_some command ≡ true
    → is_some (unless_refused causes command) ≡ true
unrefused [] command free has = has
unrefused (cause ∷ causes) command free has = absurd cc

pub taken_words_have_command : TakenWordsHaveCommand
taken_words_have_command words free =
    let stop = (walk (built program).top.rules (names_of (built program)) nothing_held
    (argument_words program words)).stopped in
    let top = (built program).top in
    let end = (walk top.rules (names_of (built program)) nothing_held (argument_words program words)).held in
    ⊎_elim
    (λ has. inl (unrefused (fault_of program words) _ free has))
    (λ bad. inr (record { name = bad.0; rows = bad.1; met = bad.2; gen = bad.3; none = bad.4 }))
    (entered_is_met stop
    (was_met top (finished top.rules end) (is_some (entered (built program) stop)) refl
    (level_ends top (names_of (built program)) nothing_held (argument_words program words)
    (is_some (entered (built program) stop)) (entered_fault (built program) stop) free)))
