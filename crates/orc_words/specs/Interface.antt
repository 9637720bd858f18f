-- What the program takes: its commands and their option, in the words of the parser of command lines.
use Rattle.std.specs.Prelude.{ℕ, List, true, codes}
use Rattle.std.specs.declared.option.Option.TheVariants.{Some}
use Rattle.clap.specs.Walk.{Rule}
use Rattle.clap.specs.Simple.{App, new_app, new_rule, with_rule, with_subcommand}

-- `--journal FILE`, or `--journal=FILE`
abbrev pub journal_option : Rule
journal_option = record (new_rule (codes "journal")) { long = Some (codes "journal"); value_names = 1 }

-- `check` has no option
abbrev pub check_interface : App
check_interface = new_app (codes "check")

-- `run` and `history` have the option
abbrev pub run_interface : App
run_interface = with_rule (new_app (codes "run")) journal_option

abbrev pub history_interface : App
history_interface = with_rule (new_app (codes "history")) journal_option

-- `gen` has three arguments, which must stand, and the option
abbrev pub number_argument : List ℕ → Rule
number_argument name = record (new_rule name) { required = true }

abbrev pub gen_interface : App
gen_interface =
    with_rule (with_rule (with_rule (with_rule (new_app (codes "gen")) (number_argument (codes "NUMBER")))
    (number_argument (codes "DEVICES"))) (number_argument (codes "CALLS"))) journal_option

-- The program by itself: its words don't begin with the program's name, one of its commands must stand in them, and
-- without any word it answers with its help. It has `--version`; it and each command has `--help`, and none the
-- command `help`.
abbrev pub bare_program : App
bare_program = record (new_app (codes "orc")) {
  top = record (new_app (codes "orc")).top {
    has_version = true;
    no_binary_name = true;
    disable_help_subcommand = true;
    subcommand_required = true;
    arg_required_else_help = true;
  };
}

-- the program with the commands that read a bundle
abbrev pub reading_program : App
reading_program = with_subcommand (with_subcommand (with_subcommand bare_program check_interface.top) run_interface.top)
    history_interface.top

-- the program with its four commands
abbrev pub program : App
program = with_subcommand reading_program gen_interface.top
