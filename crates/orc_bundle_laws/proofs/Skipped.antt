-- A skipped line changes nothing.
use Rattle.std.proofs.Common.{◌≡◌, ℕ, List, Ok, refl, true, false}
use Rattle.std.specs.Str.{is_utf8}
use Rattle.orc_declarations.specs.Declarations.{declared_at}
use Rattle.orc_lines.specs.Lines.{is_large, is_skipped, text_of}
use Rattle.orc_script.specs.Scripts.{scripted_at}
use Rattle.orc_lines.specs.declared.declared.Declared.{Declared}
use Rattle.orc_decls.specs.declared.declarations.Decls.{Decls}
use Rattle.orc_script.specs.declared.script.Script.{Script}

-- a line, before which stand so many bytes, is empty or a comment, UTF-8, and passes no limit
pub record IsPassed (at : ℕ) (line : List ℕ) : Type 0 where
  pub small : is_large at line ≡ false
  pub utf8 : is_utf8 (text_of line) ≡ true
  pub skipped : is_skipped (text_of line) ≡ true

pub declarations : (at : ℕ) (line : List ℕ) (later : List (List ℕ)) (d : Declared)
    → IsPassed at line → d.skip ≡ 0 → declared_at d at line later ≡ Ok d
unfolding declared_at
declarations at line later d is skip = rw is.small (rw skip (rw is.utf8 (rw is.skipped refl)))

pub script : (at : ℕ) (line : List ℕ) (later : List (List ℕ)) (d : Decls) (s : Script)
    → IsPassed at line → scripted_at d s at line later ≡ Ok s
unfolding scripted_at
script at line later d s is = rw is.small (rw is.utf8 (rw is.skipped refl))
