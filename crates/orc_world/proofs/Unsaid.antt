-- What was printed of the turns with which a run ended.
use Rattle.std.proofs.Common.{[], ◌≡◌, ℕ, ◌∷◌, ◌++◌, ◌∙◌}
use Rattle.orc_decls.specs.declared.declarations.Decls.{Decls}
use Rattle.orc_runs.specs.Ends.{EndOfRun}
use Rattle.orc_runs.specs.Runs.{LineDone, SaysAllTurns}
use Rattle.orc_runs.specs.Scripts.{said_in}

-- a line says all of it
pub says_all : {D : Type 0} (decls : Decls) (line : LineDone D) (why : EndOfRun) → line.text ≡ said_in decls line.step line.turns → SaysAllTurns decls line why
says_all decls line EndOfRun.Memory is = tt
says_all decls line EndOfRun.WriteFault is = tt
says_all decls line EndOfRun.JournalFault is = is
says_all decls line (EndOfRun.Full len) is = is
says_all decls line (EndOfRun.Foreign at) is = is
says_all decls line EndOfRun.NotJournal is = is
says_all decls line (EndOfRun.Damaged at) is = is
