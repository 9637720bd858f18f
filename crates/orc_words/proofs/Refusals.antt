-- What the parser's refusal says of the words.
use Rattle.std.proofs.Common.{◌≡◌, true, List, [], ◌∷◌, Option, None, inl, inr, refl}
use Rattle.clap.specs.Kinds.{HasKind, Kinds}
use Rattle.clap.specs.Values.{kind_of}
use Rattle.clap.specs.Faults.{is_simple_and_free}
use Rattle.clap.specs.declared.error.Error.{Error}
use Rattle.clap.specs.declared.error.kind.ErrorKind.TheVariants.{OutOfMemory}
use Rattle.clap.proofs.OnLiterals.{clap_on_literals}
use Rattle.orc_words.specs.Interface.{program}
use Rattle.orc_words.specs.Words.{unless_refused}
use Rattle.orc_words.specs.declared.words.Command.{Command}

pub is_simple_program : is_simple_and_free program ≡ true
unfolding clap_on_literals
is_simple_program = refl

-- an error other than running out of memory has a cause
pub refused : (causes : Kinds) (error : Error) (command : Option Command) → HasKind causes error
    → (kind_of error ≡ OutOfMemory → ⊥) → unless_refused causes command ≡ None
refused [] error command (inl memory) other = absurd (other memory)
refused [] error command (inr among) other = absurd among
refused (cause ∷ causes) error command has other = refl
