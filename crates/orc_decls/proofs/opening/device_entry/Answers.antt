use Rattle.std.proofs.Common.{ℕ, List, IsTrue, sym, subst}
use Rattle.orc_path.specs.Alphabet.{is_key}
use Rattle.orc_decls.proofs.NameTexts.{name_key}
use Rattle.orc_decls.proofs.opening.device_entry.Goals as goal

pub step_of-requires : goal.step_of-requires
step_of-requires c = subst (λ (key : List ℕ). IsTrue (is_key key)) (sym c.in_ok-copy.ensures) (name_key c.args.name.now c.requires)
