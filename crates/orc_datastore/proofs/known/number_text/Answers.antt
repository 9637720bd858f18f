use Rattle.std.proofs.Common.{rules, ◌≡◌, List, ℕ, IsTrue, sym, subst, arith}
use Rattle.std.specs.Fmt.{decimal}
use Rattle.orc_path.specs.Alphabet.{is_key}
use Rattle.orc_datastore.proofs.Numbers.{decimal_key}
use Rattle.orc_datastore.proofs.known.number_text.Goals as goal

pub returns-clause-key : goal.returns-clause-key
returns-clause-key c =
    let text : c.from_string.result ≡ decimal c.args.number = search rules in
    subst (λ (t : List ℕ). IsTrue (is_key t)) (sym text) (decimal_key c.args.number (omega arith))
