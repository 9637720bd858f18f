use Rattle.std.proofs.Common.{◌≡◌, sym, ◌∙◌, subst, List, ℕ, ◌<◌, false, length, arith}
use Rattle.std.specs.Prelude.{take}
use Rattle.orc_statements.specs.Names.{contains_text}
use Rattle.orc_statements.specs.inside.Seen.{HasToo, HasSame}
use Rattle.orc_statements.proofs.Among.{grown, among-past}
use Rattle.orc_statements.proofs.Seens.{seen_more}
use Rattle.orc_statements.proofs.duplicates.repeated_among.Goals as goal

pub loop-name-preserved : goal.loop-name-preserved
loop-name-preserved c =
    let names : List (List ℕ) = c.args.names.now in
    let i : ℕ = c.loop-name.name-index in
    let x : List ℕ = c.name-item.result in
    let below : i < length names = omega (arith, c.loop-name-test.true) in
    let new : contains_text (take i names) x ≡ false = sym (c.loop-name.invariant.same x) ∙ (sym c.has.ensures ∙ c.if-has.false) in
    record {
      same = subst (λ l. HasSame c.add.new.self l) (grown names i x below (sym c.name-item.is))
          (seen_more c.loop-name.earlier c.add.new.self (take i names) x c.loop-name.invariant.same
          (subst (λ n. HasToo c.loop-name.earlier n c.add.new.self) c.in_ok-copy.ensures c.in_ok-add.ensures));
      left = sym (among-past names i x below (sym c.name-item.is) new) ∙ c.loop-name.invariant.left;
    }
