use Rattle.std.proofs.Common.{◌≡◌, ◌∙◌, true, List, ℕ, sym, subst}
use Rattle.orc_path.specs.Alphabet.{is_node_name}
use Rattle.orc_path.proofs.Names.{name_whole, name_taken_at, name_refused_at, name_unfinished, name_read_whole}
use Rattle.orc_path.proofs.name.Name.new.Goals as goal

pub returns-in-None-clause-fault : goal.returns-in-None-clause-fault
returns-in-None-clause-fault c =
    name_refused_at c.args.text.now c.as_bytes-byte-items.result.now c.loop-at.at c.loop-at.mode c.as_bytes-byte-items.ensures.value c.loop-at-test.true c.loop-at.invariant (sym c.in-None.ensures)

pub loop-at-preserved : goal.loop-at-preserved
loop-at-preserved c =
    name_taken_at c.args.text.now c.as_bytes-byte-items.result.now c.loop-at.at c.loop-at.mode c.in-Some.next c.as_bytes-byte-items.ensures.value c.loop-at-test.true c.loop-at.invariant (sym c.in-Some.ensures)

pub returns-then-not-is_name_end-clause-fault : goal.returns-then-not-is_name_end-clause-fault
returns-then-not-is_name_end-clause-fault c =
    name_unfinished c.args.text.now c.loop-at.mode
    (name_read_whole c.args.text.now c.as_bytes-byte-items.result.now c.loop-at.at c.loop-at.mode c.as_bytes-byte-items.ensures.value c.loop-at-test.false c.loop-at.invariant)
    (sym c.is_name_end.ensures ∙ c.if-not-is_name_end.true)

pub invariant_of-result : goal.invariant_of-result
invariant_of-result c =
    subst (λ (n : List ℕ). is_node_name n ≡ true) (sym c.in_ok-from_str.ensures)
    (name_whole c.loop-at.mode c.args.text.now
    (name_read_whole c.args.text.now c.as_bytes-byte-items.result.now c.loop-at.at c.loop-at.mode c.as_bytes-byte-items.ensures.value c.loop-at-test.false c.loop-at.invariant)
    (sym c.is_name_end.ensures ∙ c.if-not-is_name_end.false))

pub returns-in_err-from_str-clause-memory : goal.returns-in_err-from_str-clause-memory
returns-in_err-from_str-clause-memory c =
    λ _. name_whole c.loop-at.mode c.args.text.now
    (name_read_whole c.args.text.now c.as_bytes-byte-items.result.now c.loop-at.at c.loop-at.mode c.as_bytes-byte-items.ensures.value c.loop-at-test.false c.loop-at.invariant)
    (sym c.is_name_end.ensures ∙ c.if-not-is_name_end.false)
