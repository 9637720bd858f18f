use Rattle.std.proofs.Common.{◌≡◌, Bool, false, [], IsTrue, ◌↔◌}
use Rattle.std.specs.Option.{option_copied}
use Rattle.orc_path.specs.Texts.{path_text}
use Rattle.orc_call.specs.Fields.{a_path, HasText}
use Rattle.orc_call.proofs.Grammars.{one_fails}
use Rattle.orc_call.proofs.Singles.{one_text}
use Rattle.orc_call.proofs.fields.path_at.Goals as goal

refused : {P : Type 0} (b : Bool) → b ≡ false → (IsTrue b ↔ P) → P → ⊥
refused b is_false same p = let is_true = same.1 p in cc

pub returns-in_default-clause-reads : goal.returns-in_default-clause-reads
returns-in_default-clause-reads c = one_fails (a_path (option_copied c.args.before)) c.args.bytes.now _ [] c.bad.ensures
    (λ x rest lawful parts. c.in_default.ensures (path_text x) rest (record { is_text = lawful.1; parts = parts }))

pub returns-in-Ok-clause-reads : goal.returns-in-Ok-clause-reads
returns-in-Ok-clause-reads c = one_fails (a_path (option_copied c.args.before)) c.args.bytes.now _ [] c.bad-else-follows.ensures
    (λ x rest lawful parts.
    let there : HasText c.args.bytes.now (path_text x) rest = record { is_text = lawful.1; parts = parts } in
    let same = one_text c.args.bytes.now (path_text x) c.in-Some.text.now rest c.in-Some.rest.now there c.in-Some.ensures in
    let path : c.in-Ok.path ≡ x = c.in-Ok.ensures.again x lawful.0 same in
    refused c.follows.result c.if-follows.false c.follows.ensures (rw path lawful.2))

pub returns-in-Err-BadPath-clause-reads : goal.returns-in-Err-BadPath-clause-reads
returns-in-Err-BadPath-clause-reads c = one_fails (a_path (option_copied c.args.before)) c.args.bytes.now _ [] c.bad-in-Err-BadPath.ensures
    (λ x rest lawful parts.
    let there : HasText c.args.bytes.now (path_text x) rest = record { is_text = lawful.1; parts = parts } in
    let same = one_text c.args.bytes.now (path_text x) c.in-Some.text.now rest c.in-Some.rest.now there c.in-Some.ensures in
    let fault = rw c.in-Err-BadPath.field-0-is at c.in-Err-BadPath.ensures.fault in
    fault.none (x, (lawful.0, same)))
