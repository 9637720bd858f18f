use Rattle.orc_declarations.specs.Declarations.{declarations_of, nothing_declared}
use Rattle.orc_lines.specs.Lines.{lines_of}
use Rattle.orc_bundle.proofs.LawfulBundles.{lawful, text_within, within}
use Rattle.orc_bundle.proofs.read.read_seen.Goals as goal

pub returns-clause-lawful : goal.returns-clause-lawful
returns-clause-lawful c =
    let called = c.read_declarations_explained.ensures in
    lawful c.args.bytes.now (declarations_of nothing_declared 0 0 (lines_of c.args.bytes.now)) c.read_declarations_explained.result called.gives called.lawful called.sound called.script

pub returns-clause-within : goal.returns-clause-within
returns-clause-within c =
    within c.args.bytes.now (declarations_of nothing_declared 0 0 (lines_of c.args.bytes.now)) c.read_declarations_explained.result c.read_declarations_explained.ensures.script

pub returns-clause-text : goal.returns-clause-text
returns-clause-text c =
    text_within c.args.bytes.now (declarations_of nothing_declared 0 0 (lines_of c.args.bytes.now)) c.read_declarations_explained.result c.read_declarations_explained.ensures.gives
