use Rattle.std.proofs.Common.{drop, refl}
use Rattle.orc_lines.specs.Lines.{lines_of}
use Rattle.orc_script.proofs.WholeScripts.{read_there, script_lawful, small_whole, stands_there}
use Rattle.orc_script.proofs.read.read_script_explained.Goals as goal

pub split_at-requires : goal.split_at-requires
split_at-requires c = stands_there c.args.bytes.now c.seen-text.result.now (drop c.args.rest c.seen-text.result.now) c.args.rest c.seen-text.ensures refl c.requires.within c.requires.small

pub returns-clause-gives : goal.returns-clause-gives
returns-clause-gives c =
    read_there c.args.bytes.now c.seen-text.result.now c.split_at.result.1.now c.args.rest c.seen-text.ensures c.split_at.ensures.back
    c.args.decls.now c.args.line c.read_lines.result c.read_lines.ensures.gives

pub returns-clause-lawful : goal.returns-clause-lawful
returns-clause-lawful c =
    script_lawful c.args.decls.now c.args.rest c.args.line (lines_of c.split_at.result.1.now) c.read_lines.result c.read_lines.ensures.gives c.read_lines.ensures.lawful

pub returns-clause-small : goal.returns-clause-small
returns-clause-small c =
    small_whole c.args.bytes.now c.seen-text.result.now c.split_at.result.1.now c.args.rest c.seen-text.ensures c.split_at.ensures.back
    c.read_lines.result (stands_there c.args.bytes.now c.seen-text.result.now c.split_at.result.1.now c.args.rest c.seen-text.ensures c.split_at.ensures.back c.requires.within c.requires.small)
    c.read_lines.ensures.small
