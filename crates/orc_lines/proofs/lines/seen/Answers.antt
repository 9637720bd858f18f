use Rattle.std.proofs.Common.{◌+◌, sym, arith}
use Rattle.std.proofs.lemmas.List.{take_all}
use Rattle.orc_lines.specs.declared.lines.TheConstants.{LARGEST_BUNDLE}
use Rattle.orc_lines.proofs.lines.seen.Goals as goal

pub returns-then-bytes-le-LARGEST_BUNDLE : goal.returns-then-bytes-le-LARGEST_BUNDLE
returns-then-bytes-le-LARGEST_BUNDLE c = sym (take_all (LARGEST_BUNDLE + 1) c.args.bytes.now (omega (arith, c.if-bytes-le-LARGEST_BUNDLE.true)))
