use Rattle.orc_bundle.proofs.LawfulBundles.{text_short, within_all}
use Rattle.orc_bundle.proofs.read.read_bundle_explained.Goals as goal

pub returns-clause-within : goal.returns-clause-within
returns-clause-within c = within_all c.args.bytes.now c.seen.result.now c.read_seen.result c.seen.ensures c.read_seen.ensures.within

pub returns-clause-short : goal.returns-clause-short
returns-clause-short c = text_short c.args.bytes.now c.seen.result.now c.read_seen.result c.seen.ensures c.read_seen.ensures.text
