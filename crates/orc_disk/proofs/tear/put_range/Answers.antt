use Rattle.orc_disk.proofs.Puts.{put_torn}
use Rattle.orc_disk.proofs.tear.put_range.Goals as goal

pub returns-clause-torn : goal.returns-clause-torn
returns-clause-torn c = put_torn c.put.result c.args.at c.args.bytes.now c.args.file.now.items c.put.new.file.items c.put.ensures.ok
