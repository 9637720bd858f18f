use Rattle.orc_queue.proofs.Fits.{covers_a_read, fit_by, seen}
use Rattle.std.proofs.Common.{rules}
use Rattle.orc_queue.proofs.held.Held.fits.Goals as goal

pub returns-then-not-cover_none : goal.returns-then-not-cover_none
returns-then-not-cover_none c =
    covers_a_read c.args.self.now c.args.other.now c.cover_none.result
    (seen c.cover_none.result c.as_slice-5.ensures c.as_slice-6.ensures c.cover_none.ensures) c.if-not-cover_none.true

pub returns : goal.returns
returns c =
    fit_by c.args.self.now c.args.other.now
    (search rules) (search rules)
    ((seen c.cover_none.result c.as_slice-5.ensures c.as_slice-6.ensures c.cover_none.ensures).0 c.if-not-cover_none.false)
    c.cover_none-2.result
    (seen c.cover_none-2.result c.as_slice-7.ensures c.as_slice-8.ensures c.cover_none-2.ensures)
