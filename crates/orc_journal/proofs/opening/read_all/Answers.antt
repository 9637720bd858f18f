-- Each piece leads on from those before it.
use Rattle.std.proofs.Common.{rules, sym, subst}
use Rattle.std.proofs.lemmas.Result.{err_from_is_err_and}
use Rattle.orc_journal.specs.inside.Steps.{HeardPiece, HeardFront}
use Rattle.orc_journal.proofs.Changes.{Unchanged-refl, Unchanged-trans}
use Rattle.orc_journal.proofs.Operations.{ends_reading_later}
use Rattle.orc_journal.proofs.Pieces.{heard_nothing, heard_more, heard_all}
use Rattle.orc_journal.proofs.opening.read_all.Goals as goal

pub pieces-init : goal.pieces-init
pieces-init g c = record {
  front = search rules;
  reads = Unchanged-refl g.D.Disk.disk c.args.disk.now;
  heard = subst (HeardFront g.D.Disk.disk c.args.disk.now c.args.disk.now) (sym c.new-bytes.ensures.items)
      (heard_nothing g.D.Disk.disk g.met.D.Disk.stays c.args.disk.now);
}

pub returns-in_err-read_piece-clause-ends : goal.returns-in_err-read_piece-clause-ends
returns-in_err-read_piece-clause-ends g c =
    let p = err_from_is_err_and c.from_residual.result c.from_residual.ensures.1 in
    let heard = c.pieces.invariant.heard in
    rw (p.1, p.2) (ends_reading_later g.D.Disk.disk g.met.D.Disk.goes_on c.args.disk.now c.pieces.disk c.read_piece.new.disk _ (heard.reads, heard.course) c.in_err-read_piece.ensures.ends)

pub pieces-preserved : goal.pieces-preserved
pieces-preserved g c =
    let disk = g.D.Disk.disk in
    record {
      front = search rules;
      reads = Unchanged-trans disk g.met.D.Disk.counts_now c.args.disk.now c.pieces.disk c.read_piece.new.disk c.pieces.invariant.reads c.in_ok-read_piece.ensures.unchanged;
      heard = heard_more disk g.met.D.Disk.goes_on c.args.disk.now c.pieces.disk c.read_piece.new.disk c.pieces.bytes.items c.read_piece.new.bytes.items
          c.pieces.invariant.heard _ c.if-branch.true c.in_ok-read_piece.ensures.heard;
    }

pub returns-clause-heard : goal.returns-clause-heard
returns-clause-heard g c =
    let disk = g.D.Disk.disk in
    let piece = subst (HeardPiece disk c.pieces.disk c.read_piece.new.disk c.pieces.bytes.items c.read_piece.new.bytes.items) c.if-branch.false c.in_ok-read_piece.ensures.heard in
    heard_all disk g.met.D.Disk.goes_on c.args.disk.now c.pieces.disk c.read_piece.new.disk c.pieces.bytes.items c.read_piece.new.bytes.items c.pieces.invariant.heard piece
