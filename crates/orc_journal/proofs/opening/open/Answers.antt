-- What was done on the disk leads on from what was read.
use Rattle.std.specs.Prelude.{◌≡◌, false, true, [], List, All, IsTrue}
use Rattle.std.proofs.Common.{inl, inr, refl, rules, sym, subst}
use Rattle.std.proofs.lemmas.List.{nil_from_length}
use Rattle.std.proofs.lemmas.List.Elements.{All-nil}
use Rattle.std.proofs.lemmas.Result.{err_from_is_err_and}
use Rattle.orc_journal.specs.Entries.{IsWritable}
use Rattle.orc_journal.specs.Orders.{is_ordered}
use Rattle.orc_journal.specs.inside.Steps.{HasLoaded}
use Rattle.orc_journal.specs.declared.entry.Entry.{Entry}
use Rattle.orc_journal.proofs.Leaving.{LeavesOpening-unchanged}
use Rattle.orc_journal.proofs.Openings.{refused_unread, refused_read, opened_read}
use Rattle.orc_journal.proofs.opening.open.Goals as goal

pub returns-in_err-bytes-clause-refused : goal.returns-in_err-bytes-clause-refused
returns-in_err-bytes-clause-refused g c =
    let disk = g.D.Disk.disk in
    let p = err_from_is_err_and c.from_residual.result c.from_residual.ensures.1 in
    rw (p.1, p.2)
    (refused_unread disk c.args.decls.now c.args.limit c.args.disk.now c.load.new.disk c.in_err-bytes.field-0.0 c.in_err-bytes.ensures.refused c.in_err-bytes.ensures.memory
    (LeavesOpening-unchanged disk g.met.D.Disk.only_now c.args.decls.now c.args.disk.now c.load.new.disk c.load.ensures.unchanged) c.in_err-bytes.ensures.failed)

pub returns-in_err-begin-clause-refused : goal.returns-in_err-begin-clause-refused
returns-in_err-begin-clause-refused g c =
    let disk = g.D.Disk.disk in
    let old = c.args.disk.now in
    let mid = c.load.new.disk in
    let p = err_from_is_err_and c.from_residual-in_err-begin.result c.from_residual-in_err-begin.ensures.1 in
    let nothing : c.in_ok-bytes.bytes.items ≡ [] = nil_from_length c.in_ok-bytes.bytes.items (search rules) in
    rw (p.1, p.2)
    (refused_read disk c.args.decls.now c.args.limit g.met.D.Disk.only_now g.met.D.Disk.goes_on old mid c.begin.new.disk []
    (subst (HasLoaded disk old mid) nothing c.in_ok-bytes.ensures.loaded) c.load.ensures.unchanged c.begin.ensures.leaves
    g.met.D.Disk.counts c.in_err-begin.field-0.0 c.in_err-begin.ensures.refused c.in_err-begin.ensures.kept c.in_err-begin.ensures.failed)

pub returns-then-is_empty-clause-opened : goal.returns-then-is_empty-clause-opened
returns-then-is_empty-clause-opened g c =
    let disk = g.D.Disk.disk in
    let old = c.args.disk.now in
    let mid = c.load.new.disk in
    let entries = c.in_ok-begin.field-0.entries.items in
    let none : entries ≡ [] = c.in_ok-begin.ensures.entries in
    let nothing : c.in_ok-bytes.bytes.items ≡ [] = nil_from_length c.in_ok-bytes.bytes.items (search rules) in
    opened_read disk c.args.decls.now c.args.limit g.met.D.Disk.only_now g.met.D.Disk.goes_on old mid c.begin.new.disk []
    (subst (HasLoaded disk old mid) nothing c.in_ok-bytes.ensures.loaded) c.load.ensures.unchanged c.begin.ensures.leaves
    entries c.in_ok-begin.field-0.len true c.in_ok-begin.ensures.stored (inl (refl, none)) (λ _. refl, λ _. refl) (λ _. c.in_ok-begin.ensures.room)
    (subst (All IsWritable) (sym none) (All-nil IsWritable)) (subst (λ (l : List Entry). IsTrue (is_ordered l)) (sym none) refl)

pub returns-in_err-found-clause-refused : goal.returns-in_err-found-clause-refused
returns-in_err-found-clause-refused g c =
    let disk = g.D.Disk.disk in
    let old = c.args.disk.now in
    let mid = c.load.new.disk in
    let p = err_from_is_err_and c.from_residual-in_err-found.result c.from_residual-in_err-found.ensures.1 in
    rw (p.1, p.2)
    (refused_read disk c.args.decls.now c.args.limit g.met.D.Disk.only_now g.met.D.Disk.goes_on old mid c.found.new.disk c.deref.result.now
    (subst (HasLoaded disk old mid) (sym c.deref.ensures.value) c.in_ok-bytes.ensures.loaded) c.load.ensures.unchanged c.found.ensures.leaves
    g.met.D.Disk.counts c.in_err-found.field-0.0 (c.in_err-found.ensures.refused c.args.limit) c.in_err-found.ensures.kept c.in_err-found.ensures.failed)

pub returns-clause-opened : goal.returns-clause-opened
returns-clause-opened g c =
    let disk = g.D.Disk.disk in
    let old = c.args.disk.now in
    let mid = c.load.new.disk in
    let bytes = c.deref.result.now in
    let some : bytes ≡ [] → ⊥ = search rules in
    let journal = c.in_ok-found.ensures.journal in
    opened_read disk c.args.decls.now c.args.limit g.met.D.Disk.only_now g.met.D.Disk.goes_on old mid c.found.new.disk bytes
    (subst (HasLoaded disk old mid) (sym c.deref.ensures.value) c.in_ok-bytes.ensures.loaded) c.load.ensures.unchanged c.found.ensures.leaves
    c.in_ok-found.field-0.entries.items c.in_ok-found.field-0.len false c.in_ok-found.ensures.stored (inr journal)
    (λ is. absurd cc, λ is. absurd (some is)) (λ is. absurd (some is)) journal.writable c.in_ok-found.ensures.ordered
