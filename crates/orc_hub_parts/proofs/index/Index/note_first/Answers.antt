use Rattle.std.proofs.lemmas.Result.{on_ok_weaker}
use Rattle.orc_hub_parts.proofs.Indexing.{noted_first}
use Rattle.orc_hub_parts.proofs.index.Index.note_first.Goals as goal

pub returns-clause-ok : goal.returns-clause-ok
returns-clause-ok c = on_ok_weaker c.add.result
    (noted_first c.args.self.now c.add.new.self c.args.caller.now c.args.number c.args.place c.new-calls.result c.note_among.new.calls c.requires.new c.requires.paired
    c.new-calls.ensures.latest c.new-calls.ensures.places c.in_ok-note_among.ensures.ok) c.add.ensures.ok
