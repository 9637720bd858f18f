use Rattle.orc_datastore.proofs.Placed.{noted_still}
use Rattle.orc_datastore.proofs.living.make_room.Goals as goal

pub returns-clause-noted : goal.returns-clause-noted
returns-clause-noted c =
    noted_still c.args.slots.now.items c.reserve.new.self.items c.args.places.now c.note_names.new.places c.reserve.ensures.items c.note_names.ensures.kept c.requires
