use Rattle.orc_datastore.specs.inside.Placed.{noted}
use Rattle.orc_datastore.proofs.Placed.{noted_put}
use Rattle.orc_datastore.proofs.living.note_place.Goals as goal

pub returns : goal.returns
returns c =
    let place = c.args.place in
    let put = (c.get_mut.follows.holds place).3 c.requires in
    λ q. noted_put (noted c.args.places.now q) (noted (c.get_mut.follows.lender place) q) c.args.id.now q place (put.0 q)
