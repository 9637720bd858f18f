use Rattle.std.proofs.Common.{rules, ◌≡◌, ◌++◌, ◌∷◌, [], sym, subst}
use Rattle.orc_refs.specs.Moves.{AreWhole, BringWhole}
use Rattle.orc_refs.specs.declared.moves.Move.{Move}
use Rattle.orc_datastore.proofs.Wholes.{bring-more, none-whole}
use Rattle.orc_datastore.proofs.turns.push_move.Goals as goal

pub returns-in_ok-push-in-Comes-clause-whole : goal.returns-in_ok-push-in-Comes-clause-whole
returns-in_ok-push-in-Comes-clause-whole c =
    let move : Move = record { service = c.in_ok-copy-in-Comes.field-0; old = c.in_ok-old-in-Comes.old; new = c.in_ok-new-in-Comes.new } in
    let more : c.push.new.self.items ≡ c.args.moves.now.items ++ move ∷ [] = search rules in
    subst BringWhole (sym more) (bring-more c.args.moves.now.items move c.requires c.in_ok-new-in-Comes.ensures.whole)

pub returns-in_ok-push-in-Some-clause-whole : goal.returns-in_ok-push-in-Some-clause-whole
returns-in_ok-push-in-Some-clause-whole c =
    let move : Move = record { service = c.in_ok-copy-in-Some.field-0; old = c.in_ok-old-in-Some.old; new = c.new-in-Some.result } in
    let more : c.push-in-Some.new.self.items ≡ c.args.moves.now.items ++ move ∷ [] = search rules in
    subst BringWhole (sym more) (bring-more c.args.moves.now.items move c.requires (subst AreWhole (sym c.new-in-Some.ensures) none-whole))
