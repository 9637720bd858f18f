use Rattle.std.proofs.Common.{◌≡◌, ◌-◌, ◌∷◌, [], length, take, ap, ◌∙◌, arith}
use Rattle.std.specs.Vec.{vec_len}
use Rattle.std.proofs.lemmas.List.{take_at}
use Rattle.orc_lines.proofs.NumberedNames.{has_more, has_still}
use Rattle.orc_lines.proofs.names.put_behind.Goals as goal
use Rattle.orc_lines.proofs.names.put_behind.Goals.{in-Ok, in-Err}

pub returns-clause-has : goal.returns-clause-has
returns-clause-has c =
    let names = c.args.names.now.items in
    let after = c.match-insert.names.items in
    let k = vec_len c.push.new.self - 1 in
    let count : length names ≡ k = omega (arith, c.args.names.now.ok.0, c.in_ok-push.ensures.len) in
    elim c.match-insert.branch [
      | in-Ok w ↦ has_more names after c.args.name c.in_ok-copy.field-0 c.len-place.result c.args.places.now c.insert.new.self c.requires.has c.requires.new
          (c.len-place.ensures ∙ c.args.names.now.ok.0) (ap (λ v. v.items) w.names-is ∙ c.in_ok-push.ensures.items) c.in_ok-copy.ensures w.in-Ok.ensures.updates.0
      | in-Err w ↦ has_still names after c.args.places.now c.insert.new.self c.requires.has w.in-Err.ensures.err
          (ap (λ v. v.items) w.names-is ∙ w.pop.ensures.rest ∙ ap (take k) c.in_ok-push.ensures.items ∙ take_at names (c.in_ok-copy.field-0 ∷ []) k count)
    ]
