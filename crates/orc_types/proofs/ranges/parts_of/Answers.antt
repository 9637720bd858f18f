use Rattle.std.proofs.Common.{◌≡◌, List, sym, subst}
use Rattle.orc_types.specs.Ranges.{Range, parts_of}
use Rattle.orc_types.proofs.Parts.{behind, next_part}
use Rattle.orc_types.proofs.ranges.parts_of.Goals as goal

pub split_at-requires-text-text : goal.split_at-requires-text-text
split_at-requires-text-text c κs = c.loop-part.invariant.utf8

pub loop-part-preserved : goal.loop-part-preserved
loop-part-preserved c =
    let ends = c.args.ends in
    let whole = parts_of ends c.args.text.now in
    let more = c.in-Some.more.now in
    let split = c.in-Some.ensures.parts in
    let read = next_part ends c.loop-part.ranges c.loop-part.rest.now c.in-Some.part.now more c.in-Some-part_of.range whole split.parts c.in-Some-part_of.ensures c.loop-part.invariant.left in
    record {
      utf8 = split.utf8;
      left = subst (λ (front : List Range). behind front (parts_of ends more) ≡ whole) (sym c.in_ok-push-in-Some-part_of.ensures.ok) read;
    }
