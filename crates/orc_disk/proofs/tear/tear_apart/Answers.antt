use Rattle.std.proofs.Common.{arith}
use Rattle.std.proofs.lemmas.List.{length-take}
use Rattle.orc_disk.proofs.Torn.{Torn-refl, Torn-within}
use Rattle.orc_disk.proofs.Puts.{put_tears, append_tore, take_within}
use Rattle.orc_disk.proofs.tear.tear_apart.Goals as goal

pub returns-in-0 : goal.returns-in-0
returns-in-0 c = put_tears _ _ _ _ _ _ _ _ c.put_range.ensures.torn (Torn-refl _ _ _) (omega arith) (omega (arith, length-take c.min-kept.result c.args.bytes.now))

pub returns-in_ok-put_range-in-1 : goal.returns-in_ok-put_range-in-1
returns-in_ok-put_range-in-1 c =
    put_tears _ _ _ _ _ _ _ _ c.put_range-in-1-2.ensures.torn
    (Torn-within _ _ _ _ _ _ (omega arith) (omega (arith, length-take c.min-kept.result c.args.bytes.now)) c.in_ok-put_range-in-1.ensures.torn)
    (grind (arith, c.saturating_add.ensures, c.ranges.at.fits))
    (take_within _ _ _ _ (grind (arith, c.saturating_add.ensures, c.min-kept.ensures, c.min-count.ensures)))

pub returns-in_ok-put_range-in-2 : goal.returns-in_ok-put_range-in-2
returns-in_ok-put_range-in-2 c = put_tears _ _ _ _ _ _ _ _ c.put_range-in-2-2.ensures.torn c.in_ok-put_range-in-2.ensures.torn (omega arith) (take_within _ _ _ _ (grind (arith, c.min-kept.ensures, c.min.ensures)))

pub returns-in_ok-put_range-in_default : goal.returns-in_ok-put_range-in_default
returns-in_ok-put_range-in_default c = append_tore _ _ _ _ _ _ _ c.in_ok-put_range-in_default.ensures.torn c.lengthen.ensures
