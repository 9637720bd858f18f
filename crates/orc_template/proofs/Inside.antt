-- The blocks inside a block are those of its member.
use Rattle.std.proofs.Common.{◌≡◌, Option, Some, codes, refl}
use Rattle.std.specs.Option.{option_map_or}
use Rattle.std.specs.Ordering.{nat_cmp, match_ordering}
use Rattle.std.specs.Cmp.Lexicographic.{slice_cmp}
use Rattle.std.specs.declared.cmp.Ordering.{Ordering}
use Rattle.std.specs.declared.cmp.Ordering.TheVariants.{Less, Equal, Greater}
use Rattle.serde_json.specs.Data.{Data, null, boolean, number, string, array, object, Members, no_members, member}
use Rattle.serde_json.specs.Find.{get, get_member}
use Rattle.orc_template.specs.Blocks.{Blocks, no_block, blocks_inside, blocks_among, blocks_listed}

abbrev pub inside_by : Option Data → Blocks
inside_by found = option_map_or blocks_listed found no_block

pub among_is : (ms : Members) → blocks_among ms ≡ inside_by (get_member (codes "blocks") ms)
among_is no_members = refl
among_is (member name d ms) = on (slice_cmp nat_cmp (codes "blocks") name) (among_is ms)
  where
    on : (o : Ordering) → blocks_among ms ≡ inside_by (get_member (codes "blocks") ms)
        → match_ordering o (blocks_among ms) (blocks_listed d) (blocks_among ms) ≡ inside_by (match_ordering o (get_member (codes "blocks") ms) (Some d) (get_member (codes "blocks") ms))
    on Less h = h
    on Equal h = refl
    on Greater h = h

pub inside_is : (d : Data) → blocks_inside d ≡ inside_by (get (codes "blocks") d)
inside_is null = refl
inside_is (boolean b) = refl
inside_is (number n) = refl
inside_is (string t) = refl
inside_is (array ds) = refl
inside_is (object ms) = among_is ms
