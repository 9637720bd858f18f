-- The blocks of a template.
use Rattle.std.specs.Prelude.{ℕ, ◌+◌, List, codes, Option}
use Rattle.std.specs.Option.{option_and_then}
use Rattle.std.specs.Ordering.{nat_cmp, match_ordering}
use Rattle.std.specs.Cmp.Lexicographic.{slice_cmp}
use Rattle.serde_json.specs.Data.{Data, null, boolean, number, string, array, object, Items, no_items, item, Members, no_members, member}
use Rattle.serde_json.specs.Find.{get, as_str}

-- no block, or a block with its JSON, the blocks inside it, and those after it
pub data Blocks : Type 0 where
  no_block : Blocks
  block : Data → Blocks → Blocks → Blocks

-- how many they are, with those inside
abbrev pub block_count : Blocks → ℕ
block_count no_block = 0
block_count (block json inside later) = 1 + block_count inside + block_count later

abbrev mutual
  -- the blocks of a JSON array
  pub blocks_of : Items → Blocks
  blocks_of no_items = no_block
  blocks_of (item json items) = block json (blocks_inside json) (blocks_of items)

  -- the blocks inside a block: those of its member `blocks`
  pub blocks_inside : Data → Blocks
  blocks_inside null = no_block
  blocks_inside (boolean truth) = no_block
  blocks_inside (number amount) = no_block
  blocks_inside (string text) = no_block
  blocks_inside (array items) = no_block
  blocks_inside (object pairs) = blocks_among pairs

  pub blocks_among : Members → Blocks
  blocks_among no_members = no_block
  blocks_among (member name json pairs) = match_ordering (slice_cmp nat_cmp (codes "blocks") name)
      (blocks_among pairs) (blocks_listed json) (blocks_among pairs)

  pub blocks_listed : Data → Blocks
  blocks_listed null = no_block
  blocks_listed (boolean truth) = no_block
  blocks_listed (number amount) = no_block
  blocks_listed (string text) = no_block
  blocks_listed (array items) = blocks_of items
  blocks_listed (object pairs) = no_block

-- the text of a member of a block, where it has one
abbrev pub text_of_member : List ℕ → Data → Option (List ℕ)
text_of_member name json = option_and_then as_str (get name json)
