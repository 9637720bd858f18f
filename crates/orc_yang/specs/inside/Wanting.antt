-- Where the reader takes memory.
use Rattle.std.specs.Prelude.{◌≡◌, ◌<◌, ◌⊎◌, length, List, [], ◌∷◌, Some, Ok}
use Rattle.orc_yang.specs.declared.character.Sort.{Sort}
use Rattle.orc_yang.specs.declared.character.Sort.TheVariants.{Start}
use Rattle.orc_yang.specs.declared.character.Character.{Character}
use Rattle.orc_yang.specs.declared.fault.YangFault.TheVariants.{Memory}
use Rattle.orc_yang.specs.declared.parser.Frame.{Frame}
use Rattle.orc_yang.specs.Sorts.{sort_of}
use Rattle.orc_yang.specs.Machine.{Between, Work, Gap, Slashed, InLine, InBlock, BehindStar, Machine, feed}

-- A step from here, inside of these blocks, may take memory at a character of this sort: between
-- statements only to begin one or to end a block, and none in a comment.
abbrev pub MayTake : Work → List Frame → Sort → Type 0
MayTake (Gap Between) frames k = (k ≡ Start) ⊎ (0 < length frames)
MayTake (Slashed spot opened) frames k = ⊥
MayTake (InLine spot) frames k = ⊥
MayTake (InBlock spot opened p) frames k = ⊥
MayTake (BehindStar spot opened p) frames k = p ≡ Some Memory
MayTake _ frames k = Unit {0}

-- the machine comes from this state to a step that may take memory
abbrev pub RunMayTake : List Character → Machine → Type 0
RunMayTake [] s = ⊥
RunMayTake (x ∷ xs) s = MayTake s.work s.frames (sort_of x.code) ⊎ ((t : Machine) × (feed s x ≡ Ok t) × RunMayTake xs t)
