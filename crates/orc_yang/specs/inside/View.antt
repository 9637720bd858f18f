-- What the reader's fields mean: a state of the machine.
use Rattle.std.specs.Prelude.{ℕ, ◌≡◌, List, Result, Ok, Err, reverse}
use Rattle.orc_yang.specs.declared.fault.YangFault.{YangFault}
use Rattle.orc_yang.specs.declared.parser.Parser.{Parser}
use Rattle.orc_yang.specs.declared.parser.Mode.{Mode}
use Rattle.orc_yang.specs.declared.parser.Mode.TheVariants as modes
use Rattle.orc_yang.specs.declared.parser.Spot as code
use Rattle.orc_yang.specs.declared.parser.Spot.TheVariants as spots
use Rattle.orc_yang.specs.Parsing.{FailsWith}
use Rattle.orc_yang.specs.Machine.{Head, Spot, Between, Keyed, Worded, Strung, Joining, Work, Gap, Slashed, InLine, InBlock, BehindStar, InKeyword, BehindColon, InSecond, Lone, WordSlash, WordStar, InWord, InSingle, InDouble, BehindBackslash, Machine}

abbrev pub head_of : Parser → Head
head_of p = record { keyword = p.keyword; at = p.at }

abbrev pub spot_of : code.Spot → Head → List ℕ → Spot
spot_of spots.Between h a = Between
spot_of spots.Keyed h a = Keyed h
spot_of spots.Worded h a = Worded h a
spot_of spots.Strung h a = Strung h a
spot_of spots.Joining h a = Joining h a

abbrev pub spot : Parser → Spot
spot p = spot_of p.spot (head_of p) p.argument

abbrev pub work_of : Mode → Parser → Work
work_of modes.Gap p = Gap (spot p)
work_of modes.Slashed p = Slashed (spot p) p.opened
work_of modes.Line p = InLine (spot p)
work_of modes.Block p = InBlock (spot p) p.opened p.pending
work_of modes.BlockStar p = BehindStar (spot p) p.opened p.pending
work_of modes.First p = InKeyword (head_of p)
work_of modes.Colon p = BehindColon (head_of p)
work_of modes.Second p = InSecond (head_of p)
work_of modes.Lone p = Lone (head_of p) p.argument p.opened
work_of modes.WordSlash p = WordSlash (head_of p) p.argument
work_of modes.WordStar p = WordStar (head_of p) p.argument
work_of modes.Word p = InWord (head_of p) p.argument
work_of modes.Single p = InSingle (head_of p) p.argument p.opened p.pending
work_of modes.Double p = InDouble (head_of p) p.argument p.opened p.column p.raw p.pending
work_of modes.Escape p = BehindBackslash (head_of p) p.argument p.opened p.column p.raw p.pending

abbrev pub view : Parser → Machine
view p = record { work = work_of p.mode p; done = p.done; frames = reverse p.frames }

-- what a step makes of the reader is what the machine makes of its state
abbrev pub Mirrors : {T : Type 0} → Result Machine YangFault → Machine → Result T YangFault → Type 0
Mirrors answer new (Ok _) = answer ≡ Ok new
Mirrors answer new (Err fault) = FailsWith answer fault
