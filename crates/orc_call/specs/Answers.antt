-- What an answer holds.
use Rattle.orc_call.specs.declared.answer.Answer.{Answer}
use Rattle.orc_call.specs.declared.answer.Answer.TheVariants.{Committed, Exists, Missing, Invalid, Expand, Clash, Conflict, OutOfSync, Refused, LinkFault, Reused, Down, JournalFault, Memory, Busy}

-- a text, a path or a write: what an equal answer takes memory for
abbrev pub HoldsText : Answer → Type 0
HoldsText (Committed entry) = ⊥
HoldsText (Exists service) = Unit {0}
HoldsText (Missing service) = Unit {0}
HoldsText (Invalid path rule) = Unit {0}
HoldsText (Expand service block rule) = Unit {0}
HoldsText (Clash device path other) = Unit {0}
HoldsText (Conflict entry write) = Unit {0}
HoldsText (OutOfSync device why) = ⊥
HoldsText (Refused device tag) = ⊥
HoldsText (LinkFault device count) = ⊥
HoldsText (Reused entry) = ⊥
HoldsText Down = ⊥
HoldsText JournalFault = ⊥
HoldsText Memory = ⊥
HoldsText (Busy number) = ⊥
