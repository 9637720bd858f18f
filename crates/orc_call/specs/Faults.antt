-- Why bytes are refused.
use Rattle.std.specs.Prelude.{ℕ, List}
use Rattle.orc_call.specs.Encoding.{IsBadFieldAt}
use Rattle.orc_call.specs.Fields.{HasSomeText}
use Rattle.orc_call.specs.declared.fault.CodecFault.{CodecFault}
use Rattle.orc_call.specs.declared.fault.CodecFault.TheVariants.{Bad, Memory}

-- The fault has the offset of the first bad field. Memory runs out only where the caller's text stands whole: that
-- text is the first thing that memory is taken for.
abbrev pub IsCodecFault : List ℕ → CodecFault → Type 0
IsCodecFault bytes (Bad at) = IsBadFieldAt bytes at
IsCodecFault bytes Memory = HasSomeText bytes
