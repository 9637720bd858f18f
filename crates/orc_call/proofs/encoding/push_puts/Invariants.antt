use Rattle.std.proofs.Common.{◌≡◌, ◌++◌, take}
use Rattle.std.specs.List.{flat_map}
use Rattle.orc_call.specs.Puts.{put_bytes}
use Rattle.orc_call.proofs.encoding.push_puts.Given as goal

abbrev pub invariant-loop-put : goal.invariant-loop-put
invariant-loop-put l = l.out.items ≡ l.fn.out.items ++ flat_map put_bytes (take l.put-index l.puts)
