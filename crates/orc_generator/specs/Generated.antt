-- The bundle that three numbers make: it is drawn from the first, has as many devices as the second says, and as many calls as
-- the third. A call creates a literal service that writes three list entries of one device, or deletes one.
use Rattle.std.specs.Prelude.{ℕ, zero, suc, ◌+◌, ◌%◌, List, [], ◌++◌, codes, if◌then◌else◌, nat_eq, nat_lt}
use Rattle.std.specs.Fmt.{decimal}
use Rattle.orc_generator.specs.Draws.{drawn, next_state}

-- a device of this number: it is plain and has one leaf in its base
abbrev pub generated_device : ℕ → List ℕ
generated_device device =
    codes "device d" ++ decimal device ++ codes " plain\nbase d" ++ decimal device ++ codes " /g:mtu = 1500\n"

-- so many devices, from `d0` on
abbrev pub generated_devices : ℕ → List ℕ
generated_devices zero = []
generated_devices (suc before) = generated_devices before ++ generated_device before

-- a write of one entry of a list, on a device
abbrev pub entry_line : ℕ → ℕ → List ℕ
entry_line device key =
    codes "write d" ++ decimal device ++ codes " /g:p[" ++ decimal key ++ codes "]/v = " ++ decimal key ++ codes "\n"

-- in three of four cases the literal service is made, with three entries from this key on, else it is deleted
abbrev pub generated_action : ℕ → ℕ → ℕ → ℕ → List ℕ
generated_action choice service device key =
    if nat_lt choice 3
    then (codes "literal s" ++ decimal service ++ codes "\n" ++ entry_line device key ++ entry_line device (key + 1)
    ++ entry_line device (key + 2))
    else (codes "delete s" ++ decimal service ++ codes "\n")

-- the state after the four draws of a call
abbrev pub behind_call : ℕ → ℕ
behind_call state = next_state (next_state (next_state (next_state state)))

-- the line that begins the call of this number: the callers take turns
abbrev pub call_line : ℕ → List ℕ
call_line number = codes "call c" ++ decimal (number % 16) ++ codes " " ++ decimal number ++ codes "\n"

-- the call of this number; drawn are the case, the service (of as many as there are calls), the device and the first key
-- (below 100)
abbrev pub generated_call : ℕ → ℕ → ℕ → ℕ → List ℕ
generated_call devices calls state number =
    call_line number
    ++ generated_action (drawn (next_state state) 4) (drawn (next_state (next_state state)) calls)
    (drawn (next_state (next_state (next_state state))) devices) (drawn (behind_call state) 100)
    ++ codes "end\n"

-- the state after so many calls
abbrev pub behind_calls : ℕ → ℕ → ℕ
behind_calls number zero = number
behind_calls number (suc before) = behind_call (behind_calls number before)

-- after each sixteenth call all is settled
abbrev pub settle_line : ℕ → List ℕ
settle_line number = if nat_eq (number % 16) 0 then codes "settle\n" else []

-- the first so many calls, which have the numbers from 1 on
abbrev pub generated_calls : ℕ → ℕ → ℕ → ℕ → List ℕ
generated_calls number devices calls zero = []
generated_calls number devices calls (suc before) =
    generated_calls number devices calls before
    ++ generated_call devices calls (behind_calls number before) (before + 1)
    ++ settle_line (before + 1)

-- the bundle
abbrev pub generated : ℕ → ℕ → ℕ → List ℕ
generated number devices calls =
    codes "orc 1\n" ++ generated_devices devices ++ codes "script\n" ++ generated_calls number devices calls calls
    ++ codes "settle\n"
