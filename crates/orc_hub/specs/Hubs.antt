-- The hub as its rules see it.
use Rattle.std.specs.Prelude.{◌≡◌, ◌⊎◌, ℕ, Bool, true, false, List, Option}
use Rattle.orc_call.specs.declared.answer.Why.{Why}
use Rattle.orc_rules.specs.Hubs.{Hub as HubState}
use Rattle.orc_hub.specs.declared.hub.Hub.{Hub}
use Rattle.orc_hub_parts.specs.Numbered.{is_given}

-- the record that the rules of a network speak of
abbrev pub record_of : {D : Type 0} → Hub D → HubState
record_of hub = record {
  waiting = hub.waiting;
  active = hub.active;
  duties = hub.duties;
  stale = hub.stale;
  asked = hub.askers;
  given = is_given hub.numbers;
  mends = hub.mends;
}

-- the hub with what is in another record of it, but for the numbers that were given; nothing else is changed
abbrev pub with_record : {D : Type 0} → Hub D → HubState → Hub D
with_record hub it = record hub {
  waiting = it.waiting;
  active = it.active;
  duties = it.duties;
  stale = it.stale;
  askers = it.asked;
  mends = it.mends;
}
