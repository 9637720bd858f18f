-- Operations and their reports, the stop, and an armed stop, as events.
use Rattle.std.specs.Prelude.{◌≡◌, ◌⊎◌, ℕ, ◌<◌, nat_lt, Option, None, Some, option_map, List, [], Result, Err, IsTrue, length, slice_get}
use Rattle.std.specs.Option.{option_map_or, option_or}
use Rattle.std.proofs.Common.{arith, refl, sym, ap, subst, ◌∙◌, lt-ltb}
use Rattle.std.proofs.lemmas.Option.{none-some, same_Some, slice_get_within}
use Rattle.orc_journal.specs.declared.outcome.Appended.TheVariants as appended
use Rattle.orc_call.specs.declared.answer.RecFault.{RecFault}
use Rattle.orc_call.specs.declared.answer.RecFault.TheVariants as fault
use Rattle.orc_device.specs.declared.op.Op.TheVariants as op
use Rattle.orc_device.specs.declared.reply.Reply.{Reply}
use Rattle.orc_device.specs.Operations.{mark_of}
use Rattle.orc_disk.specs.Stops.{Stopping, inside}
use Rattle.orc_journal.specs.Opened.{Holds}
use Rattle.orc_hub.specs.Hubs.{record_of, with_record}
use Rattle.orc_hub.specs.Keeps.{IsHub}
use Rattle.orc_hub.specs.Laws.{ReportKeeps}
use Rattle.orc_hub_parts.specs.Logs.{IsLog}
use Rattle.orc_hub.specs.declared.hub.Hub.{Hub}
use Rattle.orc_rules.specs.Events.{DoesUnderHub, Steps, performed, unsent}
use Rattle.orc_print.specs.Printed.{is_end_among}
use Rattle.orc_recover.specs.declared.ends.Mend.{Mend}
use Rattle.orc_recover.specs.declared.ends.Mend.TheVariants as mend
use Rattle.orc_rules.specs.Duties.{duty_end}
use Rattle.orc_rules.specs.Hubs.{duty_on, hub_reported, mend_fault}
use Rattle.orc_rules.specs.Journals.{Journal}
use Rattle.orc_rules.specs.Worlds.{Setting, World, stopped}
use Rattle.orc_rules.specs.declared.duty.Duty.{Duty}
use Rattle.orc_rules.specs.declared.duty.Duty.TheVariants as duty
use Rattle.orc_rules.specs.declared.event.Event.TheVariants as event
use Rattle.orc_hub_laws.specs.Turns.{ArmingArms, LettingGoIsStop, OrderIsPerformed, OrderIsUnsent, ReportIsEvent, armed_with, world_armed, world_heard}
use Rattle.orc_hub_laws.specs.Under.{IsWorldOf, NamesMet, journal_of, with_journal}
use Rattle.orc_hub_laws.proofs.Going.{DiskLaws, held_of, in_world, is_open, none_yet, quiet, view_of}
use Rattle.orc_hub_laws.proofs.Rows.{row_done}

-- the failure of a device, where that is declared
mend_named : (n device : ℕ) (end : Option Mend) (met : RecFault) → mend_fault device end ≡ Some met → IsTrue (nat_lt device n) → IsTrue (is_end_among n (Some (Err met)))
mend_named n device None met is within = absurd (none-some met is)
mend_named n device (Some mend.Done) met is within = absurd (none-some met is)
mend_named n device (Some (mend.LinkFault count)) met is within =
    subst (λ (m : RecFault). IsTrue (is_end_among n (Some (Err m)))) (same_Some (fault.LinkFault device count) met is) within
mend_named n device (Some (mend.Refused tag)) met is within =
    subst (λ (m : RecFault). IsTrue (is_end_among n (Some (Err m)))) (same_Some (fault.Refused device tag) met is) within
mend_named n device (Some mend.Memory) met is within = subst (λ (m : RecFault). IsTrue (is_end_among n (Some (Err m)))) (same_Some fault.Memory met is) refl

-- a mender that ended stands on a declared device
ended_named : (n device : ℕ) (duties : List Duty) (reply : Reply) (faults : ℕ) (met : RecFault) → length duties ≡ n → mend_fault device (duty_end (duty_on duties device) reply faults) ≡ Some met
    → IsTrue (is_end_among n (Some (Err met)))
ended_named n device duties reply faults met sized is = on (slice_get duties device) refl is
  where
    on : (o : Option Duty) → slice_get duties device ≡ o → mend_fault device (duty_end (option_map_or (λ (x : Duty). x) o duty.Free) reply faults) ≡ Some met → IsTrue (is_end_among n (Some (Err met)))
    on None there is' = absurd (none-some met is')
    on (Some x) there is' =
        mend_named n device (duty_end x reply faults) met is' (lt-ltb device n (let less = slice_get_within duties device x there in omega (arith, less, sized)))

-- the failure that a reconciliation has met after a report
met_behind : {D : Type 0} (old : Hub (Stopping D)) (device : ℕ) (reply : Reply) (faults : ℕ) → length old.duties ≡ length old.decls.names → NamesMet old.decls old.mends
    → NamesMet old.decls (hub_reported device reply faults (record_of old)).mends
met_behind old device reply faults sized names met is = on old.mends refl is
  where
    on : (o : Option (Option RecFault)) → old.mends ≡ o → option_map (λ (m : Option RecFault). option_or m (mend_fault device (duty_end (duty_on old.duties device) reply faults))) o ≡ Some (Some met)
        → IsTrue (is_end_among (length old.decls.names) (Some (Err met)))
    on None e is' = absurd (none-some (Some met) is')
    on (Some None) e is' = ended_named (length old.decls.names) device old.duties reply faults met sized (same_Some (mend_fault device (duty_end (duty_on old.duties device) reply faults)) (Some met) is')
    on (Some (Some before)) e is' = names met (e ∙ is')

module _ {D : Type 0} (here : Setting D) (laws : DiskLaws here.disk) where
  pub order_is_performed_so : OrderIsPerformed here
  order_is_performed_so world hub device due happened own is unheard possible way =
      quiet here laws world hub own (performed here world device due happened) _ hub
      (DoesUnderHub.performs device due happened is unheard possible way) own.is refl own.up refl own.met own.sound

  pub order_is_unsent_so : OrderIsUnsent here
  order_is_unsent_so world hub device changes own is unheard =
      quiet here laws world hub own (unsent here world device changes) (event.Unsent device) hub
      (DoesUnderHub.leaves_unsent device changes is unheard) own.is refl own.up refl own.met own.sound

  pub report_is_event_so : ReportKeeps (inside here.disk) → ReportIsEvent here
  report_is_event_so keeps world old new device kind reply own unheard is =
      quiet here laws world old own (world_heard device new world) (event.Report device kind (mark_of reply) (world.links device).faults) new
      (subst (λ (h : Hub (Stopping D)). DoesUnderHub here world (record_of old) (event.Report device kind (mark_of reply) (world.links device).faults) [] (world_heard device h world)) (sym is)
      (DoesUnderHub.reports device kind reply unheard))
      refl (ap (λ (h : Hub (Stopping D)). h.log) is) (ap (λ (h : Hub (Stopping D)). h.down) is ∙ own.up) (ap (λ (h : Hub (Stopping D)). h.decls) is)
      (subst (λ (h : Hub (Stopping D)). NamesMet h.decls h.mends) (sym is) (met_behind old device reply (world.links device).faults own.sound.duties own.met))
      (subst (λ (h : Hub (Stopping D)). IsHub (inside here.disk) h world.journal.synced) (sym is) (keeps old world.journal.synced device reply (world.links device).faults own.sound))

  pub letting_go_is_stop_so : LettingGoIsStop here
  letting_go_is_stop_so world hub own =
      let entries = world.journal.synced in
      let journal = journal_of hub entries in
      let row = row_done here.disk here.decls.text here.limit (view_of hub entries) own.limit (view_of hub entries) [] (none_yet here laws world hub own)
      (held_of here laws hub.log.journal entries (is_open here laws world hub own)) in
      record {
        journal = journal;
        comes = Steps.done (record_of hub) [] (stopped world) (with_journal journal (stopped world)) own.is DoesUnderHub.stops
            (in_world here laws world hub own [] appended.Done journal row) refl;
        disk = refl;
        holds = row.outlives.holds;
      }

  pub arming_arms_so : ArmingArms here
  arming_arms_so world hub operation bytes own = record {
    up = own.up;
    is = own.is;
    decls = own.decls;
    journal = ap (λ (j : Journal D). record j { armed = operation; bytes = bytes }) own.journal;
    limit = own.limit;
    running = own.running;
    met = own.met;
    sound = record {
      decls = own.sound.decls;
      log = record {
        holds = record {
          unspent = own.sound.log.holds.unspent;
          start = own.sound.log.holds.start;
          len = own.sound.log.holds.len;
          limit = own.sound.log.holds.limit;
          file = own.sound.log.holds.file;
          durable = own.sound.log.holds.durable;
        };
        ordered = own.sound.log.ordered;
        unsettled = own.sound.log.unsettled;
      };
      history = own.sound.history;
      state = own.sound.state;
      kept = own.sound.kept;
      numbers = own.sound.numbers;
      askers = own.sound.askers;
      duties = own.sound.duties;
      stale = own.sound.stale;
      mending = own.sound.mending;
    };
  }
