-- Admission: what is known of the call, and what appending its Intent does, of a hub before the transaction is noted.
use Rattle.std.proofs.Common.{◌≡◌, ◌⊎◌, inl, inr, ⊎_elim, ℕ, ◌-◌, ◌<◌, ◌^◌, List, [], ◌∷◌, ◌++◌, All, Ok, take, length, IsTrue, refl, sym, ap, subst, ◌∙◌, arith}
use Rattle.std.proofs.lemmas.List.{length-append}
use Rattle.std.proofs.Math.Seq.{take-append_seam}
use Rattle.orc_call.specs.Encoding.{IsCall}
use Rattle.orc_call.specs.declared.call.Call.{Call}
use Rattle.orc_datastore.specs.Legal.{state_of}
use Rattle.orc_datastore.specs.Plans.{call_held}
use Rattle.orc_decls.specs.Declarations.{AreDecls}
use Rattle.orc_decls.specs.declared.declarations.Decls.{Decls}
use Rattle.orc_disk.specs.Meanings.{DiskMeaning}
use Rattle.orc_journal.specs.Entries.{AreDevices}
use Rattle.orc_journal.specs.declared.entry.Entry.{Entry}
use Rattle.orc_plans.specs.Plans.{PlannedStands}
use Rattle.orc_queue.specs.declared.held.Held.{Held}
use Rattle.orc_rules.specs.Admissions.{intent_entry, started, transaction_begun}
use Rattle.orc_rules.specs.Asked.{answered_at}
use Rattle.orc_rules.specs.Fits.{FitsNow, IsFirstFit}
use Rattle.orc_rules.specs.Standing.{IsWaiting}
use Rattle.orc_rules.specs.declared.asked.Asked.{Asked}
use Rattle.orc_rules.specs.declared.transaction.Transaction.{Transaction}
use Rattle.orc_rules.specs.declared.transaction.Waiting.{Waiting}
use Rattle.orc_tree.specs.declared.change.ChangeSet.{ChangeSet}
use Rattle.orc_hub.specs.Admits.{HasFields, NoneFits, WritesIntent, WritesIntentOf, waiting_name}
use Rattle.orc_hub.specs.Hubs.{record_of, with_record}
use Rattle.orc_queue.specs.Queues.{FitsAt, IsFirstToFit, NoneToFit}
use Rattle.orc_hub.specs.Writes.{HasBroken, HasNoRoom, HasWritten}
use Rattle.orc_hub.specs.declared.hub.Admit.{Admit}
use Rattle.orc_hub.specs.declared.hub.Admit.TheVariants as admit
use Rattle.orc_hub.specs.declared.hub.Hub.{Hub}
use Rattle.orc_rules.specs.Hubs.{answered}
use Rattle.orc_hub.proofs.Encodable.{encodable}
use Rattle.orc_hub.proofs.Ranges.{touched_are_devices}

-- the fields of its Intent fit
pub fields_fit : PlannedStands → (decls : Decls) (history : List Call) (it : Waiting) → AreDecls decls → IsWaiting decls history it → HasFields it
fields_fit law decls history it are waits =
    let state = state_of decls (take it.plan.front history) in
    let own = (law decls state it.plan.front it.call it.plan).0 waits.planned.planned in
    (encodable decls it.call are waits.lawful, touched_are_devices decls state it.call it.plan.held.devices are (sym (ap (λ (h : Held). h.devices) own.held)))

-- which call fits first

pub none_fits : (active : List Transaction) (waiting : List Waiting) → NoneToFit (λ (it : Transaction). it.plan.held) (λ (it : Waiting). it.plan.held) active waiting → NoneFits active waiting
none_fits active waiting none = λ place one f. none place one (record { there = f.there; active_ones = f.active_ones; earlier_ones = f.earlier_ones })

pub first_fits : (active : List Transaction) (waiting : List Waiting) (place : ℕ) → IsFirstToFit (λ (it : Transaction). it.plan.held) (λ (it : Waiting). it.plan.held) active waiting place
    → IsFirstFit active waiting place
first_fits active waiting place first = record {
  it = first.it;
  fits = record { there = first.fits.there; active_ones = first.fits.active_ones; earlier_ones = first.fits.earlier_ones };
  first = λ other one lt f. first.first other one lt (record { there = f.there; active_ones = f.active_ones; earlier_ones = f.earlier_ones });
}

-- without the last one
less_one : {X : Type 0} (xs : List X) (x : X) → take (length (xs ++ x ∷ []) - 1) (xs ++ x ∷ []) ≡ xs
less_one xs x =
    let count : length (xs ++ x ∷ []) - 1 ≡ length xs = simp length-append (omega arith) in
    ap (λ n. take n (xs ++ x ∷ [])) count ∙ take-append_seam xs (x ∷ [])

module _ {D : Type 0} (disk : DiskMeaning D) (hub : Hub D) (it : Waiting) (sets : List (ℕ × ChangeSet)) (active : List Transaction) (entry : Entry)
    (noted : active ≡ hub.active ++ transaction_begun (length hub.state.history) it ∷ []) (intent : entry ≡ intent_entry it) (name : List ℕ × ℕ) (named : name ≡ waiting_name it) where
  back : take (length active - 1) active ≡ hub.active
  back = subst (λ (l : List Transaction). take (length l - 1) l ≡ hub.active) (sym noted) (less_one hub.active (transaction_begun (length hub.state.history) it))

  broken : (e : Entry) (answers : List Asked) (new : Hub D) → HasBroken disk (record hub { active = active }) e answers new → HasBroken disk hub e answers new
  broken e answers new b = record { failed = b.failed; fits = b.fits; leaves = b.leaves; down = b.down; decls = b.decls; answers = b.answers }

  pub written : (result : Admit) (new : Hub D) → WritesIntentOf disk (record hub { active = active }) it.t it.asker name entry sets result new
      → WritesIntent disk hub it sets result new
  written (admit.Admitted given) new w = (
    w.0,
    subst (λ (e : Entry). HasWritten disk hub e new) intent (record { appended = w.1.appended; unsettled = w.1.unsettled; leaves = w.1.leaves }),
    w.2 ∙ ap (λ (l : List Transaction). record hub { log = new.log; active = l; duties = started it.t sets hub.duties }) noted,
  )
  written (admit.Answered caller number given) new w = (
    w.0 ∙ named,
    ⊎_elim
        (λ same. inl (same.0, same.1 ∙ ap (λ (l : List Transaction). with_record (record hub { active = l }) (answered it.asker given (record_of (record hub { active = l })))) back))
        (λ failed. inr (failed.0, subst (λ (e : Entry). HasBroken disk hub e (answered_at it.asker given hub.askers) new) intent (broken entry (answered_at it.asker given hub.askers) new failed.1))) w.1,
  )
  written (admit.Full len) new w =
      subst (λ (e : Entry). HasNoRoom hub e len new) intent (record { length = w.length; too_long = w.too_long; journal = w.journal; down = w.down; decls = w.decls; answers = w.answers })
  written admit.Nothing new w = w
