-- What is answered names declared devices alone, and rules that there are.
use Rattle.std.specs.Prelude.{◌≡◌, ◌⊎◌, ℕ, ◌+◌, ◌<◌, Bool, true, false, cond, nat_lt, Option, None, Some, option_map, List, [], ◌∷◌, Result, Err, Ok, IsTrue, length, slice_get, take}
use Rattle.std.specs.List.{list_any}
use Rattle.std.specs.Option.{option_map_or, option_or}
use Rattle.std.proofs.Common.{arith, refl, sym, ap, subst, ◌∙◌, ⊎_elim, lt-ltb}
use Rattle.std.proofs.lemmas.Bool.{false≢true}
use Rattle.std.proofs.lemmas.Option.{none-some, slice_get_within}
use Rattle.orc_call.specs.declared.answer.Answer.{Answer}
use Rattle.orc_call.specs.declared.answer.Answer.TheVariants as answer
use Rattle.orc_call.specs.declared.answer.RecFault.{RecFault}
use Rattle.orc_call.specs.declared.answer.RecFault.TheVariants as fault
use Rattle.orc_call.specs.declared.answer.Why.{Why}
use Rattle.orc_call.specs.declared.call.Call.{Call}
use Rattle.orc_datastore.specs.Legal.{state_of}
use Rattle.orc_datastore.specs.Plans.{plan_refusal, plan_unless, planned}
use Rattle.orc_datastore.specs.declared.plan.Plan.{Plan}
use Rattle.orc_decls.specs.declared.declarations.Decls.{Decls}
use Rattle.orc_disk.specs.Meanings.{DiskMeaning}
use Rattle.orc_disk.specs.Stops.{inside}
use Rattle.orc_hub.specs.Admits.{Begins, IsNotAdmitted, WritesIntent}
use Rattle.orc_hub.specs.Decisions.{CommitsOne, GivesUp, GivesUpFor}
use Rattle.orc_hub.specs.Hubs.{record_of}
use Rattle.orc_hub.specs.Keeps.{IsHub}
use Rattle.orc_hub.specs.Mends.{SettlesAll, SettlesOne}
use Rattle.orc_hub.specs.Mends.SettlesAll.{fails, none_left, one_less}
use Rattle.orc_hub.specs.declared.hub.Admit.TheVariants as admit
use Rattle.orc_hub.specs.declared.hub.Decided.TheVariants as decided
use Rattle.orc_hub.specs.declared.hub.Hub.{Hub}
use Rattle.orc_journal.specs.declared.entry.Entry.{Entry}
use Rattle.orc_print.specs.Printed.{is_answer_among, is_end_among}
use Rattle.orc_rules.specs.Admissions.{IsTurnedAway, without}
use Rattle.orc_rules.specs.Duties.{duty_outcome, outcome_on}
use Rattle.orc_rules.specs.Fits.{first_stale, stale_one}
use Rattle.orc_rules.specs.Hubs.{Hub as HubState}
use Rattle.orc_rules.specs.Verdicts.{first_answer, is_short, lost_answer, refused_by, verdict}
use Rattle.orc_rules.specs.Worlds.{AnswersSubmission, Setting}
use Rattle.orc_rules.specs.Worlds.AnswersSubmission.{again, busy, refuses, reused, wanting}
use Rattle.orc_rules.specs.declared.duty.Duty.{Duty}
use Rattle.orc_rules.specs.declared.transaction.Transaction.{Transaction}
use Rattle.orc_rules.specs.declared.transaction.Waiting.{Waiting}
use Rattle.orc_state.specs.Checks.{Checks}
use Rattle.orc_state.specs.Checks.Checks.{clashes, conflicts, early}
use Rattle.orc_tree.specs.declared.change.ChangeSet.{ChangeSet}
use Rattle.orc_template.specs.Laws.{FaultsAreNamed}
use Rattle.orc_worker.specs.declared.report.Outcome.{Outcome}
use Rattle.orc_worker.specs.declared.report.Outcome.TheVariants as outcome
use Rattle.orc_hub_laws.specs.Named.{AdmissionsAreNamed, DecisionsAreNamed, IsNamedAnswer, MendingEndIsNamed, SubmissionsAreNamed}
use Rattle.orc_hub_laws.proofs.Refusals.{IsAmong, broken_among, clash_among, early_among, first_among, plan_among}

-- where an answer is this one
is_among : (n : ℕ) (o : Option Answer) (given : Answer) → IsAmong n o → o ≡ Some given → IsTrue (is_answer_among n given)
is_among n o given among is = subst (IsAmong n) is among

named_as : (n : ℕ) (a b : Answer) → a ≡ b → IsTrue (is_answer_among n b) → IsTrue (is_answer_among n a)
named_as n a b same named = subst (λ (x : Answer). IsTrue (is_answer_among n x)) (sym same) named

-- a plan that there isn't
unplanned : (o : Option Answer) (made : Plan) (given : Answer) → plan_unless o made ≡ Err given → o ≡ Some given
unplanned None made given is = absurd cc
unplanned (Some said) made given is = ap Some (let same : said ≡ given = cc in same)

submission_named : FaultsAreNamed → (decls : Decls) (hub : HubState) (history : List Call) (call : Call) (front : ℕ) (given : Answer) → AnswersSubmission decls hub history call front given
    → IsTrue (is_answer_among (length decls.names) given)
submission_named named decls hub history call front _ (busy number is) = refl
submission_named named decls hub history call front _ (again number closed entry) = refl
submission_named named decls hub history call front _ (reused number entry closed there same differ) = refl
submission_named named decls hub history call front _ (refuses given closed fresh is) =
    is_among (length decls.names) (plan_refusal decls (state_of decls (take front history)) call) given (plan_among named decls (state_of decls (take front history)) call)
    (unplanned (plan_refusal decls (state_of decls (take front history)) call) _ given is)
submission_named named decls hub history call front _ wanting = refl

-- what a check refuses
check_named : (decls : Decls) (history : List Call) (call : Call) (plan : Plan) (r : Result (List (ℕ × ChangeSet)) Answer) (given : Answer) → Checks decls history call plan r → r ≡ Err given
    → IsTrue (is_answer_among (length decls.names) given)
check_named decls history call plan _ given (early said is) same =
    named_as (length decls.names) given said (let one : given ≡ said = cc in one)
    (is_among (length decls.names) _ said (early_among decls (state_of decls history) call) is)
check_named decls history call plan _ given (conflicts place write none conflict) same =
    named_as (length decls.names) given (answer.Conflict (place + 1) write) (let one : given ≡ answer.Conflict (place + 1) write = cc in one) refl
check_named decls history call plan _ given (clashes said none unread is) same =
    named_as (length decls.names) given said (let one : given ≡ said = cc in one)
    (is_among (length decls.names) _ said (clash_among decls (state_of decls history) call) is)
check_named decls history call plan _ given (Checks.passes unread none stands) same = absurd cc

-- a device that stands in a list of so many
within_lists : {X : Type 0} (n : ℕ) (xs : List X) (device : ℕ) (x : X) → length xs ≡ n → slice_get xs device ≡ Some x → IsTrue (nat_lt device n)
within_lists n xs device x sized there = lt-ltb device n (let less = slice_get_within xs device x there in omega (arith, less, sized))

stale_named : (n : ℕ) (devices : List ℕ) (stale : List (Option Why)) → length stale ≡ n → IsAmong n (first_stale devices stale)
stale_named n [] stale sized = tt
stale_named n (device ∷ devices) stale sized = first_among n (stale_one device stale) (first_stale devices stale) (one (slice_get stale device) refl) (stale_named n devices stale sized)
  where
    one : (o : Option (Option Why)) → slice_get stale device ≡ o → IsAmong n (option_map_or (option_map (λ why. answer.OutOfSync device why)) o None)
    one None there = tt
    one (Some None) there = tt
    one (Some (Some why)) there = within_lists n stale device (Some why) sized there

-- what devices say
device_among : (n : ℕ) (by : ℕ → Option Outcome → Option Answer) → ((device : ℕ) → IsAmong n (by device None))
    → ((device : ℕ) (o : Option Outcome) → device < n → IsAmong n (by device o)) → (duties : List Duty) (t : ℕ) (devices : List ℕ) → length duties ≡ n
    → IsAmong n (first_answer by duties t devices)
device_among n by none each duties t [] sized = tt
device_among n by none each duties t (device ∷ devices) sized =
    first_among n (by device (outcome_on duties t device)) (first_answer by duties t devices) (one (slice_get duties device) refl) (device_among n by none each duties t devices sized)
  where
    one : (o : Option Duty) → slice_get duties device ≡ o → IsAmong n (by device (option_map_or (duty_outcome t) o None))
    one None there = none device
    one (Some on) there = each device (duty_outcome t on) (let less = slice_get_within duties device on there in omega (arith, less, sized))

refused_among : (n device : ℕ) (o : Option Outcome) → device < n → IsAmong n (refused_by device o)
refused_among n device None less = tt
refused_among n device (Some outcome.Prepared) less = tt
refused_among n device (Some (outcome.Refused tag)) less = lt-ltb device n less
refused_among n device (Some (outcome.Lost count)) less = tt
refused_among n device (Some outcome.Short) less = tt
refused_among n device (Some outcome.Confirmed) less = tt
refused_among n device (Some outcome.Gone) less = tt
refused_among n device (Some outcome.Cancelled) less = tt

lost_among : (n device : ℕ) (o : Option Outcome) → device < n → IsAmong n (lost_answer device o)
lost_among n device None less = tt
lost_among n device (Some outcome.Prepared) less = tt
lost_among n device (Some (outcome.Refused tag)) less = tt
lost_among n device (Some (outcome.Lost count)) less = lt-ltb device n less
lost_among n device (Some outcome.Short) less = tt
lost_among n device (Some outcome.Confirmed) less = tt
lost_among n device (Some outcome.Gone) less = tt
lost_among n device (Some outcome.Cancelled) less = tt

verdict_among : (n : ℕ) (duties : List Duty) (t : ℕ) (devices : List ℕ) → length duties ≡ n → IsAmong n (verdict duties t devices)
verdict_among n duties t devices sized = on (list_any (λ device. is_short (outcome_on duties t device)) devices)
  where
    on : (b : Bool) → IsAmong n (cond b (Some answer.Memory) (option_or (first_answer refused_by duties t devices) (first_answer lost_answer duties t devices)))
    on true = refl
    on false =
        first_among n (first_answer refused_by duties t devices) (first_answer lost_answer duties t devices)
        (device_among n refused_by (λ device. tt) (refused_among n) duties t devices sized) (device_among n lost_answer (λ device. tt) (lost_among n) duties t devices sized)

module _ {D : Type 0} (disk : DiskMeaning D) where
  pub submissions_named : FaultsAreNamed → SubmissionsAreNamed disk
  submissions_named named old new call front plan given so = ⊎_elim
      (λ down. ⊎_elim (λ same. named_as (length old.decls.names) given answer.Down same refl) (λ memory. named_as (length old.decls.names) given answer.Memory memory.0 refl) down.1)
      (λ up. submission_named named old.decls (record_of old) old.state.history call front given up.1) so

  turned_named : (old : Hub D) (entries : List Entry) (it : Waiting) (place : ℕ) (given : Answer) → IsHub disk old entries
      → IsTurnedAway old.decls old.state.history (record_of (record old { waiting = without place old.waiting })) it given → IsNamedAnswer old.decls given
  turned_named old entries it place given own cause = ⊎_elim
      (λ memory. named_as (length old.decls.names) given answer.Memory memory refl)
      (λ rest. ⊎_elim (λ checked. check_named old.decls old.state.history it.call it.plan _ given checked refl)
      (λ stale. is_among (length old.decls.names) (first_stale it.plan.held.devices old.stale) given (stale_named (length old.decls.names) it.plan.held.devices old.stale own.stale) stale.2) rest) cause

  pub admissions_named : AdmissionsAreNamed disk
  admissions_named old new entries caller number given own so = ⊎_elim
      (λ none. absurd (let no : admit.Answered caller number given ≡ admit.Nothing = none.1 in cc))
      (λ one. ⊎_elim
      (λ turned. named_as (length old.decls.names) given turned.given turned.turned.1 (turned_named old entries one.1 one.0 turned.given own turned.cause))
      (λ begun. ⊎_elim (λ memory. named_as (length old.decls.names) given answer.Memory memory.0 refl) (λ failed. named_as (length old.decls.names) given answer.JournalFault failed.0 refl) begun.written.1)
      one.4) so

  given_up_named : (old : Hub D) (entries : List Entry) (it : Transaction) (given : Answer) → IsHub disk old entries → GivesUpFor disk old it given → IsNamedAnswer old.decls given
  given_up_named old entries it given own cause = ⊎_elim
      (λ said. is_among (length old.decls.names) (verdict old.duties it.t it.plan.held.devices) given (verdict_among (length old.decls.names) old.duties it.t it.plan.held.devices own.duties) said)
      (λ prepared. ⊎_elim (λ memory. named_as (length old.decls.names) given answer.Memory memory refl)
      (λ bad. is_among (length old.decls.names) _ given (broken_among (length old.decls.names) old.decls old.state.datastore it.call) bad) prepared.1) cause

  pub decisions_named : DecisionsAreNamed disk
  decisions_named old new entries caller number given own so = ⊎_elim
      (λ down. absurd (let no : decided.Answered caller number given ≡ decided.Down = down.1 in cc))
      (λ rest. ⊎_elim (λ none. absurd (let no : decided.Answered caller number given ≡ decided.Nothing = none.2 in cc))
      (λ one. ⊎_elim (λ settled. absurd settled.1)
      (λ due. ⊎_elim
      (λ commits. ⊎_elim (λ done. named_as (length old.decls.names) given _ done.0 refl) (λ failed. named_as (length old.decls.names) given answer.JournalFault failed.0 refl) commits.written.1)
      (λ gives. ⊎_elim (λ done. named_as (length old.decls.names) given gives.given done.0 (given_up_named old entries one.1.1 gives.given own gives.cause))
      (λ failed. named_as (length old.decls.names) given answer.JournalFault failed.0 refl) gives.written.1) due.1)
      one.1.4) rest) so

-- the end of a reconciliation

settled_named : {D : Type 0} (disk : DiskMeaning D) (n : ℕ) (old new : Hub D) (result : Result Unit RecFault) (met : RecFault) → SettlesAll disk old result new → result ≡ Err met
    → IsTrue (is_end_among n (Some (Err met)))
settled_named disk n _ _ _ met (none_left hub none) is = absurd cc
settled_named disk n _ _ _ met (one_less old between new result first later rest one all) is = settled_named disk n between new result met all is
settled_named {D = D} disk n _ _ _ met (fails old new met' first later rest one) is =
    subst (λ (m : RecFault). IsTrue (is_end_among n (Some (Err m)))) (let same : met' ≡ met = cc in same) (on met' one)
  where
    on : (m : RecFault) → SettlesOne disk old first.t (Err m) new → IsTrue (is_end_among n (Some (Err m)))
    on fault.DiskFault w = refl
    on (fault.Full len) w = refl
    on fault.Memory w = absurd w
    on (fault.LinkFault device count) w = absurd w
    on (fault.Refused device tag) w = absurd w

pub mending_end_named : {D : Type 0} (here : Setting D) → MendingEndIsNamed here
mending_end_named here world old new result own so =
    subst (λ (d : Decls). IsTrue (is_end_among (length d.names) (Some result))) own.decls (⊎_elim
    (λ met. named_end (Err met.0) met.2 (own.met met.0 met.1))
    (λ rest. ⊎_elim (λ ok. named_end (Ok tt) ok.0 refl)
    (λ bad. named_end (Err bad.0) bad.1 (settled_named (inside here.disk) (length old.decls.names) old bad.2.0 (Err bad.0) bad.0 bad.2.1 refl)) rest.1) so)
  where
    named_end : (r : Result Unit RecFault) → result ≡ r → IsTrue (is_end_among (length old.decls.names) (Some r)) → IsTrue (is_end_among (length old.decls.names) (Some result))
    named_end r is named = subst (λ (x : Result Unit RecFault). IsTrue (is_end_among (length old.decls.names) (Some x))) (sym is) named
