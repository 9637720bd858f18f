-- A call that is refused leaves the history as it was.
use Rattle.std.proofs.Common.{◌≡◌, ◌≢◌, ℕ, ◌+◌, Option, Some, None, List, ◌++◌, refl, sym, ap, subst, ◌∙◌, append-nil}
use Rattle.std.specs.Prelude.{length}
use Rattle.std.proofs.lemmas.Option.{same_Some}
use Rattle.orc_journal.specs.declared.outcome.Appended.TheVariants as appended
use Rattle.orc_call.specs.declared.answer.Answer.{Answer}
use Rattle.orc_call.specs.declared.answer.Answer.TheVariants as answer
use Rattle.orc_call.specs.declared.call.Call.{Call}
use Rattle.orc_journal.specs.Committed.{history_of}
use Rattle.orc_journal.specs.declared.entry.Entry.{Entry}
use Rattle.orc_journal.specs.declared.entry.Entry.TheVariants as entry
use Rattle.orc_rules.specs.Events.{DoesUnderHub, DoesAnyway, Steps, Turn, seen_failing}
use Rattle.orc_rules.specs.Hubs.{Hub}
use Rattle.orc_rules.specs.Journals.{AppendsRow, Journal, entries_read, history_read}
use Rattle.orc_rules.specs.Worlds.{Setting, World}
use Rattle.orc_rules.specs.declared.event.Event.{Event}
use Rattle.orc_rules.specs.declared.event.Event.TheVariants as event
use Rattle.orc_rules.proofs.Fronts.{history_of-append}
use Rattle.orc_rules.proofs.Turning.{uncut_read}
use Rattle.orc_runs.specs.Headline.{IsAnswered}

module _ {D : Type 0} (here : Setting D) where
  -- the row of an event that answers a refusal commits nothing
  row_unmoved : (world : World D) (hub : Hub) (meant : Event) (row : List Entry) (next : World D) → DoesUnderHub here world hub meant row next
      → (turn : Turn D) (call : Call) (given : Answer) → IsAnswered turn (Some meant) call given → ((number : ℕ) → given ≢ answer.Committed number)
      → history_of (entries_read world.journal ++ row) ≡ history_of (entries_read world.journal)
  row_unmoved world hub meant row next (DoesUnderHub.answers submitted front said asked snap why keeps) turn call given says refused = ap history_of (append-nil (entries_read world.journal))
  row_unmoved world hub meant row next (DoesUnderHub.queues it front snap alike lawful closed apart fresh within made number slot) turn call given says refused =
      absurd (let none : ◌≡◌ {A = Option Answer} None (Some given) = says.1 in cc)
  row_unmoved world hub meant row next (DoesUnderHub.turns_away place it said there first idle why) turn call given says refused = ap history_of (append-nil (entries_read world.journal))
  row_unmoved world hub meant row next (DoesUnderHub.admits place it sets there first idle passes fresh) turn call given says refused =
      absurd (let none : ◌≡◌ {A = Option Answer} None (Some given) = says.1 in cc)
  row_unmoved world hub meant row next (DoesUnderHub.commits place it there least due prepared valid) turn call given says refused =
      absurd (refused (length (history_read world.journal) + 1) (sym says.1))
  row_unmoved world hub meant row next (DoesUnderHub.aborts place it said there least due why) turn call given says refused =
      history_of-append (entries_read world.journal) (entry.Abort it.t) ∙ append-nil (history_of (entries_read world.journal))
  row_unmoved world hub meant row next does turn call given says refused = absurd says

  -- where the disk failed the answer is JournalFault
  pub failing_said : (meant : Event) (turn : Turn D) (call : Call) (given : Answer) → IsAnswered turn (seen_failing meant) call given → given ≡ answer.JournalFault
  failing_said (event.Admit t said) turn call given says = sym (same_Some answer.JournalFault given says.1)
  failing_said (event.Decide t said) turn call given says = sym says.1
  failing_said other turn call given says = absurd says

  -- what a read gives after a row that was appended
  pub read_done : (old new : Journal D) (row : List Entry) → AppendsRow here.disk here.decls.text here.limit old row appended.Done new → entries_read new ≡ entries_read old ++ row
  read_done old new row a =
      uncut_read new a.ends.1 ∙ a.synced ∙ ap (λ (l : List Entry). l ++ a.done) (sym (uncut_read old a.before))
      ∙ ap (λ (l : List Entry). entries_read old ++ l) (sym (a.parts ∙ ap (λ (l : List Entry). a.done ++ l) a.ends.0 ∙ append-nil a.done))

  steps_unmoved : (old new : World D) (meant : Event) (seen : Option Event) → Steps here old meant seen new → (turn : Turn D) (call : Call) (given : Answer)
      → IsAnswered turn seen call given → given ≢ answer.JournalFault → ((number : ℕ) → given ≢ answer.Committed number) → history_read new.journal ≡ history_read old.journal
  steps_unmoved old new meant seen (Steps.done hub row next _ up does appends is) turn call given says sound refused =
      ap history_of (read_done old.journal new.journal row appends) ∙ row_unmoved old hub meant row next does turn call given says refused
  steps_unmoved old new meant seen (Steps.cut hub row next _ up does appends is) turn call given says sound refused = absurd says
  steps_unmoved old new meant seen (Steps.failed hub row next _ up does appends is) turn call given says sound refused = absurd (sound (failing_said meant turn call given says))
  steps_unmoved old new meant seen (Steps.full hub row next len _ up does appends is) turn call given says sound refused = absurd says
  steps_unmoved old new meant seen (Steps.anyway _ (DoesAnyway.ticks seconds)) turn call given says sound refused = refl
  steps_unmoved old new meant seen (Steps.anyway _ (DoesAnyway.restarts device)) turn call given says sound refused = refl
  steps_unmoved old new meant seen (Steps.anyway _ (DoesAnyway.answers_down submitted front down)) turn call given says sound refused = refl
  steps_unmoved old new meant seen (Steps.unopened _ down recover stays is) turn call given says sound refused = absurd says
  steps_unmoved old new meant seen (Steps.recovers _ down recover reopens is) turn call given says sound refused =
      absurd (subst (λ (m : Event). IsAnswered turn (Some m) call given) recover says)

  -- of a turn that came
  pub turn_unmoved : (turn : Turn D) → Steps here turn.before turn.meant turn.seen turn.behind → (call : Call) (given : Answer)
      → IsAnswered turn turn.seen call given → given ≢ answer.JournalFault → ((number : ℕ) → given ≢ answer.Committed number)
      → history_read turn.behind.journal ≡ history_read turn.before.journal
  turn_unmoved turn comes = steps_unmoved turn.before turn.behind turn.meant turn.seen comes turn
