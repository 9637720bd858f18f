-- A call that is acknowledged is the entry of its number, from then on.
use Rattle.std.proofs.Common.{[], ◌≡◌, inl, inr, ℕ, ◌+◌, Bool, true, false, cond, nat_eq, Option, Some, None, List, ◌∷◌, ◌++◌, All, IsTrue, length, Err, refl, sym, ap, subst, ◌∙◌, append-nil, eq-eqb, eqb-true, ne_eqb, zero, suc, arith}
use Rattle.std.specs.Prelude.{IfSome, ◌==◌, slice_get, take}
use Rattle.std.specs.List.{find}
use Rattle.std.specs.Option.{option_map, option_map_or}
use Rattle.std.proofs.lemmas.Option.{same_Some}
use Rattle.std.proofs.lemmas.List.Elements.{All-head, All-tail, All-weaker}
use Rattle.orc_journal.specs.declared.outcome.Appended.TheVariants as appended
use Rattle.orc_call.specs.declared.answer.Answer.{Answer}
use Rattle.orc_call.specs.declared.answer.Answer.TheVariants as answer
use Rattle.orc_call.specs.declared.call.Call.{Call}
use Rattle.orc_datastore.specs.Actions.{data_after}
use Rattle.orc_datastore.specs.Legal.{IsLegal, state_of}
use Rattle.orc_decls.specs.Declarations.{AreDecls}
use Rattle.orc_decls.specs.declared.declarations.Decls.{Decls}
use Rattle.orc_journal.specs.Committed.{as_calls, history_of}
use Rattle.orc_journal.specs.Journals.{IsGated}
use Rattle.orc_journal.specs.Laws.{HasIntent, IsUnnamed, KeepsOrder}
use Rattle.orc_journal.specs.Orders.{is_ordered}
use Rattle.orc_journal.specs.declared.entry.Entry.{Entry}
use Rattle.orc_journal.specs.declared.entry.Entry.TheVariants as entry
use Rattle.orc_plans.specs.Plans.{LegalStands, PlanStands}
use Rattle.orc_rules.specs.Events.{DoesUnderHub, DoesAnyway, IsGivenUpFor, Steps, Turn, seen_failing}
use Rattle.orc_rules.specs.Hubs.{Hub}
use Rattle.orc_rules.specs.Invariant.{IsLawful}
use Rattle.orc_rules.specs.Journals.{AppendsRow, Journal, entries_read, history_read}
use Rattle.orc_rules.specs.Kept.{FitAt, HistoryKept, HubKept, StandsAt, ValidAt}
use Rattle.orc_rules.specs.Network.{Planning}
use Rattle.orc_rules.specs.UnderHub.{DevicesKept, IsOfHub}
use Rattle.orc_rules.specs.Worlds.{AnswersSubmission, IsNumberedEntry, Setting, World, over}
use Rattle.orc_rules.specs.declared.event.Event.{Event}
use Rattle.orc_rules.specs.declared.event.Event.TheVariants as event
use Rattle.orc_rules.specs.declared.transaction.Transaction.{Transaction}
use Rattle.orc_rules.specs.declared.transaction.Waiting.{Waiting}
use Rattle.orc_rules.proofs.Entering.{named_by}
use Rattle.orc_rules.proofs.Fronts.{history_of-append}
use Rattle.orc_rules.proofs.Images.{IsFront, front_trans, read_front}
use Rattle.orc_rules.proofs.Imaging.{LegalFrom}
use Rattle.orc_rules.proofs.Legality.{read_so}
use Rattle.orc_rules.specs.Transactions.{is_preparing}
use Rattle.orc_rules.specs.Verdicts.{are_heard}
use Rattle.orc_rules.proofs.Reporting.{first_so}
use Rattle.orc_rules.proofs.Refusing.{invalid_uncommitted, planned_uncommitted, turned_uncommitted, verdict_uncommitted}
use Rattle.orc_rules.proofs.Tracking.{known_at}
use Rattle.orc_rules.proofs.Turning.{uncut_read}
use Rattle.orc_runs.specs.Headline.{IsAnswered, HoldsEntry}
use Rattle.orc_runs.specs.Runs.{Run, turns_of}
use Rattle.orc_runs.specs.Scripts.{call_on_way, call_under}
use Rattle.orc_script.specs.declared.step.ScriptStep.{ScriptStep}
use Rattle.orc_runs.proofs.Fields.{front_history, if_some}
use Rattle.orc_runs.proofs.InStep.{IsTracked, all_tracked}
use Rattle.orc_runs.proofs.Lasting.{Each}

-- entries of histories

pub entry_more : (history more : List Call) (number : ℕ) (call : Call) → IsNumberedEntry history number call → IsNumberedEntry (history ++ more) number call
entry_more history more number call e = record { index = e.index; counted = e.counted; there = there_more history e.index e.there }
  where
    there_more : (xs : List Call) (i : ℕ) → slice_get xs i ≡ Some call → slice_get (xs ++ more) i ≡ Some call
    there_more [] i h = absurd cc
    there_more (x ∷ xs) zero h = h
    there_more (x ∷ xs) (suc i) h = there_more xs i h

entry_last : (history : List Call) (call : Call) → IsNumberedEntry (history ++ call ∷ []) (length history + 1) call
entry_last history call = record { index = length history; counted = refl; there = at_end history }
  where
    at_end : (xs : List Call) → slice_get (xs ++ call ∷ []) (length xs) ≡ Some call
    at_end [] = refl
    at_end (x ∷ xs) = at_end xs

-- the call of a number

waits_not : (t : ℕ) (xs : List Waiting) → All (λ one. one.t ≡ t → ⊥) xs → find (λ it. it.t == t) xs ≡ None
waits_not t [] none = refl
waits_not t (x ∷ xs) none =
    ap (λ (b : Bool). cond b (Some x) (find (λ it. it.t == t) xs)) (ne_eqb x.t t (All-head (λ one. one.t ≡ t → ⊥) x xs none))
    ∙ waits_not t xs (All-tail (λ one. one.t ≡ t → ⊥) x xs none)

first_of_number : (xs : List Transaction) (place : ℕ) (it : Transaction) → slice_get xs place ≡ Some it
    → ((place' : ℕ) (other : Transaction) → slice_get xs place' ≡ Some other → other.t ≡ it.t → place' ≡ place) → find (λ x. x.t == it.t) xs ≡ Some it
first_of_number [] place it there alone = absurd cc
first_of_number (x ∷ xs) zero it there alone =
    let same : x ≡ it = same_Some x it there in
    ap (λ (b : Bool). cond b (Some x) (find (λ x. x.t == it.t) xs)) (eq-eqb x.t it.t (ap (λ (a : Transaction). a.t) same)) ∙ ap Some same
first_of_number (x ∷ xs) (suc place) it there alone =
    on (nat_eq x.t it.t) refl
    (first_of_number xs place it there (λ place' other there' same. let up : suc place' ≡ suc place = alone (suc place') other there' same in omega arith))
  where
    on : (b : Bool) → nat_eq x.t it.t ≡ b → find (λ x. x.t == it.t) xs ≡ Some it → cond (x.t == it.t) (Some x) (find (λ x. x.t == it.t) xs) ≡ Some it
    on true e rest = absurd (let no_place : zero ≡ suc place = alone zero x refl (eqb-true x.t it.t e) in omega arith)
    on false e rest = ap (λ (b : Bool). cond b (Some x) (find (λ x. x.t == it.t) xs)) e ∙ rest

-- a call that is answered Committed at once is that entry
at_once : (decls : Decls) (hub : Hub) (history : List Call) (call : Call) (front : ℕ) (said : Answer) (number : ℕ) → AnswersSubmission decls hub history call front said
    → said ≡ answer.Committed number → IsNumberedEntry history number call
at_once decls hub history call front said number (AnswersSubmission.busy n open_now) e = absurd cc
at_once decls hub history call front said number (AnswersSubmission.again n closed entered) e =
    let at : n ≡ number = cc in subst (λ (m : ℕ). IsNumberedEntry history m call) at entered
at_once decls hub history call front said number (AnswersSubmission.reused n entry closed entered alike differs) e = absurd cc
at_once decls hub history call front said number (AnswersSubmission.refuses _ closed new_one made) e =
    absurd (planned_uncommitted decls (state_of decls (take front history)) front call number (made ∙ ap Err e))
at_once decls hub history call front said number AnswersSubmission.wanting e = absurd cc

module _ {D : Type 0} (here : Setting D) (are : AreDecls here.decls) (plans : PlanStands) (kinds : (device : ℕ) → IsOfHub (here.kinds device))
    (lawful : (device : ℕ) → IsLawful (here.kinds device) (over here.decls device)) (planning : Planning (over here.decls) (StandsAt here.decls) (FitAt here.decls) (ValidAt here.decls)) where
  abbrev AsTurn : World D → Event → Option Event → World D → Turn D
  AsTurn old meant seen new = record { before = old; meant = meant; seen = seen; behind = new }

  -- the call of a transaction that is decided
  pub call_is : (old : World D) (hub : Hub) (place : ℕ) (it : Transaction) → old.hub ≡ Some hub → slice_get hub.active place ≡ Some it
      → HubKept here.decls (entries_read old.journal) (history_of (entries_read old.journal)) hub.active hub.waiting hub.given → HasIntent (entries_read old.journal) it.t
      → ((place' : ℕ) (other : Transaction) → slice_get hub.active place' ≡ Some other → other.t ≡ it.t → place' ≡ place) → call_under old it.t ≡ Some it.call
  call_is old hub place it up there known intent alone =
      ap (λ (h : Option Hub). option_map_or (λ x. call_on_way x it.t) h None) up
      ∙ ap (λ (w : Option Waiting). option_map_or (λ x. Some x.call) w (option_map (λ x. x.call) (find (λ x. x.t == it.t) hub.active)))
      (waits_not it.t hub.waiting (unused_apart hub.waiting known.unused))
      ∙ ap (option_map (λ (x : Transaction). x.call)) (first_of_number hub.active place it there alone)
    where
      unused_apart : (xs : List Waiting) → All (λ one. IsUnnamed (entries_read old.journal) one.t) xs → All (λ one. one.t ≡ it.t → ⊥) xs
      unused_apart xs all = All-weaker (λ (one : Waiting). IsUnnamed (entries_read old.journal) one.t) (λ (one : Waiting). one.t ≡ it.t → ⊥)
          (λ one none same. named_by it.t one.t (entries_read old.journal) intent none (sym same)) xs all

  -- what is synced after what was done
  synced_done : (old new : Journal D) (row : List Entry) → AppendsRow here.disk here.decls.text here.limit old row appended.Done new → new.synced ≡ entries_read old ++ row
  synced_done old new row a =
      a.synced ∙ ap (λ (l : List Entry). l ++ a.done) (sym (uncut_read old a.before))
      ∙ ap (λ (l : List Entry). entries_read old ++ l) (sym (a.parts ∙ ap (λ (l : List Entry). a.done ++ l) a.ends.0 ∙ append-nil a.done))

  -- an event that is done and says Committed leaves the call as that entry
  does_enter : (old : World D) (hub : Hub) (meant : Event) (row : List Entry) (next new : World D) → HistoryKept here old → DevicesKept here.decls old → old.hub ≡ Some hub
      → DoesUnderHub here old hub meant row next → (call : Call) (number : ℕ) → IsAnswered (AsTurn old meant (Some meant) new) (Some meant) call (answer.Committed number)
      → IsNumberedEntry (history_of (entries_read old.journal ++ row)) number call
  does_enter old hub meant row next new kept own up (DoesUnderHub.answers submitted front said asked snap why keeps) call number says =
      subst (λ (l : List Entry). IsNumberedEntry (history_of l) number call) (sym (append-nil (entries_read old.journal)))
      (subst (λ (c : Call). IsNumberedEntry (history_read old.journal) number c) says.0
      (at_once here.decls hub (history_read old.journal) submitted front said number why (same_Some said (answer.Committed number) says.1)))
  does_enter old hub meant row next new kept own up (DoesUnderHub.queues it front snap alike lawful' closed apart new_one within made numbered slot) call number says = absurd cc
  does_enter old hub meant row next new kept own up (DoesUnderHub.turns_away place it said there first idle why) call number says =
      absurd (turned_uncommitted here.decls (history_read old.journal) hub it said why number (same_Some said (answer.Committed number) says.1))
  does_enter old hub meant row next new kept own up (DoesUnderHub.admits place it sets there first idle passes fresh) call number says = absurd cc
  does_enter old hub meant row next new kept own up (DoesUnderHub.commits place it there least due prepared valid) call number says =
      let known = known_at here are plans kinds lawful planning old hub kept up in
      let under = own.under hub up in
      let preparing = (first_so (is_preparing it.phase) (are_heard hub.duties it.t it.plan.held.devices) due) in
      let open_in = known.0.intents place it there preparing in
      let called : it.call ≡ call = same_Some it.call call
      (sym (call_is old hub place it up there known.0 open_in.undecided.0 (λ place' other there' same. under.numbers place' place other it there' there same)) ∙ says.0) in
      let at : length (history_read old.journal) + 1 ≡ number = (let both : answer.Committed (length (history_read old.journal) + 1) ≡ answer.Committed number = says.1 in cc) in
      let grows : history_of (entries_read old.journal ++ entry.Decide it.t ∷ []) ≡ history_read old.journal ++ it.call ∷ [] =
      history_of-append (entries_read old.journal) (entry.Decide it.t) ∙ ap (λ (o : Option Call). history_read old.journal ++ as_calls o) open_in.call in
      subst (λ (h : List Call). IsNumberedEntry h number call) (sym grows)
      (subst (λ (m : ℕ). IsNumberedEntry (history_read old.journal ++ it.call ∷ []) m call) at
      (subst (λ (c : Call). IsNumberedEntry (history_read old.journal ++ it.call ∷ []) (length (history_read old.journal) + 1) c) called (entry_last (history_read old.journal) it.call)))
  does_enter old hub meant row next new kept own up (DoesUnderHub.aborts place it said there least due why) call number says = absurd (on why)
    where
      on : IsGivenUpFor here old hub it said → ⊥
      on (inl memory) = let no : answer.Memory ≡ answer.Committed number = sym memory ∙ says.1 in cc
      on (inr (inl refused)) = verdict_uncommitted hub.duties it.t it.plan.held.devices number (refused ∙ ap Some says.1)
      on (inr (inr broken)) = invalid_uncommitted here.decls.data_schema (data_after it.call.actions (state_of here.decls (history_read old.journal)).data) number (broken.1 ∙ ap Some says.1)
  does_enter old hub meant row next new kept own up does call number says = absurd says

  -- a failed append says nothing of the kind
  failing_not : (old new : World D) (meant : Event) (seen : Option Event) (call : Call) (number : ℕ)
      → IsAnswered (AsTurn old meant seen new) (seen_failing meant) call (answer.Committed number) → ⊥
  failing_not old new (event.Admit t given) seen call number says = let no : ◌≡◌ {A = Option Answer} (Some answer.JournalFault) (Some (answer.Committed number)) = says.1 in cc
  failing_not old new (event.Decide t given) seen call number says = let no : answer.JournalFault ≡ answer.Committed number = says.1 in cc
  failing_not old new other seen call number says = says

  pub entered : (old new : World D) (meant : Event) (seen : Option Event) → HistoryKept here old → DevicesKept here.decls old → Steps here old meant seen new
      → (call : Call) (number : ℕ) → IsAnswered (AsTurn old meant seen new) seen call (answer.Committed number) → IsNumberedEntry (history_of new.journal.synced) number call
  entered old new meant seen kept own (Steps.done hub row next _ up does appends is) call number says =
      subst (λ (l : List Entry). IsNumberedEntry (history_of l) number call) (sym (synced_done old.journal new.journal row appends))
      (does_enter old hub meant row next new kept own up does call number says)
  entered old new meant seen kept own (Steps.cut hub row next _ up does appends is) call number says = absurd says
  entered old new meant seen kept own (Steps.failed hub row next _ up does appends is) call number says = absurd (failing_not old new meant (seen_failing meant) call number says)
  entered old new meant seen kept own (Steps.full hub row next len _ up does appends is) call number says = absurd says
  entered old new meant seen kept own (Steps.anyway _ (DoesAnyway.ticks seconds)) call number says = absurd says
  entered old new meant seen kept own (Steps.anyway _ (DoesAnyway.restarts device)) call number says = absurd says
  entered old new meant seen kept own (Steps.anyway _ (DoesAnyway.answers_down submitted front down)) call number says =
      absurd (let no : ◌≡◌ {A = Option Answer} (Some answer.Down) (Some (answer.Committed number)) = says.1 in cc)
  entered old new meant seen kept own (Steps.unopened _ down recover same is) call number says = absurd says
  entered old new meant seen kept own (Steps.recovers _ down recover reopens is) call number says =
      absurd (subst (λ (m : Event). IsAnswered (AsTurn old meant (Some meant) new) (Some m) call (answer.Committed number)) recover says)

  module _ (only_now : (d : D) (c : List ℕ) → here.disk.left_since d (here.disk.moment d) c → here.disk.may_leave d c) (legally : LegalStands) (order : KeepsOrder)
      (script : List ScriptStep) (first last : World D) (run : Run here script first last) (kept : HistoryKept here first) (own : DevicesKept here.decls first) where
    split_at : (P : Turn D → Type 0) (earlier later : List (Turn D)) (turn : Turn D) → Each P (earlier ++ turn ∷ later) → P turn
    split_at P [] later turn each = each.0
    split_at P (x ∷ earlier) later turn each = split_at P earlier later turn each.1

    -- a committed call is the entry of its number at the end, and in what a crash at each later moment leaves
    pub acknowledged : (earlier later : List (Turn D)) (turn : Turn D) (call : Call) (number : ℕ) → turns_of run ≡ earlier ++ turn ∷ later
        → IsAnswered turn turn.seen call (answer.Committed number)
        → IsNumberedEntry (history_read last.journal) number call
        × IfSome (here.disk.content last.journal.disk) (HoldsEntry here.decls number call)
        × ((file : List ℕ) → here.disk.left_since last.journal.disk (here.disk.moment turn.behind.journal.disk) file → HoldsEntry here.decls number call file)
    acknowledged earlier later turn call number parts says =
        let whole = all_tracked here only_now are plans legally order kinds lawful planning script first last run kept own in
        let is = split_at (IsTracked here only_now are plans legally order kinds lawful planning last) earlier later turn
        (subst (λ (l : List (Turn D)). Each (IsTracked here only_now are plans legally order kinds lawful planning last) l) parts whole.each) in
        let e = entered turn.before turn.behind turn.meant turn.seen is.before.0 is.before.1 is.comes call number says in (
          (let longer = front_history turn.behind.journal.synced (entries_read last.journal)
              (front_trans turn.behind.journal.synced last.journal.synced (entries_read last.journal) is.later.synced (read_front here.disk here.decls.text here.limit last.journal)) in
              subst (λ (h : List Call). IsNumberedEntry h number call) (sym longer.1) (entry_more (history_of turn.behind.journal.synced) longer.0 number call e)),
          if_some (here.disk.content last.journal.disk) (λ file. IsGated file here.decls.text (entries_read last.journal)) (HoldsEntry here.decls number call)
              (λ file gated. has e file (entries_read last.journal) gated (read_so here last.journal whole.kept.0.journal)
              (front_trans turn.behind.journal.synced last.journal.synced (entries_read last.journal) is.later.synced (read_front here.disk here.decls.text here.limit last.journal)))
              whole.kept.0.journal.holds.read,
          λ file left.
              let image : LegalFrom here only_now turn.behind.journal.synced file = is.later.images.each file left in
              has e file image.entries image.gated (image.ordered, image.legal) image.front,
        )
      where
        has : IsNumberedEntry (history_of turn.behind.journal.synced) number call → (file : List ℕ) (entries : List Entry) → IsGated file here.decls.text entries
            → IsTrue (is_ordered entries) × IsLegal here.decls (history_of entries) → IsFront turn.behind.journal.synced entries → HoldsEntry here.decls number call file
        has e file entries gated so front =
            let longer = front_history turn.behind.journal.synced entries front in (
              history_of entries,
              record { entries = entries; gated = gated; ordered = so.0; decided = refl; legal = so.1 },
              subst (λ (h : List Call). IsNumberedEntry h number call) (sym longer.1) (entry_more (history_of turn.behind.journal.synced) longer.0 number call e),
            )
