-- Fields of the claim that are proved: one legal history, as it is read and whenever it crashes.
use Rattle.std.proofs.Common.{[], ◌≡◌, Contains, ℕ, Option, Some, None, List, ◌∷◌, ◌++◌, IsTrue, refl, sym, ap, subst, ◌∙◌, append-nil, append_assoc}
use Rattle.std.specs.Prelude.{IfSome}
use Rattle.std.specs.Option.{option_map_or}
use Rattle.orc_rules.specs.Hubs.{Hub}
use Rattle.orc_rules.specs.Events.{Steps, Turn}
use Rattle.orc_rules.specs.declared.event.Event.{Event}
use Rattle.orc_runs.specs.Scripts.{set_by}
use Rattle.orc_call.specs.declared.call.Call.{Call}
use Rattle.orc_journal.specs.Committed.{commits, history_from, history_of}
use Rattle.orc_journal.proofs.Unique.{gated_is_journal}
use Rattle.orc_journal.specs.Journals.{IsGated, IsJournal}
use Rattle.orc_journal.specs.Laws.{HasOneVerdict, KeepsOrder, Verdict}
use Rattle.orc_decls.specs.declared.declarations.Decls.{Decls}
use Rattle.orc_journal.specs.declared.entry.Entry.{Entry}
use Rattle.orc_plans.specs.Plans.{LegalStands, PlanStands}
use Rattle.orc_decls.specs.Declarations.{AreDecls}
use Rattle.orc_datastore.specs.Legal.{IsLegal}
use Rattle.orc_journal.specs.Orders.{is_ordered}
use Rattle.orc_rules.specs.Journals.{entries_read, history_read}
use Rattle.orc_rules.specs.Kept.{HistoryKept}
use Rattle.orc_rules.specs.Worlds.{Setting, World}
use Rattle.orc_rules.proofs.Images.{IsFront, front_trans, read_front}
use Rattle.orc_rules.proofs.Imaging.{LastsLegal, LegalFrom, lasts_then, stays, steps_last}
use Rattle.orc_rules.proofs.Legality.{read_so}
use Rattle.orc_rules.proofs.Turning.{uncut_read}
use Rattle.orc_runs.specs.Headline.{BeginsHistory, HoldsHistoryFrom, IsLegalJournal, IsOpenable}
use Rattle.orc_runs.specs.Runs.{Run, turns_of}
use Rattle.orc_script.specs.declared.step.ScriptStep.{ScriptStep}
use Rattle.orc_script.specs.declared.step.ScriptStep.TheVariants as step
use Rattle.orc_runs.proofs.Lasting.{IsKept, Survives, each_in, run_survives}

history_from-join : (before xs ys : List Entry) → history_from before (xs ++ ys) ≡ history_from before xs ++ history_from (before ++ xs) ys
history_from-join before [] ys = ap (λ (l : List Entry). history_from l ys) (sym (append-nil before))
history_from-join before (x ∷ xs) ys =
    ap (λ (l : List Call). commits before x ++ l) (history_from-join (before ++ x ∷ []) xs ys)
    ∙ sym (append_assoc (commits before x) (history_from (before ++ x ∷ []) xs) (history_from ((before ++ x ∷ []) ++ xs) ys))
    ∙ ap (λ (l : List Entry). (commits before x ++ history_from (before ++ x ∷ []) xs) ++ history_from l ys) (append_assoc before (x ∷ []) xs)

-- entries that are a prefix of others give a prefix of their history
pub front_history : (a b : List Entry) → IsFront a b → BeginsHistory (history_of a) (history_of b)
front_history a b f = (history_from a f.0, ap history_of f.1 ∙ history_from-join [] a f.0)

pub if_some : {X : Type 0} (o : Option X) (P Q : X → Type 0) → ((x : X) → P x → Q x) → IfSome o P → IfSome o Q
if_some None P Q f h = h
if_some (Some x) P Q f h = f x h

-- a journal of these entries, in order, keeps nothing from being opened
pub openable : HasOneVerdict → (decls : Decls) (file : List ℕ) (entries : List Entry) → IsGated file decls.text entries → IsTrue (is_ordered entries) → IsOpenable decls file
openable one decls file entries gated ordered = record {
  journal = λ h. let same : Verdict.a_journal entries ≡ Verdict.not_a_journal = one file decls.text (Verdict.a_journal entries) Verdict.not_a_journal own h in cc;
  own = λ place h. let same : Verdict.a_journal entries ≡ Verdict.foreign place = one file decls.text (Verdict.a_journal entries) (Verdict.foreign place) own h in cc;
  undamaged = λ place h. let same : Verdict.a_journal entries ≡ Verdict.damaged place = one file decls.text (Verdict.a_journal entries) (Verdict.damaged place) own h in cc;
}
  where
    own : IsJournal file decls.text entries × IsTrue (is_ordered entries)
    own = (gated_is_journal file decls.text entries gated, ordered)

-- The journal.
module _ {D : Type 0} (here : Setting D)
    (only_now : (d : D) (c : List ℕ) → here.disk.left_since d (here.disk.moment d) c → here.disk.may_leave d c)
    (are : AreDecls here.decls) (plans : PlanStands) (legally : LegalStands) (order : KeepsOrder)
    (script : List ScriptStep) (first last : World D) (run : Run here script first last) (kept : HistoryKept here first) (uncut : first.journal.cut ≡ []) where
  -- nothing synced is lost since the run began
  abbrev FromFirst : World D → Type 0
  FromFirst world = LastsLegal here only_now first.journal world.journal

  from_steps : (old new : World D) (meant : Event) (seen : Option Event) → HistoryKept here old → FromFirst old → Steps here old meant seen new → FromFirst new
  from_steps old new meant seen own so steps =
      lasts_then here only_now first.journal old.journal new.journal so (steps_last here only_now are plans legally order old new meant seen own steps)

  from_set : (at : ScriptStep) (world : World D) → FromFirst world → FromFirst (set_by at world)
  from_set (step.StopAt count bytes) world so = on world.hub where
    on : (hub : Option Hub) → FromFirst (option_map_or (λ h. record world { journal = record world.journal { armed = count; bytes = bytes } }) hub world)
    on None = so
    on (Some hub) = record { synced = so.synced; images = so.images }
  from_set (step.Fault device op at) world so = so
  from_set other world so = so

  survives : Survives here only_now are plans legally order FromFirst from_steps from_set first.journal (turns_of run) last
  survives = run_survives here only_now are plans legally order FromFirst from_steps from_set script first last run (kept, stays here only_now first.journal kept.journal)

  at_entry : history_of first.journal.synced ≡ history_read first.journal
  at_entry = ap history_of (sym (uncut_read first.journal uncut))

  -- as a read gives it
  abbrev HoldsNow : World D → Type 0
  HoldsNow world = BeginsHistory (history_read first.journal) (history_read world.journal)
      × IfSome (here.disk.content world.journal.disk) (λ file. IsLegalJournal here.decls file (history_read world.journal))

  holds_now : (world : World D) → HistoryKept here world → FromFirst world → HoldsNow world
  holds_now world own so = (
    subst (λ (h : List Call). BeginsHistory h (history_read world.journal)) at_entry
        (front_history first.journal.synced (entries_read world.journal)
        (front_trans first.journal.synced world.journal.synced (entries_read world.journal) so.synced (read_front here.disk here.decls.text here.limit world.journal))),
    if_some (here.disk.content world.journal.disk) (λ file. IsGated file here.decls.text (entries_read world.journal)) (λ file. IsLegalJournal here.decls file (history_read world.journal))
        (λ file gated. record { entries = entries_read world.journal; gated = gated; ordered = legal.0; decided = refl; legal = legal.1 }) own.journal.holds.read,
  )
    where
      legal : IsTrue (is_ordered (entries_read world.journal)) × IsLegal here.decls (history_of (entries_read world.journal))
      legal = read_so here world.journal own.journal

  behind : (turn : Turn D) → Contains (turns_of run) turn → HistoryKept here turn.behind × FromFirst turn.behind
  behind turn among = (each_in (IsKept here only_now are plans legally order FromFirst from_steps from_set last) (turns_of run) turn survives.each among).behind

  pub one_history : HoldsNow last
  one_history = holds_now last survives.kept.0 survives.kept.1

  pub whenever_it_is_read : (turn : Turn D) → Contains (turns_of run) turn → HoldsNow turn.behind
  whenever_it_is_read turn among = let own = behind turn among in holds_now turn.behind own.0 own.1

  pub whenever_it_crashes : (file : List ℕ) → here.disk.left_since last.journal.disk (here.disk.moment first.journal.disk) file
      → HoldsHistoryFrom here.decls (history_read first.journal) file
  whenever_it_crashes file left =
      let image : LegalFrom here only_now first.journal.synced file = survives.whole.images.each file left in
      subst (λ (h : List Call). HoldsHistoryFrom here.decls h file) at_entry (
        history_of image.entries,
        record { entries = image.entries; gated = image.gated; ordered = image.ordered; decided = refl; legal = image.legal },
        front_history first.journal.synced image.entries image.front,
      )

  pub opens_again : HasOneVerdict → (turn : Turn D) → Contains (turns_of run) turn → IfSome (here.disk.content turn.behind.journal.disk) (IsOpenable here.decls)
  opens_again one turn among =
      let own = (behind turn among).0 in
      if_some (here.disk.content turn.behind.journal.disk) (λ file. IsGated file here.decls.text (entries_read turn.behind.journal)) (IsOpenable here.decls)
      (λ file gated. openable one here.decls file (entries_read turn.behind.journal) gated (read_so here turn.behind.journal own.journal).0) own.journal.holds.read
