-- How a run begins.
use Rattle.std.proofs.Common.{◌≡◌, ◌⊎◌, inl, inr, ℕ, ◌≤◌, Bool, true, false, List, [], ◌∷◌, ◌++◌, length, IsTrue, refl, sym, ap, subst, ◌∙◌}
use Rattle.std.specs.List.{list_all}
use Rattle.std.specs.Prelude.{MatchOption, ◌↔◌, is_some, if◌then◌else◌}
use Rattle.std.proofs.lemmas.Option.{IfSome_then}
use Rattle.orc_journal.specs.Views.{unstopped}
use Rattle.orc_decls.specs.declared.declarations.Decls.{Decls}
use Rattle.orc_disk.specs.Course.{Counted}
use Rattle.orc_disk.specs.Meanings.{DiskMeaning}
use Rattle.orc_disk.specs.Moments.{LeavesOnly}
use Rattle.orc_disk.specs.Rows.{Course, joined}
use Rattle.orc_disk.specs.Stops.{inside}
use Rattle.orc_hub_laws.specs.Under.{IsWorldOf}
use Rattle.orc_journal.specs.Committed.{history_of}
use Rattle.orc_journal.specs.Opening.{AreEntriesOf, HasOpened}
use Rattle.orc_journal.specs.declared.entry.Entry.{Entry}
use Rattle.orc_print.specs.Printed.{recovered_line}
use Rattle.orc_rules.specs.Journals.{Journal, history_read}
use Rattle.orc_rules.specs.Worlds.{World as Seen}
use Rattle.orc_script.specs.Steps.{is_step}
use Rattle.orc_script.specs.declared.step.ScriptStep.{ScriptStep}
use Rattle.orc_scene.specs.Begins.{HasBegun}
use Rattle.orc_world.specs.Scripts.{TakesAnyLine}
use Rattle.orc_scene.specs.Stands.{IsPlaceSeenAs, IsSeenAs, decls_in, run_setting}
use Rattle.orc_scene.specs.declared.scene.Place.{Place}
use Rattle.orc_scene.specs.declared.scene.Scene.{Scene}
use Rattle.orc_run.specs.Ends.{BeginsOver}
use Rattle.orc_run.specs.Opening.{IsOpened, MayBeOpening}
use Rattle.orc_run.specs.declared.opening.TheConstants.{LARGEST_JOURNAL}
use Rattle.orc_run.specs.inside.Scripts.{Greets, HasDoneOver, IsFirst}
use Rattle.orc_run.proofs.Reasons.{led_later, told}

module _ {D : Type 0} (disk : DiskMeaning D) where
  -- nothing was done yet
  pub none_done : (decls : Decls) (first : Seen D) (world : Scene D) → IsFirst disk decls first world → HasDoneOver disk decls first [] [] world
  none_done decls first world is = record {
    lines = [];
    seen = first;
    are = refl;
    steps_are = refl;
    texts_are = refl;
    is = is.is;
    unmended = is.unmended;
    noted = is.noted;
    logs = λ earlier later line device split log. absurd (nothing earlier later line split);
  }
    where
      nothing : {A : Type 0} (earlier later : List A) (one : A) → [] ≡ earlier ++ one ∷ later → ⊥
      nothing [] later one is = cc
      nothing (x ∷ xs) later one is = cc

  -- a world that has begun
  pub is_first : (decls : Decls) (from : D) (world : Scene D) (begun : HasBegun disk decls from LARGEST_JOURNAL world) → IsFirst disk decls begun.seen world
  is_first decls from world begun = record {
    starts = begun.starts;
    is = begun.is false;
    limit_is = begun.limit_is;
    unmended = begun.unmended;
    noted = begun.noted;
  }

  pub takes_any : (decls : Decls) (from : D) (world : Scene D) → HasBegun disk decls from LARGEST_JOURNAL world → TakesAnyLine disk world
  takes_any decls from world begun = (
    decls,
    begun.seen,
    subst (λ (n : ℕ). IsSeenAs (run_setting disk decls n false) begun.seen world) (sym begun.limit_is) (begun.is false),
    begun.unmended,
  )

  -- a world that began allows the lines that its declarations allow
  pub allowed_then : (decls : Decls) (from : D) (world : Scene D) → HasBegun disk decls from LARGEST_JOURNAL world → (steps : List ScriptStep)
      → IsTrue (list_all (is_step decls) steps) → MatchOption (decls_in world.place) ⊥ (λ decls. IsTrue (list_all (is_step decls) steps))
  allowed_then decls from world begun steps lawful =
      subst (λ (p : Place D). MatchOption (decls_in p) ⊥ (λ decls. IsTrue (list_all (is_step decls) steps))) (sym begun.place)
      (subst (λ (d : Decls). IsTrue (list_all (is_step d) steps)) (sym begun.started.started.decls_are) lawful)

  -- what the rules see of it is its hub
  under_hub : (decls : Decls) (from : D) (world : Scene D) (begun : HasBegun disk decls from LARGEST_JOURNAL world)
      → IsWorldOf (run_setting disk decls LARGEST_JOURNAL false) begun.seen begun.hub
  under_hub decls from world begun =
      subst (λ (p : Place D). IsPlaceSeenAs (run_setting disk decls LARGEST_JOURNAL false) begun.seen p) begun.place (begun.is false).place

  module _ (goes_on : (first second : Course) (a b c : D) → disk.leads first a b → disk.leads second b c → disk.leads (joined first second) a c)
      (counts : (course : Course) (a b : D) → disk.leads course a b → Counted course.failed (disk.faults a) (disk.faults b)) where
    module _ (decls : Decls) (from : D) (world : Scene D) (begun : HasBegun disk decls from LARGEST_JOURNAL world) where
      own : HasOpened (inside disk) decls.text LARGEST_JOURNAL (unstopped from) begun.started.journal begun.started.entries
      own = begun.started.opened

      -- the disk that was left
      disk_is : begun.started.journal.disk.inner ≡ begun.seen.journal.disk
      disk_is =
          ap (λ j. j.disk.inner) (sym begun.started.started.journal_is)
          ∙ sym (ap (λ (j : Journal D). j.disk) (under_hub decls from world begun).journal)

      -- the history that was read
      history_is : history_of begun.seen.journal.synced ≡ history_read begun.seen.journal
      history_is = sym (ap (λ (j : Journal D). history_read j) (under_hub decls from world begun).journal)

      -- the bytes that the disk gave, where these are its entries
      pub record Given (entries : List Entry) : Type 0 where
        pub opened : IsOpened disk decls from entries begun.seen.journal.disk
        pub file_is : begun.starts.file ≡ opened.opened.file
        pub fresh : (begun.hub.log.journal.fresh ≡ true) ↔ (opened.opened.file ≡ [])

      pub given : Given begun.seen.journal.synced
      unfolding own
      given = subst (λ (l : List Entry). Given l) (sym begun.entries_are) (record {
        opened = record { journal = begun.started.journal; disk_is = disk_is; opened = own };
        file_is = begun.file_is;
        fresh = subst (λ j. (j.fresh ≡ true) ↔ (own.file ≡ [])) (sym begun.started.started.journal_is) own.fresh;
      })

      -- how many calls there are
      count_is : length begun.hub.state.history ≡ length (history_read begun.seen.journal)
      count_is = ap length (sym (under_hub decls from world begun).sound.history ∙ history_is)

      -- what is printed
      greets : (text : List ℕ) → Greets world.place text → (file : List ℕ) → (begun.hub.log.journal.fresh ≡ true) ↔ (file ≡ [])
          → ((file ≡ []) × (text ≡ [])) ⊎ ((file ≡ [] → ⊥) × (text ≡ recovered_line (length (history_read begun.seen.journal))))
      greets text said file fresh = on begun.hub.log.journal.fresh refl
          (subst (λ (p : Place D). Greets p text) begun.place said)
        where
          on : (b : Bool) → begun.hub.log.journal.fresh ≡ b → text ≡ (if b then [] else recovered_line (length begun.hub.state.history))
              → ((file ≡ []) × (text ≡ [])) ⊎ ((file ≡ [] → ⊥) × (text ≡ recovered_line (length (history_read begun.seen.journal))))
          on true is printed = inl (fresh.0 is, printed)
          on false is printed = inr (
            (λ empty. let both : true ≡ false = sym (fresh.1 empty) ∙ is in cc),
            printed ∙ ap (λ (n : ℕ). recovered_line n) count_is,
          )

      pub opening_over : LeavesOnly disk from begun.seen.journal.disk (MayBeOpening disk decls from)
      opening_over = subst (λ (d : D). LeavesOnly disk from d (MayBeOpening disk decls from)) disk_is
          (record { later = own.leaves.any_moment.later; each = own.leaves.any_moment.each; earlier_rows = own.leaves.any_moment.earlier_rows })

      pub begins_over : (text : List ℕ) → Greets world.place text → BeginsOver disk decls from begun.seen text
      begins_over text said = record {
        starts = begun.starts;
        opened = given.opened;
        file_is = given.file_is;
        history = IfSome_then (disk.content from) (told disk from own.synced begun.started.journal.disk own.file own.looked own.heard)
            (λ held same. record {
              entries = begun.seen.journal.synced;
              are = subst (λ (l : List Entry). AreEntriesOf held decls.text l) (sym begun.entries_are)
                  (subst (λ (f : List ℕ). AreEntriesOf f decls.text begun.started.entries) same own.read);
              ordered = begun.starts.ordered;
              decided = history_is;
            });
        greeting_is = greets text said given.opened.opened.file given.fresh;
        opening = opening_over;
        still_tells = subst (λ (d : D). is_some (disk.content d) ≡ is_some (disk.content from)) disk_is own.leaves.still_tells;
        later = subst (λ (d : D). disk.faults from ≤ disk.faults d) disk_is (led_later disk goes_on counts _ from begun.started.journal.disk own.course);
      }
