-- Over each event a crash at any moment leaves a journal of a legal history that begins with what was synced before.
use Rattle.std.proofs.Common.{ℕ, Option, List, [], ◌++◌, IsTrue, inl, refl, sym, subst, ◌∙◌, arith, append-nil}
use Rattle.orc_disk.specs.Moments.{LeavesOnly}
use Rattle.orc_journal.specs.Rows.{HasSomeOf}
use Rattle.orc_journal.specs.declared.outcome.Appended.{Appended}
use Rattle.orc_journal.specs.declared.outcome.Appended.TheVariants as appended
use Rattle.orc_journal.specs.Committed.{history_of}
use Rattle.orc_journal.specs.Journals.{IsGated}
use Rattle.orc_journal.specs.Laws.{KeepsOrder}
use Rattle.orc_journal.specs.Orders.{is_ordered}
use Rattle.orc_journal.specs.declared.entry.Entry.{Entry}
use Rattle.orc_plans.specs.Plans.{LegalStands, PlanStands}
use Rattle.orc_decls.specs.Declarations.{AreDecls}
use Rattle.orc_datastore.specs.Legal.{IsLegal}
use Rattle.orc_rules.specs.Events.{DoesAnyway, Steps}
use Rattle.orc_rules.specs.Journals.{AppendsRow, Journal, OutlivesRow}
use Rattle.orc_rules.specs.Kept.{FrontsAre, HistoryKept, JournalKept}
use Rattle.orc_rules.specs.Worlds.{Setting, World}
use Rattle.orc_rules.specs.declared.event.Event.{Event}
use Rattle.orc_rules.proofs.Images.{IsFront, front_of_self, front_trans, joined, read_front, weaker}
use Rattle.orc_rules.proofs.Turning.{under}

module _ {D : Type 0} (here : Setting D)
    (only_now : (d : D) (c : List ℕ) → here.disk.left_since d (here.disk.moment d) c → here.disk.may_leave d c) where
  -- the file is the journal of a legal history, and begins with these entries
  pub record LegalFrom (synced : List Entry) (file : List ℕ) : Type 0 where
    pub entries : List Entry
    pub gated : IsGated file here.decls.text entries
    pub front : IsFront synced entries
    pub ordered : IsTrue (is_ordered entries)
    pub legal : IsLegal here.decls (history_of entries)

  -- From one journal to a later one no synced entry is lost, and a crash at each moment leaves such a file.
  pub record LastsLegal (old new : Journal D) : Type 0 where
    pub synced : IsFront old.synced new.synced
    pub images : LeavesOnly here.disk old.disk new.disk (LegalFrom old.synced)

  from_some : (synced row : List Entry) (file : List ℕ) → FrontsAre here.decls synced row → HasSomeOf here.decls.text synced row file → LegalFrom synced file
  from_some synced row file fronts h =
      let own = fronts h.front h.rest h.parts in
      record { entries = synced ++ h.front; gated = h.gated; front = (h.front, refl); ordered = own.0; legal = own.1 }

  less : (a b : List Entry) (file : List ℕ) → IsFront a b → LegalFrom b file → LegalFrom a file
  less a b file f h = record { entries = h.entries; gated = h.gated; front = front_trans a b h.entries f h.front; ordered = h.ordered; legal = h.legal }

  pub lasts_then : (a b c : Journal D) → LastsLegal a b → LastsLegal b c → LastsLegal a c
  lasts_then a b c f g = record {
    synced = front_trans a.synced b.synced c.synced f.synced g.synced;
    images = joined here.disk a.disk b.disk c.disk (LegalFrom a.synced) f.images
        (weaker here.disk b.disk c.disk (LegalFrom b.synced) (LegalFrom a.synced) (λ file. less a.synced b.synced file f.synced) g.images);
  }

  -- nothing is done
  pub stays : (journal : Journal D) → JournalKept here journal → LastsLegal journal journal
  stays journal kept = record {
    synced = front_of_self journal.synced;
    images = record {
      later = omega arith;
      each = λ c left. from_some journal.synced journal.cut c kept.fronts (kept.holds.crash c (only_now journal.disk c left));
      earlier_rows = λ t c le left. inl left;
    };
  }

  outlives_so : (old new : Journal D) (row : List Entry) → FrontsAre here.decls old.synced (old.cut ++ row) → OutlivesRow here.disk here.decls.text here.limit old row new
      → LeavesOnly here.disk old.disk new.disk (LegalFrom old.synced)
  outlives_so old new row fronts o =
      weaker here.disk old.disk new.disk (HasSomeOf here.decls.text old.synced (old.cut ++ row)) (LegalFrom old.synced) (λ file. from_some old.synced (old.cut ++ row) file fronts) o.each_moment

  appended_so : (old new : Journal D) (row : List Entry) (out : Appended) → FrontsAre here.decls old.synced row → AppendsRow here.disk here.decls.text here.limit old row out new → LastsLegal old new
  appended_so old new row out fronts a = record {
    synced = (a.done, a.synced);
    images = outlives_so old new row (subst (λ (l : List Entry). FrontsAre here.decls old.synced (l ++ row)) (sym a.before) fronts) a.outlives;
  }

  nothing_more : (journal : Journal D) → JournalKept here journal → FrontsAre here.decls journal.synced (journal.cut ++ [])
  nothing_more journal kept = subst (λ (l : List Entry). FrontsAre here.decls journal.synced l) (sym (append-nil journal.cut)) kept.fronts

  module _ (are : AreDecls here.decls) (plans : PlanStands) (legally : LegalStands) (order : KeepsOrder) where
    pub steps_last : (old new : World D) (meant : Event) (seen : Option Event) → HistoryKept here old → Steps here old meant seen new → LastsLegal old.journal new.journal
    steps_last old new meant seen kept (Steps.done hub row next _ up does appends is) =
        appended_so old.journal new.journal row appended.Done (under here are plans legally order old next hub meant row kept up does).0 appends
    steps_last old new meant seen kept (Steps.cut hub row next _ up does appends is) =
        appended_so old.journal new.journal row appended.Stopped (under here are plans legally order old next hub meant row kept up does).0 appends
    steps_last old new meant seen kept (Steps.failed hub row next _ up does appends is) =
        appended_so old.journal new.journal row appended.Failed (under here are plans legally order old next hub meant row kept up does).0 appends
    steps_last old new meant seen kept (Steps.full hub row next len _ up does appends is) =
        appended_so old.journal new.journal row (appended.Full len) (under here are plans legally order old next hub meant row kept up does).0 appends
    steps_last old new meant seen kept (Steps.anyway _ (DoesAnyway.ticks seconds)) = stays old.journal kept.journal
    steps_last old new meant seen kept (Steps.anyway _ (DoesAnyway.restarts device)) = stays old.journal kept.journal
    steps_last old new meant seen kept (Steps.anyway _ (DoesAnyway.answers_down call front down)) = stays old.journal kept.journal
    steps_last old new meant seen kept (Steps.unopened _ down recover same is) = record {
      synced = ([], same.synced ∙ sym (append-nil old.journal.synced));
      images = outlives_so old.journal new.journal [] (nothing_more old.journal kept.journal) same.outlives;
    }
    steps_last old new meant seen kept (Steps.recovers _ down recover reopens is) = record {
      synced = subst (λ (l : List Entry). IsFront old.journal.synced l) (sym (reopens.synced kept.journal.read_back)) (read_front here.disk here.decls.text here.limit old.journal);
      images = outlives_so old.journal new.journal [] (nothing_more old.journal kept.journal) reopens.outlives;
    }
