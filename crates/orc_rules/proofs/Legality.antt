-- Whatever is appended, the journal stays one of a legal history, also where the append is cut; and the hub knows it.
use Rattle.std.proofs.Common.{◌≡◌, ◌*◌, Bool, true, false, cond, List, [], ◌∷◌, ◌++◌, length, IsTrue, is_some, inl, inr, refl, sym, ap, subst, ◌∙◌, append-nil, append_assoc}
use Rattle.orc_journal.specs.declared.outcome.Appended.{Appended}
use Rattle.orc_journal.specs.declared.outcome.Appended.TheVariants as appended
use Rattle.orc_call.specs.declared.call.Call.{Call}
use Rattle.orc_journal.specs.Committed.{commits, history_of}
use Rattle.orc_journal.specs.Orders.{is_ordered}
use Rattle.orc_journal.specs.declared.entry.Entry.{Entry}
use Rattle.orc_datastore.specs.Legal.{IsLegal}
use Rattle.orc_decls.specs.declared.declarations.Decls.{Decls}
use Rattle.orc_rules.specs.Journals.{AppendsRow, CutsFirst, Ends, IsReadBack, Journal, Reopens, StaysClosed, entries_read}
use Rattle.orc_rules.specs.Kept.{FrontsAre, JournalKept}
use Rattle.orc_rules.specs.Worlds.{Setting}
use Rattle.orc_rules.proofs.Fronts.{history_of-append}

-- the history of entries with one more that commits nothing
pub same_history : (entries : List Entry) (e : Entry) → commits entries e ≡ [] → history_of (entries ++ e ∷ []) ≡ history_of entries
same_history entries e none = history_of-append entries e ∙ ap (λ (l : List Call). history_of entries ++ l) none ∙ append-nil (history_of entries)

-- of a row of one
pub one_front : (decls : Decls) (entries : List Entry) (e : Entry) → IsTrue (is_ordered entries) → IsLegal decls (history_of entries)
    → IsTrue (is_ordered (entries ++ e ∷ [])) → IsLegal decls (history_of (entries ++ e ∷ [])) → FrontsAre decls entries (e ∷ [])
one_front decls entries e ordered legal ordered' legal' [] rest is =
    subst (λ (l : List Entry). IsTrue (is_ordered l) × IsLegal decls (history_of l)) (sym (append-nil entries)) (ordered, legal)
one_front decls entries e ordered legal ordered' legal' (x ∷ []) rest is =
    let same : e ≡ x = cc in subst (λ (y : Entry). IsTrue (is_ordered (entries ++ y ∷ [])) × IsLegal decls (history_of (entries ++ y ∷ []))) same (ordered', legal')
one_front decls entries e ordered legal ordered' legal' (x ∷ y ∷ done) rest is = absurd cc

pub no_front : (decls : Decls) (entries : List Entry) → IsTrue (is_ordered entries) → IsLegal decls (history_of entries) → FrontsAre decls entries []
no_front decls entries ordered legal [] rest is =
    subst (λ (l : List Entry). IsTrue (is_ordered l) × IsLegal decls (history_of l)) (sym (append-nil entries)) (ordered, legal)
no_front decls entries ordered legal (x ∷ done) rest is = absurd cc

-- with nothing more
pub front_none : (decls : Decls) (entries row : List Entry) → FrontsAre decls entries row → IsTrue (is_ordered entries) × IsLegal decls (history_of entries)
front_none decls entries row fronts =
    subst (λ (l : List Entry). IsTrue (is_ordered l) × IsLegal decls (history_of l)) (append-nil entries) (fronts [] row refl)

-- and with all
pub front_all : (decls : Decls) (entries row : List Entry) → FrontsAre decls entries row → IsTrue (is_ordered (entries ++ row)) × IsLegal decls (history_of (entries ++ row))
front_all decls entries row fronts = fronts row [] (sym (append-nil row))

-- after a prefix of a row, of the first of the rest
next_front : (decls : Decls) (entries row done : List Entry) (e : Entry) (rest : List Entry) → row ≡ done ++ e ∷ rest → FrontsAre decls entries row → FrontsAre decls (entries ++ done) (e ∷ [])
next_front decls entries row done e rest parts fronts =
    let own = fronts done (e ∷ rest) parts in
    let more = fronts (done ++ e ∷ []) rest (parts ∙ sym (append_assoc done (e ∷ []) rest)) in
    let more' = subst (λ (l : List Entry). IsTrue (is_ordered l) × IsLegal decls (history_of l)) (sym (append_assoc entries done (e ∷ []))) more in
    one_front decls (entries ++ done) e own.0 own.1 more'.0 more'.1

module _ {D : Type 0} (here : Setting D) where
  -- a disk that reports what it holds goes on to
  still_read_back : (old new : D) → is_some (here.disk.content new) ≡ is_some (here.disk.content old)
      → IsReadBack here.disk here.decls.text here.limit here.granted old → IsReadBack here.disk here.decls.text here.limit here.granted new
  still_read_back old new tells (inl granted) = inl granted
  still_read_back old new tells (inr told) = inr (tells ∙ told)

  -- however an append of a row comes out
  pub appends_kept : (old new : Journal D) (row : List Entry) (out : Appended) → JournalKept here old → FrontsAre here.decls old.synced row
      → AppendsRow here.disk here.decls.text here.limit old row out new → JournalKept here new
  appends_kept old new row out kept fronts a = record { holds = a.outlives.holds; fronts = on out a.ends; read_back = still_read_back old.disk new.disk a.outlives.tells kept.read_back }
    where
      done_so : FrontsAre here.decls (old.synced ++ a.done) []
      done_so = let own = fronts a.done a.rest a.parts in no_front here.decls (old.synced ++ a.done) own.0 own.1

      uncut : new.cut ≡ [] → FrontsAre here.decls new.synced new.cut
      uncut none = subst (λ (l : List Entry). FrontsAre here.decls l new.cut) (sym a.synced) (subst (λ (l : List Entry). FrontsAre here.decls (old.synced ++ a.done) l) (sym none) done_so)

      first_cut : CutsFirst a.rest new → FrontsAre here.decls new.synced new.cut
      first_cut c = subst (λ (l : List Entry). FrontsAre here.decls l new.cut) (sym a.synced) (subst (λ (l : List Entry). FrontsAre here.decls (old.synced ++ a.done) l) (sym c.3)
          (next_front here.decls old.synced row a.done c.0 c.1 (a.parts ∙ ap (λ (l : List Entry). a.done ++ l) c.2) fronts))

      same : new ≡ old → FrontsAre here.decls new.synced new.cut
      same is = subst (λ (j : Journal D). FrontsAre here.decls j.synced j.cut) (sym is) kept.fronts

      on : (o : Appended) → Ends here.disk here.decls.text here.limit (4 * length a.done) a.rest old o new → FrontsAre here.decls new.synced new.cut
      on appended.Done ends = uncut ends.1
      on appended.Stopped ends = first_cut ends.0
      on appended.Failed ends = first_cut ends.0
      on (appended.Full len) ends = uncut ends.0
      on appended.Memory ends = same ends

  pub read_so : (journal : Journal D) → JournalKept here journal → IsTrue (is_ordered (entries_read journal)) × IsLegal here.decls (history_of (entries_read journal))
  read_so journal kept = on journal.cut_is_read
    where
      on : (read : Bool) → IsTrue (is_ordered (cond read (journal.synced ++ journal.cut) journal.synced)) × IsLegal here.decls (history_of (cond read (journal.synced ++ journal.cut) journal.synced))
      on true = front_all here.decls journal.synced journal.cut kept.fronts
      on false = front_none here.decls journal.synced journal.cut kept.fronts

  pub reopens_kept : (old new : Journal D) → JournalKept here old → Reopens here.disk here.decls here.limit here.granted old new → JournalKept here new
  reopens_kept old new kept r =
      let read = read_so old kept in
      record {
        holds = r.outlives.holds;
        fronts = subst (λ (l : List Entry). FrontsAre here.decls l new.cut) (sym (r.synced kept.read_back)) (subst (λ (l : List Entry). FrontsAre here.decls (entries_read old) l) (sym r.cut) (no_front here.decls (entries_read old) read.0 read.1));
        read_back = still_read_back old.disk new.disk r.outlives.tells kept.read_back;
      }

  pub stays_kept : (old new : Journal D) → JournalKept here old → StaysClosed here.disk here.decls.text here.limit old new → JournalKept here new
  stays_kept old new kept s = record {
    holds = s.outlives.holds;
    fronts = subst (λ (l : List Entry). FrontsAre here.decls l new.cut) (sym s.synced) (subst (λ (l : List Entry). FrontsAre here.decls old.synced l) (sym s.cut.0) kept.fronts);
    read_back = still_read_back old.disk new.disk s.outlives.tells kept.read_back;
  }
