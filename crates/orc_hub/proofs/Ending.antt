-- The end of a reconciliation keeps the hub.
use Rattle.std.proofs.Common.{◌≡◌, ◌⊎◌, ⊎_elim, ℕ, nat_eq, eq-eqb, true, false, List, [], ◌∷◌, ◌++◌, Result, Ok, Err, All, length, map, refl, sym, ap, subst, ◌∙◌, append_assoc, append-nil}
use Rattle.std.proofs.lemmas.Bool.{false≢true}
use Rattle.std.proofs.lemmas.List.{length-map}
use Rattle.std.proofs.lemmas.List.Elements.{All-head, All-nil, All-push, All-weaker}
use Rattle.std.proofs.lemmas.Option.{none-some}
use Rattle.orc_call.specs.declared.answer.RecFault.{RecFault}
use Rattle.orc_call.specs.declared.answer.RecFault.TheVariants as fault
use Rattle.orc_disk.specs.Meanings.{DiskMeaning}
use Rattle.orc_journal.specs.Entries.{number_of}
use Rattle.orc_journal.specs.Laws.{IsUnnamed, KeepsOrder, MayFollow}
use Rattle.orc_journal.specs.declared.entry.Entry.{Entry}
use Rattle.orc_journal.specs.declared.entry.Entry.TheVariants as entry
use Rattle.orc_rules.specs.Events.{mender_freed}
use Rattle.orc_rules.specs.declared.transaction.Phase.TheVariants as phase
use Rattle.orc_rules.specs.declared.transaction.Transaction.{Transaction}
use Rattle.orc_rules.specs.declared.transaction.Waiting.{Waiting}
use Rattle.orc_rules.proofs.Entering.{named_by}
use Rattle.orc_rules.proofs.Legality.{same_history}
use Rattle.orc_hub.specs.Keeps.{IsHub, IsSoundHub, KeepsHub}
use Rattle.orc_hub_parts.specs.Logs.{settled_by, unsettled_by}
use Rattle.orc_hub.specs.Laws.{MendingEndedKeeps}
use Rattle.orc_hub.specs.Mends.{EndsMending, SettlesAll, SettlesOne, mending_ended, row_ended, settled_ones}
use Rattle.orc_hub.specs.Mends.SettlesAll.{none_left, one_less, fails}
use Rattle.orc_hub.specs.Writes.{HasWritten}
use Rattle.orc_hub.specs.declared.hub.Hub.{Hub}
use Rattle.orc_hub_parts.specs.declared.log.Unsettled.{Unsettled}
use Rattle.orc_hub.proofs.AtStart.{nothing}
use Rattle.orc_hub.proofs.Keeping.{log_more, numbers_more, taken_by}
use Rattle.orc_hub.proofs.Unsettling.{may_settle, settled_cons}

module _ {D : Type 0} (disk : DiskMeaning D) where
  -- the hub with no call under way
  abbrev bare : Hub D → Hub D
  bare hub = record hub { active = [] }

  emptied : (hub : Hub D) (entries : List Entry) → IsHub disk hub entries → IsHub disk (bare hub) entries
  emptied hub entries own = record {
    decls = own.decls;
    log = own.log;
    history = own.history;
    state = own.state;
    kept = record {
      intents = λ place it there. absurd (nothing place it there);
      settle = λ place it there. absurd (nothing place it there);
      admitted = λ place it there. absurd (nothing place it there);
      fresh = λ place it there. absurd (nothing place it there);
      fit = λ place place' it other there. absurd (nothing place it there);
      apart = λ place place' it other there. absurd (nothing place it there);
      waits_apart = λ place it there. absurd (nothing place it there);
      waits = own.kept.waits;
      unused = own.kept.unused;
      numbered = own.kept.numbered;
      waiting_apart = own.kept.waiting_apart;
    };
    numbers = own.numbers;
    askers = record { waits = own.askers.waits; prepares = λ place it there. absurd (nothing place it there) };
    duties = own.duties;
    stale = own.stale;
    mending = λ met mends. record { left = All-nil (λ (it : Transaction). it.phase ≡ phase.Left); mends = (own.mending met mends).mends };
  }

  -- one is settled
  one_settled : KeepsOrder → (hub new : Hub D) (entries : List Entry) → IsHub disk (bare hub) entries → (t : ℕ) → MayFollow entries (entry.Settled t)
      → HasWritten disk hub (entry.Settled t) new → new ≡ record hub { log = new.log } → IsHub disk (bare new) (entries ++ entry.Settled t ∷ [])
  one_settled law hub new entries own t may w is =
      let e = entry.Settled t in
      subst (λ (h : Hub D). IsHub disk (bare h) (entries ++ e ∷ [])) (sym is) (record {
        decls = own.decls;
        log = log_more disk law hub new hub.decls.text entries e own.log may w;
        history = same_history entries e refl ∙ own.history;
        state = own.state;
        kept = record {
          intents = λ place it there. absurd (nothing place it there);
          settle = λ place it there. absurd (nothing place it there);
          admitted = λ place it there. absurd (nothing place it there);
          fresh = λ place it there. absurd (nothing place it there);
          fit = λ place place' it other there. absurd (nothing place it there);
          apart = λ place place' it other there. absurd (nothing place it there);
          waits_apart = λ place it there. absurd (nothing place it there);
          waits = own.kept.waits;
          unused = All-weaker (λ (one : Waiting). IsUnnamed entries one.t) (λ (one : Waiting). IsUnnamed (entries ++ e ∷ []) one.t)
              (λ one free. All-push (λ (x : Entry). number_of x ≡ one.t → ⊥) entries e free (λ same. named_by t one.t entries may.0 free same)) hub.waiting own.kept.unused;
          numbered = own.kept.numbered;
          waiting_apart = own.kept.waiting_apart;
        };
        numbers = numbers_more hub.numbers entries e own.numbers (taken_by hub.numbers entries t own.numbers may.0);
        askers = own.askers;
        duties = own.duties;
        stale = own.stale;
        mending = own.mending;
      })

  -- what comes of settling all
  abbrev IsDownOn : Result Unit RecFault → Hub D → Type 0
  IsDownOn (Ok done) new = Unit {0}
  IsDownOn (Err met) new = new.down ≡ true

  record Ends (old : Hub D) (result : Result Unit RecFault) (new : Hub D) : Type 0 where
    pub decls : new.decls ≡ old.decls
    pub history : new.down ≡ false → new.state.history ≡ old.state.history
    pub was : new.down ≡ false → old.down ≡ false
    pub falls : IsDownOn result new
    pub keeps : (entries : List Entry) → IsHub disk (bare old) entries → new.down ≡ false → IsHub disk (bare new) (entries ++ settled_ones old.log.unsettled)

  fallen : (old new : Hub D) (met : RecFault) → new.decls ≡ old.decls → new.down ≡ true → Ends old (Err met) new
  fallen old new met decls down = record {
    decls = decls;
    history = λ up. absurd (false≢true (sym up ∙ down));
    was = λ up. absurd (false≢true (sym up ∙ down));
    falls = down;
    keeps = λ entries own up. absurd (false≢true (sym up ∙ down));
  }

  -- the first one is unsettled no more
  pub behind_first : (old between : Hub D) (first : Unsettled) (later : List Unsettled) → old.log.unsettled ≡ first ∷ later
      → HasWritten disk old (entry.Settled first.t) between → between.log.unsettled ≡ later
  behind_first old between first later is w =
      w.unsettled ∙ ap (settled_by first.t) is ∙ settled_cons first.t first later true (let same : nat_eq first.t first.t ≡ true = eq-eqb first.t first.t refl in same)

  -- one less is to be settled
  row_less : (entries : List Entry) (old between : Hub D) (first : Unsettled) (later : List Unsettled) → old.log.unsettled ≡ first ∷ later
      → HasWritten disk old (entry.Settled first.t) between
      → (entries ++ entry.Settled first.t ∷ []) ++ settled_ones between.log.unsettled ≡ entries ++ settled_ones old.log.unsettled
  row_less entries old between first later is w =
      append_assoc entries (entry.Settled first.t ∷ []) (settled_ones between.log.unsettled)
      ∙ ap (λ (l : List Unsettled). entries ++ entry.Settled first.t ∷ settled_ones l) (behind_first old between first later is w)
      ∙ ap (λ (l : List Unsettled). entries ++ settled_ones l) (sym is)

  ends : KeepsOrder → (old new : Hub D) (result : Result Unit RecFault) → SettlesAll disk old result new → Ends old result new
  ends law _ _ _ (none_left hub none) = record {
    decls = refl;
    history = λ up. refl;
    was = λ up. up;
    falls = tt;
    keeps = λ entries own up. subst (IsHub disk (bare hub)) (sym (ap (λ (l : List Unsettled). entries ++ settled_ones l) none ∙ append-nil entries)) own;
  }
  ends law _ _ _ (one_less old between new result first later is one rest) =
      let more = ends law between new result rest in
      record {
        decls = more.decls ∙ ap (λ (h : Hub D). h.decls) one.1;
        history = λ up. more.history up ∙ ap (λ (h : Hub D). h.state.history) one.1;
        was = λ up. sym (ap (λ (h : Hub D). h.down) one.1) ∙ more.was up;
        falls = more.falls;
        keeps = λ entries own up. subst (IsHub disk (bare new)) (row_less entries old between first later is one.0)
            (more.keeps (entries ++ entry.Settled first.t ∷ [])
            (one_settled law old between entries own first.t
            (All-head (λ (x : Unsettled). MayFollow entries (entry.Settled x.t)) first later
            (subst (All (λ (x : Unsettled). MayFollow entries (entry.Settled x.t))) (sym own.log.unsettled ∙ is) (may_settle law entries own.log.ordered))) one.0 one.1) up);
      }
  ends law _ _ _ (fails old new met first later is one) = on met one
    where
      on : (m : RecFault) → SettlesOne disk old first.t (Err m) new → Ends old (Err m) new
      on fault.DiskFault w = fallen old new fault.DiskFault w.decls w.down
      on (fault.Full len) w = fallen old new (fault.Full len) w.decls w.down
      on fault.Memory w = absurd w
      on (fault.LinkFault device number) w = absurd w
      on (fault.Refused device tag) w = absurd w

  freed : (hub : Hub D) (entries : List Entry) → IsHub disk hub entries → IsHub disk (mending_ended hub) entries
  freed hub entries own = record {
    decls = own.decls;
    log = own.log;
    history = own.history;
    state = own.state;
    kept = own.kept;
    numbers = own.numbers;
    askers = own.askers;
    duties = length-map hub.duties mender_freed ∙ own.duties;
    stale = own.stale;
    mending = λ met mends. absurd (none-some met mends);
  }

  -- after the entries with a Settled of each
  pub ended_so : KeepsOrder → (old new : Hub D) (entries : List Entry) (result : Result Unit RecFault) → IsHub disk old entries → EndsMending disk old result new → new.down ≡ false
      → IsHub disk new (entries ++ row_ended result old)
  ended_so law old new entries result own so up =
      ⊎_elim
      (λ met. subst (λ (r : Result Unit RecFault). IsHub disk new (entries ++ row_ended r old)) (sym met.2)
      (subst (IsHub disk new) (sym (append-nil entries)) (subst (λ (n : Hub D). IsHub disk n entries) (sym met.3) (freed old entries own))))
      (λ well. ⊎_elim
      (λ done.
      let behind = done.1.0 in
      let is = done.1.2 in
      let all = ends law old behind (Ok tt) done.1.1 in
      let so = all.keeps entries (emptied old entries own) (sym (ap (λ (h : Hub D). h.down) is) ∙ up) in
      subst (λ (r : Result Unit RecFault). IsHub disk new (entries ++ row_ended r old)) (sym done.0)
      (subst (λ (n : Hub D). IsHub disk n (entries ++ settled_ones old.log.unsettled)) (sym is) (freed (bare behind) (entries ++ settled_ones old.log.unsettled) so)))
      (λ failed.
      let all = ends law old failed.2.0 (Err failed.0) failed.2.1 in
      absurd (false≢true (sym up ∙ ap (λ (h : Hub D). h.down) failed.2.2 ∙ all.falls))) well.1) so

  pub ended_kept : KeepsOrder → MendingEndedKeeps disk → (old new : Hub D) (result : Result Unit RecFault) → old.down ≡ false → EndsMending disk old result new → KeepsHub disk old new
  ended_kept law keeps old new result was so = record {
    decls = ⊎_elim (λ met. ap (λ (h : Hub D). h.decls) met.3)
        (λ well. ⊎_elim (λ done. ap (λ (h : Hub D). h.decls) done.1.2 ∙ (ends law old done.1.0 (Ok tt) done.1.1).decls)
        (λ failed. ap (λ (h : Hub D). h.decls) failed.2.2 ∙ (ends law old failed.2.0 (Err failed.0) failed.2.1).decls) well.1) so;
    sound = λ h up. (let own = h was in (own.0 ++ row_ended result old, keeps old new own.0 result own.1 so up));
    still_down = λ down. absurd (false≢true (sym was ∙ down));
    history = λ up. ([], same_calls up ∙ sym (append-nil old.state.history));
  }
    where
      same_calls : new.down ≡ false → new.state.history ≡ old.state.history
      same_calls up =
          ⊎_elim (λ met. ap (λ (h : Hub D). h.state.history) met.3)
          (λ well. ⊎_elim
          (λ done. ap (λ (h : Hub D). h.state.history) done.1.2 ∙ (ends law old done.1.0 (Ok tt) done.1.1).history (sym (ap (λ (h : Hub D). h.down) done.1.2) ∙ up))
          (λ failed. absurd (false≢true (sym up ∙ ap (λ (h : Hub D). h.down) failed.2.2 ∙ (ends law old failed.2.0 (Err failed.0) failed.2.1).falls))) well.1) so
