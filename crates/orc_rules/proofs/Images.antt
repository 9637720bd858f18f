-- What a crash leaves while a script runs: no synced entry is lost, whatever happens and wherever it ends.
use Rattle.std.specs.Prelude.{ℕ, ◌≡◌, Bool, true, false, List, [], ◌++◌, if◌then◌else◌}
use Rattle.std.proofs.Common.{inl, inr, ⊎_elim, arith, refl, sym, ap, subst, ◌∙◌, append_assoc, append-nil}
use Rattle.orc_disk.specs.Meanings.{DiskMeaning}
use Rattle.orc_disk.specs.Moments.{LeavesOnly}
use Rattle.orc_journal.specs.declared.entry.Entry.{Entry}
use Rattle.orc_journal.specs.Journals.{IsGated}
use Rattle.orc_journal.specs.Rows.{HasSomeOf}
use Rattle.orc_rules.specs.Journals.{Journal, entries_read}

-- one journal's entries are a prefix of the other's
abbrev pub IsFront : List Entry → List Entry → Type 0
IsFront front entries = (more : List Entry) × (entries ≡ front ++ more)

pub front_of_self : (a : List Entry) → IsFront a a
front_of_self a = ([], sym (append-nil a))

pub front_trans : (a b c : List Entry) → IsFront a b → IsFront b c → IsFront a c
front_trans a b c f g = (f.0 ++ g.0, g.1 ∙ ap (λ l. l ++ g.0) f.1 ∙ append_assoc a f.0 g.0)

module _ {D : Type 0} (disk : DiskMeaning D) where
  pub joined : (old mid new : D) (P : List ℕ → Type 0) → LeavesOnly disk old mid P → LeavesOnly disk mid new P → LeavesOnly disk old new P
  joined old mid new P first second = record {
    later = omega (arith, first.later, second.later);
    each = λ c left. ⊎_elim (first.each c) (λ holds. holds) (second.earlier_rows (disk.moment old) c first.later left);
    earlier_rows = λ t c le left. ⊎_elim (first.earlier_rows t c le) (λ holds. inr holds) (second.earlier_rows t c (omega (arith, le, first.later)) left);
  }

  pub weaker : (old new : D) (P Q : List ℕ → Type 0) → ((c : List ℕ) → P c → Q c) → LeavesOnly disk old new P → LeavesOnly disk old new Q
  weaker old new P Q more run = record {
    later = run.later;
    each = λ c left. more c (run.each c left);
    earlier_rows = λ t c le left. ⊎_elim (λ past. inl past) (λ holds. inr (more c holds)) (run.earlier_rows t c le left);
  }

  module _ (decls : List ℕ) (limit : ℕ) where
    pub read_front : (journal : Journal D) → IsFront journal.synced (entries_read journal)
    read_front journal = on journal.cut_is_read where
      on : (b : Bool) → IsFront journal.synced (if b then journal.synced ++ journal.cut else journal.synced)
      on true = (journal.cut, refl)
      on false = front_of_self journal.synced
