-- A disk from its first sync on, while the journal on it is opened.
use Rattle.std.specs.Prelude.{◌≡◌, ◌⊎◌, ℕ, ◌≤◌, false, List, [], ◌∷◌, ◌++◌, length, Option, Some, IfSome}
use Rattle.std.proofs.Common.{inl, inr, ⊎_elim, refl, sym, ap, subst, ◌∙◌}
use Rattle.std.proofs.lemmas.List.{append-nil}
use Rattle.std.proofs.lemmas.Option.{IfSome_then}
use Rattle.orc_disk.specs.Rows.{Course, joined}
use Rattle.orc_disk.specs.Meanings.{DiskMeaning}
use Rattle.orc_disk.specs.Course.{Hears}
use Rattle.orc_disk.specs.Moments.{Unchanged, LeavesOnly}
use Rattle.orc_disk.proofs.Courses.{Hears-trans}
use Rattle.orc_disk.proofs.Moments.{joined as put_behind, weaker}
use Rattle.orc_journal.specs.Hearing.{Heard, IsSynced}
use Rattle.orc_journal.specs.Opening.{IsOpening, MayBecome, LeavesOpening}
use Rattle.orc_journal.proofs.Changes.{Unchanged-refl, Unchanged-trans, Unchanged-leaves}
use Rattle.orc_journal.proofs.Endings.{opening_nothing, opening_same}

-- the file that is read, where the disk reports it
read_there : (content : Option (List ℕ)) (file : List ℕ) → content ≡ Some file → IfSome content (λ held. file ≡ held)
read_there content file is = subst (λ (o : Option (List ℕ)). IfSome o (λ held. file ≡ held)) (sym is) refl

module _ {D : Type 0} (disk : DiskMeaning D) where
  pub IsSynced-same : (old synced new : D) → IsSynced disk old synced new → disk.content synced ≡ disk.content old
  IsSynced-same old synced new = ⊎_elim (λ was. ap disk.content was.at_once) (λ was. was.unchanged.same)

  -- up to it nothing changed
  pub IsSynced-unchanged : (old synced new : D) → IsSynced disk old synced new → Unchanged disk old synced
  IsSynced-unchanged old synced new = ⊎_elim
      (λ was. subst (λ (d : D). Unchanged disk old d) (sym was.at_once) (Unchanged-refl disk old)) (λ was. was.unchanged)

  pub kept_whole : ((at : D) (since : ℕ) (file : List ℕ) → since ≤ disk.moment at → disk.may_leave at file → disk.left_since at since file)
      → (old synced new : D) → IsSynced disk old synced new → Unchanged disk synced new → Unchanged disk old new
  kept_whole counts_now old synced new looked behind = Unchanged-trans disk counts_now old synced new (IsSynced-unchanged old synced new looked) behind

  -- what a crash leaves from it on is what was read, unless the disk was empty
  as_read : (old synced new : D) → IsSynced disk old synced new → (file : List ℕ) → disk.may_leave synced file
      → IfSome (disk.content old) (λ held. (held ≡ []) ⊎ (file ≡ held))
  as_read old synced new looked file left = ⊎_elim
      (λ was. IfSome_then (disk.content old) was.empty (λ held none. inl none))
      (λ was. IfSome_then (disk.content old) (read_there (disk.content old) file (sym was.unchanged.same ∙ was.durable file left)) (λ held is. inr is))
      looked

  module _ (only_now : (at : D) (file : List ℕ) → disk.left_since at (disk.moment at) file → disk.may_leave at file) where
    pub refused_as_read : (old synced new : D) → IsSynced disk old synced new → Unchanged disk synced new
        → LeavesOnly disk synced new (λ file. IfSome (disk.content old) (λ held. (held ≡ []) ⊎ (file ≡ held)))
    refused_as_read old synced new looked behind =
        weaker disk synced new (disk.may_leave synced) (λ file. IfSome (disk.content old) (λ held. (held ≡ []) ⊎ (file ≡ held)))
        (as_read old synced new looked) (Unchanged-leaves disk only_now synced new behind)

    -- and then what may become of it
    pub since_synced : (decls : List ℕ) (old synced mid new : D) → IsSynced disk old synced mid → Unchanged disk synced mid
        → LeavesOpening disk decls mid new → LeavesOnly disk synced new (MayBecome disk decls old)
    since_synced decls old synced mid new looked behind leaves =
        let P = MayBecome disk decls old in
        let first : (file : List ℕ) → disk.may_leave synced file → P file = λ file left.
        IfSome_then (disk.content old) (as_read old synced mid looked file left) (λ held. ⊎_elim
        (λ none. subst (λ (l : List ℕ). IsOpening decls l file) (sym none) (opening_nothing decls file))
        (λ is. subst (λ (l : List ℕ). IsOpening decls l file) is (opening_same decls file))) in
        put_behind disk synced mid new P
        (weaker disk synced mid (disk.may_leave synced) P first (Unchanged-leaves disk only_now synced mid behind))
        (weaker disk mid new (λ file. disk.may_leave mid file ⊎ MayBecome disk decls mid file) P
        (λ file. ⊎_elim (λ left. first file (behind.crash file left))
        (λ becomes. subst (λ (o : Option (List ℕ)). IfSome o (λ held. IsOpening decls held file)) (behind.same ∙ IsSynced-same old synced mid looked) becomes))
        leaves.any_moment)

  module _ (goes_on : (first second : Course) (a b c : D) → disk.leads first a b → disk.leads second b c → disk.leads (joined first second) a c) where
    -- more operations, whose reads gave nothing
    pub Heard-later : (synced mid new : D) (file : List ℕ) → Heard disk synced mid file → Hears disk false [] mid new → Heard disk synced new file
    Heard-later synced mid new file heard led =
        let all = heard.reads ++ (length file, []) ∷ [] in
        record {
          reads = heard.reads;
          pieces = heard.pieces;
          course = subst (λ (gave : List (ℕ × List ℕ)). Hears disk false gave synced new) (append-nil all)
              (Hears-trans disk goes_on false false all [] synced mid new heard.course led);
          told = heard.told;
        }
