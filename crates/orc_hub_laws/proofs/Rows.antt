-- Rows of entries that a hub appends, as a world's journal has them.
use Rattle.std.specs.Prelude.{◌≡◌, ◌⊎◌, ℕ, ◌+◌, ◌-◌, ◌*◌, ◌<◌, ◌≤◌, min, nat_lt, Bool, true, false, cond, Option, None, Some, List, [], ◌∷◌, ◌++◌, length, IfSome, is_some}
use Rattle.std.proofs.Common.{arith, inl, inr, refl, sym, ap, subst, ◌∙◌, ⊎_elim, length-append, lt-ltb, ltb-true}
use Rattle.std.proofs.lemmas.Bool.{cases_eq, cases_lt, false≢true}
use Rattle.std.proofs.lemmas.List.{append_assoc, append-nil}
use Rattle.std.specs.Option.{option_map}
use Rattle.orc_journal.specs.Outcomes.{ComesNearer, Did, FailsAppend, FindsNoRoom, IsAppendedTo, IsStoppedAt, LeavesOldOrNew, StopsAppend, ops_to_append}
use Rattle.orc_journal.specs.Rows.{HasSomeOf}
use Rattle.orc_journal.specs.Views.{JournalView}
use Rattle.orc_journal.specs.declared.outcome.Appended.TheVariants as appended
use Rattle.orc_journal.proofs.AppendOutcomes.{did}
use Rattle.orc_journal.proofs.AppendRows.{ComesNearer-trans, Did-trans}
use Rattle.orc_disk.specs.Course.{Counted}
use Rattle.orc_disk.specs.Crashes.{LeavesAsRead}
use Rattle.orc_disk.specs.Meanings.{DiskMeaning}
use Rattle.orc_disk.specs.Moments.{LeavesOnly}
use Rattle.orc_disk.specs.Rows.{Course, joined, row}
use Rattle.orc_disk.proofs.Moments as moments
use Rattle.orc_io.specs.Counts.{Rose}
use Rattle.orc_text.specs.Counts.{capped}
use Rattle.orc_journal.specs.Appends.{IsBeforeOrAfter, PutsShort, with_entry}
use Rattle.orc_journal.specs.Entries.{entry_bytes}
use Rattle.orc_journal.specs.Journals.{IsGated, journal_length}
use Rattle.orc_journal.specs.declared.entry.Entry.{Entry}
use Rattle.orc_journal.proofs.Puts.{journal_length-push}
use Rattle.orc_rules.specs.Journals.{AppendsRow, HoldsEntries, Journal, OutlivesRow, PutsUntilFault, PutsUntilStop, StopsIn, with_entries}

-- the journal of a view, where nothing is cut
abbrev pub journal_in : {D : Type 0} → JournalView D → Journal D
journal_in view = record { disk = view.disk; synced = view.entries; cut = []; cut_is_read = false; armed = view.armed; bytes = view.bytes }

-- where this entry is cut, which a read gives or not
abbrev pub journal_cut : {D : Type 0} → JournalView D → Entry → Bool → Journal D
journal_cut view entry read = record { disk = view.disk; synced = view.entries; cut = entry ∷ []; cut_is_read = read; armed = view.armed; bytes = view.bytes }

-- files

none_of : (decls : List ℕ) (entries added : List Entry) (file : List ℕ) → IsGated file decls entries → HasSomeOf decls entries added file
none_of decls entries added file is =
    record { front = []; rest = added; parts = refl; gated = subst (λ (l : List Entry). IsGated file decls l) (sym (append-nil entries)) is }

more_of : (decls : List ℕ) (entries added more : List Entry) (file : List ℕ) → HasSomeOf decls entries added file → HasSomeOf decls entries (added ++ more) file
more_of decls entries added more file some = record {
  front = some.front;
  rest = some.rest ++ more;
  parts = ap (λ (l : List Entry). l ++ more) some.parts ∙ append_assoc some.front some.rest more;
  gated = some.gated;
}

next_of : (decls : List ℕ) (entries added known : List Entry) (entry : Entry) (later : List Entry) (file : List ℕ) → known ≡ entries ++ added → IsBeforeOrAfter decls known entry file
    → HasSomeOf decls entries (added ++ entry ∷ later) file
next_of decls entries added known entry later file is either = ⊎_elim
    (λ before. record { front = added; rest = entry ∷ later; parts = refl; gated = subst (λ (l : List Entry). IsGated file decls l) is before })
    (λ after. record {
      front = added ++ entry ∷ [];
      rest = later;
      parts = sym (append_assoc added (entry ∷ []) later);
      gated = subst (λ (l : List Entry). IsGated file decls l) (ap (λ (l : List Entry). l ++ entry ∷ []) is ∙ append_assoc entries added (entry ∷ [])) after;
    })
    either

one_of : (decls : List ℕ) (entries : List Entry) (entry : Entry) (file : List ℕ) → IsBeforeOrAfter decls entries entry file → HasSomeOf decls entries (entry ∷ []) file
one_of decls entries entry file either = next_of decls entries [] entries entry [] file (sym (append-nil entries)) either

-- whether a read gives the entry that was cut, where the file has it or not
record IsRead (decls : List ℕ) (entries : List Entry) (entry : Entry) (content : Option (List ℕ)) : Type 0 where
  pub read : Bool
  pub holds : IfSome content (λ file. IsGated file decls (cond read (entries ++ entry ∷ []) entries))

is_read : (decls : List ℕ) (entries : List Entry) (entry : Entry) (content : Option (List ℕ)) → IfSome content (IsBeforeOrAfter decls entries entry) → IsRead decls entries entry content
is_read decls entries entry None is = record { read = false; holds = tt }
is_read decls entries entry (Some file) (inl before) = record { read = false; holds = before }
is_read decls entries entry (Some file) (inr after) = record { read = true; holds = after }

-- where the stop came in this operation, which still put so many bytes
read_at : (op bytes : ℕ) → op ≤ 4 → (decls : List ℕ) (entries : List Entry) (entry : Entry) (content : Option (List ℕ)) → IfSome content (IsStoppedAt op bytes false decls entries entry)
    → IfSome content (λ file. IsGated file decls (cond (nat_lt 3 (op + min bytes 1)) (entries ++ entry ∷ []) entries))
read_at op bytes among decls entries entry None is = tt
read_at op bytes among decls entries entry (Some file) is = on (nat_lt 3 (op + min bytes 1)) refl
  where
    Gated : Bool → Type 0
    Gated b = IsGated file decls (cond b (entries ++ entry ∷ []) entries)

    on : (b : Bool) → nat_lt 3 (op + min bytes 1) ≡ b → Gated b
    on true e =
        let more = ltb-true 3 (op + min bytes 1) e in
        ⊎_elim (λ third. is.opened third (omega (arith, third, more)) refl) (λ other. is.after (omega (arith, other, more))) (cases_eq op 3)
    on false e = ⊎_elim
        (λ third. is.unopened third (⊎_elim
        (λ some. absurd (false≢true (sym e ∙ lt-ltb 3 (op + min bytes 1) (omega (arith, third, some)))))
        (λ le. let none : bytes ≡ 0 = omega (arith, le) in none) (cases_lt 0 bytes)))
        (λ other. ⊎_elim (λ early. is.before early)
        (λ late. absurd (false≢true (sym e ∙ lt-ltb 3 (op + min bytes 1) (omega (arith, other, late))))) (cases_lt op 3)) (cases_eq op 3)

-- the bytes of a row

with_entries_push : (decls : List ℕ) (entries added : List Entry) (entry : Entry) (file : List ℕ) → with_entries decls entries (added ++ entry ∷ []) file
    ≡ with_entry (journal_length decls (entries ++ added)) entry (with_entries decls entries added file)
with_entries_push decls entries [] entry file = ap (λ (l : List Entry). with_entry (journal_length decls l) entry file) (sym (append-nil entries))
with_entries_push decls entries (first ∷ later) entry file =
    let behind = with_entry (journal_length decls entries) first file in
    with_entries_push decls (entries ++ first ∷ []) later entry behind
    ∙ ap (λ (l : List Entry). with_entry (journal_length decls l) entry (with_entries decls (entries ++ first ∷ []) later behind)) (append_assoc entries (first ∷ []) later)

no_bytes : (decls : List ℕ) (entries : List Entry) (content : Option (List ℕ)) → content ≡ option_map (with_entries decls entries []) content
no_bytes decls entries None = refl
no_bytes decls entries (Some file) = refl

more_bytes : (decls : List ℕ) (entries added : List Entry) (entry : Entry) (content : Option (List ℕ))
    → option_map (with_entry (journal_length decls (entries ++ added)) entry) (option_map (with_entries decls entries added) content)
    ≡ option_map (with_entries decls entries (added ++ entry ∷ [])) content
more_bytes decls entries added entry None = refl
more_bytes decls entries added entry (Some file) = ap Some (sym (with_entries_push decls entries added entry file))

-- rows

module _ {D : Type 0} (disk : DiskMeaning D) (decls : List ℕ) where
  -- that a row of operations goes on from where another ended, and what rows count
  pub record RowLaws : Type 0 where
    pub on : (first second : Course) (a b c : D) → disk.leads first a b → disk.leads second b c → disk.leads (joined first second) a c
    pub counts : (course : Course) (a b : D) → disk.leads course a b → Counted course.failed (disk.faults a) (disk.faults b)
    pub counts_ops : (course : Course) (a b : D) → disk.leads course a b → disk.ops b ≡ capped (disk.ops a + course.operations)

  -- These entries were appended in turn to the journal of the first view, and the second is that of the journal then.
  pub record RowDone (old : JournalView D) (added : List Entry) (new : JournalView D) : Type 0 where
    pub known : new.entries ≡ old.entries ++ added
    pub limit : new.limit ≡ old.limit
    pub nearer : ComesNearer (4 * length added) old new
    pub did : Did disk (4 * length added) false old.disk new.disk
    pub becomes : disk.content new.disk ≡ option_map (with_entries decls old.entries added) (disk.content old.disk)
    pub durable : LeavesAsRead (disk.content new.disk) (disk.may_leave new.disk)
    pub tells : is_some (disk.content new.disk) ≡ is_some (disk.content old.disk)
    pub any_moment : LeavesOnly disk old.disk new.disk (HasSomeOf decls old.entries added)
    pub fits : (added ≡ []) ⊎ (journal_length decls (old.entries ++ added) ≤ old.limit)

  -- the disk of a view holds what the view is of
  pub record IsHeld (view : JournalView D) : Type 0 where
    pub reads : IfSome (disk.content view.disk) (λ file. IsGated file decls view.entries)
    pub durable : LeavesAsRead (disk.content view.disk) (disk.may_leave view.disk)

  gated_now : (view : JournalView D) → IsHeld view → (file : List ℕ) → disk.may_leave view.disk file → IsGated file decls view.entries
  gated_now view held file left =
      let is = held.durable file left in
      subst (λ (o : Option (List ℕ)). IfSome o (λ (f : List ℕ). IsGated f decls view.entries)) is held.reads

  pub none_done : RowLaws → ((d : D) → disk.leads (row 0 false) d d) → ((d : D) (file : List ℕ) → disk.left_since d (disk.moment d) file → disk.may_leave d file)
      → (view : JournalView D) → IsHeld view → RowDone view [] view
  none_done goes stays only_now view held = record {
    known = sym (append-nil view.entries);
    limit = refl;
    nearer = record { later = ⊎_elim (λ some. inr (omega (arith, some))) (λ le. inl (omega (arith, le))) (cases_lt 0 view.armed); armed = omega arith; bytes = refl };
    did = did disk goes.on goes.counts goes.counts_ops 0 false view.disk view.disk (stays view.disk);
    becomes = no_bytes decls view.entries (disk.content view.disk);
    durable = held.durable;
    tells = refl;
    any_moment = moments.started disk view.disk (HasSomeOf decls view.entries [])
        (λ file left. none_of decls view.entries [] file (gated_now view held file (only_now view.disk file left)));
    fits = inl refl;
  }

  -- what was at stake while one more was appended, whatever came of that
  images_more : (old between new : JournalView D) (added : List Entry) (entry : Entry) (later : List Entry) → RowDone old added between
      → LeavesOldOrNew disk decls between entry new → LeavesOnly disk old.disk new.disk (HasSomeOf decls old.entries (added ++ entry ∷ later))
  images_more old between new added entry later done leaves =
      let P = HasSomeOf decls old.entries (added ++ entry ∷ later) in
      moments.joined disk old.disk between.disk new.disk P
      (moments.weaker disk old.disk between.disk (HasSomeOf decls old.entries added) P (more_of decls old.entries added (entry ∷ later)) done.any_moment)
      (moments.weaker disk between.disk new.disk (IsBeforeOrAfter decls between.entries entry) P
      (λ file either. next_of decls old.entries added between.entries entry later file done.known either) leaves.any_moment)

  pub one_more : RowLaws → (old between new : JournalView D) (added : List Entry) (entry : Entry) → RowDone old added between → IsAppendedTo disk decls between entry new
      → RowDone old (added ++ entry ∷ []) new
  one_more goes old between new added entry done is =
      let count : 4 * length added + 4 ≡ 4 * length (added ++ entry ∷ []) = omega (arith, length-append added (entry ∷ [])) in
      let all : between.entries ++ entry ∷ [] ≡ old.entries ++ (added ++ entry ∷ []) =
      ap (λ (l : List Entry). l ++ entry ∷ []) done.known ∙ append_assoc old.entries added (entry ∷ []) in
      record {
        known = is.known ∙ all;
        limit = is.limit ∙ done.limit;
        nearer = subst (λ (n : ℕ). ComesNearer n old new) count (ComesNearer-trans (4 * length added) 4 old between new done.nearer is.nearer);
        did = subst (λ (n : ℕ). Did disk n false old.disk new.disk) count
            (Did-trans disk goes.on goes.counts goes.counts_ops (4 * length added) 4 false false old.disk between.disk new.disk done.did is.did);
        becomes = is.becomes
            ∙ ap (λ (l : List Entry). option_map (with_entry (journal_length decls l) entry) (disk.content between.disk)) done.known
            ∙ ap (option_map (with_entry (journal_length decls (old.entries ++ added)) entry)) done.becomes
            ∙ more_bytes decls old.entries added entry (disk.content old.disk);
        durable = is.durable;
        tells = is.leaves.still_tells ∙ done.tells;
        any_moment = images_more old between new added entry [] done is.leaves;
        fits = inr (omega (arith, is.fits, done.limit, journal_length-push decls between.entries entry, ap (journal_length decls) all));
      }

  module _ (limit : ℕ) (old : JournalView D) (limited : old.limit ≡ limit) where
    holds_so : (view : JournalView D) → IsHeld view → HoldsEntries disk decls limit (journal_in view)
    holds_so view held = record { read = held.reads; crash = λ file left. none_of decls view.entries [] file (gated_now view held file left) }

    -- all of it is there
    pub row_done : (new : JournalView D) (added : List Entry) → RowDone old added new → IsHeld new → AppendsRow disk decls limit (journal_in old) added appended.Done (journal_in new)
    row_done new added done held = record {
      before = refl;
      done = added;
      rest = [];
      parts = sym (append-nil added);
      synced = done.known;
      ends = (refl, refl, record { none = done.nearer.later; nearer = done.nearer.armed; bytes = done.nearer.bytes });
      puts = record { between = new.disk; did = done.did; becomes = done.becomes; durable = done.durable; last = refl };
      fits = ⊎_elim (λ none. inl (append-nil new.entries ∙ done.known ∙ ap (λ (l : List Entry). old.entries ++ l) none ∙ append-nil old.entries))
          (λ fits. inr (omega (arith, fits, limited, ap (journal_length decls) (append-nil new.entries ∙ done.known)))) done.fits;
      outlives = record { each_moment = done.any_moment; holds = holds_so new held; tells = done.tells; later = done.did.faults.later };
    }

    module _ (between new : JournalView D) (added : List Entry) (entry : Entry) (later : List Entry) (done : RowDone old added between) where
      -- a file of an append that didn't come to its end
      holds_cut : (read : Bool) → new.entries ≡ between.entries → IfSome (disk.content new.disk) (λ file. IsGated file decls (cond read (between.entries ++ entry ∷ []) between.entries))
          → LeavesOldOrNew disk decls between entry new → HoldsEntries disk decls limit (journal_cut new entry read)
      holds_cut read same is leaves = record {
        read = subst (λ (l : List Entry). IfSome (disk.content new.disk) (λ file. IsGated file decls (cond read (l ++ entry ∷ []) l))) (sym same) is;
        crash = λ file left. subst (λ (l : List Entry). HasSomeOf decls l (entry ∷ []) file) (sym same) (one_of decls between.entries entry file (leaves.crash file left));
      }

      fits_cut : new.entries ≡ between.entries → journal_length decls between.entries + length (entry_bytes entry) + 1 ≤ between.limit
          → journal_length decls (new.entries ++ entry ∷ []) ≤ limit
      fits_cut same fits =
          omega (arith, fits, done.limit, limited, journal_length-push decls between.entries entry, ap (λ (l : List Entry). journal_length decls (l ++ entry ∷ [])) same)

      -- what the disk did of the next one, up to where the armed stop came, and up to where the disk failed
      until_stop : (stops : StopsAppend disk decls between entry new) → PutsUntilStop disk decls between.armed old.bytes new.entries entry between.disk new.disk
      until_stop stops =
          subst (λ (l : List Entry). PutsUntilStop disk decls between.armed old.bytes l entry between.disk new.disk) (sym stops.known)
          (subst (λ (bytes : ℕ). PutsUntilStop disk decls between.armed bytes between.entries entry between.disk new.disk) done.nearer.bytes
          (record {
            failed = stops.failed;
            before = stops.before;
            ran = stops.ran;
            last = stops.last;
            did = stops.did;
            undone = stops.undone;
            reached = stops.reached;
            becomes = stops.becomes;
            synced = stops.synced;
          }))

      abbrev until_fault : (fails : FailsAppend disk decls between entry new) → PutsUntilFault disk decls new.entries entry between.disk new.disk
      until_fault fails = record {
        done = fails.done;
        fewer = fails.fewer;
        did = fails.did;
        fails = fails.fails;
        puts = subst (λ (l : List Entry). PutsShort disk fails.done (journal_length decls l) entry between.disk new.disk) (sym fails.known) fails.puts;
      }

      -- the armed stop came in the next one
      pub record StopsRow : Type 0 where
        pub read : Bool
        pub row : AppendsRow disk decls limit (journal_in old) (added ++ entry ∷ later) appended.Stopped (journal_cut new entry read)

      stops_by : (stops : StopsAppend disk decls between entry new) (read : Bool) → IfSome (disk.content new.disk) (λ file. IsGated file decls (cond read (between.entries ++ entry ∷ []) between.entries))
          → Rose (disk.faults old.disk) (disk.faults new.disk) ⊎ (read ≡ nat_lt 3 (between.armed + min old.bytes 1))
          → AppendsRow disk decls limit (journal_in old) (added ++ entry ∷ later) appended.Stopped (journal_cut new entry read)
      stops_by stops read is reads = record {
        before = refl;
        done = added;
        rest = entry ∷ later;
        parts = refl;
        synced = stops.known ∙ done.known;
        ends = (
          (entry, later, refl, refl),
          record {
            operation = between.armed;
            among = (stops.one, stops.among);
            armed = ⊎_elim (λ none. absurd (omega (arith, none, done.nearer.armed, stops.one))) (λ more. omega (arith, more, done.nearer.armed)) done.nearer.later;
            came = stops.came;
            reads = reads;
          },
        );
        puts = record {
          between = between.disk;
          did = done.did;
          becomes = done.becomes;
          durable = done.durable;
          last = (
            entry,
            between.armed,
            refl,
            ⊎_elim (λ none. absurd (omega (arith, none, done.nearer.armed, stops.one))) (λ more. omega (arith, more, done.nearer.armed)) done.nearer.later,
            until_stop stops,
          );
        };
        fits = inr (fits_cut stops.known stops.fits);
        outlives = record {
          each_moment = images_more old between new added entry later done stops.leaves;
          holds = holds_cut read stops.known is stops.leaves;
          tells = stops.leaves.still_tells ∙ done.tells;
          later = omega (arith, done.did.faults.later, stops.did.faults.later);
        };
      }

      pub row_stopped : StopsAppend disk decls between entry new → StopsRow
      row_stopped stops = on stops.failed refl
        where
          on : (b : Bool) → stops.failed ≡ b → StopsRow
          on true failed =
              let found = is_read decls between.entries entry (disk.content new.disk) stops.leaves.read in
              record { read = found.read; row = stops_by stops found.read found.holds (inl (omega (arith, done.did.faults.later, stops.did.faults.rose failed))) }
          on false well =
              let read = nat_lt 3 (between.armed + min between.bytes 1) in
              let is = read_at between.armed between.bytes stops.among decls between.entries entry (disk.content new.disk)
              (subst (λ (b : Bool). IfSome (disk.content new.disk) (IsStoppedAt between.armed between.bytes b decls between.entries entry)) well stops.reads) in
              record { read = read; row = stops_by stops read is (inr (ap (λ (n : ℕ). nat_lt 3 (between.armed + min n 1)) done.nearer.bytes)) }

      -- the disk failed in it
      pub record FailsRow : Type 0 where
        pub read : Bool
        pub row : AppendsRow disk decls limit (journal_in old) (added ++ entry ∷ later) appended.Failed (journal_cut new entry read)

      pub row_failed : FailsAppend disk decls between entry new → FailsRow
      row_failed fails =
          let found = is_read decls between.entries entry (disk.content new.disk) fails.leaves.read in
          let nearer = ComesNearer-trans (4 * length added) (fails.done + 1) old between new done.nearer fails.nearer in
          record {
            read = found.read;
            row = record {
              before = refl;
              done = added;
              rest = entry ∷ later;
              parts = refl;
              synced = fails.known ∙ done.known;
              ends = (
                (entry, later, refl, refl),
                omega (arith, done.did.faults.later, fails.did.faults.rose refl),
                (fails.done + 1, omega (arith, fails.fewer), record { none = nearer.later; nearer = nearer.armed; bytes = nearer.bytes }),
              );
              puts = record {
                between = between.disk;
                did = done.did;
                becomes = done.becomes;
                durable = done.durable;
                last = (entry, refl, until_fault fails, record { none = nearer.later; nearer = nearer.armed; bytes = nearer.bytes });
              };
              fits = inr (fits_cut fails.known fails.fits);
              outlives = record {
                each_moment = images_more old between new added entry later done fails.leaves;
                holds = holds_cut found.read fails.known found.holds fails.leaves;
                tells = fails.leaves.still_tells ∙ done.tells;
                later = omega (arith, done.did.faults.later, fails.did.faults.later);
              };
            };
          }

      -- it had no room
      pub row_full : (len : ℕ) → IsHeld between → FindsNoRoom disk decls len between entry new
          → AppendsRow disk decls limit (journal_in old) (added ++ entry ∷ later) (appended.Full len) (journal_in between)
      row_full len held full = record {
        before = refl;
        done = added;
        rest = entry ∷ later;
        parts = refl;
        synced = done.known;
        ends = (refl, full.length, (entry, later, refl, omega (arith, full.length, full.no_room, done.limit, limited)));
        puts = record { between = between.disk; did = done.did; becomes = done.becomes; durable = done.durable; last = refl };
        fits = ⊎_elim (λ none. inl (append-nil between.entries ∙ done.known ∙ ap (λ (l : List Entry). old.entries ++ l) none ∙ append-nil old.entries))
            (λ fits. inr (omega (arith, fits, limited, ap (journal_length decls) (append-nil between.entries ∙ done.known)))) done.fits;
        outlives = record {
          each_moment = moments.weaker disk old.disk between.disk (HasSomeOf decls old.entries added) (HasSomeOf decls old.entries (added ++ entry ∷ later))
              (more_of decls old.entries added (entry ∷ later)) done.any_moment;
          holds = holds_so between held;
          tells = done.tells;
          later = done.did.faults.later;
        };
      }
