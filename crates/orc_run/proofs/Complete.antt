-- A run for which all is right, and in which nothing fails, is done, or memory runs out.
use Rattle.std.proofs.Common.{◌≡◌, ◌⊎◌, inl, ⊎_elim, ℕ, zero, suc, ◌+◌, Bool, true, false, List, [], ◌∷◌, ◌++◌, length, take, Some, None, Option, Ok, Err, Result, refl, sym, ap, subst, ◌∙◌, append_assoc, arith}
use Rattle.std.specs.Prelude.{Contains, is_some, IfSome}
use Rattle.std.specs.List.{flat_map}
use Rattle.std.specs.Option.{option_map}
use Rattle.std.proofs.lemmas.Bool.{false≢true}
use Rattle.std.proofs.lemmas.List.Elements.{Contains-append_left, Contains-append_right, Contains-push}
use Rattle.std.proofs.lemmas.List.Concat.{flat_map-append}
use Rattle.orc_bundle.specs.Bundles.{scripted_of}
use Rattle.orc_bundle.specs.declared.scripted.ScriptedBundle.{ScriptedBundle}
use Rattle.orc_call.specs.declared.call.Call.{Call}
use Rattle.orc_datastore.proofs.Legality.{legal_front}
use Rattle.orc_datastore.specs.Legal.{IsLegal}
use Rattle.orc_decls.specs.declared.declarations.Decls.{Decls}
use Rattle.orc_decls.specs.declared.rule.Rule.{Rule}
use Rattle.orc_disk.specs.Meanings.{DiskMeaning}
use Rattle.orc_journal.proofs.Accepted.{not_damaged, not_empty, not_foreign, not_strange}
use Rattle.orc_journal.proofs.Unique.{one_journal}
use Rattle.orc_journal.specs.Committed.{commits, history_from, history_of}
use Rattle.orc_journal.specs.Journals.{IsDamaged, IsForeign, IsNotJournal, journal_bytes}
use Rattle.orc_journal.specs.declared.entry.Entry.{Entry}
use Rattle.orc_rules.specs.Events.{DoesAnyway, Steps, Turn}
use Rattle.orc_rules.specs.Worlds.{Setting, World}
use Rattle.orc_rules.specs.declared.event.Event.{Event}
use Rattle.orc_runs.specs.Ends.{EndOfRun, EndOfRun as ended, EndedBecause, IsEndedBy, IsIllegal, is_refused_journal}
use Rattle.orc_run.specs.Reads.{ReadsGiveWhatWasWritten}
use Rattle.orc_runs.specs.Headline.{Headline}
use Rattle.orc_runs.specs.Runs.{AreDone, EndsFor, EndsIn, LineDone, Run, line_list, turns_of}
use Rattle.orc_runs.specs.Scripts.{Goes, Part, set_by}
use Rattle.orc_script.specs.declared.step.ScriptStep.{ScriptStep}
use Rattle.orc_words.specs.declared.words.Command.{Command}
use Rattle.orc_words.specs.declared.words.Command.TheVariants.{Check, Run as RunIt, History, Gen}
use Rattle.orc_scene.specs.Stands.{run_setting}
use Rattle.orc_run.specs.Complete.{AreDoneWhereNothingFails, CountsFaults, FaultCounts, HasBundle, HasLegalHistory, IsDoneOrMemory, MeetsNoFault}
use Rattle.orc_run.specs.Decided.{bundle_bytes}
use Rattle.orc_run.specs.Ends.{BundleRun, EndsAs, EndsBy, EndsOver, EndsSummed, GivesBundleFor, Outside, SummedRun, asking_history, stop_of_end}
use Rattle.orc_run.specs.Opening.{HasHistory, IsRefusedBecause}
use Rattle.orc_run.specs.declared.opening.TheConstants.{LARGEST_JOURNAL}
use Rattle.orc_run.specs.declared.stop.Done.{Done}
use Rattle.orc_run.specs.declared.stop.Stop.{Stop}
use Rattle.orc_run.specs.declared.stop.Stop.TheVariants as ending
use Rattle.orc_run.proofs.FirstBytes.{bundle_is, fault_is}
use Rattle.orc_run.proofs.Rising.{set_disk}

-- ---- what a file says

-- the history of the first entries begins that of all
history_more : (before entries : List Entry) (count : ℕ) → (rest : List Call) × (history_from before entries ≡ history_from before (take count entries) ++ rest)
history_more before entries zero = (history_from before entries, refl)
history_more before [] (suc count) = ([], refl)
history_more before (one ∷ entries) (suc count) =
    let more = history_more (before ++ one ∷ []) entries count in
    (more.0, ap (λ (h : List Call). commits before one ++ h) more.1 ∙ sym (append_assoc (commits before one) (history_from (before ++ one ∷ []) (take count entries)) more.0))

-- the history of the first entries is legal where that of all is
front_legal : (decls : Decls) (entries : List Entry) (count : ℕ) → IsLegal decls (history_of entries) → IsLegal decls (history_of (take count entries))
front_legal decls entries count legal =
    let more = history_more [] entries count in
    legal_front decls (history_of (take count entries)) more.0 (subst (λ (h : List Call). IsLegal decls h) more.1 legal)

no_bytes : (xs ys : List ℕ) (x : ℕ) → [] ≡ xs ++ x ∷ ys → ⊥
no_bytes [] ys x e = absurd cc
no_bytes (y ∷ xs) ys x e = absurd cc

no_magic : (file : List ℕ) → file ≡ [] → (at : ℕ) (text : List ℕ) → IsForeign file text at → ⊥
no_magic [] is at text foreign = absurd (let begins = foreign.begins in cc)
no_magic (x ∷ xs) is at text foreign = absurd cc

module _ (decls : Decls) (file : List ℕ) (history : List Call) (has : HasHistory decls file history) where
  -- a file with a history is of these declarations
  own_journal : (at : ℕ) → IsForeign file decls.text at → ⊥
  own_journal at other = ⊎_elim
      (λ none. no_magic file none.0 at decls.text other)
      (λ journal. not_foreign file decls.text has.entries at journal other)
      has.are

  -- a file with a history is a journal
  some_journal : IsNotJournal file → ⊥
  some_journal other = ⊎_elim
      (λ none. let len : length file ≡ 0 = ap (λ (l : List ℕ). length l) none.0 in omega (arith, len, other.some))
      (λ journal. not_strange file decls.text has.entries journal other)
      has.are

  -- whose entries are in order
  whole_journal : (at : ℕ) → IsDamaged file decls.text at → ⊥
  whole_journal at harmed = ⊎_elim
      (λ none. no_bytes (journal_bytes decls.text harmed.before) harmed.rest _ (sym none.0 ∙ harmed.bytes))
      (λ journal. not_damaged file decls.text has.entries at journal has.ordered harmed)
      has.are

  -- no Decide of a file with a legal history makes it illegal
  legal_journal : IsLegal decls history → (at : ℕ) → IsIllegal decls file at → ⊥
  legal_journal legal at wrong = ⊎_elim
      (λ none. not_empty file decls.text wrong.entries wrong.journal none.0)
      (λ journal.
      let same : has.entries ≡ wrong.entries = one_journal file decls.text has.entries wrong.entries journal wrong.journal in
      wrong.illegal.illegal (front_legal decls wrong.entries (wrong.place + 1)
      (subst (λ (h : List Call). IsLegal decls h) (sym has.decided ∙ ap history_of same) legal)))
      has.are

-- ---- whether the disk still reports what it holds

module _ {D : Type 0} (here : Setting D) where
  abbrev tells : World D → Bool
  tells world = is_some (here.disk.content world.journal.disk)

  tells_anyway : (old : World D) (meant : Event) (new : World D) → DoesAnyway old meant new → tells new ≡ tells old
  tells_anyway old meant new (DoesAnyway.ticks seconds) = refl
  tells_anyway old meant new (DoesAnyway.restarts device) = refl
  tells_anyway old meant new (DoesAnyway.answers_down call front down) = refl

  tells_on : (old : World D) (meant : Event) (seen : Option Event) (new : World D) → Steps here old meant seen new → tells new ≡ tells old
  tells_on old meant seen new (Steps.done hub row next _ up does appends same) = appends.outlives.tells
  tells_on old meant seen new (Steps.cut hub row next _ up does appends same) = appends.outlives.tells
  tells_on old meant seen new (Steps.failed hub row next _ up does appends same) = appends.outlives.tells
  tells_on old meant seen new (Steps.full hub row next len _ up does appends same) = appends.outlives.tells
  tells_on old meant seen new (Steps.anyway _ does) = tells_anyway old meant new does
  tells_on old meant seen new (Steps.unopened _ down recovers closed same) = closed.outlives.tells
  tells_on old meant seen new (Steps.recovers _ down recovers opens same) = opens.outlives.tells

  -- at the end of a line
  goes_tells : (ends : Bool) (parts : List Part) (world : World D) (turns : List (Turn D)) (last : World D) → Goes here ends parts world turns last
      → tells last ≡ tells world
  goes_tells ends _ world _ _ (Goes.whole _) = refl
  goes_tells ends _ world _ _ (Goes.broken parts _ is) = refl
  goes_tells ends _ _ _ last (Goes.once part parts turn turns _ one is called comes more) =
      goes_tells ends parts turn.behind turns last more ∙ tells_on turn.before turn.meant turn.seen turn.behind comes
  goes_tells ends _ _ _ last (Goes.again part parts turn turns _ one is comes more) =
      goes_tells ends (part ∷ parts) turn.behind turns last more ∙ tells_on turn.before turn.meant turn.seen turn.behind comes
  goes_tells ends _ world turns last (Goes.none part parts _ _ _ none more) = goes_tells ends parts world turns last more
  goes_tells ends _ world turns last (Goes.round_more parts _ _ _ more) = goes_tells ends _ world turns last more
  goes_tells ends _ world turns last (Goes.still parts _ _ _ still more) = goes_tells ends parts world turns last more

  no_turn : (earlier : List (Turn D)) (turn : Turn D) → [] ≡ earlier ++ turn ∷ [] → ⊥
  no_turn [] turn is = cc
  no_turn (x ∷ xs) turn is = cc

  -- before its last turn
  last_tells : (ends : Bool) (parts : List Part) (world : World D) (turns : List (Turn D)) (last : World D) → Goes here ends parts world turns last
      → (earlier : List (Turn D)) (turn : Turn D) → turns ≡ earlier ++ turn ∷ [] → tells turn.before ≡ tells world
  last_tells ends _ world _ _ (Goes.whole _) earlier turn is = absurd (no_turn earlier turn is)
  last_tells ends _ world _ _ (Goes.broken parts _ so) earlier turn is = absurd (no_turn earlier turn is)
  last_tells ends _ _ _ last (Goes.once part parts first turns _ one so called comes more) [] turn is =
      let same : first ≡ turn = cc in
      ap (λ (t : Turn D). tells t.before) (sym same)
  last_tells ends _ _ _ last (Goes.once part parts first turns _ one so called comes more) (x ∷ xs) turn is =
      let rest : turns ≡ xs ++ turn ∷ [] = cc in
      last_tells ends parts first.behind turns last more xs turn rest ∙ tells_on first.before first.meant first.seen first.behind comes
  last_tells ends _ _ _ last (Goes.again part parts first turns _ one so comes more) [] turn is =
      let same : first ≡ turn = cc in
      ap (λ (t : Turn D). tells t.before) (sym same)
  last_tells ends _ _ _ last (Goes.again part parts first turns _ one so comes more) (x ∷ xs) turn is =
      let rest : turns ≡ xs ++ turn ∷ [] = cc in
      last_tells ends (part ∷ parts) first.behind turns last more xs turn rest ∙ tells_on first.before first.meant first.seen first.behind comes
  last_tells ends _ world turns last (Goes.none part parts _ _ _ none more) earlier turn is = last_tells ends parts world turns last more earlier turn is
  last_tells ends _ world turns last (Goes.round_more parts _ _ _ more) earlier turn is = last_tells ends _ world turns last more earlier turn is
  last_tells ends _ world turns last (Goes.still parts _ _ _ still more) earlier turn is = last_tells ends parts world turns last more earlier turn is

  -- as a line begins
  begins_so : (line : LineDone D) (world : World D) → line.before ≡ world → tells (set_by line.step line.before) ≡ tells world
  begins_so line world is = ap (λ (d : D). is_some (here.disk.content d)) (set_disk here line.step line.before) ∙ ap tells is

  lines_tell : (first : World D) (lines : List (LineDone D)) (last : World D) → AreDone here first lines last → tells last ≡ tells first
  lines_tell first [] last are = ap tells (sym are)
  lines_tell first (line ∷ lines) last are =
      lines_tell line.behind lines last are.2 ∙ goes_tells false _ (set_by line.step line.before) line.turns line.behind are.1.goes ∙ begins_so line first are.0

  -- ---- a run that ended since its journal was refused

  -- the turn in which it ended
  refused_in : (turns : List (Turn D)) (why : EndOfRun) → is_refused_journal why ≡ true → EndedBecause here turns why
      → (earlier : List (Turn D)) × (turn : Turn D) × (turns ≡ earlier ++ turn ∷ []) × IsEndedBy here turn why
  refused_in turns ended.Memory is because = absurd (false≢true is)
  refused_in turns ended.WriteFault is because = absurd (false≢true is)
  refused_in turns ended.JournalFault is because = absurd (false≢true is)
  refused_in turns (ended.Full len) is because = absurd (false≢true is)
  refused_in turns (ended.Foreign at) is because = because
  refused_in turns ended.NotJournal is because = because
  refused_in turns (ended.Damaged at) is because = because

  -- the turn of a line is one of the run
  among : (lines : List (LineDone D)) (line : LineDone D) (earlier : List (Turn D)) (turn : Turn D) → line.turns ≡ earlier ++ turn ∷ []
      → Contains (flat_map (λ (l : LineDone D). l.turns) (lines ++ line ∷ [])) turn
  among lines line earlier turn is =
      subst (λ (l : List (Turn D)). Contains l turn) (sym (flat_map-append (λ (l : LineDone D). l.turns) lines (line ∷ [])))
      (Contains-append_right (flat_map (λ (l : LineDone D). l.turns) lines) (line.turns ++ []) turn
      (Contains-append_left line.turns [] turn
      (subst (λ (l : List (Turn D)). Contains l turn) (sym is) (Contains-push earlier turn))))

  module _ (first : World D) (script : List ScriptStep) (last : World D) (run : Run here script first last)
      (claim : ReadsGiveWhatWasWritten here.disk first (turns_of run) → Headline here script first last run) (told : tells first ≡ true) where
    never_in : (line : Option (LineDone D)) → run.end ≡ line → EndsIn here run.middle line last → (why : EndOfRun) → is_refused_journal why ≡ true
        → EndsFor here line (Some why) → ⊥
    never_in None at ends why refused because = absurd cc
    never_in (Some line) at ends why refused because =
        let at_end = refused_in line.turns why refused because.0 in
        let turn = at_end.1 in
        let there : Contains (turns_of run) turn =
        subst (λ (e : Option (LineDone D)). Contains (flat_map (λ (l : LineDone D). l.turns) (run.lines ++ line_list e)) turn) (sym at)
        (among run.lines line at_end.0 turn at_end.2) in
        let untold : here.disk.content turn.before.journal.disk ≡ None = (claim (inl told)).reopens turn why there at_end.3 refused in
        let tells_there : tells turn.before ≡ true =
        last_tells true _ (set_by line.step line.before) line.turns line.behind ends.1.goes at_end.0 turn at_end.2
        ∙ begins_so line run.middle ends.0
        ∙ lines_tell first run.lines run.middle run.done
        ∙ told in
        false≢true (ap (λ (o : Option (List ℕ)). is_some o) (sym untold) ∙ tells_there)

    never_why : (why : Option EndOfRun) → run.why ≡ why → (refused : EndOfRun) → is_refused_journal refused ≡ true
        → Some (stop_of_end refused) ≡ option_map stop_of_end why → ⊥
    never_why None at refused is same = absurd cc
    never_why (Some why) at refused is same =
        let one : stop_of_end refused ≡ stop_of_end why = cc in
        never_in run.end refl run.ends why (one_refused refused why is one)
        (subst (λ (w : Option EndOfRun). EndsFor here run.end w) at run.because)
      where
        refuses : Stop → Bool
        refuses (ending.Foreign at) = true
        refuses ending.NotJournal = true
        refuses (ending.Damaged at) = true
        refuses other = false

        of_end : (why : EndOfRun) → refuses (stop_of_end why) ≡ is_refused_journal why
        of_end ended.Memory = refl
        of_end ended.WriteFault = refl
        of_end ended.JournalFault = refl
        of_end (ended.Full len) = refl
        of_end (ended.Foreign at) = refl
        of_end ended.NotJournal = refl
        of_end (ended.Damaged at) = refl

        one_refused : (a b : EndOfRun) → is_refused_journal a ≡ true → stop_of_end a ≡ stop_of_end b → is_refused_journal b ≡ true
        one_refused a b is same = sym (of_end b) ∙ ap refuses (sym same) ∙ of_end a ∙ is

    -- a run doesn't end by a refused journal
    pub never_refused : (refused : EndOfRun) → is_refused_journal refused ≡ true → (end : Option Stop) → end ≡ option_map stop_of_end run.why
        → end ≡ Some (stop_of_end refused) → ⊥
    never_refused refused is end why same = never_why run.why refl refused is (sym same ∙ why)

-- ---- the run of a bundle

module _ {D : Type 0} (meaning : DiskMeaning D) where
  module _ (bundle : ScriptedBundle) (before after : Outside D) (legal : HasLegalHistory meaning bundle.decls before.disk) where
    -- a journal with a legal history is not refused
    cause_never : (why : EndOfRun) → is_refused_journal why ≡ true → IsRefusedBecause meaning bundle.decls before.disk after.disk (stop_of_end why) → ⊥
    cause_never ended.Memory is cause = false≢true is
    cause_never ended.WriteFault is cause = false≢true is
    cause_never ended.JournalFault is cause = false≢true is
    cause_never (ended.Full len) is cause = false≢true is
    cause_never (ended.Foreign at) is cause =
        own_journal bundle.decls legal.file legal.history legal.has at
        (subst (λ (o : Option (List ℕ)). IfSome o (λ file. IsForeign file bundle.decls.text at)) legal.holds cause)
    cause_never ended.NotJournal is cause =
        some_journal bundle.decls legal.file legal.history legal.has
        (subst (λ (o : Option (List ℕ)). IfSome o (λ file. IsNotJournal file)) legal.holds cause)
    cause_never (ended.Damaged at) is cause = ⊎_elim
        (λ harmed. whole_journal bundle.decls legal.file legal.history legal.has at harmed)
        (λ wrong. legal_journal bundle.decls legal.file legal.history legal.has legal.legal at wrong)
        (subst (λ (o : Option (List ℕ)). IfSome o (λ file. IsDamaged file bundle.decls.text at ⊎ IsIllegal bundle.decls file at)) legal.holds cause)

    -- a journal with a legal history is not refused later in a run
    run_never : (why : EndOfRun) → is_refused_journal why ≡ true → (status : Result Done Stop) (run : BundleRun meaning bundle before after status)
        → run.end ≡ Some (stop_of_end why) → ⊥
    run_never why is status run same =
        let here = run_setting meaning bundle.decls LARGEST_JOURNAL false in
        let ran = run.ran in
        never_refused here run.first run.done ran.last ran.run ran.claim
        (run.begins.still_tells ∙ ap (λ (o : Option (List ℕ)). is_some o) legal.holds)
        why is run.end ran.why same

    over_never : (why : EndOfRun) → is_refused_journal why ≡ true → EndsOver meaning bundle before after (Err (stop_of_end why)) → ⊥
    over_never ended.Memory is ends = false≢true is
    over_never ended.WriteFault is ends = false≢true is
    over_never ended.JournalFault is ends = false≢true is
    over_never (ended.Full len) is ends = false≢true is
    over_never (ended.Foreign at) is ends = ⊎_elim
        (λ unopened. cause_never (ended.Foreign at) refl unopened.cause)
        (λ run. run_never (ended.Foreign at) refl (Err (ending.Foreign at)) run run.wrote.0)
        ends
    over_never ended.NotJournal is ends = ⊎_elim
        (λ unopened. cause_never ended.NotJournal refl unopened.cause)
        (λ run. run_never ended.NotJournal refl (Err ending.NotJournal) run run.wrote.0)
        ends
    over_never (ended.Damaged at) is ends = ⊎_elim
        (λ unopened. cause_never (ended.Damaged at) refl unopened.cause)
        (λ run. run_never (ended.Damaged at) refl (Err (ending.Damaged at)) run run.wrote.0)
        ends

    -- a journal with a legal history is not refused where a run is summed up
    sum_run_never : (why : EndOfRun) → is_refused_journal why ≡ true → (status : Result Done Stop) (run : SummedRun meaning bundle before after status)
        → run.end ≡ Some (stop_of_end why) → ⊥
    sum_run_never why is status run same =
        let here = run_setting meaning bundle.decls LARGEST_JOURNAL false in
        let ran = run.ran in
        never_refused here run.first bundle.steps ran.last ran.run ran.claim
        (run.begins.still_tells ∙ ap (λ (o : Option (List ℕ)). is_some o) legal.holds)
        why is run.end ran.why same

    sum_never : (why : EndOfRun) → is_refused_journal why ≡ true → EndsSummed meaning bundle before after (Err (stop_of_end why)) → ⊥
    sum_never ended.Memory is ends = false≢true is
    sum_never ended.WriteFault is ends = false≢true is
    sum_never ended.JournalFault is ends = false≢true is
    sum_never (ended.Full len) is ends = false≢true is
    sum_never (ended.Foreign at) is ends = ⊎_elim
        (λ unopened. cause_never (ended.Foreign at) refl unopened.cause)
        (λ run. sum_run_never (ended.Foreign at) refl (Err (ending.Foreign at)) run run.wrote.0)
        ends
    sum_never ended.NotJournal is ends = ⊎_elim
        (λ unopened. cause_never ended.NotJournal refl unopened.cause)
        (λ run. sum_run_never ended.NotJournal refl (Err ending.NotJournal) run run.wrote.0)
        ends
    sum_never (ended.Damaged at) is ends = ⊎_elim
        (λ unopened. cause_never (ended.Damaged at) refl unopened.cause)
        (λ run. sum_run_never (ended.Damaged at) refl (Err (ending.Damaged at)) run run.wrote.0)
        ends

  module _ (command : Command) (bundle : ScriptedBundle) (before after : Outside D) (has : HasBundle command before bundle) (legal : HasLegalHistory meaning bundle.decls before.disk) where
    -- no command ends so
    as_never : (why : EndOfRun) → is_refused_journal why ≡ true → EndsAs meaning command before after (Err (stop_of_end why)) → ⊥
    as_never why is ends = on command has ends
      where
        on_check : (why : EndOfRun) → is_refused_journal why ≡ true → EndsAs meaning Check before after (Err (stop_of_end why)) → ⊥
        on_check ended.Memory is ends = false≢true is
        on_check ended.WriteFault is ends = false≢true is
        on_check ended.JournalFault is ends = false≢true is
        on_check (ended.Full len) is ends = false≢true is
        on_check (ended.Foreign at) is ends = ends.ends
        on_check ended.NotJournal is ends = ends.ends
        on_check (ended.Damaged at) is ends = ends.ends

        one : (command : Command) → HasBundle command before bundle → (other : ScriptedBundle) → GivesBundleFor command before.left after.left other → bundle ≡ other
        one command has other gives =
            let same : ◌≡◌ {A = Result ScriptedBundle (ℕ × Rule)} (Ok bundle) (Ok other) = sym has.is ∙ bundle_is meaning before after has.all has.left command other gives in
            cc

        on : (command : Command) → HasBundle command before bundle → EndsAs meaning command before after (Err (stop_of_end why)) → ⊥
        on Check has ends = on_check why is ends
        on RunIt has ends =
            over_never bundle before after legal why is
            (subst (λ (b : ScriptedBundle). EndsOver meaning b before after (Err (stop_of_end why))) (sym (one RunIt has ends.bundle ends.gives)) ends.ends)
        on History has ends =
            over_never (asking_history bundle) before after legal why is
            (subst (λ (b : ScriptedBundle). EndsOver meaning (asking_history b) before after (Err (stop_of_end why))) (sym (one History has ends.bundle ends.gives)) ends.ends)
        on (Gen number devices calls) has ends =
            sum_never bundle before after legal why is
            (subst (λ (b : ScriptedBundle). EndsSummed meaning b before after (Err (stop_of_end why)))
            (sym (one (Gen number devices calls) has ends.bundle (ends.made, ends.unread))) ends.ends)

    -- the bundle is not at fault
    no_fault : (line : ℕ) (rule : Rule) → scripted_of (bundle_bytes command has.all) ≡ Err (line, rule) → ⊥
    no_fault line rule wrong = apart (sym has.is ∙ wrong)
      where
        apart : ◌≡◌ {A = Result ScriptedBundle (ℕ × Rule)} (Ok bundle) (Err (line, rule)) → ⊥
        apart wrong = cc

    done : (old new : FaultCounts) (status : Result Done Stop) → EndsBy meaning (Some command) before after status
        → CountsFaults meaning old new before.disk after.disk status → MeetsNoFault meaning old new before.disk after.disk status → IsDoneOrMemory status
    done old new (Ok x) ends counts none = tt
    done old new (Err ending.Memory) ends counts none = refl
    done old new (Err ending.Usage) ends counts none = absurd ends
    done old new (Err ending.ReadFault) ends counts none = absurd (none.reads (counts.read refl))
    done old new (Err ending.WriteFault) ends counts none = absurd (none.writes (counts.write refl))
    done old new (Err ending.JournalFault) ends counts none = absurd (none.disk (counts.journal refl))
    done old new (Err (ending.Full len)) ends counts none = absurd (none.room len refl)
    done old new (Err (ending.Bundle line rule)) ends counts none =
        absurd (no_fault line rule (fault_is meaning before after has.all has.left command line rule ends))
    done old new (Err (ending.Foreign at)) ends counts none = absurd (as_never (ended.Foreign at) refl ends)
    done old new (Err ending.NotJournal) ends counts none = absurd (as_never ended.NotJournal refl ends)
    done old new (Err (ending.Damaged at)) ends counts none = absurd (as_never (ended.Damaged at) refl ends)

pub done_where_nothing_fails : {D : Type 0} (meaning : DiskMeaning D) → AreDoneWhereNothingFails meaning
done_where_nothing_fails meaning command bundle old new before after status ends counts has legal none =
    done meaning command bundle before after has legal old new status ends counts none
