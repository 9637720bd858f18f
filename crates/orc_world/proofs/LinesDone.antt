-- Scripts, line by line.
use Rattle.std.proofs.Common.{[], ◌≡◌, ◌&&◌, ◌⊎◌, inl, inr, ℕ, zero, suc, Bool, true, false, Option, Some, None, List, ◌∷◌, ◌++◌, All, map, refl, sym, ap, subst, ◌∙◌, append-nil, append_assoc}
use Rattle.std.specs.Prelude.{◌≢◌, Result, Ok, Err, MatchOption, IsTrue, if◌then◌else◌, slice_get}
use Rattle.std.specs.List.{flat_map, fold, list_all}
use Rattle.std.proofs.lemmas.Bool.{false≢true}
use Rattle.std.proofs.lemmas.Option.{none-some, same_Some}
use Rattle.orc_decls.specs.Devices.{name_of}
use Rattle.orc_decls.specs.declared.declarations.Decls.{Decls}
use Rattle.orc_device.specs.declared.reply.Logged.{Logged}
use Rattle.orc_disk.specs.Meanings.{DiskMeaning}
use Rattle.orc_links.specs.Logs.{noted_on}
use Rattle.orc_print.specs.Logs.{log_text}
use Rattle.orc_rules.specs.Events.{Turn}
use Rattle.orc_rules.specs.Worlds.{Setting, World as Seen}
use Rattle.orc_rules.proofs.Entering.{All-at}
use Rattle.orc_runs.specs.Runs.{AreDone, IsDone, LineDone, PrintLogs, is_log, logged, logged_with}
use Rattle.orc_script.specs.Steps.{is_step}
use Rattle.orc_script.specs.declared.step.ScriptStep.{ScriptStep}
use Rattle.orc_script.specs.declared.step.ScriptStep.TheVariants as step
use Rattle.orc_scene.specs.Courses.{event_list, events_in, operations_in}
use Rattle.orc_world.specs.Lines.{DoesLine, EndsInLine, IsLineCall, MayRecover}
use Rattle.orc_world.specs.Scripts.{GoesOnAfter, KeepsLogs, RunsInWorld, RunsScript, TakesAnyLine}
use Rattle.orc_scene.specs.Stands.{HasDisk, IsSeenAs, decls_in, run_setting}
use Rattle.orc_scene.specs.RunEnds.{end_of_run}
use Rattle.orc_scene.specs.declared.stop.WorldStop.{WorldStop}
use Rattle.orc_scene.specs.declared.scene.Scene.{Scene}
use Rattle.orc_scene.proofs.Allowed.{decls_there}
use Rattle.orc_world.proofs.Joining.{flat_then}

-- any line may come where nothing is granted
may_any : (line : ScriptStep) → MayRecover line false
may_any step.Recover = refl
may_any line = tt

-- any line but a recovery may come where something is granted
may_by : (line : ScriptStep) (granted : Bool) → (granted ≡ true → line ≢ step.Recover) → MayRecover line granted
may_by step.Recover false none = refl
may_by step.Recover true none = absurd (none refl refl)
may_by line granted none = tt

-- after a line that was done the world takes any line
pub goes_on_after : {D : Type 0} (disk : DiskMeaning D) (line : ScriptStep) (old new : Scene D) (before after : List ℕ) (result : Result (Unit {0}) WorldStop) → TakesAnyLine disk old
    → IsLineCall disk line old result new before after → GoesOnAfter disk old result new
goes_on_after {D = D} disk line old new before after (Ok value) takes call =
    let decls : Decls = takes.0 in
    let here : Setting D = run_setting disk decls old.limit false in
    let is : IsSeenAs here takes.1 old = takes.2 in
    let does : DoesLine here line takes.1 old new before after = call decls false takes.1 is (may_any line) in (
      (decls, does.next, subst (λ (l : ℕ). IsSeenAs (run_setting disk decls l false) does.next new) (sym does.limit) does.is, does.unmended),
      decls_there here does.next new.place does.is.place ∙ sym (decls_there here takes.1 old.place is.place),
    )
goes_on_after disk line old new before after (Err why) takes call = tt

-- one line more

split_last : {X : Type 0} (xs : List X) (x : X) (earlier later : List X) (y : X) → xs ++ x ∷ [] ≡ earlier ++ y ∷ later
    → ((xs ≡ earlier) × (x ≡ y)) ⊎ ((front : List X) × (xs ≡ earlier ++ y ∷ front))
split_last [] x [] later y is = inl (refl, (let same : x ≡ y = cc in same))
split_last {X = X} [] x (e ∷ earlier) later y is = absurd (no_more earlier (let rest : [] ≡ earlier ++ y ∷ later = cc in rest))
  where
    no_more : (es : List X) → [] ≡ es ++ y ∷ later → ⊥
    no_more [] e = cc
    no_more (z ∷ es) e = cc
split_last (z ∷ xs) x [] later y is = inr (xs, (let same : z ≡ y = cc in ap (λ a. a ∷ xs) same))
split_last {X = X} (z ∷ xs) x (e ∷ earlier) later y is =
    let same : z ≡ e = cc in
    let rest : xs ++ x ∷ [] ≡ earlier ++ y ∷ later = cc in
    by same (split_last xs x earlier later y rest)
  where
    by : z ≡ e → ((xs ≡ earlier) × (x ≡ y)) ⊎ ((front : List X) × (xs ≡ earlier ++ y ∷ front)) → ((z ∷ xs ≡ e ∷ earlier) × (x ≡ y)) ⊎ ((front : List X) × (z ∷ xs ≡ (e ∷ earlier) ++ y ∷ front))
    by same (inl (rest, last)) = inl (ap (λ a. a ∷ xs) same ∙ ap (λ l. e ∷ l) rest, last)
    by same (inr (front, rest)) = inr (front, ap (λ a. a ∷ xs) same ∙ ap (λ l. e ∷ l) rest)

fold_last : {A B : Type 0} (f : B → A → B) (b : B) (xs : List A) (x : A) → fold f b (xs ++ x ∷ []) ≡ f (fold f b xs) x
fold_last f b [] x = refl
fold_last f b (y ∷ xs) x = fold_last f (f b y) xs x

map_last : {A B : Type 0} (f : A → B) (xs : List A) (x : A) → map f (xs ++ x ∷ []) ≡ map f xs ++ f x ∷ []
map_last f [] x = refl
map_last f (y ∷ xs) x = ap (λ l. f y ∷ l) (map_last f xs x)

logged_last : {D : Type 0} (device : ℕ) (noted : List Logged) (lines : List (LineDone D)) (line : LineDone D) → logged device noted (lines ++ line ∷ []) ≡ logged_with device (logged device noted lines) line
logged_last device noted lines line = fold_last (logged_with device) noted lines line

module _ {D : Type 0} (here : Setting D) where
  are_then : (first middle : Seen D) (lines : List (LineDone D)) (line : LineDone D) → AreDone here first lines middle → line.before ≡ middle → IsDone here false line
      → AreDone here first (lines ++ line ∷ []) line.behind
  are_then first middle [] line are at done = (at ∙ sym are, done, refl)
  are_then first middle (x ∷ lines) line are at done = (are.0, are.1, are_then x.behind middle lines line are.2 at done)

  -- lines so far
  pub record LinesSoFar (seen : Seen D) (old : Scene D) (before : List ℕ) (script : List ScriptStep) (middle : Scene D) (now : List ℕ) : Type 0 where
    pub lines : List (LineDone D)
    pub last : Seen D
    pub done : AreDone here seen lines last
    pub parts : script ≡ map (λ line. line.step) lines
    pub is : IsSeenAs here last middle
    pub limit : middle.limit ≡ old.limit
    pub events : middle.events.items.items ≡ old.events.items.items ++ events_in (flat_map (λ line. line.turns) lines)
    pub printed : now ≡ before ++ flat_map (λ line. line.text) lines
    pub noted : KeepsLogs old middle lines
    pub logs : PrintLogs here.decls.names (λ device. noted_on old.links.logs device) lines

  module _ (seen : Seen D) (old : Scene D) (before : List ℕ) where
    pub no_line_yet : IsSeenAs here seen old → LinesSoFar seen old before [] old before
    no_line_yet is = record {
      lines = [];
      last = seen;
      done = refl;
      parts = refl;
      is = is;
      limit = refl;
      events = sym (append-nil old.events.items.items);
      printed = sym (append-nil before);
      noted = λ device. refl;
      logs = λ earlier later line device wrong is. absurd (no_line earlier later line wrong);
    }
      where
        no_line : (earlier later : List (LineDone D)) (line : LineDone D) → [] ≡ earlier ++ line ∷ later → ⊥
        no_line [] later line is = cc
        no_line (x ∷ earlier) later line is = cc

    module _ (script : List ScriptStep) (one : ScriptStep) (middle new : Scene D) (now after : List ℕ) (so : LinesSoFar seen old before script middle now) where
      -- the events and the texts of one line more
      events_more : (turns : List (Turn D)) (line : LineDone D) → line.turns ≡ turns → new.events.items.items ≡ middle.events.items.items ++ events_in turns
          → new.events.items.items ≡ old.events.items.items ++ events_in (flat_map (λ x. x.turns) (so.lines ++ line ∷ []))
      events_more turns line are events =
          events ∙ ap (λ es. es ++ events_in turns) so.events
          ∙ append_assoc old.events.items.items (events_in (flat_map (λ x. x.turns) so.lines)) (events_in turns)
          ∙ ap (λ es. old.events.items.items ++ es)
          (sym (flat_then (λ turn. event_list turn.seen) (flat_map (λ x. x.turns) so.lines) turns)
          ∙ ap (λ ts. events_in (flat_map (λ x. x.turns) so.lines ++ ts)) (sym (ap (λ ts. ts ++ []) are ∙ append-nil turns))
          ∙ ap (λ (ts : List (Turn D)). events_in ts) (sym (flat_then (λ (x : LineDone D). x.turns) so.lines (line ∷ []))))

      text_more : (text : List ℕ) (line : LineDone D) → line.text ≡ text → after ≡ now ++ text → after ≡ before ++ flat_map (λ x. x.text) (so.lines ++ line ∷ [])
      text_more text line is printed =
          printed ∙ ap (λ l. l ++ text) so.printed
          ∙ append_assoc before (flat_map (λ x. x.text) so.lines) text
          ∙ ap (λ l. before ++ l)
          (ap (λ l. flat_map (λ x. x.text) so.lines ++ l) (sym (ap (λ l. l ++ []) is ∙ append-nil text))
          ∙ sym (flat_then (λ (x : LineDone D). x.text) so.lines (line ∷ [])))

      pub line_more : DoesLine here one so.last middle new now after → LinesSoFar seen old before (script ++ one ∷ []) new after
      line_more does =
          let line : LineDone D = record { step = one; before = so.last; turns = does.turns; behind = does.next; text = does.text } in
          record {
            lines = so.lines ++ line ∷ [];
            last = does.next;
            done = are_then seen so.last so.lines line so.done refl does.done;
            parts = ap (λ l. l ++ one ∷ []) so.parts ∙ sym (map_last (λ (x : LineDone D). x.step) so.lines line);
            is = does.is;
            limit = does.limit ∙ so.limit;
            events = events_more does.turns line refl does.events;
            printed = text_more does.text line refl does.printed;
            noted = λ device. does.logs device
                ∙ ap (λ rows. if is_log device one then [] else rows ++ operations_in device does.turns) (so.noted device)
                ∙ sym (logged_last device (noted_on old.links.logs device) so.lines line);
            logs = λ earlier later x device is shows. printed_log line refl does refl earlier x device shows (split_last so.lines line earlier later x is);
          }
        where
          printed_log : (line : LineDone D) → line.step ≡ one → (does : DoesLine here one so.last middle new now after) → line.text ≡ does.text → (earlier : List (LineDone D)) (x : LineDone D) (device : ℕ)
              → x.step ≡ step.Log device → ((so.lines ≡ earlier) × (line ≡ x)) ⊎ ((front : List (LineDone D)) × (so.lines ≡ earlier ++ x ∷ front))
              → x.text ≡ log_text (name_of here.decls.names device) (logged device (noted_on old.links.logs device) earlier)
          printed_log line at does says earlier x device shows (inr (front, is)) = so.logs earlier front x device is shows
          printed_log line at does says earlier x device shows (inl (lines, last)) =
              ap (λ (l : LineDone D). l.text) (sym last) ∙ says ∙ does.log device (sym at ∙ ap (λ (l : LineDone D). l.step) last ∙ shows)
              ∙ ap (λ (rows : List Logged). log_text (name_of here.decls.names device) rows) (so.noted device ∙ ap (λ (l : List (LineDone D)). logged device (noted_on old.links.logs device) l) lines)

      -- the run ended in a line
      pub line_ended : (why : WorldStop) (rest : List ScriptStep) → EndsInLine here one so.last middle new now after why
          → (last : Seen D) × (does : RunsInWorld here (script ++ one ∷ rest) seen old new before after last)
          × ((does.run.why ≡ Some (end_of_run why)) × HasDisk new.place last.journal.disk)
      line_ended why rest ends =
          let line : LineDone D = record { step = one; before = so.last; turns = ends.turns; behind = ends.last; text = ends.text } in (
            ends.last,
            record {
              run = record {
                lines = so.lines;
                middle = so.last;
                done = so.done;
                end = Some line;
                ends = (refl, ends.done, refl);
                why = Some (end_of_run why);
                because = (ends.because, ends.says);
                rest = rest;
                parts = ap (λ l. l ++ one ∷ rest) so.parts ∙ sym (append_assoc (map (λ (x : LineDone D). x.step) so.lines) (one ∷ []) rest)
                    ∙ ap (λ l. l ++ rest) (sym (map_last (λ (x : LineDone D). x.step) so.lines line));
                whole = λ wrong. absurd (none-some line (sym wrong));
                noted = λ device. noted_on old.links.logs device;
                logs = so.logs;
              };
              noted = λ device. refl;
              events = events_more ends.turns line refl ends.events;
              printed = text_more ends.text line refl ends.printed;
            },
            (refl, ends.disk),
          )

    -- all lines were done
    pub lines_whole : (script : List ScriptStep) (middle : Scene D) (now : List ℕ) (so : LinesSoFar seen old before script middle now)
        → (last : Seen D) × (does : RunsInWorld here script seen old middle before now last)
        × ((does.run.end ≡ None) × IsSeenAs here last middle × KeepsLogs old middle does.run.lines)
    lines_whole script middle now so = (
      so.last,
      record {
        run = record {
          lines = so.lines;
          middle = so.last;
          done = so.done;
          end = None;
          ends = refl;
          why = None;
          because = refl;
          rest = [];
          parts = so.parts ∙ sym (append-nil (map (λ (x : LineDone D). x.step) so.lines))
              ∙ ap (λ l. map (λ (x : LineDone D). x.step) l ++ []) (sym (append-nil so.lines));
          whole = λ none. refl;
          noted = λ device. noted_on old.links.logs device;
          logs = so.logs;
        };
        noted = λ device. refl;
        events = so.events ∙ ap (λ (l : List (LineDone D)). old.events.items.items ++ events_in (flat_map (λ x. x.turns) l)) (sym (append-nil so.lines));
        printed = so.printed ∙ ap (λ (l : List (LineDone D)). before ++ flat_map (λ x. x.text) l) (sym (append-nil so.lines));
      },
      (refl, so.is, so.noted),
    )

-- the lines of a script that were done so far
pub record ScriptSoFar {D : Type 0} (disk : DiskMeaning D) (whole script : List ScriptStep) (old : Scene D) (before : List ℕ) (middle : Scene D) (now : List ℕ) : Type 0 where
  pub takes : TakesAnyLine disk middle
  pub decls : decls_in middle.place ≡ decls_in old.place
  pub lines : (decls : Decls) (granted : Bool) (seen : Seen D) → IsSeenAs (run_setting disk decls old.limit granted) seen old
      → (granted ≡ true → All (λ line. line ≢ step.Recover) whole) → LinesSoFar (run_setting disk decls old.limit granted) seen old before script middle now

list_at : {X : Type 0} (P : X → Bool) (xs : List X) (i : ℕ) (x : X) → list_all P xs ≡ true → slice_get xs i ≡ Some x → P x ≡ true
list_at P [] i x all is = absurd (none-some x is)
list_at P (y ∷ xs) zero x all is = let same : y ≡ x = same_Some y x is in ap P (sym same) ∙ first_of (P y) (list_all P xs) all
  where
    first_of : (a b : Bool) → (a && b) ≡ true → a ≡ true
    first_of true b h = refl
    first_of false b h = h
list_at P (y ∷ xs) (suc i) x all is = list_at P xs i x (second_of (P y) (list_all P xs) all) is
  where
    second_of : (a b : Bool) → (a && b) ≡ true → b ≡ true
    second_of true b h = h
    second_of false b h = absurd (false≢true h)

-- the declarations allow each line
pub allowed_at : {D : Type 0} (old middle : Scene D) (whole : List ScriptStep) (i : ℕ) (one : ScriptStep) → MatchOption (decls_in old.place) ⊥ (λ decls. IsTrue (list_all (is_step decls) whole))
    → decls_in middle.place ≡ decls_in old.place → slice_get whole i ≡ Some one → MatchOption (decls_in middle.place) ⊥ (λ decls. IsTrue (is_step decls one))
allowed_at old middle whole i one allowed same is = by (decls_in middle.place) (subst (λ (o : Option Decls). MatchOption o ⊥ (λ decls. IsTrue (list_all (is_step decls) whole))) (sym same) allowed)
  where
    by : (o : Option Decls) → MatchOption o ⊥ (λ decls. IsTrue (list_all (is_step decls) whole)) → MatchOption o ⊥ (λ decls. IsTrue (is_step decls one))
    by None h = h
    by (Some decls) h = list_at (is_step decls) whole i one h is

abbrev pub line_done : Unit {0} → Result (Unit {0}) WorldStop
line_done value = Ok value

abbrev pub line_ends : WorldStop → Result (Unit {0}) WorldStop
line_ends why = Err why

module _ {D : Type 0} (disk : DiskMeaning D) (whole : List ScriptStep) (old : Scene D) (before : List ℕ) where
  pub script_first : TakesAnyLine disk old → ScriptSoFar disk whole [] old before old before
  script_first takes = record {
    takes = takes;
    decls = refl;
    lines = λ decls granted seen is recovers. no_line_yet (run_setting disk decls old.limit granted) seen old before is;
  }

  module _ (script : List ScriptStep) (one : ScriptStep) (i : ℕ) (there : slice_get whole i ≡ Some one) (middle new : Scene D) (now after : List ℕ)
      (so : ScriptSoFar disk whole script old before middle now) where
    may_come : (granted : Bool) → (granted ≡ true → All (λ line. line ≢ step.Recover) whole) → MayRecover one granted
    may_come granted none = may_by one granted (λ is. All-at (λ line. line ≢ step.Recover) whole i one (none is) there)

    pub script_more : IsLineCall disk one middle (line_done tt) new now after → GoesOnAfter disk middle (line_done tt) new → ScriptSoFar disk whole (script ++ one ∷ []) old before new after
    script_more call goes = record {
      takes = goes.0;
      decls = goes.1 ∙ so.decls;
      lines = λ decls granted seen is recovers.
          (let here : Setting D = run_setting disk decls old.limit granted in
          let lines : LinesSoFar here seen old before script middle now = so.lines decls granted seen is recovers in
          line_more here seen old before script one middle new now after lines
          (subst (λ (l : ℕ). IsSeenAs (run_setting disk decls l granted) lines.last middle → DoesLine (run_setting disk decls l granted) one lines.last middle new now after) lines.limit
          (λ at. call decls granted lines.last at (may_come granted recovers)) lines.is));
    }

    pub script_ended : (why : WorldStop) (rest : List ScriptStep) → whole ≡ script ++ one ∷ rest → IsLineCall disk one middle (line_ends why) new now after
        → RunsScript disk whole old (line_ends why) new before after
    script_ended why rest is_whole call = λ decls granted seen is recovers.
        (let here : Setting D = run_setting disk decls old.limit granted in
        let lines : LinesSoFar here seen old before script middle now = so.lines decls granted seen is recovers in
        subst (λ (steps : List ScriptStep). (last : Seen D) × (does : RunsInWorld here steps seen old new before after last)
        × ((does.run.why ≡ Some (end_of_run why)) × HasDisk new.place last.journal.disk)) (sym is_whole)
        (line_ended here seen old before script one middle new now after lines why rest
        (subst (λ (l : ℕ). IsSeenAs (run_setting disk decls l granted) lines.last middle → EndsInLine (run_setting disk decls l granted) one lines.last middle new now after why) lines.limit
        (λ at. call decls granted lines.last at (may_come granted recovers)) lines.is)))

  pub script_whole : (middle : Scene D) (now : List ℕ) → ScriptSoFar disk whole whole old before middle now → RunsScript disk whole old (line_done tt) middle before now
  script_whole middle now so = λ decls granted seen is recovers.
      (let here : Setting D = run_setting disk decls old.limit granted in
      let all = lines_whole here seen old before whole middle now (so.lines decls granted seen is recovers) in
      (all.0, all.1, (all.2.0, all.2.1, so.takes.3, all.2.2)))
