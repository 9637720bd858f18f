-- A script's lines that are written are read.
use Rattle.std.proofs.Common.{◌≡◌, ℕ, ◌<◌, ◌≤◌, ◌+◌, ◌^◌, Bool, true, false, not, cond, List, [], ◌∷◌, ◌++◌, codes, length, length-append, refl, ap, ◌∙◌, arith, append_assoc, Result, Ok, Err, Option, Some, decimal, nat_le, nat_lt}
use Rattle.std.specs.List.{list_all}
use Rattle.std.specs.Str.{is_utf8}
use Rattle.std.proofs.lemmas.Bool.{lt-leb}
use Rattle.orc_decls.specs.Calls.{schema_named}
use Rattle.orc_decls.specs.declared.rule.Rule.{Rule}
use Rattle.orc_decls.specs.declared.rule.Rule.TheVariants as rule
use Rattle.orc_lines.specs.Rules.{on_line, on_ok}
use Rattle.orc_script.specs.Scripts.{script_steps, a_step, after_begin, after_on_device, after_fault, after_json, after_meta, after_step, after_stop, after_tick, bare_step, step_on_device, fault_line, link_fault_of, is_caller_more, is_full, scripted_at, stop_words, with_step, word_at, words_at}
use Rattle.orc_lines.specs.Keywords.{keyword_of}
use Rattle.orc_lines.specs.Lines.{is_skipped, text_of}
use Rattle.orc_lines.specs.Names.{place_of, with_name}
use Rattle.orc_path.specs.Limits.{is_long_path}
use Rattle.orc_path.specs.Steps.{PathStep, is_path}
use Rattle.orc_path.specs.Texts.{path_text}
use Rattle.orc_script.specs.Places.{device_node_of, device_node_words, is_node_path}
use Rattle.orc_lines.specs.Words.{cut_at}
use Rattle.orc_lines.specs.declared.keyword.Keyword.{Keyword}
use Rattle.orc_lines.specs.declared.keyword.Keyword.TheVariants as keyword
use Rattle.orc_device.specs.declared.kind.OpKind.{OpKind}
use Rattle.orc_device.specs.declared.kind.OpKind.TheVariants as kind
use Rattle.orc_device.specs.declared.kind.When.{When}
use Rattle.orc_device.specs.declared.kind.When.TheVariants as moment
use Rattle.orc_script.specs.Operations.{moment_named, operation_named}
use Rattle.orc_script.specs.Steps.{is_tick}
use Rattle.orc_decls.specs.declared.declarations.Decls.{Decls}
use Rattle.orc_script.specs.declared.step.ScriptStep.{ScriptStep}
use Rattle.orc_script.specs.declared.step.ScriptStep.TheVariants.{Begin, Admit, Step, Decide, Settle, Tick, Restart, Fault, Stop, StopAt, Recover, Reconcile, Show, Json, Log, Meta, ShowData, History}
use Rattle.orc_lines.specs.declared.lines.TheConstants.{LARGEST_BUNDLE, LONGEST_LINE}
use Rattle.orc_script.specs.declared.script.Script.{Script}
use Rattle.orc_script.specs.declared.script.Part.TheVariants as part
use Rattle.orc_script.specs.declared.script.TheConstants.{MOST_STEPS}
use Rattle.std.proofs.lemmas.Str.{is_utf8-from_IsUtf8}
use Rattle.orc_bundle_laws.specs.Written.{AreLinesOf, IsLineOf, failing_text, moment_word, none, one, operation_word, skipped}
use Rattle.orc_bundle_laws.proofs.Skipped.{script}
use Rattle.orc_bundle_laws.proofs.Texts.{is_line_byte, IsLawfulName, IsPart, number_short, part_append, part_known, part_of_word, path_short, word_of_number, word_of_path}
use Rattle.orc_bundle_laws.proofs.Bytes.{bytes_of}
use Rattle.orc_bundle_laws.proofs.WrittenItems.{node_known, node_path_again}
use Rattle.orc_bundle_laws.proofs.WrittenLines.{IsText, cut_word, not_large, number_again}

-- a line is looked at by its text
scripted_by_text : (d : Decls) (s : Script) (at : ℕ) (t line : List ℕ) (later : List (List ℕ)) → IsText t → IsLineOf t line → at + length line ≤ LARGEST_BUNDLE
    → scripted_at d s at line later ≡ after_step d s t later
unfolding scripted_at
scripted_by_text d s at t line later is spells within =
    let says = spells.says in
    let text = text_of line in
    let looked : Result Script Rule = cond (is_skipped text) (Ok s) (after_step d s text later) in
    ap (λ (b : Bool). cond b (Err rule.Size) (cond (not (is_utf8 text)) (Err rule.Utf8) looked)) (not_large t line at says is.short within)
    ∙ ap (λ (b : Bool). cond (not b) (Err rule.Utf8) looked) (ap is_utf8 says ∙ is_utf8-from_IsUtf8 t is.part.utf8)
    ∙ ap (λ (b : Bool). cond b (Ok s) (after_step d s text later)) (ap is_skipped says ∙ is.kept)
    ∙ ap (λ (x : List ℕ). after_step d s x later) says

passed_over : (d : Decls) (s : Script) (at : ℕ) (t line : List ℕ) (later : List (List ℕ)) → IsLineOf t line → is_skipped t ≡ true → is_utf8 t ≡ true → length t ≤ LONGEST_LINE
    → at + length line ≤ LARGEST_BUNDLE → scripted_at d s at line later ≡ Ok s
passed_over d s at t line later spells skip utf8 short within =
    script at line later d s
    (record { small = not_large t line at spells.says short within; utf8 = ap is_utf8 spells.says ∙ utf8; skipped = ap is_skipped spells.says ∙ skip })

-- wherever they begin, lines of these texts give this
abbrev pub Ends : Decls → Script → List (List ℕ) → Result (List ScriptStep) (ℕ × Rule) → Type 0
Ends d s ts r = (ls : List (List ℕ)) → AreLinesOf ts ls → (at n : ℕ) → at + bytes_of ls ≤ LARGEST_BUNDLE → script_steps d s at n ls ≡ r

-- no line is left
pub no_line : (d : Decls) (s : Script) → Ends d s [] (Ok s.steps)
no_line d s ls none at n within = refl
no_line d s ls (skipped text l texts more spells over utf8 short are) at n within =
    ap (λ (x : Result Script Rule). on_line (n + 1) x (λ v. script_steps d v (at + length l) (n + 1) more))
    (passed_over d s at text l more spells over utf8 short (omega arith))
    ∙ no_line d s more are (at + length l) (n + 1) (omega arith)

-- one text more before these
pub one_line : (d : Decls) (s u : Script) (t : List ℕ) (ts : List (List ℕ)) (r : Result (List ScriptStep) (ℕ × Rule))
    → IsText t → ((later : List (List ℕ)) → AreLinesOf ts later → after_step d s t later ≡ Ok u)
    → Ends d u ts r → Ends d s (t ∷ ts) r
one_line d s u t ts r is reads behind = ends where
  ends : Ends d s (t ∷ ts) r
  ends ls (one text l texts more spells are) at n within =
      ap (λ (x : Result Script Rule). on_line (n + 1) x (λ v. script_steps d v (at + length l) (n + 1) more))
      (scripted_by_text d s at t l more is spells (omega arith) ∙ reads more are)
      ∙ behind more are (at + length l) (n + 1) (omega arith)
  ends ls (skipped text l texts more spells over utf8 short are) at n within =
      ap (λ (x : Result Script Rule). on_line (n + 1) x (λ v. script_steps d v (at + length l) (n + 1) more))
      (passed_over d s at text l more spells over utf8 short (omega arith))
      ∙ ends more are (at + length l) (n + 1) (omega arith)

-- no call is open
abbrev pub resting : List (List ℕ) → List ScriptStep → ℕ → Script
resting callers done number = record { part = part.Steps; callers = callers; steps = done; caller = []; number = number; actions = []; name = []; writes = [] }

pub room : (done : List ScriptStep) → length done < MOST_STEPS → nat_le MOST_STEPS (length done) ≡ false
room done h = lt-leb MOST_STEPS (length done) h

-- steps of one word

bare_text : (t : List ℕ) → list_all is_line_byte t ≡ true → list_all (λ b. nat_lt b 128) t ≡ true → is_skipped t ≡ false → length t ≤ 100 → IsText t
bare_text t bytes low kept short = record { part = part_known t bytes low; kept = kept; short = omega arith }

-- texts of steps

-- a word and a name
pub named_text : (word name : List ℕ) → list_all is_line_byte word ≡ true → list_all (λ b. nat_lt b 128) word ≡ true → is_skipped (word ++ name) ≡ false → length word ≤ 10
    → IsLawfulName name → IsText (word ++ name)
named_text word name bytes low kept few l =
    let size = l.size in
    let whole = length-append word name in
    record { part = part_append word name (part_known word bytes low) (part_of_word name l.word); kept = kept; short = omega arith }

pub tick_text : (seconds : ℕ) → seconds < 2 ^ 64 → IsText (codes "tick " ++ decimal seconds)
tick_text seconds fits =
    let digits = number_short seconds fits in
    let whole = length-append (codes "tick ") (decimal seconds) in
    record {
      part = part_append (codes "tick ") (decimal seconds) (part_known (codes "tick ") refl refl) (part_of_word (decimal seconds) (word_of_number seconds fits));
      kept = refl;
      short = omega arith;
    }

-- words of a line `fault`

-- an ASCII text of a line, which is short
record IsSmall (t : List ℕ) : Type 0 where
  part : IsPart t
  short : length t ≤ 20

small : (t : List ℕ) → list_all is_line_byte t ≡ true → list_all (λ b. nat_lt b 128) t ≡ true → length t ≤ 20 → IsSmall t
small t bytes low few = record { part = part_known t bytes low; short = few }

small_operation : (operation : OpKind) → IsSmall (operation_word operation)
small_operation kind.OpenSession = small (codes "OpenSession") refl refl (omega arith)
small_operation kind.LockRunning = small (codes "LockRunning") refl refl (omega arith)
small_operation kind.LockCandidate = small (codes "LockCandidate") refl refl (omega arith)
small_operation kind.Edit = small (codes "Edit") refl refl (omega arith)
small_operation kind.Validate = small (codes "Validate") refl refl (omega arith)
small_operation kind.CommitConfirmed = small (codes "CommitConfirmed") refl refl (omega arith)
small_operation kind.Commit = small (codes "Commit") refl refl (omega arith)
small_operation kind.Confirm = small (codes "Confirm") refl refl (omega arith)
small_operation kind.Cancel = small (codes "Cancel") refl refl (omega arith)
small_operation kind.Discard = small (codes "Discard") refl refl (omega arith)
small_operation kind.UnlockCandidate = small (codes "UnlockCandidate") refl refl (omega arith)
small_operation kind.UnlockRunning = small (codes "UnlockRunning") refl refl (omega arith)
small_operation kind.CloseSession = small (codes "CloseSession") refl refl (omega arith)
small_operation kind.GetRunning = small (codes "GetRunning") refl refl (omega arith)

small_moment : (at : When) → IsSmall (moment_word at)
small_moment moment.Before = small (codes "before") refl refl (omega arith)
small_moment moment.After = small (codes "after") refl refl (omega arith)

pub fault_line_text : (name : List ℕ) (operation : OpKind) (at : When) → IsLawfulName name → IsText (codes "fault " ++ name ++ codes " " ++ failing_text operation at)
fault_line_text name operation at l =
    let size = l.size in
    let first = small_operation operation in
    let second = small_moment at in
    let said = length-append (operation_word operation ++ codes " ") (moment_word at) in
    let words = length-append (operation_word operation) (codes " ") in
    let one = length-append (codes "fault ") name in
    let two = length-append (codes "fault " ++ name) (codes " ") in
    let three = length-append (codes "fault " ++ name ++ codes " ") (failing_text operation at) in
    let few = first.short in
    let less = second.short in
    record {
      part = part_append (codes "fault " ++ name ++ codes " ") (failing_text operation at)
          (part_append (codes "fault " ++ name) (codes " ") (part_append (codes "fault ") name (part_known (codes "fault ") refl refl) (part_of_word name l.word)) (part_known (codes " ") refl refl))
          (part_append (operation_word operation ++ codes " ") (moment_word at) (part_append (operation_word operation) (codes " ") first.part (part_known (codes " ") refl refl)) second.part);
      kept = refl;
      short = omega arith;
    }

moment_again : (at : When) → moment_named (moment_word at) ≡ Some at
unfolding moment_named
moment_again moment.Before = refl
moment_again moment.After = refl

-- the text of a link's fault is read as that fault
fault_again : (operation : OpKind) (at : When) → link_fault_of (failing_text operation at) ≡ Ok (operation, at)
unfolding link_fault_of operation_named
fault_again kind.OpenSession at = let m = moment_again at in rw m refl
fault_again kind.LockRunning at = let m = moment_again at in rw m refl
fault_again kind.LockCandidate at = let m = moment_again at in rw m refl
fault_again kind.Edit at = let m = moment_again at in rw m refl
fault_again kind.Validate at = let m = moment_again at in rw m refl
fault_again kind.CommitConfirmed at = let m = moment_again at in rw m refl
fault_again kind.Commit at = let m = moment_again at in rw m refl
fault_again kind.Confirm at = let m = moment_again at in rw m refl
fault_again kind.Cancel at = let m = moment_again at in rw m refl
fault_again kind.Discard at = let m = moment_again at in rw m refl
fault_again kind.UnlockCandidate at = let m = moment_again at in rw m refl
fault_again kind.UnlockRunning at = let m = moment_again at in rw m refl
fault_again kind.CloseSession at = let m = moment_again at in rw m refl
fault_again kind.GetRunning at = let m = moment_again at in rw m refl

pub meta_text : (name : List ℕ) (path : List PathStep) → IsLawfulName name → is_path path ≡ true → is_long_path path ≡ false
    → IsText (codes "meta " ++ name ++ codes " " ++ path_text path)
meta_text name path l is kept =
    let one = length-append (codes "meta ") name in
    let two = length-append (codes "meta " ++ name) (codes " ") in
    let three = length-append (codes "meta " ++ name ++ codes " ") (path_text path) in
    let size = l.size in
    let most = path_short path kept in
    record {
      part = part_append (codes "meta " ++ name ++ codes " ") (path_text path)
          (part_append (codes "meta " ++ name) (codes " ") (part_append (codes "meta ") name (part_known (codes "meta ") refl refl) (part_of_word name l.word)) (part_known (codes " ") refl refl))
          (part_of_word (path_text path) (word_of_path path is));
      kept = refl;
      short = omega arith;
    }

pub stop_at_text : (count bytes : ℕ) → count < 2 ^ 64 → bytes < 2 ^ 64 → IsText (codes "stop " ++ decimal count ++ codes " " ++ decimal bytes)
stop_at_text count bytes c b =
    let short_count = number_short count c in
    let short_bytes = number_short bytes b in
    let one = length-append (codes "stop ") (decimal count) in
    let two = length-append (codes "stop " ++ decimal count) (codes " ") in
    let three = length-append (codes "stop " ++ decimal count ++ codes " ") (decimal bytes) in
    record {
      part = part_append (codes "stop " ++ decimal count ++ codes " ") (decimal bytes)
          (part_append (codes "stop " ++ decimal count) (codes " ") (part_append (codes "stop ") (decimal count) (part_known (codes "stop ") refl refl) (part_of_word (decimal count) (word_of_number count c))) (part_known (codes " ") refl refl))
          (part_of_word (decimal bytes) (word_of_number bytes b));
      kept = refl;
      short = omega arith;
    }

module _ (d : Decls) (callers : List (List ℕ)) (done : List ScriptStep) (number : ℕ) (rest : List (List ℕ)) (r : Result (List ScriptStep) (ℕ × Rule)) (few : length done < MOST_STEPS) where
  abbrev here : Script
  here = resting callers done number

  abbrev behind : ScriptStep → Script
  behind step = resting callers (done ++ step ∷ []) number

  admit_reads : (later : List (List ℕ)) → after_step d here (codes "admit") later ≡ Ok (behind Admit)
  unfolding after_step word_at bare_step keyword_of
  admit_reads later = let full = room done few in rw full refl

  decide_reads : (later : List (List ℕ)) → after_step d here (codes "decide") later ≡ Ok (behind Decide)
  unfolding after_step word_at bare_step keyword_of
  decide_reads later = let full = room done few in rw full refl

  settle_reads : (later : List (List ℕ)) → after_step d here (codes "settle") later ≡ Ok (behind Settle)
  unfolding after_step word_at bare_step keyword_of
  settle_reads later = let full = room done few in rw full refl

  stop_reads : (later : List (List ℕ)) → after_step d here (codes "stop") later ≡ Ok (behind Stop)
  unfolding after_step word_at bare_step keyword_of
  stop_reads later = let full = room done few in rw full refl

  recover_reads : (later : List (List ℕ)) → after_step d here (codes "recover") later ≡ Ok (behind Recover)
  unfolding after_step word_at bare_step keyword_of
  recover_reads later = let full = room done few in rw full refl

  reconcile_reads : (later : List (List ℕ)) → after_step d here (codes "reconcile") later ≡ Ok (behind Reconcile)
  unfolding after_step word_at bare_step keyword_of
  reconcile_reads later = let full = room done few in rw full refl

  history_reads : (later : List (List ℕ)) → after_step d here (codes "history") later ≡ Ok (behind History)
  unfolding after_step word_at bare_step keyword_of
  history_reads later = let full = room done few in rw full refl

  data_reads : (later : List (List ℕ)) → after_step d here (codes "data") later ≡ Ok (behind ShowData)
  unfolding after_step word_at bare_step keyword_of
  data_reads later = let full = room done few in rw full refl

  pub admit_line : Ends d (behind Admit) rest r → Ends d here (codes "admit" ∷ rest) r
  admit_line = one_line d here (behind Admit) (codes "admit") rest r (bare_text (codes "admit") refl refl refl (omega arith)) (λ later are. admit_reads later)

  pub decide_line : Ends d (behind Decide) rest r → Ends d here (codes "decide" ∷ rest) r
  decide_line = one_line d here (behind Decide) (codes "decide") rest r (bare_text (codes "decide") refl refl refl (omega arith)) (λ later are. decide_reads later)

  pub settle_line : Ends d (behind Settle) rest r → Ends d here (codes "settle" ∷ rest) r
  settle_line = one_line d here (behind Settle) (codes "settle") rest r (bare_text (codes "settle") refl refl refl (omega arith)) (λ later are. settle_reads later)

  pub stop_line : Ends d (behind Stop) rest r → Ends d here (codes "stop" ∷ rest) r
  stop_line = one_line d here (behind Stop) (codes "stop") rest r (bare_text (codes "stop") refl refl refl (omega arith)) (λ later are. stop_reads later)

  pub recover_line : Ends d (behind Recover) rest r → Ends d here (codes "recover" ∷ rest) r
  recover_line = one_line d here (behind Recover) (codes "recover") rest r (bare_text (codes "recover") refl refl refl (omega arith)) (λ later are. recover_reads later)

  pub reconcile_line : Ends d (behind Reconcile) rest r → Ends d here (codes "reconcile" ∷ rest) r
  reconcile_line = one_line d here (behind Reconcile) (codes "reconcile") rest r (bare_text (codes "reconcile") refl refl refl (omega arith)) (λ later are. reconcile_reads later)

  pub history_line : Ends d (behind History) rest r → Ends d here (codes "history" ∷ rest) r
  history_line = one_line d here (behind History) (codes "history") rest r (bare_text (codes "history") refl refl refl (omega arith)) (λ later are. history_reads later)

  pub data_line : Ends d (behind ShowData) rest r → Ends d here (codes "data" ∷ rest) r
  data_line = one_line d here (behind ShowData) (codes "data") rest r (bare_text (codes "data") refl refl refl (omega arith)) (λ later are. data_reads later)

  -- steps of more words

  -- those that name a device alone

  device_reads : (word : Keyword) (name : List ℕ) (device : ℕ) → IsLawfulName name → place_of d.names name ≡ Some device
      → after_on_device word d here name ≡ Ok (behind (step_on_device word device))
  unfolding after_on_device
  device_reads word name device l place =
      let full = room done few in
      let ident = l.identifier in
      let short = l.short in
      rw ident (rw short (rw full (rw place refl)))

  show_is : (later : List (List ℕ)) (name : List ℕ) → after_step d here (codes "show " ++ name) later ≡ after_on_device keyword.Show d here name
  unfolding after_step words_at a_step keyword_of
  show_is later name = refl

  step_is : (later : List (List ℕ)) (name : List ℕ) → after_step d here (codes "step " ++ name) later ≡ after_on_device keyword.Step d here name
  unfolding after_step words_at a_step keyword_of
  step_is later name = refl

  restart_is : (later : List (List ℕ)) (name : List ℕ) → after_step d here (codes "restart " ++ name) later ≡ after_on_device keyword.Restart d here name
  unfolding after_step words_at a_step keyword_of
  restart_is later name = refl

  log_is : (later : List (List ℕ)) (name : List ℕ) → after_step d here (codes "log " ++ name) later ≡ after_on_device keyword.Log d here name
  unfolding after_step words_at a_step keyword_of
  log_is later name = refl

  module _ (name : List ℕ) (device : ℕ) (l : IsLawfulName name) (place : place_of d.names name ≡ Some device) where
    pub show_line : Ends d (behind (Show device)) rest r → Ends d here ((codes "show " ++ name) ∷ rest) r
    show_line =
        one_line d here (behind (Show device)) (codes "show " ++ name) rest r (named_text (codes "show ") name refl refl refl (omega arith) l)
        (λ later are. show_is later name ∙ device_reads keyword.Show name device l place)

    pub step_line : Ends d (behind (Step device)) rest r → Ends d here ((codes "step " ++ name) ∷ rest) r
    step_line =
        one_line d here (behind (Step device)) (codes "step " ++ name) rest r (named_text (codes "step ") name refl refl refl (omega arith) l)
        (λ later are. step_is later name ∙ device_reads keyword.Step name device l place)

    pub restart_line : Ends d (behind (Restart device)) rest r → Ends d here ((codes "restart " ++ name) ∷ rest) r
    restart_line =
        one_line d here (behind (Restart device)) (codes "restart " ++ name) rest r (named_text (codes "restart ") name refl refl refl (omega arith) l)
        (λ later are. restart_is later name ∙ device_reads keyword.Restart name device l place)

    pub log_line : Ends d (behind (Log device)) rest r → Ends d here ((codes "log " ++ name) ∷ rest) r
    log_line =
        one_line d here (behind (Log device)) (codes "log " ++ name) rest r (named_text (codes "log ") name refl refl refl (omega arith) l)
        (λ later are. log_is later name ∙ device_reads keyword.Log name device l place)

  begin_reads : (later : List (List ℕ)) (caller : List ℕ) → IsLawfulName caller → is_caller_more here caller ≡ false
      → after_step d here (codes "begin " ++ caller) later ≡ Ok (resting (with_name callers caller) (done ++ Begin caller ∷ []) number)
  unfolding after_step words_at a_step keyword_of after_begin
  begin_reads later caller l known =
      let full = room done few in
      let ident = l.identifier in
      let short = l.short in
      rw ident (rw short (rw full (rw known refl)))

  pub begin_line : (caller : List ℕ) → IsLawfulName caller → is_caller_more here caller ≡ false
      → Ends d (resting (with_name callers caller) (done ++ Begin caller ∷ []) number) rest r → Ends d here ((codes "begin " ++ caller) ∷ rest) r
  begin_line caller l known =
      one_line d here (resting (with_name callers caller) (done ++ Begin caller ∷ []) number) (codes "begin " ++ caller) rest r
      (named_text (codes "begin ") caller refl refl refl (omega arith) l) (λ later are. begin_reads later caller l known)

  tick_reads : (later : List (List ℕ)) (seconds : ℕ) → seconds < 2 ^ 64 → is_tick seconds ≡ true
      → after_step d here (codes "tick " ++ decimal seconds) later ≡ Ok (behind (Tick seconds))
  unfolding after_step words_at a_step keyword_of after_tick
  tick_reads later seconds fits is =
      let full = room done few in
      let again = number_again seconds fits in
      rw again (rw is (rw full refl))

  pub tick_line : (seconds : ℕ) → seconds < 2 ^ 64 → is_tick seconds ≡ true → Ends d (behind (Tick seconds)) rest r → Ends d here ((codes "tick " ++ decimal seconds) ∷ rest) r
  tick_line seconds fits is =
      one_line d here (behind (Tick seconds)) (codes "tick " ++ decimal seconds) rest r (tick_text seconds fits) (λ later are. tick_reads later seconds fits is)

  fault_reads : (later : List (List ℕ)) (name : List ℕ) (device : ℕ) (operation : OpKind) (at : When) → IsLawfulName name → place_of d.names name ≡ Some device
      → after_step d here (codes "fault " ++ name ++ codes " " ++ failing_text operation at) later ≡ Ok (behind (Fault device operation at))
  unfolding after_step words_at a_step keyword_of after_fault
  fault_reads later name device operation at l place =
      let full = room done few in
      let ident = l.identifier in
      let short = l.short in
      let again = fault_again operation at in
      ap (λ (x : List ℕ). fault_line d here (cut_at 32 x)) (append_assoc name (codes " ") (failing_text operation at))
      ∙ ap (fault_line d here) (cut_word name (failing_text operation at) l.word)
      ∙ rw again (rw ident (rw short (rw full (rw place refl))))

  pub fault_read_line : (name : List ℕ) (device : ℕ) (operation : OpKind) (at : When) → IsLawfulName name → place_of d.names name ≡ Some device
      → Ends d (behind (Fault device operation at)) rest r → Ends d here ((codes "fault " ++ name ++ codes " " ++ failing_text operation at) ∷ rest) r
  fault_read_line name device operation at l place =
      one_line d here (behind (Fault device operation at)) (codes "fault " ++ name ++ codes " " ++ failing_text operation at) rest r
      (fault_line_text name operation at l) (λ later are. fault_reads later name device operation at l place)

  json_reads : (later : List (List ℕ)) (name : List ℕ) (device : ℕ) → IsLawfulName name → place_of d.names name ≡ Some device
      → (schema_named d.schemas d.devices name).plain ≡ false → after_step d here (codes "json " ++ name) later ≡ Ok (behind (Json device))
  unfolding after_step words_at a_step keyword_of after_json
  json_reads later name device l place typed =
      let full = room done few in
      let ident = l.identifier in
      let short = l.short in
      rw ident (rw short (rw full (rw typed (rw place refl))))

  pub json_line : (name : List ℕ) (device : ℕ) → IsLawfulName name → place_of d.names name ≡ Some device → (schema_named d.schemas d.devices name).plain ≡ false
      → Ends d (behind (Json device)) rest r → Ends d here ((codes "json " ++ name) ∷ rest) r
  json_line name device l place typed =
      one_line d here (behind (Json device)) (codes "json " ++ name) rest r (named_text (codes "json ") name refl refl refl (omega arith) l) (λ later are. json_reads later name device l place typed)

  meta_reads : (later : List (List ℕ)) (name : List ℕ) (device : ℕ) (path : List PathStep) → IsLawfulName name → place_of d.names name ≡ Some device
      → is_node_path (schema_named d.schemas d.devices name) path ≡ true
      → after_step d here (codes "meta " ++ name ++ codes " " ++ path_text path) later ≡ Ok (behind (Meta device path))
  unfolding after_step words_at a_step keyword_of after_meta device_node_of
  meta_reads later name device path l place is =
      let full = room done few in
      let ident = l.identifier in
      let short = l.short in
      let again = node_path_again (schema_named d.schemas d.devices name) path is in
      let next : Result (ℕ × List PathStep) Rule → Result Script Rule = λ r. on_ok r (λ node. Ok (with_step here (Meta node.0 node.1))) in
      ap (λ (x : List ℕ). next (device_node_words d (is_full here) (cut_at 32 x))) (append_assoc name (codes " ") (path_text path))
      ∙ ap (λ (o : Option (List ℕ × List ℕ)). next (device_node_words d (is_full here) o)) (cut_word name (path_text path) l.word)
      ∙ rw ident (rw short (rw full (rw again (rw place refl))))

  pub meta_line : (name : List ℕ) (device : ℕ) (path : List PathStep) → IsLawfulName name → place_of d.names name ≡ Some device
      → is_node_path (schema_named d.schemas d.devices name) path ≡ true
      → Ends d (behind (Meta device path)) rest r → Ends d here ((codes "meta " ++ name ++ codes " " ++ path_text path) ∷ rest) r
  meta_line name device path l place is =
      let k = node_known (schema_named d.schemas d.devices name) path is in
      one_line d here (behind (Meta device path)) (codes "meta " ++ name ++ codes " " ++ path_text path) rest r (meta_text name path l k.path k.short)
      (λ later are. meta_reads later name device path l place is)

  stop_at_reads : (later : List (List ℕ)) (count bytes : ℕ) → count < 2 ^ 64 → bytes < 2 ^ 64
      → after_step d here (codes "stop " ++ decimal count ++ codes " " ++ decimal bytes) later
      ≡ Ok (behind (StopAt count bytes))
  unfolding after_step words_at a_step keyword_of after_stop
  stop_at_reads later count bytes c b =
      let full = room done few in
      let one = number_again count c in
      let two = number_again bytes b in
      ap (λ (x : List ℕ). stop_words here (cut_at 32 x)) (append_assoc (decimal count) (codes " ") (decimal bytes))
      ∙ ap (stop_words here) (cut_word (decimal count) (decimal bytes) (word_of_number count c))
      ∙ rw one (rw two (rw full refl))

  pub stop_at_line : (count bytes : ℕ) → count < 2 ^ 64 → bytes < 2 ^ 64
      → Ends d (behind (StopAt count bytes)) rest r → Ends d here ((codes "stop " ++ decimal count ++ codes " " ++ decimal bytes) ∷ rest) r
  stop_at_line count bytes c b =
      one_line d here (behind (StopAt count bytes)) (codes "stop " ++ decimal count ++ codes " " ++ decimal bytes) rest r
      (stop_at_text count bytes c b) (λ later are. stop_at_reads later count bytes c b)
