-- All steps that are written are read.
use Rattle.std.proofs.Common.{◌≡◌, inl, ℕ, zero, suc, ◌<◌, ◌≤◌, ◌+◌, ◌^◌, Bool, true, false, not, ◌&&◌, nat_eq, cond, List, [], ◌∷◌, ◌++◌, codes, length, length-append, refl, ap, sym, ◌∙◌, subst, arith, append_assoc, append-nil, Result, Ok, Some, None, decimal, nat_le, nat_lt}
use Rattle.std.specs.List.{AllByRecursion, IsDistinct, flat_map, list_all, list_any, position_or_len}
use Rattle.std.specs.Cmp.Lexicographic.{bytes_decides}
use Rattle.std.proofs.lemmas.Bool.{and_parts, lt-leb, lt-ltb, ltb-true}
use Rattle.orc_call.specs.declared.call.Call.{Call}
use Rattle.orc_call.specs.declared.call.TheConstants.{MOST_ACTIONS}
use Rattle.orc_decls.specs.Calls.{services_once}
use Rattle.orc_decls.specs.Devices.{is_same_text, name_of}
use Rattle.orc_decls.specs.Calls.{is_action, is_call, is_lawful_name, schema_named}
use Rattle.orc_decls.specs.declared.declarations.Decls.{Decls}
use Rattle.orc_decls.specs.declared.rule.Rule.{Rule}
use Rattle.orc_script.specs.Steps.{callers_behind, callers_with, is_step, is_tick}
use Rattle.orc_decls.specs.declared.declarations.Decls.{Decls}
use Rattle.orc_lines.specs.Keywords.{keyword_of}
use Rattle.orc_lines.specs.Lines.{is_end, text_of}
use Rattle.orc_lines.specs.Names.{is_among, place_of, with_name}
use Rattle.orc_script.specs.Scripts.{a_step, after_call, after_step, call_words, is_caller_more, is_followed, words_at}
use Rattle.orc_script.specs.Places.{is_node_path}
use Rattle.orc_lines.specs.Words.{cut_at, is_text}
use Rattle.orc_call.specs.declared.call.Put.{Put}
use Rattle.orc_bundle_laws.specs.Written.{AreLinesOf, SpellsStep, lines_of_action, step_lines}
use Rattle.orc_script.specs.declared.step.ScriptStep.{ScriptStep}
use Rattle.orc_script.specs.declared.step.ScriptStep.TheVariants.{Begin, Admit, Step, Decide, Settle, Tick, Restart, Fault, Stop, StopAt, Recover, Reconcile, Show, Json, Log, Meta, ShowData, History}
use Rattle.orc_script.specs.declared.step.ScriptStep.TheVariants as script_step
use Rattle.orc_script.specs.declared.script.Script.{Script}
use Rattle.orc_script.specs.declared.script.TheConstants.{LONGEST_TICK, MOST_CALLERS, MOST_STEPS}
use Rattle.orc_lines.proofs.LinesOf.{untrue}
use Rattle.orc_bundle_laws.proofs.Texts.{IsLawfulName, lawful_name, number_short, part_append, part_known, part_of_word, word_of_number}
use Rattle.orc_bundle_laws.proofs.WrittenCalls.{AreNamed, call_read, opened}
use Rattle.orc_bundle_laws.proofs.WrittenDevices.{same_name}
use Rattle.orc_bundle_laws.proofs.WrittenLines.{IsText, among, contained_behind, cut_word, number_again}
use Rattle.orc_bundle_laws.proofs.WrittenScript.{Ends, admit_line, begin_line, data_line, decide_line, fault_read_line, history_line, json_line, log_line, meta_line, no_line, one_line, reconcile_line, recover_line, restart_line, resting, room, settle_line, show_line, step_line, stop_at_line, stop_line, tick_line}

-- the line of a call

no_caller_more : (callers : List (List ℕ)) (done : List ScriptStep) (number : ℕ) (caller : List ℕ) → length (with_name callers caller) ≤ MOST_CALLERS
    → is_caller_more (resting callers done number) caller ≡ false
no_caller_more callers done number caller h = on (is_among callers caller) h where
  on : (b : Bool) → length (cond b callers (callers ++ caller ∷ [])) ≤ MOST_CALLERS → (not b && nat_le MOST_CALLERS (length callers)) ≡ false
  on true few = refl
  on false few = let size = length-append callers (caller ∷ []) in lt-leb MOST_CALLERS (length callers) (omega arith)

call_reads : (d : Decls) (callers : List (List ℕ)) (done : List ScriptStep) (before : ℕ) (caller : List ℕ) (number : ℕ) (later : List (List ℕ))
    → length done < MOST_STEPS → IsLawfulName caller → number < 2 ^ 64 → length (with_name callers caller) ≤ MOST_CALLERS → list_any is_end later ≡ true
    → after_step d (resting callers done before) (codes "call " ++ caller ++ codes " " ++ decimal number) later
    ≡ Ok (opened (with_name callers caller) done caller number [])
unfolding after_step words_at a_step keyword_of after_call is_followed
call_reads d callers done before caller number later few l fits known ends =
    let s = resting callers done before in
    let full = room done few in
    let ident = l.identifier in
    let short = l.short in
    let again = number_again number fits in
    let more = no_caller_more callers done before caller known in
    ap (λ (x : List ℕ). call_words s (list_any is_end later) (cut_at 32 x)) (append_assoc caller (codes " ") (decimal number))
    ∙ ap (call_words s (list_any is_end later)) (cut_word caller (decimal number) l.word)
    ∙ rw again (rw ident (rw short (rw full (rw more (rw ends refl)))))

pub call_text : (caller : List ℕ) (number : ℕ) → IsLawfulName caller → number < 2 ^ 64 → IsText (codes "call " ++ caller ++ codes " " ++ decimal number)
call_text caller number l fits =
    let size = l.size in
    let digits = number_short number fits in
    let one = length-append (codes "call ") caller in
    let two = length-append (codes "call " ++ caller) (codes " ") in
    let three = length-append (codes "call " ++ caller ++ codes " ") (decimal number) in
    record {
      part = part_append (codes "call " ++ caller ++ codes " ") (decimal number)
          (part_append (codes "call " ++ caller) (codes " ") (part_append (codes "call ") caller (part_known (codes "call ") refl refl) (part_of_word caller l.word)) (part_known (codes " ") refl refl))
          (part_of_word (decimal number) (word_of_number number fits));
      kept = refl;
      short = omega arith;
    }

-- a line of these texts is `end`
abbrev HasEnd : List (List ℕ) → Type 0
HasEnd ts = (later : List (List ℕ)) → AreLinesOf ts later → list_any is_end later ≡ true

call_line : (d : Decls) (callers : List (List ℕ)) (done : List ScriptStep) (before : ℕ) (caller : List ℕ) (number : ℕ) (rest : List (List ℕ)) (r : Result (List ScriptStep) (ℕ × Rule))
    → length done < MOST_STEPS → IsLawfulName caller → number < 2 ^ 64 → length (with_name callers caller) ≤ MOST_CALLERS → HasEnd rest
    → Ends d (opened (with_name callers caller) done caller number []) rest r
    → Ends d (resting callers done before) ((codes "call " ++ caller ++ codes " " ++ decimal number) ∷ rest) r
call_line d callers done before caller number rest r few l fits most ends =
    one_line d (resting callers done before) (opened (with_name callers caller) done caller number []) (codes "call " ++ caller ++ codes " " ++ decimal number) rest r
    (call_text caller number l fits) (λ later are. call_reads d callers done before caller number later few l fits most (ends later are))

-- a call

-- what is known of a lawful call
pub record IsKnown (decls : Decls) (call : Call) : Type 0 where
  pub caller : IsLawfulName call.caller
  pub number : call.number < 2 ^ 64
  pub some : nat_eq (length call.actions) 0 ≡ false
  pub few : length call.actions ≤ MOST_ACTIONS
  pub actions : list_all (is_action decls) call.actions ≡ true
  pub once : services_once call.actions ≡ true

not_none : (n : ℕ) → nat_le 1 n ≡ true → nat_eq n 0 ≡ false
not_none n h = grind arith

at_most : (n most : ℕ) → nat_le n most ≡ true → n ≤ most
at_most n most h = grind arith

pub known : (decls : Decls) (call : Call) → is_call decls call ≡ true → IsKnown decls call
known decls call h =
    let count = nat_le 1 (length call.actions) && nat_le (length call.actions) MOST_ACTIONS in
    let named = is_lawful_name call.caller && nat_lt call.number (2 ^ 64) in
    let all = and_parts (named && count) (list_all (is_action decls) call.actions && services_once call.actions) h in
    let front = and_parts named count all.0 in
    let one = and_parts (is_lawful_name call.caller) (nat_lt call.number (2 ^ 64)) front.0 in
    let two = and_parts (nat_le 1 (length call.actions)) (nat_le (length call.actions) MOST_ACTIONS) front.1 in
    let three = and_parts (list_all (is_action decls) call.actions) (services_once call.actions) all.1 in
    record {
      caller = lawful_name call.caller one.0;
      number = ltb-true call.number (2 ^ 64) one.1;
      some = not_none (length call.actions) two.0;
      few = at_most (length call.actions) MOST_ACTIONS two.1;
      actions = three.0;
      once = three.1;
    }

is_the_end : (line : List ℕ) → text_of line ≡ codes "end" → is_end line ≡ true
is_the_end line says = ap (λ (t : List ℕ). is_text t (codes "end")) says

serve_lines : (json : List ℕ → List Put → List ℕ) (d : Decls) (callers : List (List ℕ)) (done : List ScriptStep) (before : ℕ) (call : Call) (rest : List (List ℕ)) (r : Result (List ScriptStep) (ℕ × Rule))
    → AreNamed d → length done < MOST_STEPS → is_call d call ≡ true → SpellsStep d.data_schema json (script_step.Call call) → length (with_name callers call.caller) ≤ MOST_CALLERS
    → Ends d (resting (with_name callers call.caller) (done ++ script_step.Call call ∷ []) call.number) rest r
    → Ends d (resting callers done before) (step_lines json d.names (script_step.Call call) ++ rest) r
serve_lines json d callers done before call rest r names few is spells most behind =
    let k = known d call is in
    let actions = flat_map (lines_of_action json) call.actions in
    let more = actions ++ codes "end" ∷ rest in
    let line = codes "call " ++ call.caller ++ codes " " ++ decimal call.number in
    subst (λ (ts : List (List ℕ)). Ends d (resting callers done before) (line ∷ ts) r) (sym (append_assoc actions (codes "end" ∷ []) rest))
    (call_line d callers done before call.caller call.number more r few k.caller k.number most
    (λ later are. among more later (codes "end") is_end are is_the_end (contained_behind actions (codes "end" ∷ rest) (codes "end") (inl refl)))
    (call_read (with_name callers call.caller) done call.caller call.number json d call.actions rest r names k.actions spells k.once k.few k.some behind))

-- the seconds of a line are few
pub tick_fits : (seconds : ℕ) → is_tick seconds ≡ true → seconds < 2 ^ 64
tick_fits seconds h = let most = at_most seconds LONGEST_TICK (and_parts (nat_le 1 seconds) (nat_le seconds LONGEST_TICK) h).1 in omega arith

-- the devices' names

later_other : (x : List ℕ) (xs : List (List ℕ)) (k : ℕ) → AllByRecursion (λ (n : List ℕ). is_same_text x n ≡ false) xs → k < length xs → is_same_text (name_of xs k) x ≡ false
later_other x [] k h lt = absurd (omega arith)
later_other x (y ∷ ys) zero h lt = on (is_same_text y x) refl where
  on : (t : Bool) → is_same_text y x ≡ t → is_same_text y x ≡ false
  on false is = is
  on true is = absurd (let same : is_same_text x y ≡ true = (bytes_decides x y).1 (sym ((bytes_decides y x).0 is)) in let other = h.0 in cc)
later_other x (y ∷ ys) (suc k) h lt = later_other x ys k h.1 (omega arith)

first_at : (names : List (List ℕ)) (k : ℕ) → IsDistinct is_same_text names → k < length names → position_or_len (is_same_text (name_of names k)) names ≡ k
unfolding IsDistinct
first_at [] k h lt = absurd (omega arith)
first_at (x ∷ xs) zero h lt = ap (λ (b : Bool). cond (not b) (1 + position_or_len (is_same_text x) xs) 0) (same_name x)
first_at (x ∷ xs) (suc k) h lt =
    let more = first_at xs k h.1 (omega arith) in
    ap (λ (b : Bool). cond (not b) (1 + position_or_len (is_same_text (name_of xs k)) xs) 0) (later_other x xs k h.0 (omega arith)) ∙ omega arith

place_again : (names : List (List ℕ)) (k : ℕ) → IsDistinct is_same_text names → k < length names → place_of names (name_of names k) ≡ Some k
place_again names k h lt =
    ap (λ (i : ℕ). cond (nat_lt i (length names)) (Some i) None) (first_at names k h lt)
    ∙ ap (λ (b : Bool). cond b (Some k) None) (lt-ltb k (length names) lt)

pub name_lawful : (names : List (List ℕ)) (k : ℕ) → list_all is_lawful_name names ≡ true → k < length names → is_lawful_name (name_of names k) ≡ true
name_lawful [] k h lt = absurd (omega arith)
name_lawful (n ∷ ns) zero h lt = (and_parts (is_lawful_name n) (list_all is_lawful_name ns) h).0
name_lawful (n ∷ ns) (suc k) h lt = name_lawful ns k (and_parts (is_lawful_name n) (list_all is_lawful_name ns) h).1 (omega arith)

-- callers

with_more : (callers : List (List ℕ)) (name : List ℕ) → length callers ≤ length (with_name callers name)
with_more callers name = on (is_among callers name) where
  on : (b : Bool) → length callers ≤ length (cond b callers (callers ++ name ∷ []))
  on true = omega arith
  on false = let size = length-append callers (name ∷ []) in omega arith

step_callers : (callers : List (List ℕ)) (step : ScriptStep) → length callers ≤ length (callers_with callers step)
step_callers callers (Begin caller) = with_more callers caller
step_callers callers (script_step.Call call) = with_more callers call.caller
step_callers callers other = omega arith

callers_more : (callers : List (List ℕ)) (steps : List ScriptStep) → length callers ≤ length (callers_behind callers steps)
callers_more callers [] = omega arith
callers_more callers (step ∷ steps) =
    let one = step_callers callers step in
    let rest = callers_more (callers_with callers step) steps in
    omega arith

-- the rest of the steps
module _ (json : List ℕ → List Put → List ℕ) (d : Decls) (known_names : AreNamed d) (distinct : IsDistinct is_same_text d.names) where
  abbrev names : List (List ℕ)
  names = d.names

  abbrev is_one : ScriptStep → Bool
  is_one = is_step d

  abbrev lines : List ScriptStep → List (List ℕ)
  lines steps = flat_map (step_lines json d.names) steps

  moved : (s : Script) (done : List ScriptStep) (step : ScriptStep) (steps : List ScriptStep) → Ends d s (lines steps) (Ok ((done ++ step ∷ []) ++ steps)) → Ends d s (lines steps) (Ok (done ++ step ∷ steps))
  moved s done step steps h = subst (λ (all : List ScriptStep). Ends d s (lines steps) (Ok all)) (append_assoc done (step ∷ []) steps) h

  next : (done : List ScriptStep) (step : ScriptStep) (steps : List ScriptStep) → length done + length (step ∷ steps) ≤ MOST_STEPS → length (done ++ step ∷ []) + length steps ≤ MOST_STEPS
  next done step steps h = let size = length-append done (step ∷ []) in omega arith

  pub steps_read : (callers : List (List ℕ)) (done todo : List ScriptStep) (number : ℕ)
      → list_all is_one todo ≡ true → AllByRecursion (SpellsStep d.data_schema json) todo → length done + length todo ≤ MOST_STEPS → length (callers_behind callers todo) ≤ MOST_CALLERS
      → Ends d (resting callers done number) (lines todo) (Ok (done ++ todo))
  steps_read callers done [] number all spells few most =
      subst (λ (steps : List ScriptStep). Ends d (resting callers done number) [] (Ok steps)) (sym (append-nil done)) (no_line d (resting callers done number))
  steps_read callers done (Step device ∷ steps) number all spells few most =
      let parts = and_parts (is_one (Step device)) (list_all is_one steps) all in
      let within = ltb-true device (length names) parts.0 in
      step_line d callers done number (lines steps) (Ok (done ++ Step device ∷ steps)) (omega arith) (name_of names device) device
      (lawful_name (name_of names device) (name_lawful names device known_names.lawful within)) (place_again names device distinct within)
      (moved _ done (Step device) steps (steps_read callers (done ++ Step device ∷ []) steps number parts.1 spells.1 (next done (Step device) steps few) most))
  steps_read callers done (Restart device ∷ steps) number all spells few most =
      let parts = and_parts (is_one (Restart device)) (list_all is_one steps) all in
      let within = ltb-true device (length names) parts.0 in
      restart_line d callers done number (lines steps) (Ok (done ++ Restart device ∷ steps)) (omega arith) (name_of names device) device
      (lawful_name (name_of names device) (name_lawful names device known_names.lawful within)) (place_again names device distinct within)
      (moved _ done (Restart device) steps (steps_read callers (done ++ Restart device ∷ []) steps number parts.1 spells.1 (next done (Restart device) steps few) most))
  steps_read callers done (Log device ∷ steps) number all spells few most =
      let parts = and_parts (is_one (Log device)) (list_all is_one steps) all in
      let within = ltb-true device (length names) parts.0 in
      log_line d callers done number (lines steps) (Ok (done ++ Log device ∷ steps)) (omega arith) (name_of names device) device
      (lawful_name (name_of names device) (name_lawful names device known_names.lawful within)) (place_again names device distinct within)
      (moved _ done (Log device) steps (steps_read callers (done ++ Log device ∷ []) steps number parts.1 spells.1 (next done (Log device) steps few) most))
  steps_read callers done (Admit ∷ steps) number all spells few most =
      admit_line d callers done number (lines steps) (Ok (done ++ Admit ∷ steps)) (omega arith)
      (moved _ done Admit steps (steps_read callers (done ++ Admit ∷ []) steps number all spells.1 (next done Admit steps few) most))
  steps_read callers done (Decide ∷ steps) number all spells few most =
      decide_line d callers done number (lines steps) (Ok (done ++ Decide ∷ steps)) (omega arith)
      (moved _ done Decide steps (steps_read callers (done ++ Decide ∷ []) steps number all spells.1 (next done Decide steps few) most))
  steps_read callers done (Reconcile ∷ steps) number all spells few most =
      reconcile_line d callers done number (lines steps) (Ok (done ++ Reconcile ∷ steps)) (omega arith)
      (moved _ done Reconcile steps (steps_read callers (done ++ Reconcile ∷ []) steps number all spells.1 (next done Reconcile steps few) most))
  steps_read callers done (Begin caller ∷ steps) number all spells few most =
      let parts = and_parts (is_one (Begin caller)) (list_all is_one steps) all in
      let now = with_name callers caller in
      let grows = callers_more now steps in
      begin_line d callers done number (lines steps) (Ok (done ++ Begin caller ∷ steps)) (omega arith) caller
      (lawful_name caller parts.0) (no_caller_more callers done number caller (omega arith))
      (moved _ done (Begin caller) steps (steps_read now (done ++ Begin caller ∷ []) steps number parts.1 spells.1 (next done (Begin caller) steps few) most))
  steps_read callers done (Tick seconds ∷ steps) number all spells few most =
      let parts = and_parts (is_one (Tick seconds)) (list_all is_one steps) all in
      tick_line d callers done number (lines steps) (Ok (done ++ Tick seconds ∷ steps)) (omega arith) seconds (tick_fits seconds parts.0) parts.0
      (moved _ done (Tick seconds) steps (steps_read callers (done ++ Tick seconds ∷ []) steps number parts.1 spells.1 (next done (Tick seconds) steps few) most))
  steps_read callers done (Fault device operation at ∷ steps) number all spells few most =
      let parts = and_parts (is_one (Fault device operation at)) (list_all is_one steps) all in
      let within = ltb-true device (length names) parts.0 in
      fault_read_line d callers done number (lines steps) (Ok (done ++ Fault device operation at ∷ steps)) (omega arith) (name_of names device) device operation at
      (lawful_name (name_of names device) (name_lawful names device known_names.lawful within)) (place_again names device distinct within)
      (moved _ done (Fault device operation at) steps (steps_read callers (done ++ Fault device operation at ∷ []) steps number parts.1 spells.1 (next done (Fault device operation at) steps few) most))
  steps_read callers done (Show device ∷ steps) number all spells few most =
      let parts = and_parts (is_one (Show device)) (list_all is_one steps) all in
      let within = ltb-true device (length names) parts.0 in
      show_line d callers done number (lines steps) (Ok (done ++ Show device ∷ steps)) (omega arith) (name_of names device) device
      (lawful_name (name_of names device) (name_lawful names device known_names.lawful within)) (place_again names device distinct within)
      (moved _ done (Show device) steps (steps_read callers (done ++ Show device ∷ []) steps number parts.1 spells.1 (next done (Show device) steps few) most))
  steps_read callers done (Json device ∷ steps) number all spells few most =
      let parts = and_parts (is_one (Json device)) (list_all is_one steps) all in
      let typed = (schema_named d.schemas d.devices (name_of names device)).plain in
      let fits = and_parts (nat_lt device (length names)) (not typed) parts.0 in
      let within = ltb-true device (length names) fits.0 in
      json_line d callers done number (lines steps) (Ok (done ++ Json device ∷ steps)) (omega arith) (name_of names device) device
      (lawful_name (name_of names device) (name_lawful names device known_names.lawful within)) (place_again names device distinct within) (untrue typed fits.1)
      (moved _ done (Json device) steps (steps_read callers (done ++ Json device ∷ []) steps number parts.1 spells.1 (next done (Json device) steps few) most))
  steps_read callers done (Meta device path ∷ steps) number all spells few most =
      let parts = and_parts (is_one (Meta device path)) (list_all is_one steps) all in
      let fits = and_parts (nat_lt device (length names)) (is_node_path (schema_named d.schemas d.devices (name_of names device)) path) parts.0 in
      let within = ltb-true device (length names) fits.0 in
      meta_line d callers done number (lines steps) (Ok (done ++ Meta device path ∷ steps)) (omega arith) (name_of names device) device path
      (lawful_name (name_of names device) (name_lawful names device known_names.lawful within)) (place_again names device distinct within) fits.1
      (moved _ done (Meta device path) steps (steps_read callers (done ++ Meta device path ∷ []) steps number parts.1 spells.1 (next done (Meta device path) steps few) most))
  steps_read callers done (ShowData ∷ steps) number all spells few most =
      data_line d callers done number (lines steps) (Ok (done ++ ShowData ∷ steps)) (omega arith)
      (moved _ done ShowData steps (steps_read callers (done ++ ShowData ∷ []) steps number all spells.1 (next done ShowData steps few) most))
  steps_read callers done (script_step.Call call ∷ steps) number all spells few most =
      let parts = and_parts (is_one (script_step.Call call)) (list_all is_one steps) all in
      let now = with_name callers call.caller in
      let grows = callers_more now steps in
      serve_lines json d callers done number call (lines steps) (Ok (done ++ script_step.Call call ∷ steps)) known_names (omega arith) parts.0 spells.0 (omega arith)
      (moved _ done (script_step.Call call) steps (steps_read now (done ++ script_step.Call call ∷ []) steps call.number parts.1 spells.1 (next done (script_step.Call call) steps few) most))
  steps_read callers done (Settle ∷ steps) number all spells few most =
      settle_line d callers done number (lines steps) (Ok (done ++ Settle ∷ steps)) (omega arith)
      (moved _ done Settle steps (steps_read callers (done ++ Settle ∷ []) steps number all spells.1 (next done Settle steps few) most))
  steps_read callers done (Stop ∷ steps) number all spells few most =
      stop_line d callers done number (lines steps) (Ok (done ++ Stop ∷ steps)) (omega arith)
      (moved _ done Stop steps (steps_read callers (done ++ Stop ∷ []) steps number all spells.1 (next done Stop steps few) most))
  steps_read callers done (StopAt count bytes ∷ steps) number all spells few most =
      let parts = and_parts (is_one (StopAt count bytes)) (list_all is_one steps) all in
      let fit = and_parts (nat_lt count (2 ^ 64)) (nat_lt bytes (2 ^ 64)) parts.0 in
      stop_at_line d callers done number (lines steps) (Ok (done ++ StopAt count bytes ∷ steps)) (omega arith) count bytes (ltb-true count (2 ^ 64) fit.0) (ltb-true bytes (2 ^ 64) fit.1)
      (moved _ done (StopAt count bytes) steps (steps_read callers (done ++ StopAt count bytes ∷ []) steps number parts.1 spells.1 (next done (StopAt count bytes) steps few) most))
  steps_read callers done (Recover ∷ steps) number all spells few most =
      recover_line d callers done number (lines steps) (Ok (done ++ Recover ∷ steps)) (omega arith)
      (moved _ done Recover steps (steps_read callers (done ++ Recover ∷ []) steps number all spells.1 (next done Recover steps few) most))
  steps_read callers done (History ∷ steps) number all spells few most =
      history_line d callers done number (lines steps) (Ok (done ++ History ∷ steps)) (omega arith)
      (moved _ done History steps (steps_read callers (done ++ History ∷ []) steps number all spells.1 (next done History steps few) most))
