-- What a line of a script makes of the steps so far.
use Rattle.std.proofs.Common.{◌≡◌, ℕ, ◌≤◌, ◌<◌, Bool, true, false, not, ◌&&◌, ◌||◌, nat_eq, nat_le, cond, List, [], ◌∷◌, ◌++◌, codes, length, length-append, Ok, Result, Option, Some, None, is_some, refl, ap, sym, ◌∙◌, subst, arith}
use Rattle.std.specs.List.{list_any}
use Rattle.std.specs.Str.{is_utf8}
use Rattle.std.proofs.lemmas.Bool.{false≢true, leb-false, or_parts}
use Rattle.orc_path.specs.Alphabet.{is_identifier}
use Rattle.orc_path.specs.Limits.{is_long_name}
use Rattle.orc_call.specs.declared.call.Action.TheVariants as action
use Rattle.orc_call.specs.declared.call.Call.{Call}
use Rattle.orc_decls.specs.Calls.{schema_named}
use Rattle.orc_decls.specs.declared.rule.Rule.{Rule}
use Rattle.orc_decls.specs.declared.rule.Rule.TheVariants as rule
use Rattle.orc_decls.specs.declared.declarations.Decls.{Decls}
use Rattle.orc_path.specs.Reading.{path_of}
use Rattle.orc_path.specs.Steps.{PathStep}
use Rattle.orc_lines.specs.Items.{data_path_of, is_past_path, kept_path_of, put_of}
use Rattle.orc_script.specs.Places.{device_item_of, device_node_of, device_node_words, device_path_of, is_no_word, node_path_of}
use Rattle.orc_lines.specs.Keywords.{keyword_of}
use Rattle.orc_lines.specs.Lines.{is_end, is_large, is_skipped, text_of}
use Rattle.orc_lines.specs.Names.{is_among, place_of, with_name}
use Rattle.orc_lines.specs.Rules.{on_ok, or_rule}
use Rattle.orc_script.specs.Scripts.{a_step, after_bare, after_base_put, after_base_remove, after_begin, after_call, after_delete, after_on_device, after_end, after_fault, after_json, after_literal, after_meta, after_set, after_step, after_stop, after_tick, after_unset, after_write, an_action, bare_step, behind_literal, call_end, call_words, step_on_device, fault_line, link_fault_of, is_call_full, is_caller_more, is_followed, is_full, scripted_at, step_name_of, new_name_of, named_or_listed, with_literal_open, step_words, stop_words, with_action, with_call, with_literal, with_step, with_write, word_at, words_at, after_bodied, after_redeploy, service_body_of, service_id_of}
use Rattle.orc_script.specs.Steps.{callers_with, is_tick}
use Rattle.orc_lines.specs.Words.{cut_at, first_word, is_text, number_in}
use Rattle.orc_script.specs.declared.step.ScriptStep.{ScriptStep}
use Rattle.orc_script.specs.declared.step.ScriptStep.TheVariants.{Begin, Admit, Decide, Settle, Tick, Fault, Stop, StopAt, Recover, Reconcile, Json, Meta, ShowData, History}
use Rattle.orc_script.specs.declared.step.ScriptStep.TheVariants as script_step
use Rattle.orc_lines.specs.declared.keyword.Keyword.{Keyword}
use Rattle.orc_lines.specs.declared.keyword.Keyword.TheVariants as keyword
use Rattle.orc_script.specs.declared.script.Script.{Script}
use Rattle.orc_script.specs.declared.script.Part.{Part}
use Rattle.orc_script.specs.declared.script.Part.TheVariants as part
use Rattle.orc_script.specs.declared.script.TheConstants.{MOST_CALLERS}
use Rattle.orc_lines.proofs.Keywords.{end_word, is_end_word}
use Rattle.orc_lines.proofs.Rules.{ok, or_rule_ok, on_ok_ok, passed, same_ok, so, no_ok}
use Rattle.orc_call.specs.declared.call.Put.{Put}
use Rattle.orc_call.specs.declared.call.Action.{Action}

-- no call is open
abbrev pub is_resting : Part → Bool
is_resting part.Steps = true
is_resting _ = false

-- what a line makes: a step more
pub record Stepped (s t : Script) : Type 0 where
  pub step : ScriptStep
  pub resting : s.part ≡ part.Steps
  pub room : is_full s ≡ false
  pub rests : t.part ≡ part.Steps
  pub steps : t.steps ≡ s.steps ++ step ∷ []
  pub callers : t.callers ≡ callers_with s.callers step
  pub few : length s.callers ≤ MOST_CALLERS → length t.callers ≤ MOST_CALLERS

-- a call is open
pub record Called (later : List (List ℕ)) (s t : Script) : Type 0 where
  pub resting : s.part ≡ part.Steps
  pub room : is_full s ≡ false
  pub open_now : t.part ≡ part.Call
  pub steps : t.steps ≡ s.steps
  pub callers : t.callers ≡ with_name s.callers t.caller
  pub few : length s.callers ≤ MOST_CALLERS → length t.callers ≤ MOST_CALLERS
  pub ends : list_any is_end later ≡ true

-- the call stays open
pub record Stays (text : List ℕ) (s t : Script) : Type 0 where
  pub was_open : is_resting s.part ≡ false
  pub open_now : is_resting t.part ≡ false
  pub steps : t.steps ≡ s.steps
  pub callers : t.callers ≡ s.callers
  pub caller : t.caller ≡ s.caller
  pub other : is_text text (codes "end") ≡ false

-- the call is a step
pub record Ended (s t : Script) : Type 0 where
  pub call : Call
  pub was_open : is_resting s.part ≡ false
  pub resting : t.part ≡ part.Steps
  pub steps : t.steps ≡ s.steps ++ script_step.Call call ∷ []
  pub callers : t.callers ≡ s.callers
  pub caller : call.caller ≡ s.caller

pub data MakesOf (s : Script) (text : List ℕ) (later : List (List ℕ)) (t : Script) : Type 0 where
  over : is_skipped text ≡ true → s ≡ t → MakesOf s text later t
  stepped : Stepped s t → MakesOf s text later t
  called : Called later s t → MakesOf s text later t
  stays : Stays text s t → MakesOf s text later t
  ended : Ended s t → MakesOf s text later t

not_so : (b : Bool) → (b ≡ true → ⊥) → b ≡ false
not_so false h = refl
not_so true h = absurd (h refl)

-- a caller that isn't one more than can be
few_more : (s : Script) (name : List ℕ) → is_caller_more s name ≡ false → length s.callers ≤ MOST_CALLERS → length (with_name s.callers name) ≤ MOST_CALLERS
few_more s name h most = on (is_among s.callers name) h where
  on : (b : Bool) → (not b && nat_le MOST_CALLERS (length s.callers)) ≡ false → length (cond b s.callers (s.callers ++ name ∷ [])) ≤ MOST_CALLERS
  on true h = most
  on false h =
      let size = length-append s.callers (name ∷ []) in
      let few : length s.callers < MOST_CALLERS = leb-false MOST_CALLERS (length s.callers) h in omega arith

-- a step that names a device alone names no caller
device_plain : (callers : List (List ℕ)) (word : Keyword) (device : ℕ) → callers_with callers (step_on_device word device) ≡ callers
device_plain callers keyword.Step device = refl
device_plain callers keyword.Restart device = refl
device_plain callers keyword.Log device = refl
device_plain callers _ device = refl

-- a line that is not skipped, with its first word
module _ (d : Decls) (s : Script) (text : List ℕ) (later : List (List ℕ)) (t : Script) where
  abbrev word : Keyword
  word = keyword_of (first_word text)

  -- its first word is another than `end`
  no_end : (k : Keyword) → word ≡ k → is_end_word k ≡ false → is_text text (codes "end") ≡ false
  no_end k is other = not_so (is_text text (codes "end")) (λ h. false≢true (sym other ∙ ap is_end_word (sym is ∙ end_word text h)))

  -- steps
  module _ (resting : s.part ≡ part.Steps) where
    -- one that names no caller
    plainly : (step : ScriptStep) → callers_with s.callers step ≡ s.callers → is_full s ≡ false → ok Script Rule (with_step s step) ≡ Ok t → MakesOf s text later t
    plainly step plain room h =
        let same = same_ok (with_step s step) t h in
        let callers : s.callers ≡ t.callers = ap (λ (x : Script). x.callers) same in
        stepped (record {
          step = step;
          resting = resting;
          room = room;
          rests = sym (ap (λ (x : Script). x.part) same) ∙ resting;
          steps = sym (ap (λ (x : Script). x.steps) same);
          callers = sym callers ∙ sym plain;
          few = λ few. subst (λ (x : List (List ℕ)). length x ≤ MOST_CALLERS) callers few;
        })

    a_bare : (step : ScriptStep) → callers_with s.callers step ≡ s.callers → after_bare s step ≡ Ok t → MakesOf s text later t
    a_bare step plain h = let p = passed (is_full s) rule.Size (Ok (with_step s step)) t h in plainly step plain p.0 p.1

    one_word : (k : Keyword) → bare_step k s ≡ Ok t → MakesOf s text later t
    unfolding bare_step
    one_word keyword.Admit h = a_bare Admit refl h
    one_word keyword.Decide h = a_bare Decide refl h
    one_word keyword.Settle h = a_bare Settle refl h
    one_word keyword.Stop h = a_bare Stop refl h
    one_word keyword.Recover h = a_bare Recover refl h
    one_word keyword.Reconcile h = a_bare Reconcile refl h
    one_word keyword.History h = a_bare History refl h
    one_word keyword.Data h = a_bare ShowData refl h
    one_word _ h = absurd (no_ok rule.Line t h)

    -- a step that names a device has room
    name_room : (rest name : List ℕ) → step_name_of s rest ≡ Ok name → is_full s ≡ false
    name_room rest name h =
        let one = passed (not (is_identifier rest)) rule.Line _ name h in
        let two = passed (is_long_name rest || is_full s) rule.Size _ name one.1 in
        (or_parts (is_long_name rest) (is_full s) two.0).1

    named : (k : Keyword) (rest : List ℕ) → after_on_device k d s rest ≡ Ok t → MakesOf s text later t
    unfolding after_on_device
    named k rest h =
        let name = on_ok_ok (step_name_of s rest) _ t h in
        let found = or_rule_ok (place_of d.names name.0) rule.Unknown (λ n. Ok (with_step s (step_on_device k n))) t name.1.1 in
        plainly (step_on_device k found.0) (device_plain s.callers k found.0) (name_room rest name.0 name.1.0) found.1.1

    printed : (rest : List ℕ) → after_json d s rest ≡ Ok t → MakesOf s text later t
    unfolding after_json
    printed rest h =
        let name = on_ok_ok (step_name_of s rest) _ t h in
        let typed = passed (schema_named d.schemas d.devices name.0).plain rule.Unknown _ t name.1.1 in
        let found = or_rule_ok (place_of d.names name.0) rule.Unknown (λ n. Ok (with_step s (Json n))) t typed.1 in
        plainly (Json found.0) refl (name_room rest name.0 name.1.0) found.1.1

    begins : (rest : List ℕ) → after_begin s rest ≡ Ok t → MakesOf s text later t
    unfolding after_begin
    begins rest h =
        let after : Script = record s { callers = with_name s.callers rest; steps = s.steps ++ Begin rest ∷ [] } in
        let one = passed (not (is_identifier rest)) rule.Line _ t h in
        let two = passed (is_long_name rest || is_full s || is_caller_more s rest) rule.Size (Ok after) t one.1 in
        let parts = or_parts (is_long_name rest || is_full s) (is_caller_more s rest) two.0 in
        let same = same_ok after t two.1 in
        let callers : with_name s.callers rest ≡ t.callers = ap (λ (x : Script). x.callers) same in
        stepped (record {
          step = Begin rest;
          resting = resting;
          room = (or_parts (is_long_name rest) (is_full s) parts.0).1;
          rests = sym (ap (λ (x : Script). x.part) same) ∙ resting;
          steps = sym (ap (λ (x : Script). x.steps) same);
          callers = sym callers;
          few = λ few. subst (λ (x : List (List ℕ)). length x ≤ MOST_CALLERS) callers (few_more s rest parts.1 few);
        })

    ticks : (rest : List ℕ) → after_tick s rest ≡ Ok t → MakesOf s text later t
    unfolding after_tick
    ticks rest h =
        let found = or_rule_ok (number_in rest) rule.Line _ t h in
        let one = passed (not (is_tick found.0)) rule.Size _ t found.1.1 in
        a_bare (Tick found.0) refl one.1

    faults : (o : Option (List ℕ × List ℕ)) → fault_line d s o ≡ Ok t → MakesOf s text later t
    faults None h = absurd (no_ok rule.Line t h)
    faults (Some words) h =
        let what = on_ok_ok (link_fault_of words.1) _ t h in
        let name = on_ok_ok (step_name_of s words.0) _ t what.1.1 in
        let step : ℕ → ScriptStep = λ n. Fault n what.0.0 what.0.1 in
        let found = or_rule_ok (place_of d.names name.0) rule.Unknown (λ n. Ok (with_step s (step n))) t name.1.1 in
        plainly (step found.0) refl (name_room words.0 name.0 name.1.0) found.1.1

    -- a step `meta` has room
    node_room : (full : Bool) (rest : List ℕ) (node : ℕ × List PathStep) → device_node_of d full rest ≡ Ok node → full ≡ false
    unfolding device_node_of
    node_room full rest node h = on (cut_at 32 rest) h where
      on : (o : Option (List ℕ × List ℕ)) → device_node_words d full o ≡ Ok node → full ≡ false
      on None h = absurd (no_ok rule.Line node h)
      on (Some words) h =
          let long = is_long_name words.0 || full in
          let past = is_past_path (path_of words.1) in
          let one = passed (not (is_identifier words.0)) rule.Line _ node h in
          let found = on_ok_ok (node_path_of (schema_named d.schemas d.devices words.0) long words.1) _ node one.1 in
          let two = passed (is_no_word words.1) rule.Line _ found.0 found.1.0 in
          let kept = on_ok_ok (kept_path_of long words.1) _ found.0 two.1 in
          let three = passed (long || past) rule.Size _ kept.0 kept.1.0 in
          (or_parts (is_long_name words.0) full (or_parts long past three.0).0).1

    told : (rest : List ℕ) → after_meta d s rest ≡ Ok t → MakesOf s text later t
    unfolding after_meta
    told rest h =
        let found = on_ok_ok (device_node_of d (is_full s) rest) (λ node. Ok (with_step s (Meta node.0 node.1))) t h in
        plainly (Meta found.0.0 found.0.1) refl (node_room (is_full s) rest found.0 found.1.0) found.1.1

    stops : (o : Option (List ℕ × List ℕ)) → stop_words s o ≡ Ok t → MakesOf s text later t
    stops None h = absurd (no_ok rule.Line t h)
    stops (Some words) h =
        let one = or_rule_ok (number_in words.0) rule.Line (λ count. or_rule (number_in words.1) rule.Line (λ bytes. after_bare s (StopAt count bytes))) t h in
        let two = or_rule_ok (number_in words.1) rule.Line (λ bytes. after_bare s (StopAt one.0 bytes)) t one.1.1 in
        a_bare (StopAt one.0 two.0) refl two.1.1

    calls : (o : Option (List ℕ × List ℕ)) (followed : Bool) → word ≡ keyword.Call → is_followed word later ≡ followed → call_words s followed o ≡ Ok t → MakesOf s text later t
    unfolding is_followed
    calls None followed is follows h = absurd (no_ok rule.Line t h)
    calls (Some words) followed is follows h =
        let found = or_rule_ok (number_in words.1) rule.Line _ t h in
        let number = found.0 in
        let after : Script = record s { part = part.Call; callers = with_name s.callers words.0; caller = words.0; number = number; actions = [] } in
        let one = passed (not (is_identifier words.0)) rule.Line _ t found.1.1 in
        let two = passed (is_long_name words.0 || is_full s || is_caller_more s words.0) rule.Size _ t one.1 in
        let three = passed (not followed) rule.Line (Ok after) t two.1 in
        let parts = or_parts (is_long_name words.0 || is_full s) (is_caller_more s words.0) two.0 in
        let limits = or_parts (is_long_name words.0) (is_full s) parts.0 in
        let same = same_ok after t three.1 in
        let name : words.0 ≡ t.caller = ap (λ (x : Script). x.caller) same in
        let callers : with_name s.callers words.0 ≡ t.callers = ap (λ (x : Script). x.callers) same in
        called (record {
          resting = resting;
          room = limits.1;
          open_now = sym (ap (λ (x : Script). x.part) same);
          steps = sym (ap (λ (x : Script). x.steps) same);
          callers = sym callers ∙ ap (with_name s.callers) name;
          few = λ few. subst (λ (x : List (List ℕ)). length x ≤ MOST_CALLERS) callers (few_more s words.0 parts.1 few);
          ends = sym (ap (λ (x : Keyword). is_followed x later) is) ∙ follows ∙ so followed three.0;
        })

    more_words : (k : Keyword) (rest : List ℕ) (followed : Bool) → word ≡ k → is_followed word later ≡ followed → a_step k d s rest followed ≡ Ok t → MakesOf s text later t
    unfolding a_step after_fault after_stop after_call
    more_words keyword.Begin rest followed is follows h = begins rest h
    more_words keyword.Step rest followed is follows h = named keyword.Step rest h
    more_words keyword.Tick rest followed is follows h = ticks rest h
    more_words keyword.Restart rest followed is follows h = named keyword.Restart rest h
    more_words keyword.Fault rest followed is follows h = faults (cut_at 32 rest) h
    more_words keyword.Show rest followed is follows h = named keyword.Show rest h
    more_words keyword.Log rest followed is follows h = named keyword.Log rest h
    more_words keyword.Json rest followed is follows h = printed rest h
    more_words keyword.Meta rest followed is follows h = told rest h
    more_words keyword.Stop rest followed is follows h = stops (cut_at 32 rest) h
    more_words keyword.Call rest followed is follows h = calls (cut_at 32 rest) followed is follows h
    more_words _ rest followed is follows h = absurd (no_ok rule.Line t h)

  -- within a call
  module _ (was_open : is_resting s.part ≡ false) where
    goes_on : (k : Keyword) → word ≡ k → is_end_word k ≡ false → (u : Script) → ok Script Rule u ≡ Ok t
        → is_resting u.part ≡ false → u.steps ≡ s.steps → u.callers ≡ s.callers → u.caller ≡ s.caller → MakesOf s text later t
    goes_on k is other u h open_now steps callers caller =
        let same = same_ok u t h in
        stays (record {
          was_open = was_open;
          open_now = subst (λ (x : Script). is_resting x.part ≡ false) same open_now;
          steps = subst (λ (x : Script). x.steps ≡ s.steps) same steps;
          callers = subst (λ (x : Script). x.callers ≡ s.callers) same callers;
          caller = subst (λ (x : Script). x.caller ≡ s.caller) same caller;
          other = no_end k is other;
        })

    writes : (rest : List ℕ) → word ≡ keyword.Write → after_write d s rest ≡ Ok t → MakesOf s text later t
    unfolding after_write
    writes rest is h =
        let found = on_ok_ok (device_item_of d rest) (λ write. Ok (with_write s write)) t h in
        goes_on keyword.Write is refl (with_write s found.0) found.1.1 was_open refl refl refl

    -- after the actions so far, where an open literal is one of them
    module _ (u : Script) (open_yet : is_resting u.part ≡ false) (steps : u.steps ≡ s.steps) (callers : u.callers ≡ s.callers) (caller : u.caller ≡ s.caller) where
      sets : (rest : List ℕ) → word ≡ keyword.Set → after_set d u rest ≡ Ok t → MakesOf s text later t
      unfolding after_set
      sets rest is h =
          let one = passed (is_call_full u) rule.Line _ t h in
          let found = on_ok_ok (put_of (Some d.services) d.data_schema false rest) (λ put. Ok (with_action u (action.Set put))) t one.1 in
          goes_on keyword.Set is refl (with_action u (action.Set found.0)) found.1.1 open_yet steps callers caller

      unsets : (rest : List ℕ) → word ≡ keyword.Unset → after_unset d u rest ≡ Ok t → MakesOf s text later t
      unfolding after_unset
      unsets rest is h =
          let one = passed (is_call_full u || is_some (cut_at 32 rest)) rule.Line _ t h in
          let found = on_ok_ok (data_path_of d.services d.data_schema rest) (λ path. Ok (with_action u (action.Unset path))) t one.1 in
          goes_on keyword.Unset is refl (with_action u (action.Unset found.0)) found.1.1 open_yet steps callers caller

      puts_base : (rest : List ℕ) → word ≡ keyword.Base → after_base_put d u rest ≡ Ok t → MakesOf s text later t
      unfolding after_base_put
      puts_base rest is h =
          let one = passed (is_call_full u) rule.Line _ t h in
          let found = on_ok_ok (device_item_of d rest) (λ put. Ok (with_action u (action.BasePut put))) t one.1 in
          goes_on keyword.Base is refl (with_action u (action.BasePut found.0)) found.1.1 open_yet steps callers caller

      removes_base : (rest : List ℕ) → word ≡ keyword.Unbase → after_base_remove d u rest ≡ Ok t → MakesOf s text later t
      unfolding after_base_remove
      removes_base rest is h =
          let one = passed (is_call_full u) rule.Line _ t h in
          let found = on_ok_ok (device_path_of d rest) (λ named. Ok (with_action u (action.BaseRemove named.0 named.1))) t one.1 in
          goes_on keyword.Unbase is refl (with_action u (action.BaseRemove found.0.0 found.0.1)) found.1.1 open_yet steps callers caller

      -- an action on a service, of this id
      serves : (k : Keyword) → word ≡ k → is_end_word k ≡ false → (make : List ℕ → Action) (named : Result (List ℕ) Rule)
          → on_ok named (λ id. ok Script Rule (with_action u (make id))) ≡ Ok t → MakesOf s text later t
      serves k is other make named h =
          let found = on_ok_ok named (λ id. Ok (with_action u (make id))) t h in
          goes_on k is other (with_action u (make found.0)) found.1.1 open_yet steps callers caller

      bodied : (k : Keyword) → word ≡ k → is_end_word k ≡ false → (make : List ℕ → List Put → Action) (rest : List ℕ)
          → on_ok (service_body_of d u rest) (λ made. ok Script Rule (with_action u (make made.0 made.1))) ≡ Ok t → MakesOf s text later t
      bodied k is other make rest h =
          let found = on_ok_ok (service_body_of d u rest) (λ made. Ok (with_action u (make made.0 made.1))) t h in
          goes_on k is other (with_action u (make found.0.0 found.0.1)) found.1.1 open_yet steps callers caller

      acts : (k : Keyword) (rest : List ℕ) → word ≡ k → an_action k d u rest ≡ Ok t → MakesOf s text later t
      unfolding an_action after_literal after_bodied after_redeploy after_delete
      acts keyword.Literal rest is h =
          let found = on_ok_ok (new_name_of u rest) (λ name. Ok (with_literal_open u name)) t h in
          goes_on keyword.Literal is refl (with_literal_open u found.0) found.1.1 refl steps callers caller
      acts keyword.Create rest is h = bodied keyword.Create is refl action.Create rest h
      acts keyword.Modify rest is h = bodied keyword.Modify is refl action.Modify rest h
      acts keyword.Redeploy rest is h = serves keyword.Redeploy is refl action.Redeploy (service_id_of d u rest) h
      acts keyword.Delete rest is h = serves keyword.Delete is refl action.Delete (named_or_listed d u rest) h
      acts keyword.Set rest is h = sets rest is h
      acts keyword.Unset rest is h = unsets rest is h
      acts keyword.Base rest is h = puts_base rest is h
      acts keyword.Unbase rest is h = removes_base rest is h
      acts _ rest is h = absurd (no_ok rule.Line t h)

      ends : (k : Keyword) → call_end k u ≡ Ok t → MakesOf s text later t
      unfolding call_end after_end
      ends keyword.End h =
          let some = passed (nat_eq (length u.actions) 0) rule.Line (Ok (with_call u)) t h in
          let same = same_ok (with_call u) t some.1 in
          let call : Call = record { caller = u.caller; number = u.number; actions = u.actions } in
          ended (record {
            call = call;
            was_open = was_open;
            resting = sym (ap (λ (x : Script). x.part) same);
            steps = sym (ap (λ (x : Script). x.steps) same) ∙ ap (λ (x : List ScriptStep). x ++ script_step.Call call ∷ []) steps;
            callers = sym (ap (λ (x : Script). x.callers) same) ∙ callers;
            caller = caller;
          })
      ends _ h = absurd (no_ok rule.Line t h)

    a_line : (k : Keyword) (rest : List ℕ) → word ≡ k → behind_literal k d s rest ≡ Ok t → MakesOf s text later t
    unfolding behind_literal
    a_line keyword.Write rest is h = writes rest is h
    a_line k rest is h = acts (with_literal s) refl refl refl refl k rest is h

  -- by what is open
  of_words : (p : Part) → s.part ≡ p → (rest : List ℕ) (followed : Bool) → is_followed word later ≡ followed → words_at p word d s rest followed ≡ Ok t → MakesOf s text later t
  unfolding words_at
  of_words part.Steps here rest followed follows h = more_words here word rest followed refl follows h
  of_words part.Call here rest followed follows h = acts (ap is_resting here) s (ap is_resting here) refl refl refl word rest refl h
  of_words part.Literal here rest followed follows h = a_line (ap is_resting here) word rest refl h

  of_word : (p : Part) → s.part ≡ p → word_at p word s ≡ Ok t → MakesOf s text later t
  unfolding word_at
  of_word part.Steps here h = one_word here word h
  of_word part.Call here h = ends (ap is_resting here) s (ap is_resting here) refl refl refl word h
  of_word part.Literal here h = ends (ap is_resting here) (with_literal s) refl refl refl refl word h

  of_cut : (o : Option (List ℕ × List ℕ)) (followed : Bool) → is_followed word later ≡ followed → step_words d s word followed o ≡ Ok t → MakesOf s text later t
  of_cut None followed follows h = of_word s.part refl h
  of_cut (Some words) followed follows h = of_words s.part refl words.1 followed follows h

  of_step : after_step d s text later ≡ Ok t → MakesOf s text later t
  unfolding after_step
  of_step h = of_cut (cut_at 32 text) (is_followed word later) refl h

pub makes : (d : Decls) (s : Script) (at : ℕ) (line : List ℕ) (later : List (List ℕ)) (t : Script)
    → scripted_at d s at line later ≡ Ok t → MakesOf s (text_of line) later t
unfolding scripted_at
makes d s at line later t h =
    let text = text_of line in
    let one = passed (is_large at line) rule.Size _ t h in
    let two = passed (not (is_utf8 text)) rule.Utf8 _ t one.1 in
    on (is_skipped text) refl two.1 where
      on : (b : Bool) → is_skipped (text_of line) ≡ b → cond b (Ok s) (after_step d s (text_of line) later) ≡ Ok t → MakesOf s (text_of line) later t
      on true is h = over is (same_ok s t h)
      on false is h = of_step d s (text_of line) later t h
