-- A skipped line put into a bundle only moves the lines after it.
use Rattle.std.proofs.Common.{◌≡◌, ℕ, zero, suc, ◌<◌, ◌≤◌, ◌+◌, ◌-◌, Bool, true, false, not, ◌||◌, cond, nat_eq, nat_lt, List, [], ◌∷◌, ◌++◌, codes, length, take, Result, Ok, Err, Option, Some, None, refl, ap, sym, ◌∙◌, arith, ltb-false}
use Rattle.std.specs.List.{list_any}
use Rattle.std.specs.Option.{is_none, option_and_then, option_map, option_map_or}
use Rattle.orc_path.specs.Alphabet.{is_identifier}
use Rattle.orc_path.specs.Limits.{is_long_name}
use Rattle.orc_path.specs.Reading.{path_of}
use Rattle.orc_lines.specs.Items.{is_past_path}
use Rattle.std.specs.Str.{is_utf8}
use Rattle.std.proofs.lemmas.Bool.{false≢true, le-leb, lt-leb, le-ltb, or_from}
use Rattle.std.proofs.lemmas.List.{take_all}
use Rattle.orc_decls.specs.declared.rule.Rule.{Rule}
use Rattle.orc_decls.specs.declared.rule.Rule.TheVariants as rule
use Rattle.orc_declarations.specs.Declarations.{Front, declarations_of, is_script, opened, after_header, after_template, after_text, after_yang, block_size, count_in, list_template, template_block, template_line, template_words, declaration, declaration_words, declared_at, is_header, is_opening, is_taken, lines_taken, nothing_declared, taken_by, words_take, with_module}
use Rattle.orc_declarations.specs.Bundles.{decls_of}
use Rattle.orc_bundle.specs.Bundles.{header_rule, scripted_of}
use Rattle.orc_lines.specs.Lawful.{decls_in}
use Rattle.orc_decls.specs.declared.declarations.Decls.{Decls}
use Rattle.orc_lines.specs.Lines.{lacks_header, as_line, block_of, first_kept, is_end, is_large, is_skipped, lines_of, text_of}
use Rattle.orc_lines.specs.Rules.{on_line, checked, on_ok, or_rule}
use Rattle.orc_script.specs.Scripts.{script_steps, after_step, is_followed, no_steps, scripted_at, step_words}
use Rattle.orc_lines.specs.Keywords.{keyword_of}
use Rattle.orc_bundle_laws.specs.Laws.{IsSkipped, SkippedLinesChangeNothing, left_of_block, meaning_of, moved_behind}
use Rattle.orc_declarations.specs.Modules.{module_of}
use Rattle.orc_lines.specs.Words.{cut_at, first_word, is_text, number_in}
use Rattle.orc_bundle.specs.declared.scripted.ScriptedBundle.{ScriptedBundle}
use Rattle.orc_script.specs.declared.step.ScriptStep.{ScriptStep}
use Rattle.orc_lines.specs.declared.lines.TheConstants.{LARGEST_BUNDLE, LONGEST_LINE}
use Rattle.orc_lines.specs.declared.declared.Declared.{Declared}
use Rattle.orc_lines.specs.declared.keyword.Keyword.{Keyword}
use Rattle.orc_lines.specs.declared.keyword.Keyword.TheVariants as keyword
use Rattle.orc_script.specs.declared.script.Script.{Script}
use Rattle.orc_bundle_laws.proofs.Bytes.{all_bytes, bytes_behind, bytes_of}
use Rattle.orc_declarations.proofs.DeclaredLines.{Declares, declared, declares, headed, in_a_block, over, scripted}
use Rattle.orc_lines.proofs.Keywords.{skipped_no_end, text_is}
use Rattle.orc_lines.proofs.Rules.{err}
use Rattle.orc_bundle_laws.proofs.Skipped.{IsPassed, declarations, script}
use Rattle.orc_bundle_laws.proofs.TextsApart.{steps_apart}
use Rattle.orc_bundle_laws.proofs.Wholes.{line_by_line, read_on, scripted_in, steps_from}

-- bytes

-- within the limit of a bundle, a line is large wherever it stands, or nowhere
large_anywhere : (at to : ℕ) (line : List ℕ) → at + length line ≤ LARGEST_BUNDLE → to + length line ≤ LARGEST_BUNDLE → is_large at line ≡ is_large to line
large_anywhere at to line here there =
    ap (λ (b : Bool). b || nat_lt LONGEST_LINE (length (text_of line))) (le-ltb LARGEST_BUNDLE (at + length line) here ∙ sym (le-ltb LARGEST_BUNDLE (to + length line) there))

passes : (at : ℕ) (line : List ℕ) → IsSkipped line → at + length line ≤ LARGEST_BUNDLE → IsPassed at line
passes at line is within = record {
  small = or_from _ _ (le-ltb LARGEST_BUNDLE (at + length line) within) (le-ltb LONGEST_LINE (length (text_of line)) is.short);
  utf8 = is.utf8;
  skipped = is.skipped;
}

-- what a line looks for in the lines after it

kept_same : (before after : List (List ℕ)) (line : List ℕ) → IsSkipped line → first_kept (before ++ line ∷ after) ≡ first_kept (before ++ after)
kept_same [] after line is = let skip = is.skipped in rw skip refl
kept_same (l ∷ ls) after line is = ap (λ (o : Option (List ℕ)). cond (is_skipped (text_of l)) o (Some (text_of l))) (kept_same ls after line is)

end_same : (before after : List (List ℕ)) (line : List ℕ) → IsSkipped line → list_any is_end (before ++ line ∷ after) ≡ list_any is_end (before ++ after)
end_same [] after line is = ap (λ (b : Bool). b || list_any is_end after) (skipped_no_end (text_of line) is.skipped)
end_same (l ∷ ls) after line is = ap (λ (b : Bool). is_end l || b) (end_same ls after line is)

followed_same : (k : Keyword) (before after : List (List ℕ)) (line : List ℕ) → IsSkipped line → is_followed k (before ++ line ∷ after) ≡ is_followed k (before ++ after)
unfolding is_followed
followed_same keyword.Call before after line is = end_same before after line is
followed_same _ before after line is = refl

-- a block that ends before the line
pub block_same : (n : ℕ) (before a b : List (List ℕ)) → left_of_block n before ≡ 0 → block_of n (before ++ a) ≡ block_of n (before ++ b)
block_same zero before a b h = refl
block_same (suc n) [] a b h = absurd (omega arith)
block_same (suc n) (l ∷ ls) a b h = ap (option_map (λ (block : List ℕ). as_line (text_of l) ++ block)) (block_same n ls a b h)

-- a line of the script

step_same : (d : Decls) (s : Script) (at to : ℕ) (l : List ℕ) (a b : List (List ℕ))
    → at + length l ≤ LARGEST_BUNDLE → to + length l ≤ LARGEST_BUNDLE → ((k : Keyword) → is_followed k a ≡ is_followed k b)
    → scripted_at d s at l a ≡ scripted_at d s to l b
unfolding scripted_at after_step
step_same d s at to l a b here there same =
    let text = text_of l in
    let word = keyword_of (first_word text) in
    let rest : Bool → Bool → Result Script Rule = λ large followed.
    cond large (Err rule.Size) (cond (not (is_utf8 text)) (Err rule.Utf8) (cond (is_skipped text) (Ok s) (step_words d s word followed (cut_at 32 text)))) in
    ap (λ (large : Bool). rest large (is_followed word a)) (large_anywhere at to l here there) ∙ ap (rest (is_large to l)) (same word)

-- a line of declarations

yang_same : (d : Declared) (rest : List ℕ) (a b : List (List ℕ)) → block_of (taken_by keyword.Yang rest) a ≡ block_of (taken_by keyword.Yang rest) b → after_yang d rest a ≡ after_yang d rest b
unfolding after_yang taken_by
yang_same d rest a b same = on (number_in rest) same where
  on : (o : Option ℕ) → block_of (option_map_or (λ n. n) o 0) a ≡ block_of (option_map_or (λ n. n) o 0) b
      → or_rule o rule.Line (λ n. or_rule (block_of n a) rule.Line (λ text. on_ok (module_of text) (λ m. checked ((is_taken d m.name, rule.Duplicate) ∷ []) (Ok (with_module d n m)))))
      ≡ or_rule o rule.Line (λ n. or_rule (block_of n b) rule.Line (λ text. on_ok (module_of text) (λ m. checked ((is_taken d m.name, rule.Duplicate) ∷ []) (Ok (with_module d n m)))))
  on None same = refl
  on (Some n) same = ap (λ (o : Option (List ℕ)). or_rule o rule.Line (λ text. on_ok (module_of text) (λ m. checked ((is_taken d m.name, rule.Duplicate) ∷ []) (Ok (with_module d n m))))) same

template_same : (d : Declared) (rest : List ℕ) (a b : List (List ℕ)) → block_of (taken_by keyword.Template rest) a ≡ block_of (taken_by keyword.Template rest) b → after_template d rest a ≡ after_template d rest b
unfolding after_template taken_by
template_same d rest a b same = outer (cut_at 32 rest) same
  where
    counted : (name word : List ℕ) (o : Option ℕ) → block_of (block_size o) a ≡ block_of (block_size o) b
        → or_rule o rule.Line (λ n. template_block d name n word a) ≡ or_rule o rule.Line (λ n. template_block d name n word b)
    counted name word None same = refl
    counted name word (Some n) same =
        ap (λ (found : Option (List ℕ)). checked ((nat_eq (length word) 0, rule.Line) ∷ (is_long_name name || is_past_path (path_of word), rule.Size) ∷ [])
        (or_rule found rule.Line (λ text. or_rule (path_of word) rule.Path (λ list. list_template d name n list text)))) same

    inner : (name : List ℕ) (o : Option (List ℕ × List ℕ)) → block_of (block_size (count_in o)) a ≡ block_of (block_size (count_in o)) b
        → template_line d name a o ≡ template_line d name b o
    inner name None same = refl
    inner name (Some words) same = counted name words.0 (number_in words.1) same

    outer : (o : Option (List ℕ × List ℕ)) → block_of (block_size (count_in (option_and_then (λ words. cut_at 32 words.1) o))) a ≡ block_of (block_size (count_in (option_and_then (λ words. cut_at 32 words.1) o))) b
        → template_words d a o ≡ template_words d b o
    outer None same = refl
    outer (Some words) same = ap (λ (r : Result Declared Rule). checked ((not (is_identifier words.0), rule.Line) ∷ []) r) (inner words.0 (cut_at 32 words.1) same)

form_same : (k : Keyword) (d : Declared) (rest : List ℕ) (a b : List (List ℕ)) → block_of (taken_by k rest) a ≡ block_of (taken_by k rest) b → declaration k d rest a ≡ declaration k d rest b
unfolding declaration
form_same keyword.Device d rest a b same = refl
form_same keyword.Datamodel d rest a b same = refl
form_same keyword.Devicetype d rest a b same = refl
form_same keyword.Rule d rest a b same = refl
form_same keyword.Base d rest a b same = refl
form_same keyword.Data d rest a b same = refl
form_same keyword.Yang d rest a b same = yang_same d rest a b same
form_same keyword.Template d rest a b same = template_same d rest a b same
form_same _ d rest a b same = refl

words_same : (d : Declared) (text : List ℕ) (o : Option (List ℕ × List ℕ)) (a b : List (List ℕ)) → block_of (words_take o) a ≡ block_of (words_take o) b
    → declaration_words d text a o ≡ declaration_words d text b o
words_same d text None a b same = refl
words_same d text (Some words) a b same = form_same (keyword_of words.0) d words.1 a b same

text_same : (d : Declared) (text : List ℕ) (a b : List (List ℕ)) → block_of (lines_taken text) a ≡ block_of (lines_taken text) b → after_text d text a ≡ after_text d text b
unfolding after_text
text_same d text a b same = ap (λ (r : Result Declared Rule). cond (is_header d.section) (after_header d text) r) (words_same d text (cut_at 32 text) a b same)

pub declared_same : (d : Declared) (at to : ℕ) (l : List ℕ) (a b : List (List ℕ)) → at + length l ≤ LARGEST_BUNDLE → to + length l ≤ LARGEST_BUNDLE
    → (d.skip ≡ 0 → block_of (lines_taken (text_of l)) a ≡ block_of (lines_taken (text_of l)) b) → declared_at d at l a ≡ declared_at d to l b
unfolding declared_at
declared_same d at to l a b here there same =
    let text = text_of l in
    let inner : Result Declared Rule → Result Declared Rule = λ r. cond (not (is_utf8 text)) (Err rule.Utf8) (cond (is_skipped text) (Ok d) r) in
    let rest : Bool → Result Declared Rule → Result Declared Rule = λ large r. cond large (Err rule.Size) (cond (nat_lt 0 d.skip) (Ok (record d { skip = d.skip - 1 })) r) in
    ap (λ (large : Bool). rest large (inner (after_text d text a))) (large_anywhere at to l here there)
    ∙ on (nat_lt 0 d.skip) refl where
      on : (b0 : Bool) → nat_lt 0 d.skip ≡ b0
          → cond (is_large to l) (Err rule.Size) (cond b0 (Ok (record d { skip = d.skip - 1 })) (cond (not (is_utf8 (text_of l))) (Err rule.Utf8) (cond (is_skipped (text_of l)) (Ok d) (after_text d (text_of l) a))))
          ≡ cond (is_large to l) (Err rule.Size) (cond b0 (Ok (record d { skip = d.skip - 1 })) (cond (not (is_utf8 (text_of l))) (Err rule.Utf8) (cond (is_skipped (text_of l)) (Ok d) (after_text d (text_of l) b))))
      on true is = refl
      on false is =
          let none : d.skip ≡ 0 = (let few = ltb-false 0 d.skip is in omega arith) in
          ap (λ (r : Result Declared Rule). cond (is_large to l) (Err rule.Size) (cond (not (is_utf8 (text_of l))) (Err rule.Utf8) (cond (is_skipped (text_of l)) (Ok d) r))) (text_same d (text_of l) a b (same none))

-- lines with their numbers

stays : {X : Type 0} (k n : ℕ) (r : Rule) → n < k → err X (ℕ × Rule) (n + 1, r) ≡ moved_behind k (Err (n + 1, r))
stays k n r h = ap (λ (b : Bool). Err (cond b (n + 1) (n + 1 + 1), r)) (sym (le-leb (n + 1) k (omega arith)))

moves : {X : Type 0} (k n : ℕ) (r : Rule) → k ≤ n → err X (ℕ × Rule) (n + 1 + 1, r) ≡ moved_behind k (Err (n + 1, r))
moves k n r h = ap (λ (b : Bool). Err (cond b (n + 1) (n + 1 + 1), r)) (sym (lt-leb (n + 1) k (omega arith)))

abbrev Meant : Type 0
Meant = Result ScriptedBundle (ℕ × Rule)

-- a script

abbrev on_step : Decls → ℕ → ℕ → List (List ℕ) → Result Script Rule → Result (List ScriptStep) (ℕ × Rule)
on_step d at n later r = on_line n r (λ t. script_steps d t at n later)

-- one line further down
shift_script : (d : Decls) (k : ℕ) (lines : List (List ℕ)) (s : Script) (at to n : ℕ) → k ≤ n
    → at + bytes_of lines ≤ LARGEST_BUNDLE → to + bytes_of lines ≤ LARGEST_BUNDLE
    → script_steps d s to (n + 1) lines ≡ moved_behind k (script_steps d s at n lines)
shift_script d k [] s at to n h here there = refl
shift_script d k (l ∷ ls) s at to n h here there =
    ap (on_step d (to + length l) (n + 1 + 1) ls) (step_same d s to at l ls ls (omega arith) (omega arith) (λ w. refl))
    ∙ on (scripted_at d s at l ls) (λ t. shift_script d k ls t (at + length l) (to + length l) (n + 1) (omega arith) (omega arith) (omega arith)) where
      on : (r : Result Script Rule) → ((t : Script) → script_steps d t (to + length l) (n + 1 + 1) ls ≡ moved_behind k (script_steps d t (at + length l) (n + 1) ls))
          → on_step d (to + length l) (n + 1 + 1) ls r ≡ moved_behind k (on_step d (at + length l) (n + 1) ls r)
      on (Err rule) more = moves k n rule h
      on (Ok t) more = more t

insert_script : (d : Decls) (k : ℕ) (line : List ℕ) (before after : List (List ℕ)) (s : Script) (at n : ℕ) → IsSkipped line → k ≡ n + length before
    → at + bytes_of (before ++ line ∷ after) ≤ LARGEST_BUNDLE
    → script_steps d s at n (before ++ line ∷ after) ≡ moved_behind k (script_steps d s at n (before ++ after))
insert_script d k line [] after s at n is place within =
    ap (on_step d (at + length line) (n + 1) after) (script at line after d s (passes at line is (omega arith)))
    ∙ shift_script d k after s at (at + length line) n (omega arith) (omega arith) (omega arith)
insert_script d k line (l ∷ ls) after s at n is place within =
    let sum = bytes_behind ls (line ∷ after) in
    ap (on_step d (at + length l) (n + 1) (ls ++ line ∷ after)) (step_same d s at at l (ls ++ line ∷ after) (ls ++ after) (omega arith) (omega arith) (λ w. followed_same w ls after line is))
    ∙ on (scripted_at d s at l (ls ++ after)) (λ t. insert_script d k line ls after t (at + length l) (n + 1) is (omega arith) (omega arith)) (omega arith) where
      on : (r : Result Script Rule) → ((t : Script) → script_steps d t (at + length l) (n + 1) (ls ++ line ∷ after) ≡ moved_behind k (script_steps d t (at + length l) (n + 1) (ls ++ after)))
          → n < k → on_step d (at + length l) (n + 1) (ls ++ line ∷ after) r ≡ moved_behind k (on_step d (at + length l) (n + 1) (ls ++ after) r)
      on (Err rule) more front = stays k n rule front
      on (Ok t) more front = more t

-- declarations and a script

abbrev with_script : Declared → Result (List ScriptStep) (ℕ × Rule) → Meant
with_script d r = on_ok r (λ steps. Ok (record { decls = decls_in d; steps = steps }))

moved_script : (d : Declared) (k : ℕ) (r : Result (List ScriptStep) (ℕ × Rule)) → with_script d (moved_behind k r) ≡ moved_behind k (with_script d r)
moved_script d k (Ok steps) = refl
moved_script d k (Err fault) = refl

abbrev of_front : Front → Meant
of_front f = with_script f.declared (script_steps (decls_in f.declared) no_steps f.at f.number f.later)

abbrev go : Declared → ℕ → ℕ → List (List ℕ) → Meant
go d at n lines = on_ok (declarations_of d at n lines) of_front

-- the script after declarations that end in the line of this number
abbrev started : ℕ → Bool → Meant → Meant
started n opens meant = cond opens meant (Err (n, rule.Opening))

abbrev goes : ℕ → ℕ → List (List ℕ) → Declared → Meant
goes at n later e = cond (is_script e.section) (started n (is_opening e) (with_script e (script_steps (decls_in e) no_steps at n later))) (go e at n later)

abbrev behind : ℕ → ℕ → List (List ℕ) → Result Declared Rule → Meant
behind at n later r = on_line n r (goes at n later)

abbrev front_at : ℕ → ℕ → List ℕ → List (List ℕ) → Declared → Front
front_at at n l later e = record { declared = e; size = at; at = at + length l; number = n + 1; later = later }

go_line : (d : Declared) (at n : ℕ) (l : List ℕ) (later : List (List ℕ)) → go d at n (l ∷ later) ≡ behind (at + length l) (n + 1) later (declared_at d at l later)
go_line d at n l later = on (declared_at d at l later) where
  opens : (e : Declared) (b : Bool) → on_ok (cond b (Ok (front_at at n l later e)) (err Front (ℕ × Rule) (n + 1, rule.Opening))) of_front
      ≡ started (n + 1) b (with_script e (script_steps (decls_in e) no_steps (at + length l) (n + 1) later))
  opens e true = refl
  opens e false = refl

  pick : (e : Declared) (b : Bool) → on_ok (cond b (opened (n + 1) (front_at at n l later e)) (declarations_of e (at + length l) (n + 1) later)) of_front
      ≡ cond b (started (n + 1) (is_opening e) (with_script e (script_steps (decls_in e) no_steps (at + length l) (n + 1) later))) (go e (at + length l) (n + 1) later)
  pick e true = opens e (is_opening e)
  pick e false = refl

  on : (r : Result Declared Rule)
      → on_ok (on_line (n + 1) r (λ e. cond (is_script e.section) (opened (n + 1) (front_at at n l later e)) (declarations_of e (at + length l) (n + 1) later))) of_front ≡ behind (at + length l) (n + 1) later r
  on (Err rule) = refl
  on (Ok e) = pick e (is_script e.section)

shift_go : (k : ℕ) (lines : List (List ℕ)) (d : Declared) (at to n : ℕ) → k ≤ n → at + bytes_of lines ≤ LARGEST_BUNDLE → to + bytes_of lines ≤ LARGEST_BUNDLE
    → go d to (n + 1) lines ≡ moved_behind k (go d at n lines)
shift_go k [] d at to n h here there = on (is_opening d) where
  on : (b : Bool) → on_ok (cond b (Ok (record { declared = d; size = to; at = to; number = n + 1; later = [] })) (err Front (ℕ × Rule) (n + 1 + 1, rule.Opening))) of_front
      ≡ moved_behind k (on_ok (cond b (Ok (record { declared = d; size = at; at = at; number = n; later = [] })) (err Front (ℕ × Rule) (n + 1, rule.Opening))) of_front)
  on true = refl
  on false = moves k n rule.Opening h
shift_go k (l ∷ ls) d at to n h here there =
    go_line d to (n + 1) l ls
    ∙ ap (behind (to + length l) (n + 1 + 1) ls) (declared_same d to at l ls ls (omega arith) (omega arith) (λ none. refl))
    ∙ on (declared_at d at l ls) (λ e. shift_go k ls e (at + length l) (to + length l) (n + 1) (omega arith) (omega arith) (omega arith))
    (λ e. shift_script (decls_in e) k ls no_steps (at + length l) (to + length l) (n + 1) (omega arith) (omega arith) (omega arith))
    ∙ ap (moved_behind k) (sym (go_line d at n l ls)) where
      pick : (e : Declared) (b : Bool) → go e (to + length l) (n + 1 + 1) ls ≡ moved_behind k (go e (at + length l) (n + 1) ls)
          → script_steps (decls_in e) no_steps (to + length l) (n + 1 + 1) ls ≡ moved_behind k (script_steps (decls_in e) no_steps (at + length l) (n + 1) ls)
          → cond b (started (n + 1 + 1) (is_opening e) (with_script e (script_steps (decls_in e) no_steps (to + length l) (n + 1 + 1) ls))) (go e (to + length l) (n + 1 + 1) ls)
          ≡ moved_behind k (cond b (started (n + 1) (is_opening e) (with_script e (script_steps (decls_in e) no_steps (at + length l) (n + 1) ls))) (go e (at + length l) (n + 1) ls))
      pick e true more steps =
          opens (is_opening e) (ap (with_script e) steps ∙ moved_script e k (script_steps (decls_in e) no_steps (at + length l) (n + 1) ls)) where
            opens : (b : Bool) → with_script e (script_steps (decls_in e) no_steps (to + length l) (n + 1 + 1) ls) ≡ moved_behind k (with_script e (script_steps (decls_in e) no_steps (at + length l) (n + 1) ls))
                → started (n + 1 + 1) b (with_script e (script_steps (decls_in e) no_steps (to + length l) (n + 1 + 1) ls))
                ≡ moved_behind k (started (n + 1) b (with_script e (script_steps (decls_in e) no_steps (at + length l) (n + 1) ls)))
            opens true same = same
            opens false same = moves k n rule.Opening h
      pick e false more steps = more

      on : (r : Result Declared Rule) → ((e : Declared) → go e (to + length l) (n + 1 + 1) ls ≡ moved_behind k (go e (at + length l) (n + 1) ls))
          → ((e : Declared) → script_steps (decls_in e) no_steps (to + length l) (n + 1 + 1) ls ≡ moved_behind k (script_steps (decls_in e) no_steps (at + length l) (n + 1) ls))
          → behind (to + length l) (n + 1 + 1) ls r ≡ moved_behind k (behind (at + length l) (n + 1) ls r)
      on (Err rule) more steps = moves k n rule h
      on (Ok e) more steps = pick e (is_script e.section) (more e) (steps e)

-- blocks

left_none : (n : ℕ) → left_of_block n [] ≡ n
left_none zero = refl
left_none (suc n) = refl

pub left_here : (l : List ℕ) (ls : List (List ℕ)) → left_of_block 0 (l ∷ ls) ≡ 0 → is_text (text_of l) (codes "script") ≡ false → left_of_block (lines_taken (text_of l)) ls ≡ 0
left_here l ls h other = ap (λ (b : Bool). cond b 0 (left_of_block (lines_taken (text_of l)) ls)) (sym other) ∙ h

block_here : (l line : List ℕ) (ls after : List (List ℕ)) → left_of_block 0 (l ∷ ls) ≡ 0
    → block_of (lines_taken (text_of l)) (ls ++ line ∷ after) ≡ block_of (lines_taken (text_of l)) (ls ++ after)
block_here l line ls after h = on (is_text (text_of l) (codes "script")) refl where
  on : (b : Bool) → is_text (text_of l) (codes "script") ≡ b → block_of (lines_taken (text_of l)) (ls ++ line ∷ after) ≡ block_of (lines_taken (text_of l)) (ls ++ after)
  on true is =
      let none : lines_taken (text_of l) ≡ 0 = ap lines_taken (text_is (text_of l) (codes "script") is) in
      ap (λ (n : ℕ). block_of n (ls ++ line ∷ after)) none ∙ ap (λ (n : ℕ). block_of n (ls ++ after)) (sym none)
  on false is = block_same (lines_taken (text_of l)) ls (line ∷ after) after (left_here l ls h is)

pub left_behind : (d e : Declared) (at : ℕ) (l : List ℕ) (later ls : List (List ℕ)) → is_script d.section ≡ false → is_script e.section ≡ false
    → declared_at d at l later ≡ Ok e → left_of_block d.skip (l ∷ ls) ≡ 0 → left_of_block e.skip ls ≡ 0
left_behind d e at l later ls before behind_it reads h = on d.skip refl h where
  makes : d.skip ≡ 0 → left_of_block 0 (l ∷ ls) ≡ 0 → Declares d (text_of l) e → left_of_block e.skip ls ≡ 0
  makes none h (over skip same takes other) =
      let e_skip : e.skip ≡ lines_taken (text_of l) = ap (λ (x : Declared). x.skip) (sym same) ∙ none ∙ sym takes in
      ap (λ (n : ℕ). left_of_block n ls) e_skip ∙ left_here l ls h other
  makes none h (headed here now e_none kept takes other) = ap (λ (n : ℕ). left_of_block n ls) (e_none ∙ sym takes) ∙ left_here l ls h other
  makes none h (declared here now e_skip other) = ap (λ (n : ℕ). left_of_block n ls) e_skip ∙ left_here l ls h other
  makes none h (scripted here now takes) = absurd (false≢true (sym behind_it ∙ ap is_script now))

  on : (n : ℕ) → d.skip ≡ n → left_of_block n (l ∷ ls) ≡ 0 → left_of_block e.skip ls ≡ 0
  on zero is h = makes is h (declares d e at l later is before reads)
  on (suc n) is h =
      let same = in_a_block d e at l later (omega arith) reads in
      let less : e.skip ≡ n = (let one = ap (λ (x : Declared). x.skip) (sym same) in omega arith) in
      ap (λ (m : ℕ). left_of_block m ls) less ∙ h

-- where a line is put in

-- what is shown of the rest, with these lines and with those
abbrev Goes : ℕ → ℕ → ℕ → List (List ℕ) → List (List ℕ) → Declared → Type 0
Goes k at n longer lines e = go e at n longer ≡ moved_behind k (go e at n lines)

abbrev Scripts : ℕ → ℕ → ℕ → List (List ℕ) → List (List ℕ) → Declared → Type 0
Scripts k at n longer lines e = script_steps (decls_in e) no_steps at n longer ≡ moved_behind k (script_steps (decls_in e) no_steps at n lines)

insert_go : (k : ℕ) (line : List ℕ) (before after : List (List ℕ)) (d : Declared) (at n : ℕ) → IsSkipped line → is_script d.section ≡ false → left_of_block d.skip before ≡ 0
    → k ≡ n + length before → at + bytes_of (before ++ line ∷ after) ≤ LARGEST_BUNDLE
    → go d at n (before ++ line ∷ after) ≡ moved_behind k (go d at n (before ++ after))
insert_go k line [] after d at n is open_yet left place within =
    go_line d at n line after
    ∙ ap (behind (at + length line) (n + 1) after) (declarations at line after d (passes at line is (omega arith)) (sym (left_none d.skip) ∙ left))
    ∙ ap (λ (b : Bool). cond b (started (n + 1) (is_opening d) (with_script d (script_steps (decls_in d) no_steps (at + length line) (n + 1) after))) (go d (at + length line) (n + 1) after)) open_yet
    ∙ shift_go k after d at (at + length line) n (omega arith) (omega arith) (omega arith)
insert_go k line (l ∷ ls) after d at n is open_yet left place within =
    let sum = bytes_behind ls (line ∷ after) in
    go_line d at n l (ls ++ line ∷ after)
    ∙ ap (behind (at + length l) (n + 1) (ls ++ line ∷ after))
    (declared_same d at at l (ls ++ line ∷ after) (ls ++ after) (omega arith) (omega arith)
    (λ none. block_here l line ls after (ap (λ (m : ℕ). left_of_block m (l ∷ ls)) (sym none) ∙ left)))
    ∙ on (declared_at d at l (ls ++ after)) refl
    (λ e open_now e_left. insert_go k line ls after e (at + length l) (n + 1) is open_now e_left (omega arith) (omega arith))
    (λ e. insert_script (decls_in e) k line ls after no_steps (at + length l) (n + 1) is (omega arith) (omega arith)) (omega arith)
    ∙ ap (moved_behind k) (sym (go_line d at n l (ls ++ after))) where
      pick : (e : Declared) (b : Bool) → is_script e.section ≡ b → (is_script e.section ≡ false → Goes k (at + length l) (n + 1) (ls ++ line ∷ after) (ls ++ after) e) → Scripts k (at + length l) (n + 1) (ls ++ line ∷ after) (ls ++ after) e
          → n < k
          → cond b (started (n + 1) (is_opening e) (with_script e (script_steps (decls_in e) no_steps (at + length l) (n + 1) (ls ++ line ∷ after)))) (go e (at + length l) (n + 1) (ls ++ line ∷ after))
          ≡ moved_behind k (cond b (started (n + 1) (is_opening e) (with_script e (script_steps (decls_in e) no_steps (at + length l) (n + 1) (ls ++ after)))) (go e (at + length l) (n + 1) (ls ++ after)))
      pick e true now more steps front =
          opens (is_opening e) (ap (with_script e) steps ∙ moved_script e k (script_steps (decls_in e) no_steps (at + length l) (n + 1) (ls ++ after))) where
            opens : (b : Bool) → with_script e (script_steps (decls_in e) no_steps (at + length l) (n + 1) (ls ++ line ∷ after))
                ≡ moved_behind k (with_script e (script_steps (decls_in e) no_steps (at + length l) (n + 1) (ls ++ after)))
                → started (n + 1) b (with_script e (script_steps (decls_in e) no_steps (at + length l) (n + 1) (ls ++ line ∷ after)))
                ≡ moved_behind k (started (n + 1) b (with_script e (script_steps (decls_in e) no_steps (at + length l) (n + 1) (ls ++ after))))
            opens true same = same
            opens false same = stays k n rule.Opening front
      pick e false now more steps front = more now

      on : (r : Result Declared Rule) → declared_at d at l (ls ++ after) ≡ r → ((e : Declared) → is_script e.section ≡ false → left_of_block e.skip ls ≡ 0 → Goes k (at + length l) (n + 1) (ls ++ line ∷ after) (ls ++ after) e)
          → ((e : Declared) → Scripts k (at + length l) (n + 1) (ls ++ line ∷ after) (ls ++ after) e) → n < k → behind (at + length l) (n + 1) (ls ++ line ∷ after) r ≡ moved_behind k (behind (at + length l) (n + 1) (ls ++ after) r)
      on (Err rule) reads more steps front = stays k n rule front
      on (Ok e) reads more steps front =
          pick e (is_script e.section) refl (λ open_now. more e open_now (left_behind d e at l (ls ++ after) ls open_yet open_now reads left)) (steps e) front

-- bundles

meant : (bytes : List ℕ) (lines : List (List ℕ)) → length bytes ≤ LARGEST_BUNDLE → lines_of bytes ≡ lines → lacks_header lines ≡ false
    → meaning_of (scripted_of bytes) ≡ go nothing_declared 0 0 lines
meant bytes lines small is some =
    ap meaning_of (line_by_line bytes)
    ∙ ap (λ (x : List ℕ). meaning_of (scripted_in x (lines_of x))) (take_all (LARGEST_BUNDLE + 1) bytes (omega arith))
    ∙ ap (λ (ls : List (List ℕ)). meaning_of (scripted_in bytes ls)) is
    ∙ ap (λ (b : Bool). meaning_of (cond b (Err (1, header_rule lines)) (on_ok (declarations_of nothing_declared 0 0 lines) (read_on bytes)))) some
    ∙ on (declarations_of nothing_declared 0 0 lines) where
      steps_of : (front : Front) (r : Result (List ScriptStep) (ℕ × Rule))
          → meaning_of (on_ok r (λ steps. Ok (record { decls = decls_of bytes front; steps = steps }))) ≡ with_script front.declared r
      steps_of front (Ok steps) = refl
      steps_of front (Err fault) = refl

      on : (r : Result Front (ℕ × Rule)) → meaning_of (on_ok r (read_on bytes)) ≡ on_ok r of_front
      on (Ok front) =
          steps_of front (steps_from bytes front)
          ∙ ap (with_script front.declared) (steps_apart (decls_in front.declared) (take front.size bytes) front.later no_steps front.at front.number)
      on (Err fault) = refl

pub changes_nothing : SkippedLinesChangeNothing
changes_nothing before after line bytes longer is_bytes is_longer is left some small =
    let all = all_bytes longer in
    let few = all_bytes bytes in
    let all_lines = ap bytes_of is_longer in
    let few_lines = ap bytes_of is_bytes in
    let one = bytes_behind before (line ∷ after) in
    let two = bytes_behind before after in
    let same : lacks_header (before ++ line ∷ after) ≡ false = ap is_none (kept_same before after line is) ∙ some in
    meant longer (before ++ line ∷ after) small is_longer same
    ∙ insert_go (length before) line before after nothing_declared 0 0 is refl left (omega arith) (omega arith)
    ∙ ap (moved_behind (length before)) (sym (meant bytes (before ++ after) (omega arith) is_bytes some))
