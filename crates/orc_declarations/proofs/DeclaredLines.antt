-- What a line of declarations makes of what was declared so far.
use Rattle.std.proofs.Common.{◌≡◌, ℕ, ◌<◌, ◌-◌, Bool, true, false, not, ◌&&◌, ◌||◌, nat_eq, nat_le, nat_lt, cond, List, [], ◌∷◌, ◌++◌, codes, length, Result, Ok, Err, Option, Some, None, refl, ap, sym, ◌∙◌, subst, lt-ltb, eqb-true}
use Rattle.std.specs.Str.{is_utf8}
use Rattle.std.proofs.lemmas.Bool.{false≢true}
use Rattle.orc_path.specs.Alphabet.{is_identifier}
use Rattle.orc_path.specs.Limits.{is_long_name}
use Rattle.orc_decls.specs.Calls.{schema_named}
use Rattle.orc_decls.specs.declared.declarations.TheConstants.{MOST_DEVICES}
use Rattle.orc_decls.specs.declared.rule.Rule.{Rule}
use Rattle.orc_decls.specs.declared.rule.Rule.TheVariants as rule
use Rattle.orc_declarations.specs.Declarations.{is_script, after_base, after_data, after_datamodel, after_device, after_devicetype, after_forbid, after_header, after_max, after_rule, after_script, after_template, after_text, after_yang, bare_declaration, base_words, block_size, count_in, declaration, declaration_words, declared_at, device_words, is_header, is_taken, lines_taken, max_words, rule_kind, rule_line, is_listed_already, is_template_of, may_be_served, schema_place, schema_words, taken_by, template_count, template_line, template_words, type_words, with_template, with_base, with_device, with_forbid, with_max, with_module, with_type, words_take}
use Rattle.orc_lines.specs.Items.{forbidden_of, is_past_path, list_path_of, put_of}
use Rattle.orc_path.specs.Reading.{path_of}
use Rattle.std.specs.Option.{option_and_then}
use Rattle.orc_lines.specs.Keywords.{keyword_of}
use Rattle.orc_lines.specs.Lines.{block_of, is_large, is_skipped, text_of}
use Rattle.orc_declarations.specs.Modules.{module_of}
use Rattle.orc_lines.specs.Names.{is_among, place_of, with_name}
use Rattle.orc_lines.specs.Words.{cut_at, is_text, number_in, word_before, words_of}
use Rattle.orc_lines.specs.declared.declared.Declared.{Declared}
use Rattle.orc_lines.specs.declared.declared.Section.{Section}
use Rattle.orc_lines.specs.declared.declared.Section.TheVariants as section
use Rattle.orc_lines.specs.declared.keyword.Keyword.{Keyword}
use Rattle.orc_lines.specs.declared.keyword.Keyword.TheVariants as keyword
use Rattle.orc_lines.proofs.Keywords.{skipped_word, text_is}
use Rattle.orc_lines.proofs.Rules.{no_ok, ok, on_ok_ok, or_rule_ok, passed, same_ok, so}

-- a line where no block is open: it is skipped, the header, a declaration or the line `script`
pub data Declares (d : Declared) (text : List ℕ) (e : Declared) : Type 0 where
  over : is_skipped text ≡ true → d ≡ e → lines_taken text ≡ 0 → is_text text (codes "script") ≡ false → Declares d text e
  headed : d.section ≡ section.Header → e.section ≡ section.Declarations → e.skip ≡ 0 → is_skipped text ≡ false → lines_taken text ≡ 0
      → is_text text (codes "script") ≡ false → Declares d text e
  declared : d.section ≡ section.Declarations → e.section ≡ section.Declarations → e.skip ≡ lines_taken text
      → is_text text (codes "script") ≡ false → Declares d text e
  scripted : d.section ≡ section.Declarations → e.section ≡ section.Script → lines_taken text ≡ 0 → Declares d text e

module _ (d e : Declared) (text : List ℕ) (later : List (List ℕ)) (none : d.skip ≡ 0) where
  -- a form of more words
  module _ (words : List ℕ × List ℕ) (cut : cut_at 32 text ≡ Some words) (here : d.section ≡ section.Declarations) where
    no_script : is_text text (codes "script") ≡ false
    no_script = on (is_text text (codes "script")) refl where
      on : (b : Bool) → is_text text (codes "script") ≡ b → is_text text (codes "script") ≡ false
      on false is = is
      on true is = absurd (let alone : None ≡ Some words = sym (ap (cut_at 32) (text_is text (codes "script") is)) ∙ cut in cc)

    takes : (k : Keyword) → keyword_of words.0 ≡ k → lines_taken text ≡ taken_by k words.1
    takes k is = ap words_take cut ∙ ap (λ (x : Keyword). taken_by x words.1) is

    -- of a form that keeps what is to come of a block
    keeps : (k : Keyword) → keyword_of words.0 ≡ k → taken_by k words.1 ≡ 0 → (u : Declared) → u.section ≡ d.section → u.skip ≡ d.skip → ok Declared Rule u ≡ Ok e → Declares d text e
    keeps k is takes_none u section skip h =
        let same = same_ok u e h in
        declared here (sym (ap (λ (x : Declared). x.section) same) ∙ section ∙ here)
        (sym (ap (λ (x : Declared). x.skip) same) ∙ skip ∙ none ∙ sym (takes k is ∙ takes_none)) no_script

    of_device : keyword_of words.0 ≡ keyword.Device → (o : Option (List ℕ × List ℕ)) → device_words d o ≡ Ok e → Declares d text e
    unfolding taken_by
    of_device is None h = absurd (no_ok rule.Line e h)
    of_device is (Some names) h =
        let one = passed (not (is_identifier names.0) || not (is_identifier names.1)) rule.Line _ e h in
        let two = passed (is_long_name names.0 || is_long_name names.1) rule.Size _ e one.1 in
        let three = passed (not (is_among d.names names.0) && nat_le MOST_DEVICES (length d.names)) rule.Size _ e two.1 in
        let four = or_rule_ok (schema_place d names.1) rule.Unknown _ e three.1 in
        let five = passed (is_among d.names names.0) rule.Duplicate (Ok (with_device d names.0 four.0)) e four.1.1 in
        keeps keyword.Device is refl (with_device d names.0 four.0) refl refl five.1

    of_datamodel : keyword_of words.0 ≡ keyword.Datamodel → after_datamodel d words.1 ≡ Ok e → Declares d text e
    unfolding after_datamodel taken_by
    of_datamodel is h =
        let one = on_ok_ok (schema_words d (words_of words.1) (with_name (words_of words.1) (codes "orc")) d.has_data) _ e h in
        keeps keyword.Datamodel is refl (record d { has_data = true; data_schema = one.0; «data» = []; templates = []; services = [] }) refl refl one.1.1

    of_type : keyword_of words.0 ≡ keyword.Devicetype → (names : List (List ℕ)) → type_words d names ≡ Ok e → Declares d text e
    unfolding taken_by
    of_type is [] h = absurd (no_ok rule.Line e h)
    of_type is (name ∷ []) h = absurd (no_ok rule.Line e h)
    of_type is (name ∷ first ∷ later) h =
        let one = on_ok_ok (schema_words d (name ∷ first ∷ later) (first ∷ later) (is_among d.types name)) _ e h in
        keeps keyword.Devicetype is refl (with_type d name one.0) refl refl one.1.1

    of_base : keyword_of words.0 ≡ keyword.Base → (o : Option (List ℕ × List ℕ)) → base_words d o ≡ Ok e → Declares d text e
    unfolding taken_by
    of_base is None h = absurd (no_ok rule.Line e h)
    of_base is (Some names) h =
        let one = passed (not (is_identifier names.0)) rule.Line _ e h in
        let two = on_ok_ok (put_of None (schema_named d.schemas d.devices names.0) (is_long_name names.0) names.1) _ e one.1 in
        let three = or_rule_ok (place_of d.names names.0) rule.Unknown (λ n. Ok (record d { devices = with_base n two.0 d.devices })) e two.1.1 in
        keeps keyword.Base is refl (record d { devices = with_base three.0 two.0 d.devices }) refl refl three.1.1

    -- a rule of a device
    of_max : keyword_of words.0 ≡ keyword.Rule → (name : List ℕ) (o : Option (List ℕ × List ℕ)) → max_words d name o ≡ Ok e → Declares d text e
    unfolding taken_by
    of_max is name None h = absurd (no_ok rule.Line e h)
    of_max is name (Some parts) h =
        let one = or_rule_ok (number_in parts.1) rule.Line _ e h in
        let two = on_ok_ok (list_path_of (schema_named d.schemas d.devices name) (is_long_name name) parts.0) _ e one.1.1 in
        let three = or_rule_ok (place_of d.names name) rule.Unknown (λ n. Ok (record d { devices = with_max n (two.0, one.0) d.devices })) e two.1.1 in
        keeps keyword.Rule is refl (record d { devices = with_max three.0 (two.0, one.0) d.devices }) refl refl three.1.1

    of_forbid : keyword_of words.0 ≡ keyword.Rule → (name rest : List ℕ) → after_forbid d name rest ≡ Ok e → Declares d text e
    unfolding after_forbid taken_by
    of_forbid is name rest h =
        let one = on_ok_ok (forbidden_of (schema_named d.schemas d.devices name) (is_long_name name) rest) _ e h in
        let two = or_rule_ok (place_of d.names name) rule.Unknown (λ n. Ok (record d { devices = with_forbid n one.0 d.devices })) e one.1.1 in
        keeps keyword.Rule is refl (record d { devices = with_forbid two.0 one.0 d.devices }) refl refl two.1.1

    of_kind : keyword_of words.0 ≡ keyword.Rule → (name : List ℕ) (o : Option (List ℕ × List ℕ)) → rule_kind d name o ≡ Ok e → Declares d text e
    unfolding after_max
    of_kind is name None h = absurd (no_ok rule.Line e h)
    of_kind is name (Some parts) h = on (is_text parts.0 (codes "max")) (is_text parts.0 (codes "forbid")) h where
      on : (m f : Bool) → cond m (after_max d name parts.1) (cond f (after_forbid d name parts.1) (Err rule.Line)) ≡ Ok e → Declares d text e
      on true f h = of_max is name (cut_at 32 parts.1) h
      on false true h = of_forbid is name parts.1 h
      on false false h = absurd (no_ok rule.Line e h)

    of_rule : keyword_of words.0 ≡ keyword.Rule → (o : Option (List ℕ × List ℕ)) → rule_line d o ≡ Ok e → Declares d text e
    of_rule is None h = absurd (no_ok rule.Line e h)
    of_rule is (Some parts) h =
        let one = passed (not (is_identifier parts.0)) rule.Line _ e h in
        of_kind is parts.0 (cut_at 32 parts.1) one.1

    -- an item of the data
    of_data : keyword_of words.0 ≡ keyword.Data → after_data d words.1 ≡ Ok e → Declares d text e
    unfolding after_data taken_by
    of_data is h =
        let one = on_ok_ok (put_of (Some d.services) d.data_schema false words.1) (λ put. Ok (record d { «data» = d.data ++ put ∷ [] })) e h in
        keeps keyword.Data is refl (record d { «data» = d.data ++ one.0 ∷ [] }) refl refl one.1.1

    of_yang : keyword_of words.0 ≡ keyword.Yang → after_yang d words.1 later ≡ Ok e → Declares d text e
    unfolding after_yang taken_by
    of_yang is h =
        let one = or_rule_ok (number_in words.1) rule.Line _ e h in
        let two = or_rule_ok (block_of one.0 later) rule.Line _ e one.1.1 in
        let three = on_ok_ok (module_of two.0) _ e two.1.1 in
        let after : Declared = with_module d one.0 three.0 in
        let four = passed (is_taken d three.0.name) rule.Duplicate (Ok after) e three.1.1 in
        let same = same_ok after e four.1 in
        declared here (sym (ap (λ (x : Declared). x.section) same) ∙ here)
        (sym (ap (λ (x : Declared). x.skip) same) ∙ sym (takes keyword.Yang is ∙ ap block_size one.1.0)) no_script

    -- the list and its template, after the name
    of_list : keyword_of words.0 ≡ keyword.Template → (name : List ℕ) (front : List ℕ × List ℕ) → cut_at 32 words.1 ≡ Some front
        → (o : Option (List ℕ × List ℕ)) → cut_at 32 front.1 ≡ o → template_line d name later o ≡ Ok e → Declares d text e
    unfolding taken_by
    of_list is name front first None second h = absurd (no_ok rule.Line e h)
    of_list is name front first (Some parts) second h =
        let one = or_rule_ok (number_in parts.1) rule.Line _ e h in
        let two = passed (nat_eq (length parts.0) 0) rule.Line _ e one.1.1 in
        let three = passed (is_long_name name || is_past_path (path_of parts.0)) rule.Size _ e two.1 in
        let four = or_rule_ok (block_of one.0 later) rule.Line _ e three.1 in
        let five = or_rule_ok (path_of parts.0) rule.Path _ e four.1.1 in
        let after : Declared = with_template d one.0 name (record { list = five.0; template = four.0 }) in
        let six = passed (not (may_be_served d five.0)) rule.Path _ e five.1.1 in
        let seven = passed (is_among d.templates name || is_listed_already d five.0) rule.Duplicate _ e six.1 in
        let eight = passed (not (is_template_of d.data_schema five.0 four.0)) rule.Template (Ok after) e seven.1 in
        let same = same_ok after e eight.1 in
        let count : template_count words.1 ≡ Some one.0 =
        ap (λ (o : Option (List ℕ × List ℕ)). count_in (option_and_then (λ (ws : List ℕ × List ℕ). cut_at 32 ws.1) o)) first
        ∙ ap count_in second ∙ one.1.0 in
        declared here (sym (ap (λ (x : Declared). x.section) same) ∙ here)
        (sym (ap (λ (x : Declared). x.skip) same) ∙ sym (takes keyword.Template is ∙ ap block_size count)) no_script

    of_template : keyword_of words.0 ≡ keyword.Template → (o : Option (List ℕ × List ℕ)) → cut_at 32 words.1 ≡ o → template_words d later o ≡ Ok e → Declares d text e
    of_template is None first h = absurd (no_ok rule.Line e h)
    of_template is (Some front) first h =
        let one = passed (not (is_identifier front.0)) rule.Line _ e h in
        of_list is front.0 front first (cut_at 32 front.1) refl one.1

    of_words : (k : Keyword) → keyword_of words.0 ≡ k → declaration k d words.1 later ≡ Ok e → Declares d text e
    unfolding declaration after_device after_devicetype after_base after_rule after_template
    of_words keyword.Device is h = of_device is (cut_at 32 words.1) h
    of_words keyword.Datamodel is h = of_datamodel is h
    of_words keyword.Devicetype is h = of_type is (words_of words.1) h
    of_words keyword.Rule is h = of_rule is (cut_at 32 words.1) h
    of_words keyword.Base is h = of_base is (cut_at 32 words.1) h
    of_words keyword.Data is h = of_data is h
    of_words keyword.Yang is h = of_yang is h
    of_words keyword.Template is h = of_template is (cut_at 32 words.1) refl h
    of_words _ is h = absurd (no_ok rule.Line e h)

  of_word : (k : Keyword) → cut_at 32 text ≡ None → d.section ≡ section.Declarations → bare_declaration k d ≡ Ok e → Declares d text e
  unfolding bare_declaration after_script
  of_word keyword.Script alone here h =
      scripted here (sym (ap (λ (x : Declared). x.section) (same_ok (record d { section = section.Script }) e h))) (ap words_take alone)
  of_word _ alone here h = absurd (no_ok rule.Line e h)

  of_cut : (o : Option (List ℕ × List ℕ)) → cut_at 32 text ≡ o → d.section ≡ section.Declarations → declaration_words d text later o ≡ Ok e → Declares d text e
  of_cut None is here h = of_word (keyword_of text) is here h
  of_cut (Some words) is here h = of_words words is here (keyword_of words.0) refl h

  of_header : is_skipped text ≡ false → d.section ≡ section.Header → after_header d text ≡ Ok e → Declares d text e
  unfolding after_header keyword_of taken_by
  of_header kept here h =
      let after : Declared = record d { section = section.Declarations } in
      let one = passed (not (is_text text (codes "orc 1"))) rule.Header (Ok after) e h in
      let is = text_is text (codes "orc 1") (so (is_text text (codes "orc 1")) one.0) in
      let same = same_ok after e one.1 in
      headed here (sym (ap (λ (x : Declared). x.section) same)) (sym (ap (λ (x : Declared). x.skip) same) ∙ none) kept
      (ap lines_taken is) (ap (λ (x : List ℕ). is_text x (codes "script")) is)

  of_text : is_skipped text ≡ false → is_script d.section ≡ false → after_text d text later ≡ Ok e → Declares d text e
  unfolding after_text
  of_text kept before h = on d.section refl h where
    on : (s : Section) → d.section ≡ s → cond (is_header s) (after_header d text) (declaration_words d text later (cut_at 32 text)) ≡ Ok e → Declares d text e
    on section.Header here h = of_header kept here h
    on section.Declarations here h = of_cut (cut_at 32 text) refl here h
    on section.Script here h = absurd (false≢true (sym before ∙ ap is_script here))

  of_skipped : is_skipped text ≡ true → d ≡ e → Declares d text e
  unfolding taken_by
  of_skipped skip same = over skip same (taken (cut_at 32 text) (skipped_word text skip)) (other text skip) where
    taken : (o : Option (List ℕ × List ℕ)) → keyword_of (word_before text o) ≡ keyword.Other → words_take o ≡ 0
    taken None is = refl
    taken (Some words) is = ap (λ (k : Keyword). taken_by k words.1) is

    other : (x : List ℕ) → is_skipped x ≡ true → is_text x (codes "script") ≡ false
    other [] h = refl
    other (b ∷ bs) h = subst (λ (c : ℕ). is_text (c ∷ bs) (codes "script") ≡ false) (sym (eqb-true b 35 h)) refl

pub declares : (d e : Declared) (at : ℕ) (line : List ℕ) (later : List (List ℕ)) → d.skip ≡ 0 → is_script d.section ≡ false
    → declared_at d at line later ≡ Ok e → Declares d (text_of line) e
unfolding declared_at
declares d e at line later none before h =
    let text = text_of line in
    let inner : Result Declared Rule = cond (not (is_utf8 text)) (Err rule.Utf8) (cond (is_skipped text) (Ok d) (after_text d text later)) in
    let one = passed (is_large at line) rule.Size (cond (nat_lt 0 d.skip) (Ok (record d { skip = d.skip - 1 })) inner) e h in
    let two : inner ≡ Ok e = sym (ap (λ (k : ℕ). cond (nat_lt 0 k) (Ok (record d { skip = d.skip - 1 })) inner) none) ∙ one.1 in
    let three = passed (not (is_utf8 text)) rule.Utf8 (cond (is_skipped text) (Ok d) (after_text d text later)) e two in
    on (is_skipped text) refl three.1 where
      on : (b : Bool) → is_skipped (text_of line) ≡ b → cond b (Ok d) (after_text d (text_of line) later) ≡ Ok e → Declares d (text_of line) e
      on true skip h = of_skipped d e (text_of line) later none skip (same_ok d e h)
      on false kept h = of_text d e (text_of line) later none kept before h

-- a line of a block
pub in_a_block : (d e : Declared) (at : ℕ) (line : List ℕ) (later : List (List ℕ)) → 0 < d.skip → declared_at d at line later ≡ Ok e → record d { skip = d.skip - 1 } ≡ e
unfolding declared_at
in_a_block d e at line later some h =
    let text = text_of line in
    let inner : Result Declared Rule = cond (not (is_utf8 text)) (Err rule.Utf8) (cond (is_skipped text) (Ok d) (after_text d text later)) in
    let one = passed (is_large at line) rule.Size (cond (nat_lt 0 d.skip) (Ok (record d { skip = d.skip - 1 })) inner) e h in
    same_ok (record d { skip = d.skip - 1 }) e (sym (ap (λ (b : Bool). cond b (Ok (record d { skip = d.skip - 1 })) inner) (lt-ltb 0 d.skip some)) ∙ one.1)
