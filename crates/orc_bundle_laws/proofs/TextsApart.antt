-- What a script is read as doesn't depend on the text of the declarations.
use Rattle.std.proofs.Common.{◌≡◌, ℕ, ◌+◌, Bool, not, cond, List, [], ◌∷◌, length, Result, Ok, Err, Option, None, Some, refl, ap, ◌∙◌}
use Rattle.std.specs.Str.{is_utf8}
use Rattle.orc_decls.specs.declared.declarations.Decls.{Decls}
use Rattle.orc_decls.specs.declared.rule.Rule.{Rule}
use Rattle.orc_decls.specs.declared.rule.Rule.TheVariants as rule
use Rattle.orc_lines.specs.Keywords.{keyword_of}
use Rattle.orc_lines.specs.Lines.{is_large, is_skipped, text_of}
use Rattle.orc_lines.specs.Rules.{on_line}
use Rattle.orc_lines.specs.Words.{cut_at, first_word}
use Rattle.orc_lines.specs.declared.keyword.Keyword.{Keyword}
use Rattle.orc_lines.specs.declared.keyword.Keyword.TheVariants as keyword
use Rattle.orc_script.specs.Places.{device_item_of, device_node_of, device_path_of}
use Rattle.orc_script.specs.Scripts.{a_step, after_base_put, after_base_remove, after_bodied, after_delete, after_on_device, after_fault, after_json, after_meta, after_redeploy, after_set, after_step, after_unset, after_write, an_action, behind_literal, is_followed, script_steps, scripted_at, step_words, with_literal, words_at}
use Rattle.orc_script.specs.declared.script.Script.{Script}
use Rattle.orc_script.specs.declared.script.Part.{Part}
use Rattle.orc_script.specs.declared.script.Part.TheVariants as part

-- declarations with another text
module _ (d : Decls) (other : List ℕ) where
  abbrev e : Decls
  e = record d { text = other }

  step_apart : (k : Keyword) (s : Script) (rest : List ℕ) (followed : Bool) → a_step k e s rest followed ≡ a_step k d s rest followed
  unfolding a_step after_on_device after_fault after_json after_meta device_node_of
  step_apart keyword.Begin s rest followed = refl
  step_apart keyword.Step s rest followed = refl
  step_apart keyword.Tick s rest followed = refl
  step_apart keyword.Restart s rest followed = refl
  step_apart keyword.Fault s rest followed = refl
  step_apart keyword.Show s rest followed = refl
  step_apart keyword.Log s rest followed = refl
  step_apart keyword.Json s rest followed = refl
  step_apart keyword.Meta s rest followed = refl
  step_apart keyword.Stop s rest followed = refl
  step_apart keyword.Call s rest followed = refl
  step_apart _ s rest followed = refl

  action_apart : (k : Keyword) (s : Script) (rest : List ℕ) → an_action k e s rest ≡ an_action k d s rest
  unfolding an_action after_bodied after_redeploy after_delete after_set after_unset after_base_put after_base_remove device_item_of device_path_of
  action_apart keyword.Create s rest = refl
  action_apart keyword.Modify s rest = refl
  action_apart keyword.Redeploy s rest = refl
  action_apart keyword.Literal s rest = refl
  action_apart keyword.Delete s rest = refl
  action_apart keyword.Set s rest = refl
  action_apart keyword.Unset s rest = refl
  action_apart keyword.Base s rest = refl
  action_apart keyword.Unbase s rest = refl
  action_apart _ s rest = refl

  literal_apart : (k : Keyword) (s : Script) (rest : List ℕ) → behind_literal k e s rest ≡ behind_literal k d s rest
  unfolding behind_literal after_write device_item_of
  literal_apart keyword.Write s rest = refl
  literal_apart k s rest = action_apart k (with_literal s) rest

  words_apart : (p : Part) (k : Keyword) (s : Script) (rest : List ℕ) (followed : Bool) → words_at p k e s rest followed ≡ words_at p k d s rest followed
  unfolding words_at
  words_apart part.Steps k s rest followed = step_apart k s rest followed
  words_apart part.Call k s rest followed = action_apart k s rest
  words_apart part.Literal k s rest followed = literal_apart k s rest

  cut_apart : (s : Script) (k : Keyword) (followed : Bool) (o : Option (List ℕ × List ℕ)) → step_words e s k followed o ≡ step_words d s k followed o
  cut_apart s k followed None = refl
  cut_apart s k followed (Some words) = words_apart s.part k s words.1 followed

  line_apart : (s : Script) (at : ℕ) (line : List ℕ) (later : List (List ℕ)) → scripted_at e s at line later ≡ scripted_at d s at line later
  unfolding scripted_at after_step
  line_apart s at line later =
      let text = text_of line in
      let word = keyword_of (first_word text) in
      ap (λ (r : Result Script Rule). cond (is_large at line) (Err rule.Size) (cond (not (is_utf8 text)) (Err rule.Utf8) (cond (is_skipped text) (Ok s) r)))
      (cut_apart s word (is_followed word later) (cut_at 32 text))

  pub steps_apart : (lines : List (List ℕ)) (s : Script) (at n : ℕ) → script_steps e s at n lines ≡ script_steps d s at n lines
  steps_apart [] s at n = refl
  steps_apart (line ∷ later) s at n =
      ap (λ (r : Result Script Rule). on_line (n + 1) r (λ t. script_steps e t (at + length line) (n + 1) later)) (line_apart s at line later)
      ∙ on (scripted_at d s at line later) (λ t. steps_apart later t (at + length line) (n + 1)) where
        on : (r : Result Script Rule) → ((t : Script) → script_steps e t (at + length line) (n + 1) later ≡ script_steps d t (at + length line) (n + 1) later)
            → on_line (n + 1) r (λ t. script_steps e t (at + length line) (n + 1) later) ≡ on_line (n + 1) r (λ t. script_steps d t (at + length line) (n + 1) later)
        on (Err rule) more = refl
        on (Ok t) more = more t
