-- A bundle with its script is read line by line: the bytes after the declarations are their later lines.
use Rattle.std.proofs.Common.{◌≡◌, ℕ, ◌+◌, Bool, true, false, ◌==◌, cond, List, [], ◌∷◌, length, drop, Result, Ok, Err, refl, ap, sym, subst, ◌∙◌}
use Rattle.std.proofs.lemmas.List.{drop-drop}
use Rattle.orc_decls.specs.declared.rule.Rule.{Rule}
use Rattle.orc_decls.specs.declared.rule.Rule.TheVariants as rule
use Rattle.orc_lines.specs.Lines.{lacks_header, led_by, lines_of, seen}
use Rattle.orc_lines.specs.Rules.{on_line, on_ok}
use Rattle.orc_lines.specs.declared.declared.Declared.{Declared}
use Rattle.orc_declarations.specs.Bundles.{bundle_at, decls_of}
use Rattle.orc_declarations.specs.Declarations.{Front, declarations_of, declared_at, is_opening, is_script, nothing_declared, opened}
use Rattle.orc_declarations.specs.declared.bundle.Bundle.{Bundle}
use Rattle.orc_script.specs.Scripts.{no_steps, script_steps}
use Rattle.orc_script.specs.declared.step.ScriptStep.{ScriptStep}
use Rattle.orc_bundle.specs.Bundles.{bundle_in, header_rule, scripted_of}
use Rattle.orc_bundle.specs.declared.scripted.ScriptedBundle.{ScriptedBundle}
use Rattle.orc_lines.proofs.Rules.{err, no_ok, same_ok}

-- the bytes after the first line are the later lines

behind_first : (bytes line : List ℕ) (later : List (List ℕ)) → lines_of bytes ≡ line ∷ later → later ≡ lines_of (drop (length line) bytes)
behind_first [] line later h = absurd cc
behind_first (b ∷ bs) line later h = on (b == 10) (λ l ls is. behind_first bs l ls is) h where
  led : (ls : List (List ℕ)) → lines_of bs ≡ ls → ((l : List ℕ) (more : List (List ℕ)) → lines_of bs ≡ l ∷ more → more ≡ lines_of (drop (length l) bs))
      → led_by b ls ≡ line ∷ later → later ≡ lines_of (drop (length line) (b ∷ bs))
  led [] is more h =
      let first : b ∷ [] ≡ line = cc in
      let none : [] ≡ later = cc in
      sym none ∙ sym is ∙ ap (λ (l : List ℕ). lines_of (drop (length l) (b ∷ bs))) first
  led (l ∷ ls) is more h =
      let first : b ∷ l ≡ line = cc in
      let same : ls ≡ later = cc in
      sym same ∙ more l ls is ∙ ap (λ (x : List ℕ). lines_of (drop (length x) (b ∷ bs))) first

  on : (t : Bool) → ((l : List ℕ) (more : List (List ℕ)) → lines_of bs ≡ l ∷ more → more ≡ lines_of (drop (length l) bs))
      → cond t ((10 ∷ []) ∷ lines_of bs) (led_by b (lines_of bs)) ≡ line ∷ later → later ≡ lines_of (drop (length line) (b ∷ bs))
  on true more h =
      let first : 10 ∷ [] ≡ line = cc in
      let same : lines_of bs ≡ later = cc in
      sym same ∙ ap (λ (l : List ℕ). lines_of (drop (length l) (b ∷ bs))) first
  on false more h = led (lines_of bs) refl more h

-- the bytes after the declarations are the later lines

module _ (bytes : List ℕ) where
  -- the lines from a place on
  abbrev StandAt : ℕ → List (List ℕ) → Type 0
  StandAt at ls = lines_of (drop at bytes) ≡ ls

  next : (at : ℕ) (line : List ℕ) (later : List (List ℕ)) → StandAt at (line ∷ later) → StandAt (at + length line) later
  next at line later h = sym (behind_first (drop at bytes) line later h ∙ ap lines_of (drop-drop (length line) at bytes))

  fronts : (number : ℕ) (f front : Front) → StandAt f.at f.later → opened number f ≡ Ok front → StandAt front.at front.later
  fronts number f front stands h = on (is_opening f.declared) h where
    on : (b : Bool) → cond b (Ok f) (err Front (ℕ × Rule) (number, rule.Opening)) ≡ Ok front → StandAt front.at front.later
    on true h = subst (λ (x : Front). StandAt x.at x.later) (same_ok f front h) stands
    on false h = absurd (no_ok (number, rule.Opening) front h)

  pub later_lines : (ls : List (List ℕ)) (d : Declared) (at n : ℕ) (front : Front) → StandAt at ls → declarations_of d at n ls ≡ Ok front → StandAt front.at front.later
  later_lines [] d at n front stands h = fronts (n + 1) (record { declared = d; size = at; at = at; number = n; later = [] }) front stands h
  later_lines (line ∷ later) d at n front stands h =
      on (declared_at d at line later) (λ e is. later_lines later e (at + length line) (n + 1) front (next at line later stands) is) h where
        ends : (e : Declared) (b : Bool) → (declarations_of e (at + length line) (n + 1) later ≡ Ok front → StandAt front.at front.later)
            → cond b (opened (n + 1) (record { declared = e; size = at; at = at + length line; number = n + 1; later = later })) (declarations_of e (at + length line) (n + 1) later) ≡ Ok front
            → StandAt front.at front.later
        ends e true more h = fronts (n + 1) (record { declared = e; size = at; at = at + length line; number = n + 1; later = later }) front (next at line later stands) h
        ends e false more h = more h

        on : (r : Result Declared Rule) → ((e : Declared) → declarations_of e (at + length line) (n + 1) later ≡ Ok front → StandAt front.at front.later)
            → on_line (n + 1) r (λ e. cond (is_script e.section)
            (opened (n + 1) (record { declared = e; size = at; at = at + length line; number = n + 1; later = later })) (declarations_of e (at + length line) (n + 1) later)) ≡ Ok front
            → StandAt front.at front.later
        on (Err rule) more h = absurd (no_ok (n + 1, rule) front h)
        on (Ok e) more h = ends e (is_script e.section) (more e) h

-- the declarations that are read up to a front, and what follows from there

abbrev pub steps_from : List ℕ → Front → Result (List ScriptStep) (ℕ × Rule)
steps_from bytes front = script_steps (decls_of bytes front) no_steps front.at front.number front.later

abbrev pub read_on : List ℕ → Front → Result ScriptedBundle (ℕ × Rule)
read_on bytes front = on_ok (steps_from bytes front) (λ steps. Ok (record { decls = decls_of bytes front; steps = steps }))

abbrev pub scripted_in : List ℕ → List (List ℕ) → Result ScriptedBundle (ℕ × Rule)
scripted_in bytes lines = cond (lacks_header lines) (Err (1, header_rule lines)) (on_ok (declarations_of nothing_declared 0 0 lines) (read_on bytes))

-- the script of a bundle that was read
abbrev follows : List ℕ → Bundle → Result ScriptedBundle (ℕ × Rule)
follows bytes bundle = on_ok (script_steps bundle.decls no_steps bundle.rest bundle.line (lines_of (drop bundle.rest bytes))) (λ steps. Ok (record { decls = bundle.decls; steps = steps }))

in_lines : (bytes : List ℕ) → on_ok (bundle_in bytes (lines_of bytes)) (follows bytes) ≡ scripted_in bytes (lines_of bytes)
in_lines bytes = on (lacks_header (lines_of bytes)) where
  read : (r : Result Front (ℕ × Rule)) → declarations_of nothing_declared 0 0 (lines_of bytes) ≡ r
      → on_ok (on_ok r (λ front. Ok (bundle_at bytes front))) (follows bytes) ≡ on_ok r (read_on bytes)
  read (Err fault) is = refl
  read (Ok front) is =
      let same : lines_of (drop front.at bytes) ≡ front.later = later_lines bytes (lines_of bytes) nothing_declared 0 0 front refl is in
      ap (λ (ls : List (List ℕ)). on_ok (script_steps (decls_of bytes front) no_steps front.at front.number ls) (λ (steps : List ScriptStep). Ok (record { decls = decls_of bytes front; steps = steps }))) same

  on : (b : Bool) → on_ok (cond b (Err (1, header_rule (lines_of bytes))) (on_ok (declarations_of nothing_declared 0 0 (lines_of bytes)) (λ front. Ok (bundle_at bytes front)))) (follows bytes)
      ≡ cond b (Err (1, header_rule (lines_of bytes))) (on_ok (declarations_of nothing_declared 0 0 (lines_of bytes)) (read_on bytes))
  on true = refl
  on false = read (declarations_of nothing_declared 0 0 (lines_of bytes)) refl

pub line_by_line : (bytes : List ℕ) → scripted_of bytes ≡ scripted_in (seen bytes) (lines_of (seen bytes))
line_by_line bytes = in_lines (seen bytes)
