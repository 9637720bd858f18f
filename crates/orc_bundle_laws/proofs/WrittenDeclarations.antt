-- Declarations that are written are read.
use Rattle.std.proofs.Common.{◌≡◌, ℕ, ◌≤◌, ◌+◌, Bool, true, false, not, cond, List, [], ◌∷◌, ◌++◌, codes, length, refl, ap, ◌∙◌, arith, Result, Ok, Err, nat_lt, ◌-◌, if◌then◌else◌}
use Rattle.std.specs.Str.{is_utf8}
use Rattle.orc_decls.specs.declared.rule.Rule.{Rule}
use Rattle.orc_decls.specs.declared.rule.Rule.TheVariants as rule
use Rattle.orc_declarations.specs.Declarations.{Front, declarations_of, is_script, opened, after_script, after_text, bare_declaration, declared_at, in_open_block, is_opening}
use Rattle.orc_lines.specs.Rules.{on_line}
use Rattle.orc_lines.specs.Keywords.{keyword_of}
use Rattle.orc_lines.specs.Lines.{is_skipped, text_of}
use Rattle.orc_lines.specs.declared.lines.TheConstants.{LARGEST_BUNDLE, LONGEST_LINE}
use Rattle.orc_lines.specs.declared.declared.Declared.{Declared}
use Rattle.orc_lines.specs.declared.declared.Section.TheVariants as section
use Rattle.std.proofs.lemmas.Str.{is_utf8-from_IsUtf8}
use Rattle.orc_bundle_laws.specs.Written.{AreLinesOf, IsLineOf, none, one, skipped}
use Rattle.orc_bundle_laws.proofs.Bytes.{bytes_of}
use Rattle.orc_bundle_laws.proofs.Skipped.{declarations}
use Rattle.orc_bundle_laws.proofs.Texts.{part_known}
use Rattle.orc_bundle_laws.proofs.WrittenLines.{IsText, not_large}

-- a line is looked at by its text

pub declared_by_text : (d : Declared) (at : ℕ) (t line : List ℕ) (later : List (List ℕ)) → IsText t → IsLineOf t line → at + length line ≤ LARGEST_BUNDLE → d.skip ≡ 0
    → declared_at d at line later ≡ after_text d t later
unfolding declared_at
declared_by_text d at t line later is spells within skip =
    let says = spells.says in
    let looked : Result Declared Rule = cond (is_skipped (text_of line)) (Ok d) (after_text d (text_of line) later) in
    let inner : Result Declared Rule = cond (not (is_utf8 (text_of line))) (Err rule.Utf8) looked in
    ap (λ (b : Bool). cond b (Err rule.Size) (in_open_block d inner)) (not_large t line at says is.short within)
    ∙ ap (λ (k : ℕ). cond (nat_lt 0 k) (Ok (record d { skip = d.skip - 1 })) inner) skip
    ∙ ap (λ (b : Bool). cond (not b) (Err rule.Utf8) looked) (ap is_utf8 says ∙ is_utf8-from_IsUtf8 t is.part.utf8)
    ∙ ap (λ (b : Bool). cond b (Ok d) (after_text d (text_of line) later)) (ap is_skipped says ∙ is.kept)
    ∙ ap (λ (x : List ℕ). after_text d x later) says

passed_over : (d : Declared) (at : ℕ) (t line : List ℕ) (later : List (List ℕ)) → IsLineOf t line → is_skipped t ≡ true → is_utf8 t ≡ true → length t ≤ LONGEST_LINE
    → at + length line ≤ LARGEST_BUNDLE → d.skip ≡ 0 → declared_at d at line later ≡ Ok d
passed_over d at t line later spells skip utf8 short within none_left =
    declarations at line later d
    (record { small = not_large t line at spells.says short within; utf8 = ap is_utf8 spells.says ∙ utf8; skipped = ap is_skipped spells.says ∙ skip }) none_left

-- Wherever they begin, lines of these texts with the line `script` after them are read as these declarations.
abbrev pub Fronts : Declared → List (List ℕ) → Declared → List ℕ → List (List ℕ) → Type 0
Fronts d ts e line later =
    (ls : List (List ℕ)) → AreLinesOf ts ls → (at n : ℕ) → at + bytes_of (ls ++ line ∷ later) ≤ LARGEST_BUNDLE
    → (k : ℕ) × (declarations_of d at n (ls ++ line ∷ later)
    ≡ Ok (record { declared = e; size = at + bytes_of ls; at = at + bytes_of ls + length line; number = k; later = later }))

abbrev pub on_front : ℕ → Result Declared Rule → ℕ → ℕ → List (List ℕ) → Result Front (ℕ × Rule)
on_front n r at next later = on_line (n + 1) r (λ e.
    if is_script e.section
    then opened (n + 1) (record { declared = e; size = at; at = next; number = n + 1; later = later })
    else declarations_of e next (n + 1) later)

-- what is found after a line is found after one more before it
module _ (e : Declared) (line : List ℕ) (later : List (List ℕ)) where
  abbrev found_at : ℕ → ℕ → Result Front (ℕ × Rule)
  found_at size k = Ok (record { declared = e; size = size; at = size + length line; number = k; later = later })

  goes_on : (d f : Declared) (l : List ℕ) (ls : List (List ℕ)) (at n : ℕ) → declared_at d at l (ls ++ line ∷ later) ≡ Ok f → is_script f.section ≡ false
      → (k : ℕ) × (declarations_of f (at + length l) (n + 1) (ls ++ line ∷ later) ≡ found_at (at + length l + bytes_of ls) k)
      → (k : ℕ) × (declarations_of d at n (l ∷ (ls ++ line ∷ later)) ≡ found_at (at + (length l + bytes_of ls)) k)
  goes_on d f l ls at n reads goes found =
      let rest = ls ++ line ∷ later in
      let sum : at + length l + bytes_of ls ≡ at + (length l + bytes_of ls) = omega arith in (
        found.0,
        ap (λ (r : Result Declared Rule). on_front n r at (at + length l) rest) reads
            ∙ ap (λ (b : Bool). cond b (opened (n + 1) (record { declared = f; size = at; at = at + length l; number = n + 1; later = rest })) (declarations_of f (at + length l) (n + 1) rest)) goes
            ∙ found.1
            ∙ ap (λ (m : ℕ). found_at m found.0) sum,
      )

  -- one text more before these
  pub one_declaration : (d f : Declared) (t : List ℕ) (ts : List (List ℕ))
      → IsText t → d.skip ≡ 0 → is_script d.section ≡ false → ((rest : List (List ℕ)) → after_text d t rest ≡ Ok f) → is_script f.section ≡ false
      → Fronts f ts e line later → Fronts d (t ∷ ts) e line later
  one_declaration d f t ts is skip before reads goes behind = front where
    front : Fronts d (t ∷ ts) e line later
    front ls (one text l texts more spells are) at n within =
        let rest = more ++ line ∷ later in
        goes_on d f l more at n (declared_by_text d at t l rest is spells (omega arith) skip ∙ reads rest) goes (behind more are (at + length l) (n + 1) (omega arith))
    front ls (skipped text l texts more spells over utf8 short are) at n within =
        let rest = more ++ line ∷ later in
        goes_on d d l more at n (passed_over d at text l rest spells over utf8 short (omega arith) skip) before (front more are (at + length l) (n + 1) (omega arith))

-- the line `script`
script_text : IsText (codes "script")
script_text = record { part = part_known (codes "script") refl refl; kept = refl; short = omega arith }

script_reads : (d : Declared) (later : List (List ℕ)) → d.section ≡ section.Declarations → after_text d (codes "script") later ≡ Ok (record d { section = section.Script })
unfolding after_text bare_declaration after_script keyword_of
script_reads d later here = rw here refl

pub script_line : (d : Declared) (line : List ℕ) (later : List (List ℕ)) → d.skip ≡ 0 → d.section ≡ section.Declarations → is_opening d ≡ true → IsLineOf (codes "script") line
    → Fronts d [] (record d { section = section.Script }) line later
script_line d line later skip here opens spells = front where
  e : Declared
  e = record d { section = section.Script }

  front : Fronts d [] (record d { section = section.Script }) line later
  front ls none at n within =
      let sum : at ≡ at + 0 = omega arith in (
        n + 1,
        ap (λ (r : Result Declared Rule). on_front n r at (at + length line) later) (declared_by_text d at (codes "script") line later script_text spells (omega arith) skip ∙ script_reads d later here)
            ∙ ap (λ (b : Bool). cond b (Ok (record { declared = record d { section = section.Script }; size = at; at = at + length line; number = n + 1; later = later })) (Err (n + 1, rule.Opening))) opens
            ∙ ap (λ (m : ℕ). Ok (record { declared = record d { section = section.Script }; size = m; at = m + length line; number = n + 1; later = later })) sum,
      )
  front ls (skipped text l texts more shows over utf8 short are) at n within =
      let rest = more ++ line ∷ later in
      goes_on (record d { section = section.Script }) line later d d l more at n (passed_over d at text l rest shows over utf8 short (omega arith) skip)
      (ap is_script here) (front more are (at + length l) (n + 1) (omega arith))
