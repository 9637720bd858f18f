-- What stands after lines that declare modules, types of devices and the data schema is read after them.
use Rattle.std.proofs.Common.{◌≡◌, ℕ, ◌≤◌, ◌+◌, Bool, true, false, cond, List, [], ◌∷◌, ◌++◌, codes, length, refl, ap, ap₂, sym, ◌∙◌, arith, append-nil, Result, Ok, Err, Some}
use Rattle.std.specs.Option.{is_none}
use Rattle.std.proofs.lemmas.Bool.{false≢true}
use Rattle.orc_decls.specs.declared.rule.Rule.{Rule}
use Rattle.orc_decls.specs.declared.rule.Rule.TheVariants as rule
use Rattle.orc_declarations.specs.Declarations.{declarations_of, is_script, opened, declared_at, lines_taken}
use Rattle.orc_lines.specs.Lines.{lacks_header, block_of, first_kept, is_skipped, text_of}
use Rattle.orc_bundle_laws.specs.Laws.{declared_by, left_of_block}
use Rattle.orc_lines.specs.Words.{is_text}
use Rattle.orc_lines.specs.declared.lines.TheConstants.{LARGEST_BUNDLE}
use Rattle.orc_lines.specs.declared.declared.Declared.{Declared}
use Rattle.orc_lines.proofs.Keywords.{text_is}
use Rattle.orc_lines.proofs.Rules.{on_ok_ok, passed, same_ok}
use Rattle.orc_bundle_laws.proofs.SkippedLines.{block_same, declared_same, left_behind, left_here}
use Rattle.orc_bundle_laws.proofs.WrittenDeclarations.{on_front}
use Rattle.orc_bundle_laws.proofs.Bytes.{bytes_of}

-- a block that ends in these lines is the same where more stand after them
block_in : (l : List ℕ) (ls more : List (List ℕ)) → left_of_block 0 (l ∷ ls) ≡ 0 → block_of (lines_taken (text_of l)) (ls ++ more) ≡ block_of (lines_taken (text_of l)) ls
block_in l ls more h = on (is_text (text_of l) (codes "script")) refl where
  on : (b : Bool) → is_text (text_of l) (codes "script") ≡ b → block_of (lines_taken (text_of l)) (ls ++ more) ≡ block_of (lines_taken (text_of l)) ls
  on true is =
      let none : lines_taken (text_of l) ≡ 0 = ap lines_taken (text_is (text_of l) (codes "script") is) in
      ap (λ (n : ℕ). block_of n (ls ++ more)) none ∙ ap (λ (n : ℕ). block_of n ls) (sym none)
  on false is =
      block_same (lines_taken (text_of l)) ls more [] (left_here l ls h is) ∙ ap (block_of (lines_taken (text_of l))) (append-nil ls)

-- the lines after the preamble are read after what it declares
pub head_read : (d e : Declared) (at n : ℕ) (head more : List (List ℕ)) → is_script d.section ≡ false → left_of_block d.skip head ≡ 0
    → at + bytes_of head ≤ LARGEST_BUNDLE → declared_by d at head ≡ Ok e
    → declarations_of d at n (head ++ more) ≡ declarations_of e (at + bytes_of head) (n + length head) more
head_read d e at n [] more open_yet left within h =
    let size : at ≡ at + 0 = omega arith in
    let count : n ≡ n + 0 = omega arith in
    ap (λ (x : Declared). declarations_of x at n more) (same_ok d e h) ∙ ap₂ (λ (a k : ℕ). declarations_of e a k more) size count
head_read d e at n (l ∷ ls) more open_yet left within h =
    let found = on_ok_ok (declared_at d at l ls) (λ f. cond (is_script f.section) (Err rule.Line) (declared_by f (at + length l) ls)) e h in
    let f = found.0 in
    let goes = passed (is_script f.section) rule.Line (declared_by f (at + length l) ls) e found.1.1 in
    let rest = ls ++ more in
    let reads : declared_at d at l rest ≡ Ok f =
    declared_same d at at l rest ls (omega arith) (omega arith) (λ none. block_in l ls more (ap (λ (m : ℕ). left_of_block m (l ∷ ls)) (sym none) ∙ left)) ∙ found.1.0 in
    let size : at + length l + bytes_of ls ≡ at + (length l + bytes_of ls) = omega arith in
    let count : n + 1 + length ls ≡ n + length (l ∷ ls) = omega arith in
    ap (λ (r : Result Declared Rule). on_front n r at (at + length l) rest) reads
    ∙ ap (λ (b : Bool). cond b (opened (n + 1) (record { declared = f; size = at; at = at + length l; number = n + 1; later = rest })) (declarations_of f (at + length l) (n + 1) rest)) goes.0
    ∙ head_read f e (at + length l) (n + 1) ls more goes.0 (left_behind d f at l ls ls open_yet goes.0 found.1.0 left) (omega arith) goes.1
    ∙ ap₂ (λ (a k : ℕ). declarations_of e a k more) size count

-- the header stands among the first lines
pub header_kept : (head more : List (List ℕ)) → lacks_header head ≡ false → lacks_header (head ++ more) ≡ false
header_kept [] more h = absurd (false≢true (sym h))
header_kept (l ∷ ls) more h = on (is_skipped (text_of l)) h (header_kept ls more) where
  on : (b : Bool) → is_none (cond b (first_kept ls) (Some (text_of l))) ≡ false → (lacks_header ls ≡ false → lacks_header (ls ++ more) ≡ false)
      → is_none (cond b (first_kept (ls ++ more)) (Some (text_of l))) ≡ false
  on true h behind = behind h
  on false h behind = refl
