-- Lines, and where they are cut.
use Rattle.std.proofs.Common.{◌≡◌, ℕ, zero, suc, ◌<◌, ◌+◌, ◌-◌, true, false, Bool, not, ◌==◌, List, [], ◌∷◌, ◌++◌, length, take, drop, get_or, length-append, refl, ap, ap₂, sym, ◌∙◌, arith, append_assoc}
use Rattle.std.specs.Option.{option_map}
use Rattle.std.proofs.Math.Seq.{take-length, drop-length}
use Rattle.std.proofs.lemmas.List.{take_more, take-append-drop}
use Rattle.std.specs.Cmp.{first_so, second_so}
use native.Mathlib.Numerals.{unary_clauses}
use Rattle.orc_lines.specs.Lines.{lines_of, led_by, block_of, as_line, text_of}
use Rattle.orc_lines.specs.inside.Blocks.{lacks}

pub untrue : (b : Bool) → not b ≡ true → b ≡ false
untrue false h = refl
untrue true h = sym h

-- the first line ends at the first line feed
pub line_found : (a x : List ℕ) → lacks 10 a ≡ true → lines_of (a ++ 10 ∷ x) ≡ (a ++ 10 ∷ []) ∷ lines_of x
line_found [] x h = refl
line_found (b ∷ bs) x h =
    let first : (b == 10) ≡ false = untrue (b == 10) (first_so (not (b == 10)) (lacks 10 bs) h) in
    rw first (ap (led_by b) (line_found bs x (second_so (not (b == 10)) (lacks 10 bs) h)))

-- bytes without a line feed are one line
pub line_last : (b : ℕ) (bs : List ℕ) → lacks 10 (b ∷ bs) ≡ true → lines_of (b ∷ bs) ≡ (b ∷ bs) ∷ []
line_last b [] h =
    let first : (b == 10) ≡ false = untrue (b == 10) (first_so (not (b == 10)) (lacks 10 []) h) in rw first refl
line_last b (c ∷ cs) h =
    let first : (b == 10) ≡ false = untrue (b == 10) (first_so (not (b == 10)) (lacks 10 (c ∷ cs)) h) in
    rw first (ap (led_by b) (line_last c cs (second_so (not (b == 10)) (lacks 10 (c ∷ cs)) h)))

pub line_alone : (bs : List ℕ) → 0 < length bs → lacks 10 bs ≡ true → lines_of bs ≡ bs ∷ []
line_alone [] some h = absurd (omega arith)
line_alone (b ∷ bs) some h = line_last b bs h

pub first_found : (bs : List ℕ) (at : ℕ) → at < length bs → lacks 10 (take at bs) ≡ true → get_or bs at 0 ≡ 10 → lines_of bs ≡ take (at + 1) bs ∷ lines_of (drop (at + 1) bs)
first_found bs at within h feed =
    let line : take (at + 1) bs ≡ take at bs ++ 10 ∷ [] = take_more bs at 0 within ∙ ap (λ (b : ℕ). take at bs ++ b ∷ []) feed in
    let whole : bs ≡ take at bs ++ 10 ∷ drop (at + 1) bs = sym (take-append-drop (at + 1) bs) ∙ ap (λ (l : List ℕ). l ++ drop (at + 1) bs) line ∙ append_assoc (take at bs) (10 ∷ []) (drop (at + 1) bs) in
    ap lines_of whole ∙ line_found (take at bs) (drop (at + 1) bs) h ∙ ap (λ (l : List ℕ). l ∷ lines_of (drop (at + 1) bs)) (sym line)

pub only_line : (bs : List ℕ) → 0 < length bs → lacks 10 bs ≡ true → lines_of bs ≡ take (length bs) bs ∷ lines_of (drop (length bs) bs)
only_line bs some h =
    line_alone bs some h ∙ ap₂ (λ (l r : List ℕ). l ∷ lines_of r) (sym (take-length bs)) (sym (drop-length bs))

pub block_step : (n : ℕ) (line : List ℕ) (later : List (List ℕ)) → 0 < n
    → block_of n (line ∷ later) ≡ option_map (λ (block : List ℕ). as_line (text_of line) ++ block) (block_of (n - 1) later)
block_step zero line later some = absurd (omega arith)
block_step (suc n) line later some = simp unary_clauses refl

-- a line and what comes after it have as many bytes as all
pub parted : (bytes line later : List ℕ) → bytes ≡ line ++ later → length bytes ≡ length line + length later
parted bytes line later parts = ap (λ (x : List ℕ). length x) parts ∙ length-append line later
