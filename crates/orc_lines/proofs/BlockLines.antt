-- A block is taken line by line.
use Rattle.std.proofs.Common.{◌≡◌, ℕ, ◌<◌, ◌-◌, List, [], ◌∷◌, ◌++◌, Option, Some, None, refl, ap, sym, ◌∙◌, append_assoc}
use Rattle.std.specs.Option.{option_map}
use Rattle.orc_lines.specs.Lines.{lines_of, block_of, as_line, text_of}
use Rattle.orc_lines.proofs.LinesOf.{block_step}

-- what stands before a block is added in two steps
added : (front text : List ℕ) (o : Option (List ℕ))
    → option_map (λ (block : List ℕ). front ++ block) (option_map (λ (block : List ℕ). as_line text ++ block) o)
    ≡ option_map (λ (block : List ℕ). (front ++ as_line text) ++ block) o
added front text None = refl
added front text (Some block) = ap Some (sym (append_assoc front (as_line text) block))

pub taken : (bytes : List ℕ) (count : ℕ) (rest line behind text before longer after : List ℕ) (left : ℕ)
    → block_of count (lines_of bytes) ≡ option_map (λ (block : List ℕ). before ++ block) (block_of left (lines_of rest))
    → 0 < left
    → lines_of rest ≡ line ∷ lines_of behind
    → text ≡ text_of line
    → longer ≡ before ++ text
    → after ≡ longer ++ 10 ∷ []
    → block_of count (lines_of bytes) ≡ option_map (λ (block : List ℕ). after ++ block) (block_of (left - 1) (lines_of behind))
taken bytes count rest line behind text before longer after left so_far some lines is_text is_longer is_after =
    let front : before ++ as_line (text_of line) ≡ after =
    ap (λ (t : List ℕ). before ++ as_line t) (sym is_text) ∙ sym (append_assoc before text (10 ∷ [])) ∙ ap (λ (t : List ℕ). t ++ 10 ∷ []) (sym is_longer) ∙ sym is_after in
    so_far
    ∙ ap (λ (ls : List (List ℕ)). option_map (λ (block : List ℕ). before ++ block) (block_of left ls)) lines
    ∙ ap (option_map (λ (block : List ℕ). before ++ block)) (block_step left line (lines_of behind) some)
    ∙ added before (text_of line) (block_of (left - 1) (lines_of behind))
    ∙ ap (λ (f : List ℕ). option_map (λ (block : List ℕ). f ++ block) (block_of (left - 1) (lines_of behind))) front
