-- A string that is cut character by character.
use Rattle.std.proofs.Common.{◌≡◌, ℕ, ◌+◌, ◌<◌, List, Option, Some, None, length, get_or, drop, sym, ap, ◌∙◌, arith}
use Rattle.std.specs.Option.{option_and_then}
use Rattle.std.proofs.lemmas.List.{at_drop_more, at_drop_all}
use Rattle.orc_template.specs.Strings.{cut_on, cut_all, cut_end}
use Rattle.orc_template.specs.declared.strings.Part.{Part}
use Rattle.orc_template.specs.declared.strings.Cutter.{Cutter}

module _ (cs : List ℕ) (n x : ℕ) (turn : (n < length cs) × (x ≡ get_or cs n x)) (cutter : Cutter) where
  -- one character more
  cut_here : cut_all cutter (drop n cs) ≡ option_and_then (λ next. cut_all next (drop (n + 1) cs)) (cut_on cutter x)
  cut_here = at_drop_more (cut_all cutter) cs n x turn.0 ∙ ap (λ y. option_and_then (λ next. cut_all next (drop (n + 1) cs)) (cut_on cutter y)) (sym turn.1)

  pub cut_turn : (next : Cutter) (whole : Option (List Part)) (m : ℕ) → m ≡ n + 1 → cut_on cutter x ≡ Some next
      → option_and_then cut_end (cut_all cutter (drop n cs)) ≡ whole → option_and_then cut_end (cut_all next (drop m cs)) ≡ whole
  cut_turn next whole m more is h =
      ap (λ i. option_and_then cut_end (cut_all next (drop i cs))) more
      ∙ sym (ap (option_and_then cut_end) (cut_here ∙ ap (option_and_then (λ k. cut_all k (drop (n + 1) cs))) is)) ∙ h

  pub cut_stops : (whole : Option (List Part)) → cut_on cutter x ≡ None → option_and_then cut_end (cut_all cutter (drop n cs)) ≡ whole → None ≡ whole
  cut_stops whole is h = sym (ap (option_and_then cut_end) (cut_here ∙ ap (option_and_then (λ k. cut_all k (drop (n + 1) cs))) is)) ∙ h

pub cut_ends : (cs : List ℕ) (n : ℕ) (cutter : Cutter) (whole : Option (List Part)) → n ≡ length cs
    → option_and_then cut_end (cut_all cutter (drop n cs)) ≡ whole → cut_end cutter ≡ whole
cut_ends cs n cutter whole is h = sym (at_drop_all (λ ys. option_and_then cut_end (cut_all cutter ys)) cs n (omega (arith, is))) ∙ h
