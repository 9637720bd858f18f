-- Names after the steps of a path.
use Rattle.std.proofs.Common.{◌≡◌, ℕ, ◌==◌, true, false, cond, List, [], ◌∷◌, refl, ap, ◌∙◌, arith}
use Rattle.std.specs.Prelude.{◌&&◌}
use Rattle.std.specs.List.{list_all}
use Rattle.std.proofs.lemmas.Bool.{and_parts}
use Rattle.std.proofs.lemmas.Bool.Decides.{nat_tests}
use Rattle.orc_path.specs.Alphabet.{is_name_byte, is_name_start, is_identifier, is_qualified, is_qualified_rest}

no_colon : (b : ℕ) → is_name_byte b ≡ true → (b == 58) ≡ false
no_colon b h = grind (arith, nat_tests)

rest_has_no_colon : (xs : List ℕ) → list_all is_name_byte xs ≡ true → is_qualified_rest xs ≡ false
rest_has_no_colon [] h = refl
rest_has_no_colon (b ∷ bs) h =
    let parts = and_parts (is_name_byte b) (list_all is_name_byte bs) h in
    ap (λ t. cond t (is_identifier bs) (is_name_byte b && is_qualified_rest bs)) (no_colon b parts.0)
    ∙ ap (λ t. t && is_qualified_rest bs) parts.0 ∙ rest_has_no_colon bs parts.1

-- an identifier has no module before its name
pub not_qualified : (xs : List ℕ) → is_identifier xs ≡ true → is_qualified xs ≡ false
not_qualified [] h = refl
not_qualified (b ∷ bs) h =
    let parts = and_parts (is_name_start b) (list_all is_name_byte bs) h in
    ap (λ t. t && is_qualified_rest bs) parts.0 ∙ rest_has_no_colon bs parts.1
