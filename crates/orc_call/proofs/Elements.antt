-- The fields of one element of a list.
use Rattle.std.proofs.Common.{◌≡◌, ℕ, zero, suc, ◌+◌, ◌<◌, List, [], ◌∷◌, length, take, get_or, Bool, false, IsTrue, ◌↔◌, Option, sym, subst, arith, add-one}
use Rattle.std.specs.declared.option.Option.TheVariants.{None, Some}
use Rattle.std.specs.List.{flat_map}
use Rattle.orc_path.specs.Steps.{PathStep}
use Rattle.orc_call.specs.declared.call.Put.{Put}
use Rattle.orc_call.specs.Fields.{Field, AreLawful}
use Rattle.orc_call.specs.Encoding.{put_fields, puts_fields}
use Rattle.orc_call.specs.inside.Reading.{last_path}
use Rattle.orc_call.proofs.Sequels.{lawful_parts}

-- a test that failed refuses what needs it
pub refuses : {P Q : Type 0} (test : Bool) → test ≡ false → (IsTrue test ↔ P) → (Q → P) → (IsTrue false ↔ Q)
refuses test is_false same needs = (λ h. absurd cc, λ q. let is_true = same.1 (needs q) in absurd cc)

pub lawful_at : {X : Type 0} (fields : X → List Field) (xs : List X) (i : ℕ) (d : X) → i < length xs → AreLawful (flat_map fields xs) → AreLawful (fields (get_or xs i d))
lawful_at fields [] i d lt h = absurd (omega arith)
lawful_at fields (x ∷ xs) zero d lt h = (lawful_parts (fields x) (flat_map fields xs) h).0
lawful_at fields (x ∷ xs) (suc i) d lt h = lawful_at fields xs i d (omega arith) (lawful_parts (fields x) (flat_map fields xs) h).1

pub put_lawful_at : (before : Option (List PathStep)) (xs : List Put) (i : ℕ) (d : Put) → i < length xs → AreLawful (puts_fields before xs) → AreLawful (put_fields (last_path before (take i xs)) (get_or xs i d))
put_lawful_at before [] i d lt h = absurd (omega arith)
put_lawful_at before (x ∷ xs) zero d lt h = (h.0, (h.1.0, tt))
put_lawful_at before (x ∷ xs) (suc i) d lt h = put_lawful_at (Some x.path) xs i d (omega arith) h.1.1

-- one put more
pub puts_lawful_more : (before : Option (List PathStep)) (xs : List Put) (i : ℕ) (d : Put) → i < length xs → AreLawful (puts_fields before (take i xs)) → AreLawful (put_fields (last_path before (take i xs)) (get_or xs i d)) → AreLawful (puts_fields before (take (suc i) xs))
puts_lawful_more before [] i d lt h k = absurd (omega arith)
puts_lawful_more before (x ∷ xs) zero d lt h k = k
puts_lawful_more before (x ∷ xs) (suc i) d lt h k = (h.0, (h.1.0, puts_lawful_more (Some x.path) xs i d (omega arith) h.1.1 k))

pub put_of_puts : (xs : List Put) (i : ℕ) (put : Put) (before : Option (List PathStep)) → put ≡ get_or xs i put → before ≡ last_path None (take i xs) → i < length xs → AreLawful (puts_fields None xs) → AreLawful (put_fields before put)
put_of_puts xs i put before is e lt h =
    let here : AreLawful (put_fields before (get_or xs i put)) = subst (λ b. AreLawful (put_fields b (get_or xs i put))) (sym e) (put_lawful_at None xs i put lt h) in
    subst (λ p. AreLawful (put_fields before p)) (sym is) here

pub puts_to_put : (xs : List Put) (i : ℕ) (put : Put) (before : Option (List PathStep)) → put ≡ get_or xs i put → before ≡ last_path None (take i xs) → i < length xs → AreLawful (puts_fields None (take i xs)) → AreLawful (put_fields before put) → AreLawful (puts_fields None (take (i + 1) xs))
puts_to_put xs i put before is e lt h k =
    let here : AreLawful (put_fields (last_path None (take i xs)) (get_or xs i put)) = subst (λ b. AreLawful (put_fields b (get_or xs i put))) e (subst (λ p. AreLawful (put_fields before p)) is k) in
    let more : AreLawful (puts_fields None (take (suc i) xs)) = puts_lawful_more None xs i put lt h here in
    subst (λ n. AreLawful (puts_fields None (take n xs))) (sym (add-one i)) more
