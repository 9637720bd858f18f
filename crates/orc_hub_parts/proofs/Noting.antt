-- Unsettled transactions: one more, and taken back.
use Rattle.std.proofs.Common.{◌≡◌, ◌⊎◌, ⊎_elim, ℕ, ◌≤◌, suc, zero, List, [], ◌∷◌, ◌++◌, Err, length, take, drop, refl, sym, ap, subst, ◌∙◌, arith}
use Rattle.std.specs.Prelude.{Result, IsErrOf}
use Rattle.orc_journal.specs.declared.fault.AppendFault.{AppendFault}
use Rattle.orc_journal.specs.declared.fault.AppendFault.TheVariants as fault
use Rattle.orc_rules.specs.Admissions.{without}
use Rattle.orc_rules.proofs.Entering.{without_suc}
use Rattle.orc_hub_parts.specs.Logs.{place_for, placed_in}
use Rattle.orc_hub_parts.specs.declared.log.Unsettled.{Unsettled}

back : (n : ℕ) (xs : List Unsettled) (one : Unsettled) → n ≤ length xs → without n (take n xs ++ one ∷ drop n xs) ≡ xs
back zero xs one h = refl
back (suc n) [] one h = absurd (omega (arith, h))
back (suc n) (x ∷ xs) one h = without_suc n x (take n xs ++ one ∷ drop n xs) ∙ ap (λ l. x ∷ l) (back n xs one (omega (arith, h)))

pub taken_back : (one : Unsettled) (xs new : List Unsettled) (place : ℕ) → place ≤ length xs → place ≡ place_for one.t xs → new ≡ placed_in one xs
    → without place new ≡ xs
taken_back one xs new place within is put =
    subst (λ (n : ℕ). without n new ≡ xs) (sym is)
    (ap (without (place_for one.t xs)) put ∙ back (place_for one.t xs) xs one (subst (λ (n : ℕ). n ≤ length xs) is within))

-- an entry that is too long meets no failure of the disk
pub not_long : (result : Result (Unit {0}) AppendFault) (len : ℕ) → result ≡ Err fault.DiskFault
    → IsErrOf result (fault.Full len) ⊎ IsErrOf result fault.Memory → ⊥
not_long result len is either = ⊎_elim
    (λ full. let no : Err fault.DiskFault ≡ Err (fault.Full len) = sym is ∙ full in cc)
    (λ memory. let no : Err fault.DiskFault ≡ Err fault.Memory = sym is ∙ memory in cc) either
