-- What devices say holds no text, so a copy of it takes no memory.
use Rattle.std.proofs.Common.{◌≡◌, ℕ, Bool, true, false, cond, List, [], ◌∷◌, Option, None, Some, subst}
use Rattle.std.specs.List.{list_any}
use Rattle.std.specs.Option.{option_or}
use Rattle.orc_call.specs.Answers.{HoldsText}
use Rattle.orc_call.specs.declared.answer.Answer.{Answer}
use Rattle.orc_call.specs.declared.answer.Answer.TheVariants as answer
use Rattle.orc_rules.specs.Duties.{outcome_on}
use Rattle.orc_rules.specs.Verdicts.{first_answer, is_short, lost_answer, refused_by, verdict}
use Rattle.orc_rules.specs.declared.duty.Duty.{Duty}
use Rattle.orc_worker.specs.declared.report.Outcome.{Outcome}
use Rattle.orc_worker.specs.declared.report.Outcome.TheVariants as outcome

abbrev IsPlain : Option Answer → Type 0
IsPlain None = Unit {0}
IsPlain (Some given) = HoldsText given → ⊥

either : (a b : Option Answer) → IsPlain a → IsPlain b → IsPlain (option_or a b)
either None b p q = q
either (Some given) b p q = p

refuses : (device : ℕ) (o : Option Outcome) → IsPlain (refused_by device o)
refuses device None = tt
refuses device (Some outcome.Prepared) = tt
refuses device (Some (outcome.Refused tag)) = λ h. h
refuses device (Some (outcome.Lost count)) = tt
refuses device (Some outcome.Short) = tt
refuses device (Some outcome.Confirmed) = tt
refuses device (Some outcome.Gone) = tt
refuses device (Some outcome.Cancelled) = tt

loses : (device : ℕ) (o : Option Outcome) → IsPlain (lost_answer device o)
loses device None = tt
loses device (Some outcome.Prepared) = tt
loses device (Some (outcome.Refused tag)) = tt
loses device (Some (outcome.Lost count)) = λ h. h
loses device (Some outcome.Short) = tt
loses device (Some outcome.Confirmed) = tt
loses device (Some outcome.Gone) = tt
loses device (Some outcome.Cancelled) = tt

first_plain : (by : ℕ → Option Outcome → Option Answer) → ((device : ℕ) (o : Option Outcome) → IsPlain (by device o)) → (duties : List Duty) (t : ℕ) (devices : List ℕ)
    → IsPlain (first_answer by duties t devices)
first_plain by plain duties t [] = tt
first_plain by plain duties t (device ∷ devices) =
    either (by device (outcome_on duties t device)) (first_answer by duties t devices) (plain device (outcome_on duties t device)) (first_plain by plain duties t devices)

plainly : (duties : List Duty) (t : ℕ) (devices : List ℕ) (b : Bool)
    → IsPlain (cond b (Some answer.Memory) (option_or (first_answer refused_by duties t devices) (first_answer lost_answer duties t devices)))
plainly duties t devices true = λ h. h
plainly duties t devices false =
    either (first_answer refused_by duties t devices) (first_answer lost_answer duties t devices) (first_plain refused_by refuses duties t devices) (first_plain lost_answer loses duties t devices)

pub verdict_plain : (duties : List Duty) (t : ℕ) (devices : List ℕ) (given : Answer) → verdict duties t devices ≡ Some given → HoldsText given → ⊥
verdict_plain duties t devices given is =
    subst IsPlain is (plainly duties t devices (list_any (λ device. is_short (outcome_on duties t device)) devices))
