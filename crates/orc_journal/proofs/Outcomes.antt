-- What is so of a result, from what is so of it otherwise.
use Rattle.std.specs.Prelude.{ℕ, ◌+◌, false, Result, Ok, Err, OnOk, OnErr, IfOk, IfErr, is_err}
use Rattle.std.proofs.Common.{arith}
use Rattle.orc_disk.specs.Rows.{row}
use Rattle.orc_disk.specs.Meanings.{DiskMeaning}
use Rattle.orc_disk.specs.Course.{FailsAmong}

-- what is so anyway is so where a call failed
pub on_err_anyway : {T E P : Type 0} (r : Result T E) → P → OnErr r P
on_err_anyway (Ok x) holds = tt
on_err_anyway (Err e) holds = holds

-- three facts make a fourth
pub on_ok_all : {T E P Q R S : Type 0} (r : Result T E) → (P → Q → R → S) → OnOk r P → OnOk r Q → OnOk r R → OnOk r S
on_ok_all (Ok x) make p q s = make p q s
on_ok_all (Err e) make p q s = tt

pub if_ok_both : {T E : Type 0} (r : Result T E) (P Q R : T → Type 0) → ((x : T) → P x → Q x → R x) → IfOk r P → IfOk r Q → IfOk r R
if_ok_both (Ok x) P Q R make p q = make x p q
if_ok_both (Err e) P Q R make p q = tt

pub if_err_given : {T E : Type 0} (r : Result T E) (P Q : E → Type 0) → ((e : E) → P e → Q e) → IfErr r P → IfErr r Q
if_err_given (Ok x) P Q make p = tt
if_err_given (Err e) P Q make p = make e p

-- operations that went well, and one more that failed, with what is known then
pub one_more_failed : {D T E : Type 0} (disk : DiskMeaning D) (r : Result T E) (m : ℕ) (a b c : D) (P : ℕ → Type 0) → disk.leads (row m false) a b
    → disk.leads (row 1 (is_err r)) b c → OnErr r (P m) → OnErr r (FailsAmong disk (m + 1) a c P)
one_more_failed disk (Ok x) m a b c P first second known = tt
one_more_failed disk (Err e) m a b c P first second known = record { done = m; fewer = omega arith; failed = (b, first, second); known = known }
