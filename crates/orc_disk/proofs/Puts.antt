-- What several puts into a file leave of it.
use Rattle.std.specs.Prelude.{◌≡◌, ℕ, ◌+◌, ◌≤◌, List, ◌++◌, length, take, Result, OnOk}
use Rattle.std.proofs.Common.{sym, subst, arith}
use Rattle.std.proofs.lemmas.List.{length-take}
use Rattle.std.proofs.lemmas.Result.{on_ok_weaker}
use Rattle.orc_disk.specs.Files.{written}
use Rattle.orc_disk.specs.Torn.{Torn}
use Rattle.orc_disk.specs.laws.Torn.{Torn-written, Torn-append}
use Rattle.orc_disk.proofs.Torn.{Torn-within, Torn-trans}

-- a put leaves what a write of its bytes may leave
pub put_torn : {T E : Type 0} (r : Result T E) (at : ℕ) (bytes old new : List ℕ) → OnOk r (new ≡ written at bytes old) → OnOk r (Torn at (length bytes) old new)
put_torn r at bytes old new = on_ok_weaker r (λ e. subst (Torn at (length bytes) old) (sym e) (Torn-written at bytes old))

-- a put inside a range, after what tore no more than that range
pub put_tears : {T E : Type 0} (r : Result T E) (at n from m : ℕ) (old mid new : List ℕ) → OnOk r (Torn from m mid new)
    → Torn at n old mid → at ≤ from → from + m ≤ at + n → OnOk r (Torn at n old new)
put_tears r at n from m old mid new tears tore after before = on_ok_weaker r (λ t. Torn-trans at n old mid new tore (Torn-within at n from m mid new after before t)) tears

-- more bytes after the end, once a range at most was torn
pub append_tore : {T E : Type 0} (r : Result T E) (at n : ℕ) (old mid new more : List ℕ) → Torn at n old mid → OnOk r (new ≡ mid ++ more) → OnOk r (Torn at n old new)
append_tore r at n old mid new more tore = on_ok_weaker r (λ e. Torn-trans at n old mid new tore (subst (Torn at n mid) (sym e) (Torn-append at n mid more)))

-- a prefix ends where it may
pub take_within : {A : Type 0} (n : ℕ) (xs : List A) (from end : ℕ) → from + n ≤ end → from + length (take n xs) ≤ end
take_within n xs from end le = grind (arith, le, length-take n xs)
