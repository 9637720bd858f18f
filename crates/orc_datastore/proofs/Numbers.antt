-- A number in decimal digits can be a key, and the path of what is known of a device is a path.
use Rattle.std.proofs.Common.{◌≡◌, ℕ, ◌+◌, ◌%◌, ◌<◌, ◌≤◌, ◌^◌, true, ◌&&◌, List, [], ◌∷◌, None, Some, sym, ap, ◌∙◌, arith}
use Rattle.std.specs.declared.option.Option.{Option}
use Rattle.std.specs.declared.result.Result.{Result}
use Rattle.std.specs.declared.result.Result.TheVariants.{Ok, Err}
use Rattle.std.proofs.lemmas.Bool.{and_from}
use Rattle.std.specs.Fmt.{decimal}
use Rattle.std.proofs.lemmas.Fmt.{decimal_by_steps}
use Rattle.orc_text.proofs.Plain.{is_plain_text-append}
use Rattle.orc_path.specs.Alphabet.{is_key}
use Rattle.orc_path.specs.Steps.{is_path}
use Rattle.orc_path.specs.inside.Reading.{is_key_byte}
use Rattle.orc_path.proofs.Plain.{is_plain_text-byte}
use Rattle.orc_datastore.specs.Snapshots.{device_row}

digit_byte : (b : ℕ) → 48 ≤ b → b < 58 → is_key_byte b ≡ true
digit_byte b low high = grind arith

digit_key : (n : ℕ) → n < 10 → is_key ((48 + n) ∷ []) ≡ true
digit_key n h = is_plain_text-byte (48 + n) (omega (arith, h)) (digit_byte (48 + n) (omega arith) (omega (arith, h)))

pub decimal_key : (n : ℕ) → n < 2 ^ 64 → is_key (decimal n) ≡ true
decimal_key =
    decimal_by_steps (λ m ds. is_key ds ≡ true) (λ m l. digit_key m l)
    (λ m ds l h. is_plain_text-append ds ((48 + m % 10) ∷ []) h (digit_key (m % 10) (omega arith)))

pub row_path : (id : List ℕ) (device : ℕ) → is_key id ≡ true → device < 2 ^ 32 → is_path (device_row id device) ≡ true
row_path id device h small =
    and_from _ _ (ap (λ t. t && true) h) (ap (λ t. (t && true) && true) (decimal_key device (omega (arith, small))))

-- a number that is read, or none

abbrev to_some : {E : Type 0} → Result ℕ E → Option ℕ
to_some (Ok n) = Some n
to_some (Err e) = None

pub told : {E : Type 0} (r : Result ℕ E) (n m : ℕ) → r ≡ Ok n → r ≡ Ok m → Some n ≡ Some m
told r n m is so = ap to_some (sym is ∙ so)

pub untold : {E : Type 0} (r : Result ℕ E) (e : E) (m : ℕ) → r ≡ Err e → r ≡ Ok m → None ≡ Some m
untold r e m is so = ap to_some (sym is ∙ so)
