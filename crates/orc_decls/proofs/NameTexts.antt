-- Lawful names are keys, so the entry of a device of such a name is a path.
use Rattle.std.proofs.Common.{◌≡◌, ℕ, ◌<◌, true, ◌&&◌, not, List, [], ◌∷◌, ap, arith}
use Rattle.std.specs.List.{list_all}
use Rattle.std.specs.Cmp.{first_so, second_so}
use Rattle.std.proofs.lemmas.Bool.{and_from}
use Rattle.orc_text.specs.Characters.{is_plain_text}
use Rattle.orc_text.proofs.Plain.{is_plain_text-nil, is_plain_text-append}
use Rattle.orc_path.specs.Alphabet.{is_identifier, is_key, is_name_byte, is_name_start}
use Rattle.orc_path.specs.Limits.{is_long_name}
use Rattle.orc_path.specs.inside.Reading.{is_key_byte}
use Rattle.orc_path.proofs.Plain.{is_plain_text-byte}
use Rattle.orc_path.specs.Steps.{is_path}
use Rattle.orc_decls.specs.Calls.{is_lawful_name}
use Rattle.orc_decls.specs.Devices.{device_entry}

name_byte_low : (b : ℕ) → is_name_byte b ≡ true → b < 128
name_byte_low b h = grind arith

name_byte_key : (b : ℕ) → is_name_byte b ≡ true → is_key_byte b ≡ true
name_byte_key b h = grind arith

start_byte : (b : ℕ) → is_name_start b ≡ true → is_name_byte b ≡ true
start_byte b h = grind arith

pub bytes_plain : (bs : List ℕ) → list_all is_name_byte bs ≡ true → is_plain_text bs ≡ true
bytes_plain [] h = is_plain_text-nil
bytes_plain (b ∷ bs) h =
    let byte = first_so (is_name_byte b) (list_all is_name_byte bs) h in
    is_plain_text-append (b ∷ []) bs (is_plain_text-byte b (name_byte_low b byte) (name_byte_key b byte))
    (bytes_plain bs (second_so (is_name_byte b) (list_all is_name_byte bs) h))

identifier_key : (name : List ℕ) → is_identifier name ≡ true → is_key name ≡ true
identifier_key [] h = cc
identifier_key (b ∷ bs) h =
    bytes_plain (b ∷ bs) (and_from (is_name_byte b) (list_all is_name_byte bs) (start_byte b (first_so (is_name_start b) (list_all is_name_byte bs) h))
    (second_so (is_name_start b) (list_all is_name_byte bs) h))

pub name_key : (name : List ℕ) → is_lawful_name name ≡ true → is_key name ≡ true
name_key name h = identifier_key name (first_so (is_identifier name) (not (is_long_name name)) h)

-- so the entry of a device of such a name is a path
pub device_path : (name : List ℕ) → is_lawful_name name ≡ true → is_path (device_entry name) ≡ true
device_path name h = ap (λ t. t && true && true) (name_key name h)
