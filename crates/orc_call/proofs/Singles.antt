-- Fields that stand at one place are one.
use Rattle.std.proofs.Common.{◌≡◌, ℕ, ◌<◌, ◌^◌, List, ◌++◌, length, take, drop, refl, sym, ap, ◌∙◌, append_assoc}
use Rattle.std.specs.Int.{w16, w32, w64, to_be_bytes, from_be_bytes}
use Rattle.std.proofs.lemmas.List.{take_at, append-nil}
use Rattle.std.proofs.lemmas.Nat.{from_be_bytes-to_be_bytes_2, from_be_bytes-to_be_bytes_4, from_be_bytes-to_be_bytes_8}
use Rattle.orc_path.specs.declared.item.Item.{Item}
use Rattle.orc_path.specs.declared.item.Item.TheVariants.{Entry, Leaf}
use Rattle.orc_call.specs.Fields.{a_text, text_bytes, IsText, item_bytes, IsItem, HasText}
use Rattle.orc_call.specs.inside.Reading.{IsWhole, one, HasItem}

pub same_2 : (n m : ℕ) (r s : List ℕ) → n < 2 ^ 16 → m < 2 ^ 16 → to_be_bytes w16 n ++ r ≡ to_be_bytes w16 m ++ s → n ≡ m
same_2 n m r s fits-n fits-m e =
    sym (from_be_bytes-to_be_bytes_2 n fits-n) ∙ ap (λ b. from_be_bytes w16 (take 2 b)) e ∙ from_be_bytes-to_be_bytes_2 m fits-m

pub same_4 : (n m : ℕ) (r s : List ℕ) → n < 2 ^ 32 → m < 2 ^ 32 → to_be_bytes w32 n ++ r ≡ to_be_bytes w32 m ++ s → n ≡ m
same_4 n m r s fits-n fits-m e =
    sym (from_be_bytes-to_be_bytes_4 n fits-n) ∙ ap (λ b. from_be_bytes w32 (take 4 b)) e ∙ from_be_bytes-to_be_bytes_4 m fits-m

pub same_8 : (n m : ℕ) (r s : List ℕ) → n < 2 ^ 64 → m < 2 ^ 64 → to_be_bytes w64 n ++ r ≡ to_be_bytes w64 m ++ s → n ≡ m
same_8 n m r s fits-n fits-m e =
    sym (from_be_bytes-to_be_bytes_8 n fits-n) ∙ ap (λ b. from_be_bytes w64 (take 8 b)) e ∙ from_be_bytes-to_be_bytes_8 m fits-m

-- texts at one place are one
pub same_texts : (t u r s : List ℕ) → IsText t → IsText u → text_bytes t ++ r ≡ text_bytes u ++ s → t ≡ u
same_texts t u r s is-t is-u e =
    let lengths : length t ≡ length u = same_4 (length t) (length u) (t ++ r) (u ++ s) is-t.0 is-u.0 (sym (append_assoc (to_be_bytes w32 (length t)) t r) ∙ e ∙ append_assoc (to_be_bytes w32 (length u)) u s) in
    sym (take_at t r (length t) refl) ∙ ap (λ b. take (length t) (drop 4 b)) e ∙ take_at u s (length t) (sym lengths)

pub one_text : (bytes t u r s : List ℕ) → HasText bytes t r → HasText bytes u s → t ≡ u
one_text bytes t u r s a b = same_texts t u r s a.is_text b.is_text (sym a.parts ∙ b.parts)

-- items at one place are one
pub same_items : (i j : Item) (r s : List ℕ) → IsItem i → IsItem j → item_bytes i ++ r ≡ item_bytes j ++ s → i ≡ j
same_items Entry Entry r s is-i is-j e = refl
same_items Entry (Leaf u) r s is-i is-j e = absurd cc
same_items (Leaf t) Entry r s is-i is-j e = absurd cc
same_items (Leaf t) (Leaf u) r s is-i is-j e = ap Leaf (same_texts t u r s is-i is-j (ap (drop 1) e))

pub one_item : (bytes : List ℕ) (i j : Item) (r s : List ℕ) → HasItem bytes i r → HasItem bytes j s → i ≡ j
one_item bytes i j r s a b = same_items i j r s a.is_item b.is_item (sym a.parts ∙ b.parts)

-- a text that was read stands there
pub text_there : (bytes text rest : List ℕ) → IsWhole (one a_text) bytes text rest → HasText bytes text rest
text_there bytes text rest w = record { is_text = w.lawful.0; parts = w.parts ∙ ap (λ t. t ++ rest) (append-nil (text_bytes text)) }
