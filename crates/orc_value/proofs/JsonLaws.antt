-- JSON arrays that aren't `[null]`.
use Rattle.std.proofs.Common.{◌≡◌, ◌≢◌, false, List, [], ◌∷◌, length, Some, refl, arith, map}
use Rattle.std.specs.Prelude.{is_ok}
use Rattle.serde_json.specs.Data.{Data, Items, null, boolean, number, string, array, object, item}
use Rattle.serde_json.specs.View.{view, items_of}
use Rattle.serde_json.specs.declared.value.Value.{Value}
use Rattle.orc_value.specs.Json.{canon_of_items}

two_items : (d e : Data) (ds : Items) → is_ok (canon_of_items (Some (item d (item e ds)))) ≡ false
two_items null e ds = refl
two_items (boolean b) e ds = refl
two_items (number n) e ds = refl
two_items (string s) e ds = refl
two_items (array xs) e ds = refl
two_items (object ms) e ds = refl

-- an array of no item or of more than one is no empty value
pub canon_of_items-other : (vs : List Value) → length vs ≢ 1 → is_ok (canon_of_items (Some (items_of (map view vs)))) ≡ false
canon_of_items-other [] other = refl
canon_of_items-other (v ∷ []) other = absurd (other (omega arith))
canon_of_items-other (v ∷ w ∷ vs) other = two_items (view v) (view w) (items_of (map view vs))
