-- A template's text and its JSON.
use Rattle.std.proofs.Common.{◌≡◌, ℕ, Bool, true, false, cond, List, Option, Some, None, refl, ap, ◌∙◌}
use Rattle.std.specs.Option.{option_map_or}
use Rattle.std.specs.Str.{is_utf8}
use Rattle.std.proofs.lemmas.Str.{IsUtf8-from_is_utf8, is_utf8-from_IsUtf8}
use Rattle.serde_json.specs.Data.{Data, null}
use Rattle.serde_json.specs.Read.{read}
use Rattle.orc_json.specs.Readings.{IsJson, IsNoJson}
use Rattle.orc_template.specs.Said.{json_value, template_json}

pub value_is : (bytes : List ℕ) (d : Data) → IsJson bytes d → json_value bytes ≡ Some d
value_is bytes d is = ap (λ t. cond t (read bytes) None) (is_utf8-from_IsUtf8 bytes is.utf8) ∙ is.value

pub value_is_none : (bytes : List ℕ) → IsNoJson bytes → json_value bytes ≡ None
value_is_none bytes never = on (is_utf8 bytes) (read bytes) refl refl
  where
    on : (b : Bool) (o : Option Data) → is_utf8 bytes ≡ b → read bytes ≡ o → cond b o None ≡ None
    on false o u r = refl
    on true None u r = refl
    on true (Some d) u r = absurd (never d (record { utf8 = IsUtf8-from_is_utf8 bytes u; value = r }))

pub json_is : (text : List ℕ) (d : Data) → json_value text ≡ Some d → template_json text ≡ d
json_is text d is = ap (λ (o : Option Data). option_map_or (λ x. x) o null) is
