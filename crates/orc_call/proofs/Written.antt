-- What is written is the spelling.
use Rattle.std.proofs.Common.{◌≡◌, ℕ, List, [], ◌∷◌, ◌++◌, All, Option, refl, sym, ap, ◌∙◌, append_assoc}
use Rattle.std.specs.declared.option.Option.TheVariants.{Some}
use Rattle.std.specs.List.{flat_map, AllByRecursion}
use Rattle.std.proofs.lemmas.List.Elements.{All-from_recursion}
use Rattle.std.proofs.lemmas.List.Concat.{flat_map-append}
use Rattle.orc_path.specs.Steps.{PathStep}
use Rattle.orc_path.specs.Texts.{path_text}
use Rattle.orc_call.specs.declared.call.Put.{Put}
use Rattle.orc_call.specs.declared.call.DevicePut.{DevicePut}
use Rattle.orc_call.specs.declared.call.Action.{Action}
use Rattle.orc_call.specs.Fields.{field_bytes, spelled, AreLawful, text_bytes, item_bytes}
use Rattle.orc_call.specs.Encoding.{puts_fields, device_put_fields, action_fields}
use Rattle.orc_call.specs.Puts.{put_bytes, device_put_bytes}
use Rattle.orc_call.specs.inside.Writing.{IsPutFit, IsDevicePutFit}
use Rattle.orc_call.proofs.Sequels.{lawful_parts}

-- one after another
pub two_written : (out a b w v : List ℕ) → w ≡ out ++ a → v ≡ w ++ b → v ≡ out ++ (a ++ b)
two_written out a b w v e f = f ∙ ap (λ t. t ++ b) e ∙ append_assoc out a b

pub three_written : (out a b c w v u : List ℕ) → w ≡ out ++ a → v ≡ w ++ b → u ≡ v ++ c → u ≡ out ++ (a ++ (b ++ c))
three_written out a b c w v u e f g = two_written out a (b ++ c) w u e (two_written w b c v u f g)

pub spelled_puts : (before : Option (List PathStep)) (xs : List Put) → spelled (puts_fields before xs) ≡ flat_map put_bytes xs
spelled_puts before [] = refl
spelled_puts before (x ∷ xs) =
    let path = text_bytes (path_text x.path) in
    let item = item_bytes x.item in
    ap (λ t. path ++ (item ++ t)) (spelled_puts (Some x.path) xs) ∙ sym (append_assoc path item (flat_map put_bytes xs))

pub spelled_device_puts : (xs : List DevicePut) → spelled (flat_map device_put_fields xs) ≡ flat_map device_put_bytes xs
spelled_device_puts [] = refl
spelled_device_puts (x ∷ xs) =
    let device = text_bytes x.device in
    let path = text_bytes (path_text x.path) in
    let item = item_bytes x.item in
    ap (λ t. device ++ (path ++ (item ++ t))) (spelled_device_puts xs)
    ∙ sym (append_assoc (device ++ path) item (flat_map device_put_bytes xs) ∙ append_assoc device path (item ++ flat_map device_put_bytes xs))

puts_fit_by : (before : Option (List PathStep)) (xs : List Put) → AreLawful (puts_fields before xs) → AllByRecursion IsPutFit xs
puts_fit_by before [] h = tt
puts_fit_by before (x ∷ xs) h = (record { path = h.0.1; item = h.1.0.1 }, puts_fit_by (Some x.path) xs h.1.1)

pub puts_fit : (before : Option (List PathStep)) (xs : List Put) → AreLawful (puts_fields before xs) → All IsPutFit xs
puts_fit before xs h = All-from_recursion IsPutFit xs (puts_fit_by before xs h)

device_puts_fit_by : (xs : List DevicePut) → AreLawful (flat_map device_put_fields xs) → AllByRecursion IsDevicePutFit xs
device_puts_fit_by [] h = tt
device_puts_fit_by (x ∷ xs) h = (record { device = h.0; path = h.1.0.1; item = h.1.1.0.1 }, device_puts_fit_by xs h.1.1.1)

pub device_puts_fit : (xs : List DevicePut) → AreLawful (flat_map device_put_fields xs) → All IsDevicePutFit xs
device_puts_fit xs h = All-from_recursion IsDevicePutFit xs (device_puts_fit_by xs h)

-- the actions of a call
abbrev pub action_bytes : Action → List ℕ
action_bytes action = spelled (action_fields action)

pub spelled_actions : (xs : List Action) → spelled (flat_map action_fields xs) ≡ flat_map action_bytes xs
spelled_actions [] = refl
spelled_actions (x ∷ xs) = flat_map-append field_bytes (action_fields x) (flat_map action_fields xs) ∙ ap (λ t. action_bytes x ++ t) (spelled_actions xs)

actions_fit_by : (xs : List Action) → AreLawful (flat_map action_fields xs) → AllByRecursion (λ x. AreLawful (action_fields x)) xs
actions_fit_by [] h = tt
actions_fit_by (x ∷ xs) h =
    let both = lawful_parts (action_fields x) (flat_map action_fields xs) h in
    (both.0, actions_fit_by xs both.1)

pub actions_fit : (xs : List Action) → AreLawful (flat_map action_fields xs) → All (λ x. AreLawful (action_fields x)) xs
actions_fit xs h = All-from_recursion (λ x. AreLawful (action_fields x)) xs (actions_fit_by xs h)
