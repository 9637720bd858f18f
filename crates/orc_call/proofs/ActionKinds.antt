-- The actions of each kind.
use Rattle.std.proofs.Common.{◌≡◌, ℕ, zero, suc, ◌<◌, ◌≤◌, List, [], ◌∷◌, length, replicate, refl, sym, ap, subst, ◌∙◌, arith}
use Rattle.std.specs.declared.option.Option.TheVariants.{None}
use Rattle.std.specs.List.{flat_map}
use Rattle.std.proofs.lemmas.List.{length-replicate}
use Rattle.orc_path.specs.Steps.{PathStep}
use Rattle.orc_call.specs.declared.call.Put.{Put}
use Rattle.orc_call.specs.declared.call.DevicePut.{DevicePut}
use Rattle.orc_call.specs.declared.call.Action.{Action}
use Rattle.orc_call.specs.declared.call.Action.TheVariants.{Create, Modify, Redeploy, Delete, Literal, Set, Unset, BasePut, BaseRemove}
use Rattle.orc_call.specs.declared.call.Call.{Call}
use Rattle.orc_call.specs.declared.fields.Stuck.{Stuck}
use Rattle.orc_call.specs.declared.fields.Stuck.TheVariants.{Bad}
use Rattle.orc_call.specs.Fields.{a_text, a_number, a_count_of_actions, a_kind, a_path}
use Rattle.orc_call.specs.Encoding.{put_fields, device_put_fields, action_kind, content_fields, action_fields, call_fields}
use Rattle.orc_call.specs.inside.Reading.{Grammar, BeginsWith, IsWhole, ReadFails, one, any, many, body, literal, device_path, kind, content}
use Rattle.orc_call.proofs.Sequels.{Determined, Sequel, Renamed, renamed_determined, sequel_determined}
use Rattle.orc_call.proofs.Determined.{text_determined, number_determined, action_count_determined, many_determined, path_determined, put_determined, device_put_determined, body_determined, literal_determined, device_path_determined, some_put, some_device_put}

abbrev create : List ℕ × List Put → Action
create read = Create read.0 read.1

abbrev modify : List ℕ × List Put → Action
modify read = Modify read.0 read.1

abbrev literal_action : List ℕ × List DevicePut → Action
literal_action read = Literal read.0 read.1

abbrev base_remove : List ℕ × List PathStep → Action
base_remove read = BaseRemove read.0 read.1

pub create_renamed : Renamed body (content 1) create
create_renamed = record { parts = parts; has = λ _ _. refl; fields = λ _. refl }
  where
    parts : (z : Action) → action_kind z ≡ 1 → (x : List ℕ × List Put) × (create x ≡ z) × Unit {0}
    parts (Create service puts) e = ((service, puts), refl, tt)
    parts _ e = absurd (omega arith)

pub modify_renamed : Renamed body (content 2) modify
modify_renamed = record { parts = parts; has = λ _ _. refl; fields = λ _. refl }
  where
    parts : (z : Action) → action_kind z ≡ 2 → (x : List ℕ × List Put) × (modify x ≡ z) × Unit {0}
    parts (Modify service puts) e = ((service, puts), refl, tt)
    parts _ e = absurd (omega arith)

pub redeploy_renamed : Renamed (one a_text) (content 3) Redeploy
redeploy_renamed = record { parts = parts; has = λ _ _. refl; fields = λ _. refl }
  where
    parts : (z : Action) → action_kind z ≡ 3 → (x : List ℕ) × (Redeploy x ≡ z) × Unit {0}
    parts (Redeploy service) e = (service, refl, tt)
    parts _ e = absurd (omega arith)

pub delete_renamed : Renamed (one a_text) (content 4) Delete
delete_renamed = record { parts = parts; has = λ _ _. refl; fields = λ _. refl }
  where
    parts : (z : Action) → action_kind z ≡ 4 → (x : List ℕ) × (Delete x ≡ z) × Unit {0}
    parts (Delete service) e = (service, refl, tt)
    parts _ e = absurd (omega arith)

pub set_renamed : Renamed (any (put_fields None)) (content 5) Set
set_renamed = record { parts = parts; has = λ _ _. refl; fields = λ _. refl }
  where
    parts : (z : Action) → action_kind z ≡ 5 → (x : Put) × (Set x ≡ z) × Unit {0}
    parts (Set put) e = (put, refl, tt)
    parts _ e = absurd (omega arith)

pub unset_renamed : Renamed (one (a_path None)) (content 6) Unset
unset_renamed = record { parts = parts; has = λ _ _. refl; fields = λ _. refl }
  where
    parts : (z : Action) → action_kind z ≡ 6 → (x : List PathStep) × (Unset x ≡ z) × Unit {0}
    parts (Unset path) e = (path, refl, tt)
    parts _ e = absurd (omega arith)

pub base_put_renamed : Renamed (any device_put_fields) (content 7) BasePut
base_put_renamed = record { parts = parts; has = λ _ _. refl; fields = λ _. refl }
  where
    parts : (z : Action) → action_kind z ≡ 7 → (x : DevicePut) × (BasePut x ≡ z) × Unit {0}
    parts (BasePut put) e = (put, refl, tt)
    parts _ e = absurd (omega arith)

pub base_remove_renamed : Renamed device_path (content 8) base_remove
base_remove_renamed = record { parts = parts; has = λ _ _. refl; fields = λ _. refl }
  where
    parts : (z : Action) → action_kind z ≡ 8 → (x : List ℕ × List PathStep) × (base_remove x ≡ z) × Unit {0}
    parts (BaseRemove device path) e = ((device, path), refl, tt)
    parts _ e = absurd (omega arith)

pub literal_renamed : Renamed literal (content 9) literal_action
literal_renamed = record { parts = parts; has = λ _ _. refl; fields = λ _. refl }
  where
    parts : (z : Action) → action_kind z ≡ 9 → (x : List ℕ × List DevicePut) × (literal_action x ≡ z) × Unit {0}
    parts (Literal name writes) e = ((name, writes), refl, tt)
    parts _ e = absurd (omega arith)

-- some action of each kind
some_action : (byte : ℕ) → (1 ≤ byte) × (byte ≤ 9) → (z : Action) × (action_kind z ≡ byte)
some_action zero h = absurd (omega (arith, h.0))
some_action (suc zero) h = (Create [] [], refl)
some_action (suc (suc zero)) h = (Modify [] [], refl)
some_action (suc (suc (suc zero))) h = (Redeploy [], refl)
some_action (suc (suc (suc (suc zero)))) h = (Delete [], refl)
some_action (suc (suc (suc (suc (suc zero))))) h = (Set some_put, refl)
some_action (suc (suc (suc (suc (suc (suc zero)))))) h = (Unset [], refl)
some_action (suc (suc (suc (suc (suc (suc (suc zero))))))) h = (BasePut some_device_put, refl)
some_action (suc (suc (suc (suc (suc (suc (suc (suc zero)))))))) h = (BaseRemove [] [], refl)
some_action (suc (suc (suc (suc (suc (suc (suc (suc (suc zero))))))))) h = (Literal [] [], refl)
some_action (suc (suc (suc (suc (suc (suc (suc (suc (suc (suc n)))))))))) h = absurd (omega (arith, h.1))

-- the bytes of kinds
x_kind : {byte : ℕ} (z : Action) → action_kind z ≡ byte → (1 ≤ byte) × (byte ≤ 9)
x_kind (Create service puts) e = (omega arith, omega arith)
x_kind (Modify service puts) e = (omega arith, omega arith)
x_kind (Redeploy service) e = (omega arith, omega arith)
x_kind (Delete service) e = (omega arith, omega arith)
x_kind (Set put) e = (omega arith, omega arith)
x_kind (Unset path) e = (omega arith, omega arith)
x_kind (BasePut put) e = (omega arith, omega arith)
x_kind (BaseRemove device path) e = (omega arith, omega arith)
x_kind (Literal name writes) e = (omega arith, omega arith)

-- the content of each kind is determined
content_determined : (byte : ℕ) → Determined (content byte)
content_determined byte = record {
  ends = λ bytes x y r s n w b. (at byte (x_kind x w.has)).ends bytes x y r s n w b;
  same = λ bytes x y r s w v. (at byte (x_kind x w.has)).same bytes x y r s w v;
}
  where
    at : (byte : ℕ) → (1 ≤ byte) × (byte ≤ 9) → Determined (content byte)
    at zero h = absurd (omega (arith, h.0))
    at (suc zero) h = renamed_determined _ _ _ create_renamed body_determined
    at (suc (suc zero)) h = renamed_determined _ _ _ modify_renamed body_determined
    at (suc (suc (suc zero))) h = renamed_determined _ _ _ redeploy_renamed text_determined
    at (suc (suc (suc (suc zero)))) h = renamed_determined _ _ _ delete_renamed text_determined
    at (suc (suc (suc (suc (suc zero))))) h = renamed_determined _ _ _ set_renamed (put_determined None)
    at (suc (suc (suc (suc (suc (suc zero)))))) h = renamed_determined _ _ _ unset_renamed (path_determined None)
    at (suc (suc (suc (suc (suc (suc (suc zero))))))) h = renamed_determined _ _ _ base_put_renamed device_put_determined
    at (suc (suc (suc (suc (suc (suc (suc (suc zero)))))))) h = renamed_determined _ _ _ base_remove_renamed device_path_determined
    at (suc (suc (suc (suc (suc (suc (suc (suc (suc zero))))))))) h = renamed_determined _ _ _ literal_renamed literal_determined
    at (suc (suc (suc (suc (suc (suc (suc (suc (suc (suc n)))))))))) h = absurd (omega (arith, h.1))

pub kind_determined : Determined kind
kind_determined = record {
  ends = λ bytes x y r s n w b. ends bytes x y r s n w b;
  same = λ bytes x y r s w v. let e : x ∷ r ≡ y ∷ s = sym w.parts ∙ v.parts in cc;
}
  where
    ends : (bytes : List ℕ) (x y : ℕ) (r s : List ℕ) (n : ℕ) → IsWhole kind bytes x r → BeginsWith kind bytes y n s → length r ≤ length s
    ends bytes x y r s zero w b = omega (arith, ap length b.parts, ap length w.parts)
    ends bytes x y r s (suc zero) w b = omega (arith, ap length b.parts, ap length w.parts)
    ends bytes x y r s (suc (suc n)) w b = omega (arith, ap length b.parts, ap length w.parts)

-- no byte of a kind begins the bytes
pub kind_fails : (bytes : List ℕ) (stuck : Stuck) → stuck ≡ Bad (length bytes) → ((byte : ℕ) (rest : List ℕ) → 1 ≤ byte → byte ≤ 9 → bytes ≡ byte ∷ rest → ⊥) → ReadFails kind bytes stuck
kind_fails bytes stuck is none = subst (ReadFails kind bytes) (sym is) (record {
  begins = (1, 0, bytes, record { has = (omega arith, omega arith); lawful = tt; parts = refl }, refl);
  no_further = λ x count rest b. further x count rest b;
})
  where
    further : (x : ℕ) (count : ℕ) (rest : List ℕ) → BeginsWith kind bytes x count rest → (length bytes ≤ length rest) × (count < 1)
    further x zero rest b = (omega (arith, ap length b.parts), omega arith)
    further x (suc zero) rest b = absurd (none x rest b.has.0 b.has.1 b.parts)
    further x (suc (suc count)) rest b = absurd (none x rest b.has.0 b.has.1 b.parts)

abbrev action_of : ℕ → Action → Action
action_of byte action = action

-- the byte of a kind, and the content of an action of that kind
pub action_sequel : Sequel kind content (any action_fields) action_of
action_sequel = record {
  parts = λ z _. (action_kind z, z, refl, x_kind z refl, refl);
  has = λ x y _ _. tt;
  fields = λ x y h. ap (λ byte. a_kind byte ∷ content_fields y) h;
  some = some_action;
}

pub action_determined : Determined (any action_fields)
action_determined = sequel_determined _ _ _ _ action_sequel kind_determined content_determined

pub some_an_action : Action
some_an_action = Redeploy []

-- the number of actions, and the actions
abbrev pub counted_actions : Grammar (List Action)
counted_actions = any (λ xs. a_count_of_actions (length xs) ∷ flat_map action_fields xs)

abbrev behind_count : ℕ → List Action → List Action
behind_count count xs = xs

pub counted_actions_sequel : Sequel (one a_count_of_actions) (many action_fields) counted_actions behind_count
counted_actions_sequel = record {
  parts = λ z _. (length z, z, refl, tt, refl);
  has = λ x y _ _. tt;
  fields = λ x y h. ap (λ n. a_count_of_actions n ∷ flat_map action_fields y) h;
  some = λ x _. (replicate x some_an_action, length-replicate x some_an_action);
}

counted_actions_determined : Determined counted_actions
counted_actions_determined = sequel_determined _ _ _ _ counted_actions_sequel action_count_determined (many_determined action_fields some_an_action action_determined)

-- the caller's number, and its actions
abbrev pub numbered_actions : Grammar (ℕ × List Action)
numbered_actions = any (λ read. a_number read.0 ∷ a_count_of_actions (length read.1) ∷ flat_map action_fields read.1)

abbrev numbered_of : ℕ → List Action → ℕ × List Action
numbered_of number xs = (number, xs)

pub numbered_sequel : Sequel (one a_number) (λ _. counted_actions) numbered_actions numbered_of
numbered_sequel = record {
  parts = λ z _. (z.0, z.1, refl, tt, tt);
  has = λ x y _ _. tt;
  fields = λ x y _. refl;
  some = λ x _. ([], tt);
}

numbered_determined : Determined numbered_actions
numbered_determined = sequel_determined _ _ _ _ numbered_sequel number_determined (λ _. counted_actions_determined)

abbrev call_of : List ℕ → ℕ × List Action → Call
call_of caller read = record { caller = caller; number = read.0; actions = read.1 }

-- the caller, and its number and actions
pub call_sequel : Sequel (one a_text) (λ _. numbered_actions) (any call_fields) call_of
call_sequel = record {
  parts = λ z _. (z.caller, (z.number, z.actions), refl, tt, tt);
  has = λ x y _ _. tt;
  fields = λ x y _. refl;
  some = λ x _. ((0, []), tt);
}

pub call_determined : Determined (any call_fields)
call_determined = sequel_determined _ _ _ _ call_sequel text_determined (λ _. numbered_determined)
