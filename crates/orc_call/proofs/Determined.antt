-- The parts of a call, and that each of them is determined by its bytes.
use Rattle.std.proofs.Common.{◌≡◌, ℕ, zero, suc, ◌+◌, ◌<◌, ◌≤◌, List, [], ◌∷◌, ◌++◌, length, replicate, Option, refl, sym, ap, subst, ◌∙◌, arith}
use Rattle.std.specs.declared.option.Option.TheVariants.{None, Some}
use Rattle.std.specs.List.{flat_map}
use Rattle.std.proofs.lemmas.List.{append-nil, length-append, length-replicate}
use Rattle.orc_path.specs.Steps.{PathStep}
use Rattle.orc_path.specs.Texts.{path_text}
use Rattle.orc_path.proofs.Texts.{path_text-injective}
use Rattle.orc_path.specs.declared.item.Item.{Item}
use Rattle.orc_path.specs.declared.item.Item.TheVariants.{Entry}
use Rattle.orc_call.specs.declared.call.Put.{Put}
use Rattle.orc_call.specs.declared.call.DevicePut.{DevicePut}
use Rattle.orc_call.specs.declared.fields.Stuck.{Stuck}
use Rattle.orc_call.specs.Fields.{Field, a_text, a_number, a_count_of_actions, a_count_of_items, a_path, an_item, field_bytes, spelled, IsLawful}
use Rattle.orc_call.specs.Encoding.{put_fields, puts_fields, device_put_fields}
use Rattle.orc_call.specs.inside.Reading.{Grammar, BeginsWith, IsWhole, ReadFails, one, any, puts, many, body, literal, device_path, last_path}
use Rattle.orc_call.proofs.Singles.{same_2, same_4, same_8, same_texts, same_items}
use Rattle.orc_call.proofs.Sequels.{Determined, Sequel, sequel_determined}
use Rattle.orc_call.proofs.Lists.{listed_determined, listed_more, listed_fails, after}

one_determined : {X : Type 0} (field : X → Field) → ((x y : X) (r s : List ℕ) → IsLawful (field x) → IsLawful (field y) → field_bytes (field x) ++ r ≡ field_bytes (field y) ++ s → x ≡ y) → Determined (one field)
one_determined {X = X} field only = record {
  ends = λ bytes x y r s n w b. ends bytes x y r s n w b;
  same = λ bytes x y r s w v. same x y r s w v;
}
  where
    alone : (x : X) (r : List ℕ) → spelled (field x ∷ []) ++ r ≡ field_bytes (field x) ++ r
    alone x r = ap (λ t. t ++ r) (append-nil (field_bytes (field x)))

    same : {bytes : List ℕ} (x y : X) (r s : List ℕ) → IsWhole (one field) bytes x r → IsWhole (one field) bytes y s → x ≡ y
    same x y r s w v = only x y r s w.lawful.0 v.lawful.0 (sym (alone x r) ∙ sym w.parts ∙ v.parts ∙ alone y s)

    behind : (bytes : List ℕ) (x y : X) (r s : List ℕ) → IsWhole (one field) bytes x r → IsWhole (one field) bytes y s → length r ≤ length s
    behind bytes x y r s w v =
        let e : spelled (field x ∷ []) ++ r ≡ spelled (field x ∷ []) ++ s = sym w.parts ∙ v.parts ∙ ap (λ z. spelled (field z ∷ []) ++ s) (sym (same x y r s w v)) in
        omega (arith, ap length e, length-append (spelled (field x ∷ [])) r, length-append (spelled (field x ∷ [])) s)

    ends : (bytes : List ℕ) (x y : X) (r s : List ℕ) (n : ℕ) → IsWhole (one field) bytes x r → BeginsWith (one field) bytes y n s → length r ≤ length s
    ends bytes x y r s zero w b = omega (arith, ap length b.parts, ap length w.parts, length-append (spelled (field x ∷ [])) r)
    ends bytes x y r s (suc zero) w b = behind bytes x y r s w (record { has = tt; lawful = b.lawful; parts = b.parts })
    ends bytes x y r s (suc (suc n)) w b = behind bytes x y r s w (record { has = tt; lawful = b.lawful; parts = b.parts })

pub text_determined : Determined (one a_text)
text_determined = one_determined a_text same_texts

pub number_determined : Determined (one a_number)
number_determined = one_determined a_number (λ x y r s h k e. same_8 x y r s h k e)

pub action_count_determined : Determined (one a_count_of_actions)
action_count_determined = one_determined a_count_of_actions (λ x y r s h k e. same_2 x y r s (omega (arith, h.1)) (omega (arith, k.1)) e)

pub item_count_determined : Determined (one a_count_of_items)
item_count_determined = one_determined a_count_of_items (λ x y r s h k e. same_4 x y r s h k e)

pub path_determined : (before : Option (List PathStep)) → Determined (one (a_path before))
path_determined before = one_determined (a_path before) (λ x y r s h k e. path_text-injective x y h.0 k.0 (same_texts (path_text x) (path_text y) r s h.1 k.1 e))

pub item_determined : (path : List PathStep) → Determined (one (an_item path))
item_determined path = one_determined (an_item path) (λ x y r s h k e. same_items x y r s h.1 k.1 e)

abbrev put_of : List PathStep → Item → Put
put_of path item = record { path = path; item = item }

-- a path and its item
pub put_sequel : (before : Option (List PathStep)) → Sequel (one (a_path before)) (λ path. one (an_item path)) (any (put_fields before)) put_of
put_sequel before = record {
  parts = λ z _. (z.path, z.item, refl, tt, tt);
  has = λ x y _ _. tt;
  fields = λ x y _. refl;
  some = λ x _. (Entry, tt);
}

pub put_determined : (before : Option (List PathStep)) → Determined (any (put_fields before))
put_determined before = sequel_determined _ _ _ _ (put_sequel before) (path_determined before) item_determined

abbrev pub put_behind : Option (List PathStep) → Put → Option (List PathStep)
put_behind before put = Some put.path

abbrev pub some_put : Put
some_put = put_of [] Entry

pub puts_determined : (before : Option (List PathStep)) (count : ℕ) → Determined (puts before count)
puts_determined before count = listed_determined put_fields put_behind puts_fields (λ _. refl) (λ _ _ _. refl) some_put put_determined count before

abbrev device_put_of : List ℕ → Put → DevicePut
device_put_of device put = record { device = device; path = put.path; item = put.item }

-- a device, and a path and its item
pub device_put_sequel : Sequel (one a_text) (λ _. any (put_fields None)) (any device_put_fields) device_put_of
device_put_sequel = record {
  parts = λ z _. (z.device, put_of z.path z.item, refl, tt, tt);
  has = λ x y _ _. tt;
  fields = λ x y _. refl;
  some = λ x _. (some_put, tt);
}

pub device_put_determined : Determined (any device_put_fields)
device_put_determined = sequel_determined _ _ _ _ device_put_sequel text_determined (λ _. put_determined None)

module _ {X : Type 0} (fields : X → List Field) (some : X) where
  abbrev pub alike : Unit {0} → X → List Field
  alike _ x = fields x

  abbrev pub all_alike : Unit {0} → List X → List Field
  all_alike _ xs = flat_map fields xs

  pub many_determined : Determined (any fields) → (count : ℕ) → Determined (many fields count)
  many_determined d count = listed_determined alike (λ _ _. tt) all_alike (λ _. refl) (λ _ _ _. refl) some (λ _. d) count tt

abbrev pair_of : List ℕ → List PathStep → List ℕ × List PathStep
pair_of device path = (device, path)

-- a device and a path
pub device_path_sequel : Sequel (one a_text) (λ _. one (a_path None)) device_path pair_of
device_path_sequel = record {
  parts = λ z _. (z.0, z.1, refl, tt, tt);
  has = λ x y _ _. tt;
  fields = λ x y _. refl;
  some = λ x _. ([], tt);
}

pub device_path_determined : Determined device_path
device_path_determined = sequel_determined _ _ _ _ device_path_sequel text_determined (λ _. path_determined None)

-- the number of puts, and the puts
abbrev pub counted_puts : Grammar (List Put)
counted_puts = any (λ xs. a_count_of_items (length xs) ∷ puts_fields None xs)

abbrev behind_count : {X : Type 0} → ℕ → List X → List X
behind_count count xs = xs

pub counted_puts_sequel : Sequel (one a_count_of_items) (puts None) counted_puts behind_count
counted_puts_sequel = record {
  parts = λ z _. (length z, z, refl, tt, refl);
  has = λ x y _ _. tt;
  fields = λ x y h. ap (λ n. a_count_of_items n ∷ puts_fields None y) h;
  some = λ x _. (replicate x some_put, length-replicate x some_put);
}

pub counted_puts_determined : Determined counted_puts
counted_puts_determined = sequel_determined _ _ _ _ counted_puts_sequel item_count_determined (puts_determined None)

abbrev body_of : List ℕ → List Put → List ℕ × List Put
body_of service xs = (service, xs)

-- a service, and its puts after their number
pub body_sequel : Sequel (one a_text) (λ _. counted_puts) body body_of
body_sequel = record {
  parts = λ z _. (z.0, z.1, refl, tt, tt);
  has = λ x y _ _. tt;
  fields = λ x y _. refl;
  some = λ x _. ([], tt);
}

pub body_determined : Determined body
body_determined = sequel_determined _ _ _ _ body_sequel text_determined (λ _. counted_puts_determined)

pub some_device_put : DevicePut
some_device_put = device_put_of [] some_put

-- the number of writes, and the writes
abbrev pub counted_writes : Grammar (List DevicePut)
counted_writes = any (λ xs. a_count_of_items (length xs) ∷ flat_map device_put_fields xs)

pub counted_writes_sequel : Sequel (one a_count_of_items) (many device_put_fields) counted_writes behind_count
counted_writes_sequel = record {
  parts = λ z _. (length z, z, refl, tt, refl);
  has = λ x y _ _. tt;
  fields = λ x y h. ap (λ n. a_count_of_items n ∷ flat_map device_put_fields y) h;
  some = λ x _. (replicate x some_device_put, length-replicate x some_device_put);
}

pub counted_writes_determined : Determined counted_writes
counted_writes_determined = sequel_determined _ _ _ _ counted_writes_sequel item_count_determined (many_determined device_put_fields some_device_put device_put_determined)

abbrev literal_of : List ℕ → List DevicePut → List ℕ × List DevicePut
literal_of name xs = (name, xs)

-- a name, and the writes after their number
pub literal_sequel : Sequel (one a_text) (λ _. counted_writes) literal literal_of
literal_sequel = record {
  parts = λ z _. (z.0, z.1, refl, tt, tt);
  has = λ x y _ _. tt;
  fields = λ x y _. refl;
  some = λ x _. ([], tt);
}

pub literal_determined : Determined literal
literal_determined = sequel_determined _ _ _ _ literal_sequel text_determined (λ _. counted_writes_determined)

last_is : (before : Option (List PathStep)) (xs : List Put) → last_path before xs ≡ after put_fields put_behind puts_fields (λ _. refl) (λ _ _ _. refl) some_put before xs
last_is before [] = refl
last_is before (x ∷ xs) = last_is (Some x.path) xs

-- one more put after those read
pub puts_more : (i : ℕ) (bytes : List ℕ) (xs : List Put) (x : Put) (r t : List ℕ) (before : Option (List PathStep)) → before ≡ last_path None xs → IsWhole (puts None i) bytes xs r → IsWhole (any (put_fields before)) r x t → IsWhole (puts None (i + 1)) bytes (xs ++ x ∷ []) t
puts_more i bytes xs x r t before is w v =
    listed_more put_fields put_behind puts_fields (λ _. refl) (λ _ _ _. refl) some_put None i bytes xs x r t w (subst (λ b. IsWhole (any (put_fields b)) r x t) (is ∙ last_is None xs) v)

-- where the next put can't be read
pub puts_fail : (i n : ℕ) (bytes : List ℕ) (xs : List Put) (r : List ℕ) (e : Stuck) (before : Option (List PathStep)) → before ≡ last_path None xs → IsWhole (puts None i) bytes xs r → ReadFails (any (put_fields before)) r e → i < n → ReadFails (puts None n) bytes e
puts_fail i n bytes xs r e before is w h lt =
    listed_fails put_fields put_behind puts_fields (λ _. refl) (λ _ _ _. refl) some_put put_determined xs None i n bytes r e w (subst (λ b. ReadFails (any (put_fields b)) r e) (is ∙ last_is None xs) h) lt

module _ {X : Type 0} (fields : X → List Field) (some : X) where
  -- where the next value can't be read
  pub many_fail : Determined (any fields) → (i n : ℕ) (bytes : List ℕ) (xs : List X) (r : List ℕ) (e : Stuck) → IsWhole (many fields i) bytes xs r → ReadFails (any fields) r e → i < n → ReadFails (many fields n) bytes e
  many_fail d i n bytes xs r e w h lt =
      listed_fails (alike fields some) (λ _ _. tt) (all_alike fields some) (λ _. refl) (λ _ _ _. refl) some (λ _. d) xs tt i n bytes r e w h lt
