-- All declarations that are written are read.
use Rattle.std.proofs.Common.{◌≡◌, ℕ, ◌<◌, ◌≤◌, true, false, not, ◌&&◌, nat_lt, List, [], ◌∷◌, ◌++◌, length, length-append, map, refl, ap, sym, ◌∙◌, subst, arith, append_assoc, append-nil, nat_eq, Option, None, Some}
use Rattle.std.specs.Option.{option_map_or}
use Rattle.std.specs.List.{AllByRecursion, IsDistinct, flat_map, list_all}
use Rattle.std.proofs.lemmas.Bool.{and_parts, false≢true, or_from}
use Rattle.std.proofs.lemmas.List.{map-append}
use Rattle.orc_path.specs.Steps.{PathStep}
use Rattle.orc_call.specs.declared.call.Put.{Put}
use Rattle.orc_decls.specs.Devices.{is_same_text, names_of}
use Rattle.orc_schema_nodes.specs.Schemas.{SchemaTable}
use Rattle.orc_decls.specs.Calls.{is_data_item, is_device, is_device_under, is_forbid_rule, is_lawful_name, is_max_rule, is_put, is_served, schema_in}
use Rattle.orc_decls.specs.declared.declarations.Device.{Device}
use Rattle.orc_decls.specs.declared.declarations.TheConstants.{MOST_DEVICES}
use Rattle.orc_declarations.specs.Declarations.{schema_place}
use Rattle.orc_bundle_laws.specs.Laws.{Preamble, preamble_alone, is_kind}
use Rattle.orc_lines.specs.Names.{is_among}
use Rattle.orc_bundle_laws.specs.Written.{base_line, data_line, device_lines, forbid_line, max_line}
use Rattle.orc_lines.specs.declared.declared.Declared.{Declared}
use Rattle.orc_lines.proofs.LinesOf.{untrue}
use Rattle.orc_bundle_laws.proofs.Texts.{IsLawfulName, lawful_name, lawful_under}
use Rattle.orc_bundle_laws.proofs.WrittenDeclarations.{Fronts, one_declaration}
use Rattle.orc_bundle_laws.proofs.WrittenDevices.{at_data, at_devices, base_read, base_text, data_read, data_text, device_line, device_read, device_text, forbid_read, forbid_text, max_read, max_text, new_device, same_back, schema_last}

-- a name that is distinct from those after it and before it
none_same : (name : List ℕ) (ns : List (List ℕ)) → AllByRecursion (λ (n : List ℕ). is_same_text name n ≡ false) ns → is_among ns name ≡ false
none_same name [] h = refl
none_same name (n ∷ ns) h = or_from (is_same_text name n) (is_among ns name) h.0 (none_same name ns h.1)

pub at_seam : (x : List ℕ) (xs : List (List ℕ)) (y : List ℕ) (ys : List (List ℕ)) → AllByRecursion (λ (n : List ℕ). is_same_text x n ≡ false) (xs ++ y ∷ ys) → is_same_text x y ≡ false
at_seam x [] y ys h = h.0
at_seam x (z ∷ xs) y ys h = at_seam x xs y ys h.1

pub is_new : (ns : List (List ℕ)) (name : List ℕ) (rest : List (List ℕ)) → IsDistinct is_same_text (ns ++ name ∷ rest) → is_among ns name ≡ false
unfolding IsDistinct
is_new [] name rest h = refl
is_new (n ∷ ns) name rest h = or_from (is_same_text name n) (is_among ns name) (same_back n name (at_seam n ns name rest h.0)) (is_new ns name rest h.1)

names_joined : (done todo : List Device) → names_of (done ++ todo) ≡ names_of done ++ names_of todo
names_joined done todo = map-append (λ (d : Device). d.name) done todo

-- what is known of a device after the preamble
pub record IsKnownDevice (h : Preamble) (kind : ℕ → List ℕ) (d : Device) : Type 0 where
  pub name : IsLawfulName d.name
  pub of_kind : IsLawfulName (kind d.schema)
  pub place : schema_place (preamble_alone h) (kind d.schema) ≡ Some d.schema
  pub base : list_all (is_put (schema_in h.schemas d.schema)) d.base ≡ true
  pub limits : list_all (is_max_rule (schema_in h.schemas d.schema)) d.max ≡ true
  pub leaves : list_all (is_forbid_rule (schema_in h.schemas d.schema)) d.forbid ≡ true

same_place : (a b : ℕ) → nat_eq a b ≡ true → b ≡ a
same_place a b h = grind arith

place_found : (o : Option ℕ) (place : ℕ) → option_map_or (nat_eq place) o false ≡ true → o ≡ Some place
place_found None place h = absurd (false≢true h)
place_found (Some n) place h = ap Some (same_place place n h)

known_device : (h : Preamble) (kind : ℕ → List ℕ) (d : Device) → is_device h.schemas d ≡ true → is_kind h kind d ≡ true → IsKnownDevice h kind d
known_device h kind d is is_of =
    let of_kind = and_parts (is_lawful_name (kind d.schema)) (option_map_or (nat_eq d.schema) (schema_place (preamble_alone h) (kind d.schema)) false) is_of in
    let s = schema_in h.schemas d.schema in
    let two = and_parts (is_lawful_name d.name && nat_lt d.schema (length h.schemas)) (is_device_under s d) is in
    let one = and_parts (is_lawful_name d.name) (nat_lt d.schema (length h.schemas)) two.0 in
    let parts = and_parts (list_all (is_put s) d.base && list_all (is_max_rule s) d.max) (list_all (is_forbid_rule s) d.forbid) two.1 in
    let items = and_parts (list_all (is_put s) d.base) (list_all (is_max_rule s) d.max) parts.0 in
    record {
      name = lawful_name d.name one.0;
      of_kind = lawful_name (kind d.schema) of_kind.0;
      place = place_found (schema_place (preamble_alone h) (kind d.schema)) d.schema of_kind.1;
      base = items.0;
      limits = items.1;
      leaves = parts.1;
    }

-- each of the devices
abbrev pub AreKnown : Preamble → (ℕ → List ℕ) → List Device → Type 0
AreKnown h kind [] = Unit {0}
AreKnown h kind (d ∷ ds) = IsKnownDevice h kind d × AreKnown h kind ds

pub known_devices : (h : Preamble) (kind : ℕ → List ℕ) (ds : List Device) → list_all (is_device h.schemas) ds ≡ true → list_all (is_kind h kind) ds ≡ true → AreKnown h kind ds
known_devices h kind [] are kinds = tt
known_devices h kind (d ∷ ds) are kinds =
    let one = and_parts (is_device h.schemas d) (list_all (is_device h.schemas) ds) are in
    let two = and_parts (is_kind h kind d) (list_all (is_kind h kind) ds) kinds in
    (known_device h kind d one.0 two.0, known_devices h kind ds one.1 two.1)

-- where the script begins, and what is declared there
module _ (h : Preamble) (e : Declared) (line : List ℕ) (later : List (List ℕ)) where
  abbrev own : Device → SchemaTable
  own d = schema_in h.schemas d.schema

  -- the rest of a base
  bases_read : (done : List Device) (d : Device) (before todo : List Put) (rest : List (List ℕ))
      → IsLawfulName d.name → is_among (names_of done) d.name ≡ false → list_all (is_put (own d)) todo ≡ true
      → Fronts (at_devices h (done ++ record d { base = before ++ todo } ∷ [])) rest e line later
      → Fronts (at_devices h (done ++ record d { base = before } ∷ [])) (map (base_line d.name) todo ++ rest) e line later
  bases_read done d before [] rest l new lawful behind =
      subst (λ (base : List Put). Fronts (at_devices h (done ++ record d { base = base } ∷ [])) rest e line later) (append-nil before) behind
  bases_read done d before (put ∷ todo) rest l new lawful behind =
      let parts = and_parts (is_put (own d) put) (list_all (is_put (own d)) todo) lawful in
      one_declaration e line later (at_devices h (done ++ record d { base = before } ∷ [])) (at_devices h (done ++ record d { base = before ++ put ∷ [] } ∷ []))
      (base_line d.name put) (map (base_line d.name) todo ++ rest)
      (base_text d.name put l (lawful_under (own d) put.path put.item parts.0)) refl refl (λ lines. base_read h done (record d { base = before }) put lines (own d) l new (schema_last h.schemas done (record d { base = before }) new) parts.0) refl
      (bases_read done d (before ++ put ∷ []) todo rest l new parts.1
      (subst (λ (base : List Put). Fronts (at_devices h (done ++ record d { base = base } ∷ [])) rest e line later) (sym (append_assoc before (put ∷ []) todo)) behind))

  -- the rest of its lists that have a most
  limits_read : (done : List Device) (d : Device) (before todo : List (List PathStep × ℕ)) (rest : List (List ℕ))
      → IsLawfulName d.name → is_among (names_of done) d.name ≡ false → list_all (is_max_rule (own d)) todo ≡ true
      → Fronts (at_devices h (done ++ record d { max = before ++ todo } ∷ [])) rest e line later
      → Fronts (at_devices h (done ++ record d { max = before } ∷ [])) (map (max_line d.name) todo ++ rest) e line later
  limits_read done d before [] rest l new lawful behind =
      subst (λ (max : List (List PathStep × ℕ)). Fronts (at_devices h (done ++ record d { max = max } ∷ [])) rest e line later) (append-nil before) behind
  limits_read done d before (limit ∷ todo) rest l new lawful behind =
      let parts = and_parts (is_max_rule (own d) limit) (list_all (is_max_rule (own d)) todo) lawful in
      one_declaration e line later (at_devices h (done ++ record d { max = before } ∷ [])) (at_devices h (done ++ record d { max = before ++ limit ∷ [] } ∷ []))
      (max_line d.name limit) (map (max_line d.name) todo ++ rest)
      (max_text (own d) d.name limit l parts.0) refl refl (λ lines. max_read h done (record d { max = before }) limit lines (own d) l new (schema_last h.schemas done (record d { max = before }) new) parts.0) refl
      (limits_read done d (before ++ limit ∷ []) todo rest l new parts.1
      (subst (λ (max : List (List PathStep × ℕ)). Fronts (at_devices h (done ++ record d { max = max } ∷ [])) rest e line later) (sym (append_assoc before (limit ∷ []) todo)) behind))

  -- the rest of its leaves that may not have a text
  forbids_read : (done : List Device) (d : Device) (before todo : List (List PathStep × List ℕ)) (rest : List (List ℕ))
      → IsLawfulName d.name → is_among (names_of done) d.name ≡ false → list_all (is_forbid_rule (own d)) todo ≡ true
      → Fronts (at_devices h (done ++ record d { forbid = before ++ todo } ∷ [])) rest e line later
      → Fronts (at_devices h (done ++ record d { forbid = before } ∷ [])) (map (forbid_line d.name) todo ++ rest) e line later
  forbids_read done d before [] rest l new lawful behind =
      subst (λ (forbid : List (List PathStep × List ℕ)). Fronts (at_devices h (done ++ record d { forbid = forbid } ∷ [])) rest e line later) (append-nil before) behind
  forbids_read done d before (leaf ∷ todo) rest l new lawful behind =
      let parts = and_parts (is_forbid_rule (own d) leaf) (list_all (is_forbid_rule (own d)) todo) lawful in
      one_declaration e line later (at_devices h (done ++ record d { forbid = before } ∷ [])) (at_devices h (done ++ record d { forbid = before ++ leaf ∷ [] } ∷ []))
      (forbid_line d.name leaf) (map (forbid_line d.name) todo ++ rest)
      (forbid_text (own d) d.name leaf l parts.0) refl refl (λ lines. forbid_read h done (record d { forbid = before }) leaf lines (own d) l new (schema_last h.schemas done (record d { forbid = before }) new) parts.0) refl
      (forbids_read done d (before ++ leaf ∷ []) todo rest l new parts.1
      (subst (λ (forbid : List (List PathStep × List ℕ)). Fronts (at_devices h (done ++ record d { forbid = forbid } ∷ [])) rest e line later) (sym (append_assoc before (leaf ∷ []) todo)) behind))

  -- a device with all that is declared of it
  device_whole : (kind : ℕ → List ℕ) (done : List Device) (d : Device) (rest : List (List ℕ)) → IsKnownDevice h kind d → is_among (names_of done) d.name ≡ false → length done < MOST_DEVICES
      → Fronts (at_devices h (done ++ d ∷ [])) rest e line later → Fronts (at_devices h done) (device_lines kind d ++ rest) e line later
  device_whole kind done d rest known new few behind =
      let l = known.name in
      let bases = map (base_line d.name) d.base in
      let limits = map (max_line d.name) d.max in
      let forbids = map (forbid_line d.name) d.forbid in
      let first = new_device d.name d.schema in
      let front = device_line d.name (kind d.schema) in
      let joined : device_lines kind d ++ rest ≡ front ∷ (bases ++ (limits ++ (forbids ++ rest))) =
      append_assoc (front ∷ bases ++ limits) forbids rest ∙ append_assoc (front ∷ bases) limits (forbids ++ rest) in
      subst (λ (ts : List (List ℕ)). Fronts (at_devices h done) ts e line later) (sym joined)
      (one_declaration e line later (at_devices h done) (at_devices h (done ++ first ∷ [])) front (bases ++ (limits ++ (forbids ++ rest)))
      (device_text d.name (kind d.schema) l known.of_kind) refl refl (λ lines. device_read h done d.name (kind d.schema) d.schema lines l known.of_kind known.place new few) refl
      (bases_read done first [] d.base (limits ++ (forbids ++ rest)) l new known.base
      (limits_read done (record first { base = d.base }) [] d.max (forbids ++ rest) l new known.limits
      (forbids_read done (record first { base = d.base; max = d.max }) [] d.forbid rest l new known.leaves behind))))

  -- the rest of the data
  pub data_lines_read : (devices : List Device) (before todo : List Put) (rest : List (List ℕ)) → list_all (is_data_item h.data_schema) todo ≡ true
      → list_all (λ (put : Put). not (is_served h.services put.path)) todo ≡ true
      → Fronts (at_data h devices (before ++ todo)) rest e line later → Fronts (at_data h devices before) (map data_line todo ++ rest) e line later
  data_lines_read devices before [] rest lawful apart behind = subst (λ (puts : List Put). Fronts (at_data h devices puts) rest e line later) (append-nil before) behind
  data_lines_read devices before (put ∷ todo) rest lawful apart behind =
      let parts = and_parts (is_data_item h.data_schema put) (list_all (is_data_item h.data_schema) todo) lawful in
      let free = and_parts (not (is_served h.services put.path)) (list_all (λ (put : Put). not (is_served h.services put.path)) todo) apart in
      one_declaration e line later (at_data h devices before) (at_data h devices (before ++ put ∷ [])) (data_line put) (map data_line todo ++ rest)
      (data_text h.data_schema put parts.0) refl refl (λ lines. data_read h devices before put lines parts.0 (untrue (is_served h.services put.path) free.0)) refl
      (data_lines_read devices (before ++ put ∷ []) todo rest parts.1 free.1
      (subst (λ (puts : List Put). Fronts (at_data h devices puts) rest e line later) (sym (append_assoc before (put ∷ []) todo)) behind))

  -- the rest of the devices
  pub devices_read : (kind : ℕ → List ℕ) (done todo : List Device) (rest : List (List ℕ))
      → IsDistinct is_same_text (names_of (done ++ todo)) → length (done ++ todo) ≤ MOST_DEVICES → AreKnown h kind todo
      → Fronts (at_devices h (done ++ todo)) rest e line later
      → Fronts (at_devices h done) (flat_map (device_lines kind) todo ++ rest) e line later
  devices_read kind done [] rest distinct few known behind =
      subst (λ (ds : List Device). Fronts (at_devices h ds) rest e line later) (append-nil done) behind
  devices_read kind done (d ∷ ds) rest distinct few known behind =
      let new = is_new (names_of done) d.name (names_of ds) (subst (λ (ns : List (List ℕ)). IsDistinct is_same_text ns) (names_joined done (d ∷ ds)) distinct) in
      let seam : done ++ d ∷ ds ≡ (done ++ d ∷ []) ++ ds = sym (append_assoc done (d ∷ []) ds) in
      let sizes = length-append done (d ∷ ds) in
      let more = devices_read kind (done ++ d ∷ []) ds rest
      (subst (λ (all : List Device). IsDistinct is_same_text (names_of all)) seam distinct)
      (subst (λ (all : List Device). length all ≤ MOST_DEVICES) seam few) known.1
      (subst (λ (all : List Device). Fronts (at_devices h all) rest e line later) seam behind) in
      subst (λ (ts : List (List ℕ)). Fronts (at_devices h done) ts e line later) (sym (append_assoc (device_lines kind d) (flat_map (device_lines kind) ds) rest))
      (device_whole kind done d (flat_map (device_lines kind) ds ++ rest) known.0 new (omega arith) more)
