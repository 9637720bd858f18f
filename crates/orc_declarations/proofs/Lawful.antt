-- What was declared stays lawful.
use Rattle.std.proofs.Common.{◌≡◌, ◌<◌, ◌≤◌, ◌+◌, ℕ, zero, suc, List, [], ◌∷◌, ◌++◌, Bool, true, false, not, ◌&&◌, nat_lt, length, get_or, slice_set, refl, ap, sym, ◌∙◌, subst, arith, Result}
use Rattle.std.specs.List.{list_all}
use Rattle.std.specs.Result.{OnOk}
use Rattle.std.specs.Cmp.{first_so, second_so}
use Rattle.orc_path.specs.Steps.{PathStep}
use Rattle.orc_call.specs.declared.call.Put.{Put}
use Rattle.orc_decls.specs.Devices.{names_of}
use Rattle.orc_schema_nodes.specs.Schemas.{SchemaTable}
use Rattle.orc_decls.specs.Calls.{is_data_item, is_device, is_forbid_rule, is_kept, is_served, is_lawful_name, is_max_rule, is_put, schema_in}
use Rattle.orc_decls.specs.declared.declarations.Device.{Device}
use Rattle.orc_lines.specs.declared.declared.Declared.{Declared}
use Rattle.orc_declarations.specs.Declarations.{changed_at, with_base, with_forbid, with_max}
use Rattle.orc_lines.specs.Lawful.{AreDeclared}
use Rattle.orc_lines.proofs.Lawful.{both, all_more, schema_at, on_ok_more}

-- the names stay, and so do lawful devices, where a device is changed
names_stay : (n : ℕ) (f : Device → Device) (ds : List Device) → ((d : Device) → (f d).name ≡ d.name) → names_of (changed_at n f ds) ≡ names_of ds
names_stay n f [] same = refl
names_stay zero f (d ∷ ds) same = ap (λ (n : List ℕ). n ∷ names_of ds) (same d)
names_stay (suc n) f (d ∷ ds) same = ap (λ (ns : List (List ℕ)). d.name ∷ ns) (names_stay n f ds same)

-- what is good for a schema keeps devices of that schema lawful
abbrev KeepsDevices : List SchemaTable → (SchemaTable → Bool) → (Device → Device) → Type 0
KeepsDevices schemas good f = (d : Device) → good (schema_in schemas d.schema) ≡ true → is_device schemas d ≡ true → is_device schemas (f d) ≡ true

lawful_stay : (schemas : List SchemaTable) (n : ℕ) (good : SchemaTable → Bool) (f : Device → Device) (ds : List Device) → KeepsDevices schemas good f
    → good (schema_at schemas ds n) ≡ true → list_all (is_device schemas) ds ≡ true → list_all (is_device schemas) (changed_at n f ds) ≡ true
lawful_stay schemas n good f [] keeps p h = refl
lawful_stay schemas zero good f (d ∷ ds) keeps p h =
    both (is_device schemas (f d)) (list_all (is_device schemas) ds) (keeps d p (first_so (is_device schemas d) (list_all (is_device schemas) ds) h))
    (second_so (is_device schemas d) (list_all (is_device schemas) ds) h)
lawful_stay schemas (suc n) good f (d ∷ ds) keeps p h =
    both (is_device schemas d) (list_all (is_device schemas) (changed_at n f ds)) (first_so (is_device schemas d) (list_all (is_device schemas) ds) h)
    (lawful_stay schemas n good f ds keeps p (second_so (is_device schemas d) (list_all (is_device schemas) ds) h))

module _ (schemas : List SchemaTable) (d : Device) where
  abbrev s : SchemaTable
  s = schema_in schemas d.schema

  abbrev front : Bool
  front = is_lawful_name d.name && nat_lt d.schema (length schemas)

  abbrev puts : Bool
  puts = list_all (is_put s) d.base

  abbrev limits : Bool
  limits = list_all (is_max_rule s) d.max

  abbrev leaves : Bool
  leaves = list_all (is_forbid_rule s) d.forbid

  in_front : is_device schemas d ≡ true → front ≡ true
  in_front h = first_so front (puts && limits && leaves) h

  under : is_device schemas d ≡ true → (puts && limits && leaves) ≡ true
  under h = second_so front (puts && limits && leaves) h

  joined : (a b c : Bool) → front ≡ true → a ≡ true → b ≡ true → c ≡ true → (front && (a && b && c)) ≡ true
  joined a b c f x y z = both front (a && b && c) f (both (a && b) c (both a b x y) z)

  puts_so : is_device schemas d ≡ true → puts ≡ true
  puts_so h = first_so puts limits (first_so (puts && limits) leaves (under h))

  limits_so : is_device schemas d ≡ true → limits ≡ true
  limits_so h = second_so puts limits (first_so (puts && limits) leaves (under h))

  leaves_so : is_device schemas d ≡ true → leaves ≡ true
  leaves_so h = second_so (puts && limits) leaves (under h)

  base_grows : (put : Put) → is_put s put ≡ true → is_device schemas d ≡ true → is_device schemas (record d { base = d.base ++ put ∷ [] }) ≡ true
  base_grows put p h =
      joined (list_all (is_put s) (d.base ++ put ∷ [])) limits leaves (in_front h) (all_more (is_put s) d.base put (puts_so h) p) (limits_so h) (leaves_so h)

  max_grows : (limit : List PathStep × ℕ) → is_max_rule s limit ≡ true → is_device schemas d ≡ true → is_device schemas (record d { max = d.max ++ limit ∷ [] }) ≡ true
  max_grows limit p h =
      joined puts (list_all (is_max_rule s) (d.max ++ limit ∷ [])) leaves (in_front h) (puts_so h) (all_more (is_max_rule s) d.max limit (limits_so h) p) (leaves_so h)

  forbid_grows : (leaf : List PathStep × List ℕ) → is_forbid_rule s leaf ≡ true → is_device schemas d ≡ true
      → is_device schemas (record d { forbid = d.forbid ++ leaf ∷ [] }) ≡ true
  forbid_grows leaf p h =
      joined puts limits (list_all (is_forbid_rule s) (d.forbid ++ leaf ∷ [])) (in_front h) (puts_so h) (limits_so h) (all_more (is_forbid_rule s) d.forbid leaf (leaves_so h) p)

-- a change of the device of a number, or of none
pub past_all : (n : ℕ) (f : Device → Device) (ds : List Device) → length ds ≤ n → changed_at n f ds ≡ ds
past_all n f [] h = refl
past_all zero f (d ∷ ds) h = absurd (omega arith)
past_all (suc n) f (d ∷ ds) h = ap (λ (rest : List Device). d ∷ rest) (past_all n f ds (omega arith))

pub put_at : (n : ℕ) (f : Device → Device) (ds : List Device) (d : Device) → n < length ds → changed_at n f ds ≡ slice_set ds n (f (get_or ds n d))
put_at n f [] d h = absurd (omega arith)
put_at zero f (e ∷ ds) d h = refl
put_at (suc n) f (e ∷ ds) d h = ap (λ (rest : List Device). e ∷ rest) (put_at n f ds d (omega arith))

module _ {E : Type 0} (n : ℕ) (ds : List Device) (d : Device) (r : Result (Unit {0}) E) (within : n < length ds) where
  pub pushed : (put : Put) (base : List Put) → OnOk r (base ≡ (get_or ds n d).base ++ put ∷ [])
      → OnOk r (slice_set ds n (record (get_or ds n d) { base = base }) ≡ with_base n put ds)
  pushed put base h =
      on_ok_more r _ _ (λ grown. ap (λ (b : List Put). slice_set ds n (record (get_or ds n d) { base = b })) grown
      ∙ sym (put_at n (λ (e : Device). record e { base = e.base ++ put ∷ [] }) ds d within)) h

  pub pushed_max : (limit : List PathStep × ℕ) (max : List (List PathStep × ℕ)) → OnOk r (max ≡ (get_or ds n d).max ++ limit ∷ [])
      → OnOk r (slice_set ds n (record (get_or ds n d) { max = max }) ≡ with_max n limit ds)
  pushed_max limit max h =
      on_ok_more r _ _ (λ grown. ap (λ (b : List (List PathStep × ℕ)). slice_set ds n (record (get_or ds n d) { max = b })) grown
      ∙ sym (put_at n (λ (e : Device). record e { max = e.max ++ limit ∷ [] }) ds d within)) h

  pub pushed_forbid : (leaf : List PathStep × List ℕ) (forbid : List (List PathStep × List ℕ)) → OnOk r (forbid ≡ (get_or ds n d).forbid ++ leaf ∷ [])
      → OnOk r (slice_set ds n (record (get_or ds n d) { forbid = forbid }) ≡ with_forbid n leaf ds)
  pushed_forbid leaf forbid h =
      on_ok_more r _ _ (λ grown. ap (λ (b : List (List PathStep × List ℕ)). slice_set ds n (record (get_or ds n d) { forbid = b })) grown
      ∙ sym (put_at n (λ (e : Device). record e { forbid = e.forbid ++ leaf ∷ [] }) ds d within)) h

module _ (d : Declared) (n : ℕ) (devices : List Device) (h : AreDeclared d) where
  changed : (good : SchemaTable → Bool) (f : Device → Device) → KeepsDevices d.schemas good f → ((e : Device) → (f e).name ≡ e.name)
      → good (schema_at d.schemas d.devices n) ≡ true → devices ≡ changed_at n f d.devices → AreDeclared (record d { devices = devices })
  changed good f keeps same lawful grown = subst (λ (ds : List Device). AreDeclared (record d { devices = ds })) (sym grown) (record {
    named = h.named ∙ sym (names_stay n f d.devices same);
    plain = h.plain;
    typed = h.typed;
    devices = lawful_stay d.schemas n good f d.devices keeps lawful h.devices;
    few = h.few;
    items = h.items;
    served = h.served;
    services = h.services;
    apart = h.apart;
    sound = h.sound;
  })

  pub based : (put : Put) → is_put (schema_at d.schemas d.devices n) put ≡ true → devices ≡ with_base n put d.devices → AreDeclared (record d { devices = devices })
  based put =
      changed (λ (s : SchemaTable). is_put s put) (λ (e : Device). record e { base = e.base ++ put ∷ [] }) (λ e. base_grows d.schemas e put) (λ e. refl)

  pub limited : (limit : List PathStep × ℕ) → is_max_rule (schema_at d.schemas d.devices n) limit ≡ true → devices ≡ with_max n limit d.devices
      → AreDeclared (record d { devices = devices })
  limited limit =
      changed (λ (s : SchemaTable). is_max_rule s limit) (λ (e : Device). record e { max = e.max ++ limit ∷ [] }) (λ e. max_grows d.schemas e limit) (λ e. refl)

  pub forbidden : (leaf : List PathStep × List ℕ) → is_forbid_rule (schema_at d.schemas d.devices n) leaf ≡ true → devices ≡ with_forbid n leaf d.devices
      → AreDeclared (record d { devices = devices })
  forbidden leaf =
      changed (λ (s : SchemaTable). is_forbid_rule s leaf) (λ (e : Device). record e { forbid = e.forbid ++ leaf ∷ [] }) (λ e. forbid_grows d.schemas e leaf) (λ e. refl)

-- the data have an item more
pub data_more : (d : Declared) (put : Put) (items : List Put) → AreDeclared d → is_put d.data_schema put ≡ true → is_kept put.path ≡ false
    → is_served d.services put.path ≡ false
    → items ≡ d.data ++ put ∷ [] → AreDeclared (record d { «data» = items })
data_more d put items h lawful free unserved grown = subst (λ (ps : List Put). AreDeclared (record d { «data» = ps })) (sym grown) (record {
  named = h.named;
  plain = h.plain;
  typed = h.typed;
  devices = h.devices;
  few = h.few;
  items = all_more (is_data_item d.data_schema) d.data put h.items (both (is_put d.data_schema put) (not (is_kept put.path)) lawful (ap not free));
  served = all_more (λ (p : Put). not (is_served d.services p.path)) d.data put h.served (ap not unserved);
  services = h.services;
  apart = h.apart;
  sound = h.sound;
})
