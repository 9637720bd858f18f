-- Devices with their bases and rules, and data, that are written are read.
use Rattle.std.proofs.Common.{◌≡◌, ℕ, suc, ◌<◌, ◌≤◌, ◌+◌, ◌^◌, ◌-◌, Bool, true, false, not, cond, ◌&&◌, ◌||◌, List, [], ◌∷◌, ◌++◌, codes, length, length-append, take, refl, ap, ap₂, sym, ◌∙◌, arith, append_assoc, Result, Ok, Err, Option, Some, None, nat_le, nat_lt, decimal}
use Rattle.std.specs.List.{position_or_len}
use Rattle.std.specs.Option.{option_map_or}
use Rattle.std.specs.Cmp.Lexicographic.{bytes_decides}
use Rattle.std.proofs.lemmas.Bool.{and_parts, or_parts, lt-leb, lt-ltb, ltb-true}
use Rattle.std.proofs.lemmas.List.{map-append}
use Rattle.orc_path.specs.Items.{item_text}
use Rattle.orc_path.specs.Limits.{is_long_path}
use Rattle.orc_path.specs.declared.limits.TheConstants.{PATH_LEN}
use Rattle.orc_path.specs.Steps.{PathStep, ends_in_keys, is_path}
use Rattle.orc_path.specs.Texts.{path_text}
use Rattle.orc_path.specs.declared.item.Item.TheVariants.{Leaf}
use Rattle.orc_call.specs.declared.call.Put.{Put}
use Rattle.orc_decls.specs.Devices.{is_same_text, names_of}
use Rattle.orc_schema_nodes.specs.Schemas.{SchemaTable, node_at, path_names, plain_table}
use Rattle.orc_typed.specs.Typed.{are_canonical_steps, stand}
use Rattle.orc_decls.specs.Calls.{device_named, is_data_item, is_forbid_rule, is_kept, is_list_path, has_entries, is_max_rule, is_put, is_served, schema_in, schema_named}
use Rattle.orc_decls.specs.declared.declarations.Device.{Device}
use Rattle.orc_decls.specs.declared.declarations.TheConstants.{MOST_DEVICES}
use Rattle.orc_decls.specs.declared.rule.Rule.{Rule}
use Rattle.orc_decls.specs.declared.rule.Rule.TheVariants as rule
use Rattle.orc_declarations.specs.Declarations.{after_base, after_data, after_device, after_forbid, after_header, after_max, after_rule, after_text, base_words, built_in_schema, changed_at, declaration, device_words, max_words, nothing_declared, rule_line, schema_place, with_base, with_device, with_forbid, with_max}
use Rattle.orc_lines.specs.Items.{put_of}
use Rattle.orc_lines.specs.Keywords.{keyword_of}
use Rattle.orc_lines.specs.Names.{is_among, place_of}
use Rattle.orc_bundle_laws.specs.Laws.{Preamble, preamble_alone}
use Rattle.orc_lines.specs.Rules.{on_ok, or_rule}
use Rattle.orc_lines.specs.Words.{cut_at}
use Rattle.orc_bundle_laws.specs.Written.{base_line, data_line, forbid_line, max_line}
use Rattle.orc_lines.specs.declared.declared.Declared.{Declared}
use Rattle.orc_lines.proofs.LinesOf.{untrue}
use Rattle.orc_lines.proofs.Rules.{ok}
use Rattle.orc_bundle_laws.proofs.Texts.{IsLawfulAt, IsLawfulName, IsWord, item_short, lawful_under, number_short, part_append, part_known, part_of_item, part_of_word, path_short, word_of_number, word_of_path}
use Rattle.orc_bundle_laws.proofs.WrittenItems.{forbidden_again, item_again, list_path_again}
use Rattle.orc_bundle_laws.proofs.WrittenLines.{IsText, cut_word, number_again}
use Rattle.std.proofs.lemmas.Bool.{or_from}
use Rattle.orc_services.specs.declared.list.ServiceList.{ServiceList}

-- after the preamble these devices are declared
abbrev pub at_devices : Preamble → List Device → Declared
at_devices h devices = record (preamble_alone h) { names = names_of devices; devices = devices }

-- after the preamble these devices and these items of the data are declared
abbrev pub at_data : Preamble → List Device → List Put → Declared
at_data h devices puts = record (at_devices h devices) { «data» = puts }

-- a device without anything, and one item or rule more
abbrev pub new_device : List ℕ → ℕ → Device
new_device name place = record { name = name; schema = place; base = []; max = []; forbid = [] }

abbrev pub based : Device → Put → Device
based d put = record d { base = d.base ++ put ∷ [] }

abbrev pub limited : Device → List PathStep × ℕ → Device
limited d limit = record d { max = d.max ++ limit ∷ [] }

abbrev pub barred : Device → List PathStep × List ℕ → Device
barred d leaf = record d { forbid = d.forbid ++ leaf ∷ [] }

-- names

pub same_back : (a b : List ℕ) → is_same_text a b ≡ false → is_same_text b a ≡ false
same_back a b h = on (is_same_text b a) refl where
  on : (t : Bool) → is_same_text b a ≡ t → is_same_text b a ≡ false
  on false is = is
  on true is = absurd (let same : is_same_text a b ≡ true = (bytes_decides a b).1 (sym ((bytes_decides b a).0 is)) in cc)

pub same_name : (n : List ℕ) → is_same_text n n ≡ true
same_name n = (bytes_decides n n).1 refl

place_behind : (ns : List (List ℕ)) (n : List ℕ) → is_among ns n ≡ false → position_or_len (is_same_text n) (ns ++ n ∷ []) ≡ length ns
place_behind [] n h = ap (λ (b : Bool). cond (not b) (1 + 0) 0) (same_name n)
place_behind (m ∷ ns) n h =
    let parts = or_parts (is_same_text n m) (is_among ns n) h in
    let more = place_behind ns n parts.1 in
    ap (λ (b : Bool). cond (not b) (1 + position_or_len (is_same_text n) (ns ++ n ∷ [])) 0) parts.0 ∙ omega arith

pub place_of_last : (ns : List (List ℕ)) (n : List ℕ) → is_among ns n ≡ false → place_of (ns ++ n ∷ []) n ≡ Some (length ns)
place_of_last ns n h =
    let at = place_behind ns n h in
    let size = length-append ns (n ∷ []) in
    ap (λ (k : ℕ). cond (nat_lt k (length (ns ++ n ∷ []))) (Some k) None) at
    ∙ ap (λ (b : Bool). cond b (Some (length ns)) None) (lt-ltb (length ns) (length (ns ++ n ∷ [])) (omega arith))

pub names_behind : (done : List Device) (d : Device) → names_of (done ++ d ∷ []) ≡ names_of done ++ d.name ∷ []
names_behind done d = map-append (λ (d : Device). d.name) done (d ∷ [])

-- the last device has its own schema, since its name is new
named_last : (done : List Device) (d : Device) → is_among (names_of done) d.name ≡ false → device_named (done ++ d ∷ []) d.name ≡ Some d
named_last [] d new = ap (λ (b : Bool). cond b (Some d) None) (same_name d.name)
named_last (x ∷ xs) d new =
    let parts = or_parts (is_same_text d.name x.name) (is_among (names_of xs) d.name) new in
    ap (λ (b : Bool). cond b (Some x) (device_named (xs ++ d ∷ []) d.name)) parts.0 ∙ named_last xs d parts.1

pub schema_last : (schemas : List SchemaTable) (done : List Device) (d : Device) → is_among (names_of done) d.name ≡ false
    → schema_named schemas (done ++ d ∷ []) d.name ≡ schema_in schemas d.schema
schema_last schemas done d new = ap (λ (o : Option Device). option_map_or (λ x. schema_in schemas x.schema) o plain_table) (named_last done d new)

pub names_size : (done : List Device) → length (names_of done) ≡ length done
names_size [] = refl
names_size (d ∷ ds) = ap suc (names_size ds)

-- the last device is changed
changed_last : (done : List Device) (f : Device → Device) (d : Device) → changed_at (length done) f (done ++ d ∷ []) ≡ done ++ f d ∷ []
changed_last [] f d = refl
changed_last (x ∷ xs) f d = ap (λ (rest : List Device). x ∷ rest) (changed_last xs f d)

place_behind_all : (done : List Device) (d : Device) → is_among (names_of done) d.name ≡ false → place_of (names_of (done ++ d ∷ [])) d.name ≡ Some (length done)
place_behind_all done d new =
    ap (λ (ns : List (List ℕ)). place_of ns d.name) (names_behind done d) ∙ place_of_last (names_of done) d.name new ∙ ap Some (names_size done)

-- what is declared where the last device is changed, and keeps its name
changed_declared : (h : Preamble) (done : List Device) (d e : Device) (devices : List Device) → d.name ≡ e.name → devices ≡ done ++ e ∷ []
    → ok Declared Rule (record (at_devices h (done ++ d ∷ [])) { devices = devices }) ≡ Ok (at_devices h (done ++ e ∷ []))
changed_declared h done d e devices named is =
    let names : names_of (done ++ d ∷ []) ≡ names_of (done ++ e ∷ []) =
    names_behind done d ∙ ap (λ (n : List ℕ). names_of done ++ n ∷ []) named ∙ sym (names_behind done e) in
    ap₂ (λ (ns : List (List ℕ)) (ds : List Device). Ok (record (at_devices h []) { names = ns; devices = ds })) names is

-- lines

-- nothing is declared of them
abbrev pub bare_preamble : Preamble
bare_preamble = record { modules = []; statements = []; has_data = false; types = []; schemas = plain_table ∷ []; data_schema = built_in_schema; templates = []; services = [] }

pub header_read : (rest : List (List ℕ)) → after_text nothing_declared (codes "orc 1") rest ≡ Ok (preamble_alone bare_preamble)
unfolding after_text after_header
header_read rest = refl

abbrev pub device_line : List ℕ → List ℕ → List ℕ
device_line name kind = codes "device " ++ name ++ codes " " ++ kind

pub device_text : (name kind : List ℕ) → IsLawfulName name → IsLawfulName kind → IsText (device_line name kind)
device_text name kind l k =
    let one = length-append (codes "device ") name in
    let two = length-append (codes "device " ++ name) (codes " ") in
    let three = length-append (codes "device " ++ name ++ codes " ") kind in
    let size = l.size in
    let kind_size = k.size in
    record {
      part = part_append (codes "device " ++ name ++ codes " ") kind
          (part_append (codes "device " ++ name) (codes " ") (part_append (codes "device ") name (part_known (codes "device ") refl refl) (part_of_word name l.word)) (part_known (codes " ") refl refl))
          (part_of_word kind k.word);
      kept = refl;
      short = omega arith;
    }

-- where the kind is found
device_found : (h : Preamble) (done : List Device) (name kind : List ℕ) (place : ℕ) → schema_place (preamble_alone h) kind ≡ Some place
    → or_rule (schema_place (at_devices h done) kind) rule.Unknown (λ n. Ok (with_device (at_devices h done) name n)) ≡ Ok (at_devices h (done ++ new_device name place ∷ []))
device_found h done name kind place placed =
    ap (λ (o : Option ℕ). or_rule o rule.Unknown (λ n. Ok (with_device (at_devices h done) name n))) placed
    ∙ ap (λ (ns : List (List ℕ)). Ok (record (at_devices h (done ++ new_device name place ∷ [])) { names = ns })) (sym (names_behind done (new_device name place)))

pub device_read : (h : Preamble) (done : List Device) (name kind : List ℕ) (place : ℕ) (rest : List (List ℕ)) → IsLawfulName name → IsLawfulName kind
    → schema_place (preamble_alone h) kind ≡ Some place → is_among (names_of done) name ≡ false → length done < MOST_DEVICES
    → after_text (at_devices h done) (device_line name kind) rest ≡ Ok (at_devices h (done ++ new_device name place ∷ []))
unfolding after_text declaration keyword_of after_device
device_read h done name kind place rest l k placed new room =
    let ident = l.identifier in
    let short = l.short in
    let kind_ident = k.identifier in
    let kind_short = k.short in
    let size = names_size done in
    let few : nat_le MOST_DEVICES (length (names_of done)) ≡ false = lt-leb MOST_DEVICES (length (names_of done)) (omega arith) in
    ap (λ (x : List ℕ). device_words (at_devices h done) (cut_at 32 x)) (append_assoc name (codes " ") kind)
    ∙ ap (device_words (at_devices h done)) (cut_word name kind l.word)
    ∙ rw ident (rw kind_ident (rw short (rw kind_short (rw new (rw few (device_found h done name kind place placed))))))

pub base_text : (name : List ℕ) (put : Put) → IsLawfulName name → IsLawfulAt put.path put.item → IsText (base_line name put)
base_text name put l at =
    let item = item_text put.path put.item in
    let one = length-append (codes "base ") name in
    let two = length-append (codes "base " ++ name) (codes " ") in
    let three = length-append (codes "base " ++ name ++ codes " ") item in
    let size = l.size in
    let most = item_short put.path put.item at in
    record {
      part = part_append (codes "base " ++ name ++ codes " ") item
          (part_append (codes "base " ++ name) (codes " ") (part_append (codes "base ") name (part_known (codes "base ") refl refl) (part_of_word name l.word)) (part_known (codes " ") refl refl))
          (part_of_item put.path put.item at);
      kept = refl;
      short = omega arith;
    }

pub base_read : (h : Preamble) (done : List Device) (d : Device) (put : Put) (rest : List (List ℕ)) (s : SchemaTable) → IsLawfulName d.name → is_among (names_of done) d.name ≡ false
    → schema_named h.schemas (done ++ d ∷ []) d.name ≡ s → is_put s put ≡ true → after_text (at_devices h (done ++ d ∷ [])) (base_line d.name put) rest ≡ Ok (at_devices h (done ++ based d put ∷ []))
unfolding after_text declaration keyword_of after_base
base_read h done d put rest s l new own at =
    let now = at_devices h (done ++ d ∷ []) in
    let item = item_text put.path put.item in
    let ident = l.identifier in
    let short = l.short in
    let reads = item_again None s put.path put.item at refl in
    let place = place_behind_all done d new in
    ap (λ (x : List ℕ). base_words now (cut_at 32 x)) (append_assoc d.name (codes " ") item)
    ∙ ap (base_words now) (cut_word d.name item l.word)
    ∙ rw ident (rw short (rw own (rw reads (rw place refl))))
    ∙ changed_declared h done d (based d put) (with_base (length done) put (done ++ d ∷ [])) refl (changed_last done (λ (e : Device). based e put) d)

-- rules

-- what is known of a list, and the most entries that it may have
record IsLimit (s : SchemaTable) (limit : List PathStep × ℕ) : Type 0 where
  pub list : is_list_path s limit.0 ≡ true
  pub number : limit.1 < 2 ^ 64
  pub word : IsWord (path_text limit.0)
  pub size : length (path_text limit.0) ≤ PATH_LEN

max_known : (s : SchemaTable) (limit : List PathStep × ℕ) → is_max_rule s limit ≡ true → IsLimit s limit
max_known s limit h =
    let p = limit.0 in
    let parts = and_parts (is_list_path s p) (nat_lt limit.1 (2 ^ 64)) h in
    let four = and_parts (is_path p && not (is_long_path p) && nat_lt 0 (length p) && not (ends_in_keys p)) (s.plain || (stand s [] (take (length p - 1) p) && (are_canonical_steps s [] p && has_entries (node_at s (path_names p))))) parts.0 in
    let three = and_parts (is_path p && not (is_long_path p) && nat_lt 0 (length p)) (not (ends_in_keys p)) four.0 in
    let two = and_parts (is_path p && not (is_long_path p)) (nat_lt 0 (length p)) three.0 in
    let one = and_parts (is_path p) (not (is_long_path p)) two.0 in
    record {
      list = parts.0;
      number = ltb-true limit.1 (2 ^ 64) parts.1;
      word = word_of_path p one.0;
      size = path_short p (untrue (is_long_path p) one.1);
    }

pub max_text : (s : SchemaTable) (name : List ℕ) (limit : List PathStep × ℕ) → IsLawfulName name → is_max_rule s limit ≡ true → IsText (max_line name limit)
max_text s name limit l at =
    let path = path_text limit.0 in
    let count = decimal limit.1 in
    let k = max_known s limit at in
    let size = l.size in
    let most = k.size in
    let digits = number_short limit.1 k.number in
    let one = length-append (codes "rule ") name in
    let two = length-append (codes "rule " ++ name) (codes " max ") in
    let three = length-append (codes "rule " ++ name ++ codes " max ") path in
    let four = length-append (codes "rule " ++ name ++ codes " max " ++ path) (codes " ") in
    let five = length-append (codes "rule " ++ name ++ codes " max " ++ path ++ codes " ") count in
    record {
      part = part_append (codes "rule " ++ name ++ codes " max " ++ path ++ codes " ") count
          (part_append (codes "rule " ++ name ++ codes " max " ++ path) (codes " ")
          (part_append (codes "rule " ++ name ++ codes " max ") path
          (part_append (codes "rule " ++ name) (codes " max ") (part_append (codes "rule ") name (part_known (codes "rule ") refl refl) (part_of_word name l.word)) (part_known (codes " max ") refl refl))
          (part_of_word path k.word)) (part_known (codes " ") refl refl))
          (part_of_word count (word_of_number limit.1 k.number));
      kept = refl;
      short = omega arith;
    }

max_made : (h : Preamble) (done : List Device) (d : Device) (limit : List PathStep × ℕ) (s : SchemaTable) → IsLawfulName d.name → is_among (names_of done) d.name ≡ false
    → schema_named h.schemas (done ++ d ∷ []) d.name ≡ s → is_max_rule s limit ≡ true → after_max (at_devices h (done ++ d ∷ [])) d.name (path_text limit.0 ++ 32 ∷ decimal limit.1) ≡ Ok (at_devices h (done ++ limited d limit ∷ []))
unfolding after_max
max_made h done d limit s l new own at =
    let now = at_devices h (done ++ d ∷ []) in
    let k = max_known s limit at in
    let short = l.short in
    let number = number_again limit.1 k.number in
    let reads = list_path_again s limit.0 k.list in
    let place = place_behind_all done d new in
    ap (max_words now d.name) (cut_word (path_text limit.0) (decimal limit.1) k.word)
    ∙ rw number (rw short (rw own (rw reads (rw place refl))))
    ∙ changed_declared h done d (limited d limit) (with_max (length done) limit (done ++ d ∷ [])) refl (changed_last done (λ (e : Device). limited e limit) d)

pub max_read : (h : Preamble) (done : List Device) (d : Device) (limit : List PathStep × ℕ) (rest : List (List ℕ)) (s : SchemaTable) → IsLawfulName d.name → is_among (names_of done) d.name ≡ false
    → schema_named h.schemas (done ++ d ∷ []) d.name ≡ s → is_max_rule s limit ≡ true → after_text (at_devices h (done ++ d ∷ [])) (max_line d.name limit) rest ≡ Ok (at_devices h (done ++ limited d limit ∷ []))
unfolding after_text declaration keyword_of after_rule
max_read h done d limit rest s l new own at =
    let now = at_devices h (done ++ d ∷ []) in
    let name = d.name in
    let path = path_text limit.0 in
    let count = decimal limit.1 in
    let body = path ++ 32 ∷ count in
    ap (λ (x : List ℕ). rule_line now (cut_at 32 x))
    (append_assoc (name ++ codes " max " ++ path) (codes " ") count ∙ append_assoc (name ++ codes " max ") path (32 ∷ count) ∙ append_assoc name (codes " max ") body)
    ∙ ap (rule_line now) (cut_word name (codes "max " ++ body) l.word)
    ∙ ap (λ (b : Bool). cond (not b) (Err rule.Line) (after_max now name body)) l.identifier
    ∙ max_made h done d limit s l new own at

pub forbid_text : (s : SchemaTable) (name : List ℕ) (leaf : List PathStep × List ℕ) → IsLawfulName name → is_forbid_rule s leaf ≡ true → IsText (forbid_line name leaf)
forbid_text s name leaf l at =
    let item = item_text leaf.0 (Leaf leaf.1) in
    let lawful = lawful_under s leaf.0 (Leaf leaf.1) at in
    let size = l.size in
    let most = item_short leaf.0 (Leaf leaf.1) lawful in
    let one = length-append (codes "rule ") name in
    let two = length-append (codes "rule " ++ name) (codes " forbid ") in
    let three = length-append (codes "rule " ++ name ++ codes " forbid ") item in
    record {
      part = part_append (codes "rule " ++ name ++ codes " forbid ") item
          (part_append (codes "rule " ++ name) (codes " forbid ") (part_append (codes "rule ") name (part_known (codes "rule ") refl refl) (part_of_word name l.word)) (part_known (codes " forbid ") refl refl))
          (part_of_item leaf.0 (Leaf leaf.1) lawful);
      kept = refl;
      short = omega arith;
    }

forbid_made : (h : Preamble) (done : List Device) (d : Device) (leaf : List PathStep × List ℕ) (s : SchemaTable) → IsLawfulName d.name → is_among (names_of done) d.name ≡ false
    → schema_named h.schemas (done ++ d ∷ []) d.name ≡ s → is_forbid_rule s leaf ≡ true → after_forbid (at_devices h (done ++ d ∷ [])) d.name (item_text leaf.0 (Leaf leaf.1)) ≡ Ok (at_devices h (done ++ barred d leaf ∷ []))
unfolding after_forbid
forbid_made h done d leaf s l new own at =
    let short = l.short in
    let reads = forbidden_again s leaf.0 leaf.1 at in
    let place = place_behind_all done d new in
    rw short (rw own (rw reads (rw place refl)))
    ∙ changed_declared h done d (barred d leaf) (with_forbid (length done) leaf (done ++ d ∷ [])) refl (changed_last done (λ (e : Device). barred e leaf) d)

pub forbid_read : (h : Preamble) (done : List Device) (d : Device) (leaf : List PathStep × List ℕ) (rest : List (List ℕ)) (s : SchemaTable) → IsLawfulName d.name → is_among (names_of done) d.name ≡ false
    → schema_named h.schemas (done ++ d ∷ []) d.name ≡ s → is_forbid_rule s leaf ≡ true → after_text (at_devices h (done ++ d ∷ [])) (forbid_line d.name leaf) rest ≡ Ok (at_devices h (done ++ barred d leaf ∷ []))
unfolding after_text declaration keyword_of after_rule
forbid_read h done d leaf rest s l new own at =
    let now = at_devices h (done ++ d ∷ []) in
    let name = d.name in
    let item = item_text leaf.0 (Leaf leaf.1) in
    ap (λ (x : List ℕ). rule_line now (cut_at 32 x)) (append_assoc name (codes " forbid ") item)
    ∙ ap (rule_line now) (cut_word name (codes "forbid " ++ item) l.word)
    ∙ ap (λ (b : Bool). cond (not b) (Err rule.Line) (after_forbid now name item)) l.identifier
    ∙ forbid_made h done d leaf s l new own at

-- data

pub data_text : (s : SchemaTable) (put : Put) → is_data_item s put ≡ true → IsText (data_line put)
data_text s put at =
    let item = item_text put.path put.item in
    let lawful = lawful_under s put.path put.item (and_parts (is_put s put) (not (is_kept put.path)) at).0 in
    let most = item_short put.path put.item lawful in
    let one = length-append (codes "data ") item in
    record { part = part_append (codes "data ") item (part_known (codes "data ") refl refl) (part_of_item put.path put.item lawful); kept = refl; short = omega arith }

-- an item of the data that a line may name
pub data_again : (lists : List ServiceList) (s : SchemaTable) (put : Put) → is_data_item s put ≡ true → is_served lists put.path ≡ false
    → put_of (Some lists) s false (item_text put.path put.item) ≡ Ok put
data_again lists s put at apart =
    let parts = and_parts (is_put s put) (not (is_kept put.path)) at in
    item_again (Some lists) s put.path put.item parts.0 (or_from (is_kept put.path) (is_served lists put.path) (untrue (is_kept put.path) parts.1) apart)

pub data_read : (h : Preamble) (devices : List Device) (before : List Put) (put : Put) (rest : List (List ℕ)) → is_data_item h.data_schema put ≡ true → is_served h.services put.path ≡ false
    → after_text (at_data h devices before) (data_line put) rest ≡ Ok (at_data h devices (before ++ put ∷ []))
unfolding after_text declaration keyword_of after_data
data_read h devices before put rest at apart =
    ap (λ (r : Result Put Rule). on_ok r (λ p. Ok (record (at_data h devices before) { «data» = before ++ p ∷ [] }))) (data_again h.services h.data_schema put at apart)
