-- The spellings of a bundle are read as that bundle.
use Rattle.std.proofs.Common.{◌≡◌, ℕ, ◌≤◌, ◌+◌, Bool, true, false, not, cond, List, [], ◌∷◌, ◌++◌, codes, length, length-append, map, take, refl, ap, ap₂, sym, ◌∙◌, subst, arith, append_assoc, append-nil, ◌&&◌, nat_eq, nat_lt, Result, Ok, Err, Option, None}
use Rattle.std.specs.List.{IsDistinct, concat, flat_map, list_all}
use Rattle.std.specs.Option.{is_none}
use Rattle.std.proofs.lemmas.Bool.{and_parts, and_from}
use Rattle.std.proofs.lemmas.List.{take_all}
use Rattle.std.proofs.Math.Seq.{take-append_seam}
use Rattle.orc_call.specs.declared.call.Put.{Put}
use Rattle.orc_check.specs.Validity.{Breach, broken_of}
use Rattle.orc_decls.specs.Devices.{is_same_text, names_of}
use Rattle.orc_decls.specs.Openings.{opening_data}
use Rattle.orc_schema_nodes.specs.Schemas.{SchemaTable, plain_table}
use Rattle.orc_decls.specs.Calls.{is_data_item, is_served, is_device, is_device_under, is_lawful_name, schema_in}
use Rattle.orc_decls.specs.Declarations.{accepts_base}
use Rattle.orc_decls.specs.declared.declarations.Decls.{Decls}
use Rattle.orc_decls.specs.declared.declarations.Device.{Device}
use Rattle.orc_decls.specs.declared.declarations.TheConstants.{MOST_DEVICES}
use Rattle.orc_decls.specs.declared.rule.Rule.{Rule}
use Rattle.orc_decls.specs.declared.rule.Rule.TheVariants as rule
use Rattle.orc_declarations.specs.Declarations.{Front, declarations_of, is_script, built_in_schema, is_opening, nothing_declared, taken_by}
use Rattle.orc_declarations.specs.Bundles.{decls_of}
use Rattle.orc_bundle.specs.Bundles.{IsScripted, header_rule, scripted_of}
use Rattle.orc_lines.specs.Lines.{lacks_header, as_line, lines_of, seen, text_of}
use Rattle.orc_script.specs.Scripts.{script_steps, no_steps}
use Rattle.orc_lines.specs.Keywords.{keyword_of}
use Rattle.orc_bundle_laws.specs.Laws.{FollowPreamble, ArePlain, Preamble, IsPreamble, SpelledIsRead, WrittenIsRead, preamble_alone, is_kind}
use Rattle.orc_lines.specs.Rules.{on_ok}
use Rattle.orc_template.specs.Devices.{DeviceTable}
use Rattle.orc_services.specs.declared.list.ServiceList.{ServiceList}
use Rattle.orc_bundle_laws.specs.Written.{AreLinesOf, IsLineOf, IsSpelling, no_json, bundle_text, data_line, declared_lines, device_lines, none, one, plain_kind, script_lines, text_of_lines}
use Rattle.orc_bundle.specs.declared.scripted.ScriptedBundle.{ScriptedBundle}
use Rattle.orc_script.specs.declared.step.ScriptStep.{ScriptStep}
use Rattle.orc_lines.specs.declared.lines.TheConstants.{LARGEST_BUNDLE}
use Rattle.orc_lines.specs.declared.declared.Declared.{Declared}
use Rattle.orc_lines.specs.declared.declared.Section.TheVariants as section
use Rattle.orc_bundle_laws.proofs.Texts.{part_known}
use Rattle.orc_bundle_laws.proofs.WrittenBases.{AreKnown, data_lines_read, devices_read, known_devices}
use Rattle.orc_bundle_laws.proofs.WrittenCalls.{AreNamed}
use Rattle.orc_bundle_laws.proofs.WrittenDeclarations.{Fronts, declared_by_text, script_line}
use Rattle.orc_bundle_laws.proofs.Bytes.{bytes_behind, bytes_of}
use Rattle.orc_bundle_laws.proofs.WrittenDevices.{at_data, bare_preamble, header_read}
use Rattle.orc_bundle_laws.proofs.WrittenPreamble.{head_read, header_kept}
use Rattle.orc_bundle_laws.proofs.Wholes.{line_by_line, read_on, scripted_in}
use Rattle.orc_bundle_laws.proofs.WrittenLines.{IsText, lines_of_joined, plain_line, plain_lines}
use Rattle.orc_bundle_laws.proofs.WrittenSteps.{steps_read}
use Rattle.orc_bundle_laws.proofs.WrittenTexts.{clean_append, data_clean, devices_clean, is_clean, steps_clean, steps_spell}

-- lines and their bytes

bytes_joined : (ls : List (List ℕ)) → bytes_of ls ≡ length (concat ls)
bytes_joined [] = refl
bytes_joined (l ∷ ls) = let more = bytes_joined ls in let joined = length-append l (concat ls) in omega arith

concat_joined : (a b : List (List ℕ)) → concat (a ++ b) ≡ concat a ++ concat b
concat_joined [] b = refl
concat_joined (l ∷ ls) b = ap (λ (x : List ℕ). l ++ x) (concat_joined ls b) ∙ sym (append_assoc l (concat ls) (concat b))

names_lawful : (schemas : List SchemaTable) (ds : List Device) → list_all (is_device schemas) ds ≡ true → list_all is_lawful_name (names_of ds) ≡ true
names_lawful schemas [] h = refl
names_lawful schemas (d ∷ ds) h =
    let both = and_parts (is_device schemas d) (list_all (is_device schemas) ds) h in
    let front = and_parts (is_lawful_name d.name && nat_lt d.schema (length schemas)) (is_device_under (schema_in schemas d.schema) d) both.0 in
    and_from _ _ (and_parts (is_lawful_name d.name) (nat_lt d.schema (length schemas)) front.0).0 (names_lawful schemas ds both.1)

-- the declarations

abbrev in_script : Preamble → List Device → List Put → Declared
in_script h devices puts = record (at_data h devices puts) { section = section.Script }

declarations_read : (h : Preamble) (kind : ℕ → List ℕ) (decls : Decls) (line : List ℕ) (later : List (List ℕ)) → IsLineOf (codes "script") line
    → IsDistinct is_same_text (names_of decls.devices) → length decls.devices ≤ MOST_DEVICES → AreKnown h kind decls.devices
    → list_all (is_data_item h.data_schema) decls.data ≡ true → list_all (λ (put : Put). not (is_served h.services put.path)) decls.data ≡ true → is_opening (at_data h decls.devices decls.data) ≡ true
    → Fronts (preamble_alone h) (declared_lines kind decls) (in_script h decls.devices decls.data) line later
declarations_read h kind decls line later script distinct few known items apart opens =
    let devices = decls.devices in
    let puts = decls.data in
    let e = in_script h devices puts in
    let lines = map data_line puts in
    let front = script_line (at_data h devices puts) line later refl refl opens script in
    let found = devices_read h e line later kind [] devices (lines ++ []) distinct few known (data_lines_read h e line later devices [] puts [] items apart front) in
    subst (λ (ts : List (List ℕ)). Fronts (preamble_alone h) ts e line later) (ap (λ (ts : List (List ℕ)). flat_map (device_lines kind) devices ++ ts) (append-nil lines)) found

-- what is known of a bundle after its head
module _ (b : ScriptedBundle) (h : Preamble) (kind : ℕ → List ℕ) (is : IsScripted b) (under : FollowPreamble h kind b.decls) where
  devices_good : list_all (is_device h.schemas) b.decls.devices ≡ true
  devices_good = subst (λ (ss : List SchemaTable). list_all (is_device ss) b.decls.devices ≡ true) under.types is.decls.devices

  pub devices_known : AreKnown h kind b.decls.devices
  devices_known = known_devices h kind b.decls.devices devices_good under.kinds

  pub items_good : list_all (is_data_item h.data_schema) b.decls.data ≡ true
  items_good = subst (λ (s : SchemaTable). list_all (is_data_item s) b.decls.data ≡ true) under.data_model is.decls.items

  pub items_apart : list_all (λ (put : Put). not (is_served h.services put.path)) b.decls.data ≡ true
  items_apart = subst (λ (lists : List ServiceList). list_all (λ (put : Put). not (is_served lists put.path)) b.decls.data ≡ true) under.services is.decls.served

  pub named : AreNamed b.decls
  named = record {
    lawful = subst (λ (ns : List (List ℕ)). list_all is_lawful_name ns ≡ true) (sym is.decls.named) (names_lawful h.schemas b.decls.devices devices_good);
    named = is.decls.named;
  }

  -- the table of its devices, of these names and schemas
  abbrev pub table_with : List (List ℕ) → List SchemaTable → DeviceTable
  table_with ns ss = record { names = ns; schemas = ss; of = map (λ (d : Device). d.schema) b.decls.devices }

  -- its devices and data with other parts
  abbrev pub declared_as : List ℕ → List (List ℕ) → List SchemaTable → SchemaTable → List ServiceList → DeviceTable → Decls
  declared_as text ns ss s lists table =
      record { text = text; names = ns; schemas = ss; devices = b.decls.devices; data_schema = s; «data» = b.decls.data; services = lists; table = table }

  -- the opening data is valid, and each device accepts its base
  pub opens : is_opening (at_data h b.decls.devices b.decls.data) ≡ true
  opens =
      let valid : broken_of h.data_schema (opening_data (names_of b.decls.devices) b.decls.data) ≡ None =
      subst (λ (ns : List (List ℕ)). broken_of h.data_schema (opening_data ns b.decls.data) ≡ None) is.decls.named
      (subst (λ (s : SchemaTable). broken_of s (opening_data b.decls.names b.decls.data) ≡ None) under.data_model is.decls.valid) in
      and_from (is_none (broken_of h.data_schema (opening_data (names_of b.decls.devices) b.decls.data))) (list_all (accepts_base h.schemas) b.decls.devices)
      (ap (λ (o : Option Breach). is_none o) valid)
      (subst (λ (ss : List SchemaTable). list_all (accepts_base ss) b.decls.devices ≡ true) under.types is.decls.accepted)

module _ (b : ScriptedBundle) (h : Preamble) (kind : ℕ → List ℕ) (json : List ℕ → List Put → List ℕ) (head front : List (List ℕ)) (line : List ℕ) (later : List (List ℕ)) (is : IsScripted b) (starts : IsPreamble h head) (under : FollowPreamble h kind b.decls) (w : IsSpelling b kind json head front line later) where
  abbrev bytes : List ℕ
  bytes = concat (head ++ front ++ line ∷ later)

  -- the lines after the preamble
  abbrev rest : List (List ℕ)
  rest = front ++ line ∷ later

  abbrev size : ℕ
  size = 0 + bytes_of head + bytes_of front

  -- the line `script` and what stands after it are lines too
  behind : AreLinesOf (codes "script" ∷ script_lines json b.decls.names b.steps) (line ∷ later)
  behind = one (codes "script") line (script_lines json b.decls.names b.steps) later w.script w.steps

  rest_lines : lines_of (concat front ++ concat (line ∷ later)) ≡ rest
  rest_lines =
      lines_of_joined (declared_lines kind b.decls) front (concat (line ∷ later)) w.declared
      ∙ ap (λ (x : List ℕ). front ++ lines_of x) (sym (append-nil (concat (line ∷ later))))
      ∙ ap (λ (ls : List (List ℕ)). front ++ ls) (lines_of_joined (codes "script" ∷ script_lines json b.decls.names b.steps) (line ∷ later) [] behind ∙ append-nil (line ∷ later))

  lines_are : lines_of bytes ≡ head ++ rest
  lines_are =
      ap lines_of (concat_joined (head ++ front) (line ∷ later) ∙ ap (λ (x : List ℕ). x ++ concat (line ∷ later)) (concat_joined head front) ∙ append_assoc (concat head) (concat front) (concat (line ∷ later)))
      ∙ lines_of_joined (map text_of head) head (concat front ++ concat (line ∷ later)) starts.ended
      ∙ ap (λ (ls : List (List ℕ)). head ++ ls) rest_lines

  -- how many bytes there are
  all_bytes : length bytes ≡ bytes_of head + (bytes_of front + bytes_of (line ∷ later))
  all_bytes =
      let whole = bytes_joined (head ++ front ++ line ∷ later) in
      let one = bytes_behind (head ++ front) (line ∷ later) in
      let two = bytes_behind head front in omega arith

  within : 0 + bytes_of head + bytes_of rest ≤ LARGEST_BUNDLE
  within = let small = w.small in let all = all_bytes in let more = bytes_behind front (line ∷ later) in omega arith

  found : (k : ℕ) × (declarations_of (preamble_alone h) (0 + bytes_of head) (0 + length head) rest
      ≡ Ok (record { declared = in_script h b.decls.devices b.decls.data; size = size; at = size + length line; number = k; later = later }))
  found =
      declarations_read h kind b.decls line later w.script (subst (λ (ns : List (List ℕ)). IsDistinct is_same_text ns) is.decls.named is.decls.distinct) is.decls.few (devices_known b h kind is under)
      (items_good b h kind is under) (items_apart b h kind is under) (opens b h kind is under)
      front w.declared (0 + bytes_of head) (0 + length head) within

  abbrev parted : Front
  parted = record { declared = in_script h b.decls.devices b.decls.data; size = size; at = size + length line; number = found.0; later = later }

  declared : declarations_of nothing_declared 0 0 (lines_of bytes) ≡ Ok parted
  declared =
      let small = within in
      ap (declarations_of nothing_declared 0 0) lines_are
      ∙ head_read nothing_declared (preamble_alone h) 0 0 head rest refl starts.whole (omega arith) starts.read
      ∙ found.1

  script_is : script_steps b.decls no_steps (size + length line) found.0 later ≡ Ok b.steps
  script_is =
      let few = is.few in
      let small = within in
      let more = bytes_behind front (line ∷ later) in
      steps_read json b.decls (named b h kind is under) is.decls.distinct [] [] b.steps 0 is.steps w.bodies (omega arith) is.callers later w.steps (size + length line) found.0 (omega arith)

  text_kept : take size bytes ≡ b.decls.text
  text_kept =
      let front_size = bytes_joined (head ++ front) in
      let two = bytes_behind head front in
      let same : size ≡ length (concat (head ++ front)) = omega arith in
      ap₂ (λ (n : ℕ) (x : List ℕ). take n x) same (concat_joined (head ++ front) (line ∷ later)) ∙ take-append_seam (concat (head ++ front)) (concat (line ∷ later)) ∙ sym w.text

  -- the header is no line that is skipped
  has_header : lacks_header (lines_of bytes) ≡ false
  has_header = ap lacks_header lines_are ∙ header_kept head rest starts.header

  all_seen : seen bytes ≡ bytes
  all_seen = take_all (LARGEST_BUNDLE + 1) bytes (let small = w.small in omega arith)

  -- the declarations that are read are those of the bundle
  decls_are : decls_of bytes parted ≡ b.decls
  decls_are =
      ap₂ (λ (text : List ℕ) (ns : List (List ℕ)). declared_as b h kind is under text ns h.schemas h.data_schema h.services (table_with b h kind is under ns h.schemas)) text_kept (sym is.decls.named)
      ∙ ap₂ (λ (ss : List SchemaTable) (s : SchemaTable). declared_as b h kind is under b.decls.text b.decls.names ss s h.services (table_with b h kind is under b.decls.names ss)) (sym under.types) (sym under.data_model)
      ∙ ap₂ (λ (lists : List ServiceList) (table : DeviceTable). declared_as b h kind is under b.decls.text b.decls.names b.decls.schemas b.decls.data_schema lists table) (sym under.services) (sym is.decls.table)

  pub again : scripted_of bytes ≡ Ok b
  again =
      line_by_line bytes
      ∙ ap (λ (x : List ℕ). scripted_in x (lines_of x)) all_seen
      ∙ ap (λ (none : Bool). cond none (Err (1, header_rule (lines_of bytes))) (on_ok (declarations_of nothing_declared 0 0 (lines_of bytes)) (read_on bytes))) has_header
      ∙ ap (λ (r : Result Front (ℕ × Rule)). on_ok r (read_on bytes)) declared
      ∙ ap (λ (d : Decls). on_ok (script_steps d no_steps (size + length line) found.0 later) (λ (steps : List ScriptStep). Ok (record { decls = d; steps = steps }))) decls_are
      ∙ ap (λ (r : Result (List ScriptStep) (ℕ × Rule)). on_ok r (λ (steps : List ScriptStep). Ok (record { decls = b.decls; steps = steps }))) script_is

pub spelled_is_read : SpelledIsRead
spelled_is_read b h kind json head front line later is starts under w = again b h kind json head front line later is starts under w

-- the plainest spelling

header_text : IsText (codes "orc 1")
header_text = record { part = part_known (codes "orc 1") refl refl; kept = refl; short = omega arith }

-- the header alone declares no modules
abbrev header_line : List ℕ
header_line = as_line (codes "orc 1")

header_is_line : IsLineOf (codes "orc 1") header_line
header_is_line = plain_line (codes "orc 1") refl

bare : IsPreamble bare_preamble (header_line ∷ [])
unfolding taken_by keyword_of
bare = record {
  ended = one (codes "orc 1") header_line [] [] header_is_line none;
  whole = refl;
  header = refl;
  read = ap (λ (r : Result Declared Rule). on_ok r (λ e. cond (is_script e.section) (Err rule.Line) (Ok e)))
      (declared_by_text nothing_declared 0 (codes "orc 1") header_line [] header_text header_is_line (omega arith) refl ∙ header_read []);
}

first_only : (n : ℕ) → nat_lt n 1 ≡ true → nat_eq n 0 ≡ true
first_only n h = grind arith

plain_kinds : (ds : List Device) → list_all (is_device (plain_table ∷ [])) ds ≡ true → list_all (is_kind bare_preamble plain_kind) ds ≡ true
plain_kinds [] h = refl
plain_kinds (d ∷ ds) h =
    let both = and_parts (is_device (plain_table ∷ []) d) (list_all (is_device (plain_table ∷ [])) ds) h in
    let front = and_parts (is_lawful_name d.name && nat_lt d.schema 1) (is_device_under (schema_in (plain_table ∷ []) d.schema) d) both.0 in
    and_from _ _ (first_only d.schema (and_parts (is_lawful_name d.name) (nat_lt d.schema 1) front.0).1) (plain_kinds ds both.1)

plainly : (b : ScriptedBundle) → IsScripted b → ArePlain b.decls → FollowPreamble bare_preamble plain_kind b.decls
plainly b is plain = record {
  types = plain.types;
  data_model = plain.data_model;
  services = plain.services;
  kinds = plain_kinds b.decls.devices (subst (λ (ss : List SchemaTable). list_all (is_device ss) b.decls.devices ≡ true) plain.types is.decls.devices);
}

declared_clean : (b : ScriptedBundle) → IsScripted b → FollowPreamble bare_preamble plain_kind b.decls → list_all is_clean (declared_lines plain_kind b.decls) ≡ true
declared_clean b is under =
    clean_append (flat_map (device_lines plain_kind) b.decls.devices) (map data_line b.decls.data)
    (devices_clean bare_preamble plain_kind b.decls.devices (devices_known b bare_preamble plain_kind is under))
    (data_clean built_in_schema b.decls.data (items_good b bare_preamble plain_kind is under))

joined_lines : (ts : List (List ℕ)) → concat (map as_line ts) ≡ text_of_lines ts
joined_lines [] = refl
joined_lines (t ∷ ts) = ap (λ (x : List ℕ). as_line t ++ x) (joined_lines ts)

pub written_is_read : WrittenIsRead
written_is_read b is plain text small =
    let names = b.decls.names in
    let head = header_line ∷ [] in
    let front = map as_line (declared_lines plain_kind b.decls) in
    let later = map as_line (script_lines no_json names b.steps) in
    let under = plainly b is plain in
    let declared = joined_lines (codes "orc 1" ∷ declared_lines plain_kind b.decls) in
    let bytes : concat (head ++ front ++ as_line (codes "script") ∷ later) ≡ bundle_text b =
    concat_joined (head ++ front) (as_line (codes "script") ∷ later)
    ∙ ap₂ (λ (x y : List ℕ). x ++ y) declared (joined_lines (codes "script" ∷ script_lines no_json names b.steps)) in
    subst (λ (x : List ℕ). scripted_of x ≡ Ok b) bytes
    (again b bare_preamble plain_kind no_json head front (as_line (codes "script")) later is bare under (record {
      declared = plain_lines (declared_lines plain_kind b.decls) (declared_clean b is under);
      script = plain_line (codes "script") refl;
      steps = plain_lines (script_lines no_json names b.steps)
          (steps_clean b.decls (named b bare_preamble plain_kind is under) plain.services b.steps is.steps);
      bodies = steps_spell b.decls (named b bare_preamble plain_kind is under) plain.services b.steps is.steps;
      text = text ∙ sym declared;
      small = subst (λ (x : List ℕ). length x ≤ LARGEST_BUNDLE) (sym bytes) small;
    }))
