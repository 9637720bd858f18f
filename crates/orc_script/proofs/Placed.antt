-- The name at the place of a name, and a step that names a device with a type.
use Rattle.std.proofs.Common.{◌≡◌, ◌+◌, ℕ, suc, List, [], ◌∷◌, ◌++◌, Bool, true, false, not, cond, ◌||◌, nat_lt, is_some, length, Some, None, refl, ap, sym, ◌∙◌, subst, lt-ltb}
use Rattle.std.specs.List.{position_or_len}
use Rattle.std.proofs.lemmas.Bool.{and_from}
use Rattle.std.specs.Cmp.Lexicographic.{bytes_decides}
use Rattle.orc_decls.specs.Calls.{schema_named}
use Rattle.orc_decls.specs.Devices.{is_same_text, name_of}
use Rattle.orc_decls.specs.declared.declarations.Decls.{Decls}
use Rattle.orc_script.specs.Steps.{is_step}
use Rattle.orc_path.specs.Steps.{PathStep}
use Rattle.orc_lines.specs.Names.{is_among, place_of}
use Rattle.orc_lines.specs.declared.keyword.Keyword.{Keyword}
use Rattle.orc_lines.specs.declared.keyword.Keyword.TheVariants as keyword
use Rattle.orc_script.specs.Places.{is_node_path}
use Rattle.orc_script.specs.Scripts.{step_on_device}
use Rattle.orc_script.specs.declared.step.ScriptStep.{ScriptStep}
use Rattle.orc_script.specs.declared.step.ScriptStep.TheVariants.{Json, Meta}
use Rattle.orc_script.specs.declared.script.Part.{Part}
use Rattle.orc_script.specs.declared.script.Part.TheVariants as part
use Rattle.orc_script.specs.declared.script.Script.{Script}
use Rattle.orc_script.specs.inside.Lawful.{AreSteps, is_open}
use Rattle.orc_lines.proofs.Lawful.{all_more}
use Rattle.orc_lines.proofs.SchemaPlaces.{no_some, one_more, place_within, some_first, some_same, within_more}

-- a name has a place exactly where it is among them
place_passes : (name : List ℕ) (ns : List (List ℕ)) → nat_lt (position_or_len (is_same_text name) ns) (length ns) ≡ is_among ns name
place_passes name [] = refl
place_passes name (x ∷ ns) = on (is_same_text name x) (place_passes name ns) where
  k : ℕ
  k = position_or_len (is_same_text name) ns

  m : ℕ
  m = length ns

  on : (b : Bool) → nat_lt k m ≡ is_among ns name → nat_lt (cond (not b) (1 + k) 0) (suc m) ≡ (b || is_among ns name)
  on true h = some_first m
  on false h = within_more k m ∙ h

pub place_found : (name : List ℕ) (ns : List (List ℕ)) → is_some (place_of ns name) ≡ is_among ns name
place_found name ns = on (nat_lt k (length ns)) ∙ place_passes name ns where
  k : ℕ
  k = position_or_len (is_same_text name) ns

  on : (t : Bool) → is_some (cond t (Some k) None) ≡ t
  on true = refl
  on false = refl

-- at the place of a name stands that name
pub placed_name : (name : List ℕ) (ns : List (List ℕ)) (n : ℕ) → place_of ns name ≡ Some n → name_of ns n ≡ name
placed_name name [] n h = absurd (no_some n h)
placed_name name (x ∷ ns) n h = on (is_same_text name x) refl (placed_name name ns k) h where
  k : ℕ
  k = position_or_len (is_same_text name) ns

  m : ℕ
  m = length ns

  all : List (List ℕ)
  all = x ∷ ns

  behind : (t : Bool) → nat_lt k m ≡ t → (place_of ns name ≡ Some k → name_of ns k ≡ name) → cond t (Some (1 + k)) None ≡ Some n → name_of all n ≡ name
  behind true is rest h =
      let same = some_same (1 + k) n h in
      subst (λ (i : ℕ). name_of all i ≡ name) (sym (one_more k) ∙ same) (rest (ap (λ (t : Bool). cond t (Some k) None) is))
  behind false is rest h = absurd (no_some n h)

  on : (b : Bool) → is_same_text name x ≡ b → (place_of ns name ≡ Some k → name_of ns k ≡ name)
      → cond (nat_lt (cond (not b) (1 + k) 0) (suc m)) (Some (cond (not b) (1 + k) 0)) None ≡ Some n → name_of all n ≡ name
  on true is rest h =
      let same = some_same 0 n (sym (ap (λ (t : Bool). cond t (Some 0) None) (some_first m)) ∙ h) in
      subst (λ (i : ℕ). name_of all i ≡ name) same (sym ((bytes_decides name x).0 is))
  on false is rest h = behind (nat_lt k m) refl rest (sym (ap (λ (t : Bool). cond t (Some (1 + k)) None) (within_more k m)) ∙ h)

-- a device that has a type may be named by a step `json`
pub typed_step : (d : Decls) (name : List ℕ) (n : ℕ) → place_of d.names name ≡ Some n → (schema_named d.schemas d.devices name).plain ≡ false
    → is_step d (Json n) ≡ true
typed_step d name n placed typed =
    and_from (nat_lt n (length d.names)) (not (schema_named d.schemas d.devices (name_of d.names n)).plain)
    (lt-ltb n (length d.names) (place_within d.names name n placed))
    (ap (λ (x : List ℕ). not (schema_named d.schemas d.devices x).plain) (placed_name name d.names n placed) ∙ ap not typed)

-- a path that a device may have can be named by a step `meta`
pub node_step : (d : Decls) (name : List ℕ) (n : ℕ) (path : List PathStep) → place_of d.names name ≡ Some n
    → is_node_path (schema_named d.schemas d.devices name) path ≡ true → is_step d (Meta n path) ≡ true
node_step d name n path placed is =
    and_from (nat_lt n (length d.names)) (is_node_path (schema_named d.schemas d.devices (name_of d.names n)) path)
    (lt-ltb n (length d.names) (place_within d.names name n placed))
    (ap (λ (x : List ℕ). is_node_path (schema_named d.schemas d.devices x) path) (placed_name name d.names n placed) ∙ is)

-- a declared device can be named by a step that names nothing more
pub on_device_step : (d : Decls) (word : Keyword) (name : List ℕ) (n : ℕ) → place_of d.names name ≡ Some n → is_step d (step_on_device word n) ≡ true
on_device_step d keyword.Step name n placed = lt-ltb n (length d.names) (place_within d.names name n placed)
on_device_step d keyword.Restart name n placed = lt-ltb n (length d.names) (place_within d.names name n placed)
on_device_step d keyword.Log name n placed = lt-ltb n (length d.names) (place_within d.names name n placed)
on_device_step d _ name n placed = lt-ltb n (length d.names) (place_within d.names name n placed)

-- a step more
pub step_more : (decls : Decls) (most : ℕ) (s : Script) (step : ScriptStep) (steps : List ScriptStep) → AreSteps decls most s → is_step decls step ≡ true
    → steps ≡ s.steps ++ step ∷ [] → AreSteps decls most (record s { steps = steps })
step_more decls most s step steps h lawful grown = subst (λ (all : List ScriptStep). AreSteps decls most (record s { steps = all })) (sym grown) (record {
  steps = all_more (is_step decls) s.steps step h.steps lawful;
  call = on s.part h.call;
  few = h.few;
}) where
  t : Script
  t = record s { steps = s.steps ++ step ∷ [] }

  on : (p : Part) → is_open decls s p ≡ true → is_open decls t p ≡ true
  on part.Steps h = refl
  on part.Call h = h
  on part.Literal h = h
