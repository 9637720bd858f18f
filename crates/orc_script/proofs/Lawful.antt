-- The steps stay lawful.
use Rattle.std.proofs.Common.{◌≡◌, ◌≤◌, ◌+◌, ℕ, List, [], ◌∷◌, ◌++◌, Bool, true, false, not, cond, ◌&&◌, ◌||◌, nat_lt, length, Some, is_some, length-append, refl, ap, sym, ◌∙◌, subst, arith, IsTrue}
use Rattle.std.specs.List.{list_all}
use Rattle.std.specs.Cmp.{first_so, second_so}
use Rattle.std.proofs.lemmas.List.{length-map}
use Rattle.orc_decls.specs.declared.declarations.TheConstants.{MOST_DEVICES}
use Rattle.orc_call.specs.declared.call.TheConstants.{MOST_ACTIONS}
use Rattle.orc_path.specs.Steps.{PathStep}
use Rattle.orc_decls.specs.Calls.{is_service_among}
use Rattle.orc_call.specs.declared.call.DevicePut.{DevicePut}
use Rattle.orc_decls.specs.Devices.{is_same_text, names_of}
use Rattle.orc_decls.specs.Calls.{device_named, is_base_path, is_lawful_name, is_path_under, is_put, is_write, schema_named}
use Rattle.orc_decls.specs.declared.declarations.Decls.{Decls}
use Rattle.orc_decls.specs.declared.declarations.Device.{Device}
use Rattle.orc_lines.specs.Names.{is_among}
use Rattle.orc_decls.specs.Declarations.{AreDecls}
use Rattle.orc_script.specs.inside.Lawful.{AreSteps, are_begun, has_caller, is_literal_begun, is_open}
use Rattle.orc_script.specs.declared.script.Script.{Script}
use Rattle.orc_script.specs.declared.script.Part.{Part}
use Rattle.orc_script.specs.declared.script.Part.TheVariants as part
use Rattle.orc_lines.proofs.Lawful.{both, all_more}

-- one line more may hold one write more
pub more : (decls : Decls) (most : ℕ) (s : Script) → AreSteps decls most s → AreSteps decls (most + 1) s
more decls most s h = record { steps = h.steps; call = h.call; few = (let few = h.few in omega arith) }

-- devices and their names

-- a device of a name is declared exactly where the name is
pub named_same : (name : List ℕ) (ds : List Device) → is_some (device_named ds name) ≡ is_among (names_of ds) name
named_same name [] = refl
named_same name (d ∷ ds) = on (is_same_text name d.name) (named_same name ds) where
  on : (b : Bool) → is_some (device_named ds name) ≡ is_among (names_of ds) name
      → is_some (cond b (Some d) (device_named ds name)) ≡ (b || is_among (names_of ds) name)
  on true h = refl
  on false h = h

-- there are as few names as devices
pub few_names : (d : Decls) → AreDecls d → length d.names ≤ MOST_DEVICES
few_names d known = let all = ap length known.named ∙ length-map d.devices (λ device. device.name) in let few = known.few in omega arith

-- a device of a name that stands there is declared
device_there : (d : Decls) (name : List ℕ) → AreDecls d → is_among d.names name ≡ true → is_some (device_named d.devices name) ≡ true
device_there d name known named = named_same name d.devices ∙ ap (λ (ns : List (List ℕ)). is_among ns name) (sym known.named) ∙ named

-- an item of a declared device
pub item_there : (d : Decls) (w : DevicePut) → AreDecls d → is_among d.names w.device ≡ true
    → IsTrue (is_put (schema_named d.schemas d.devices w.device) (record { path = w.path; item = w.item })) → is_write d w ≡ true
item_there d w known named item =
    both (is_some (device_named d.devices w.device)) (is_put (schema_named d.schemas d.devices w.device) (record { path = w.path; item = w.item }))
    (device_there d w.device known named) item

-- a path of one that can carry an item
pub path_there : (d : Decls) (name : List ℕ) (path : List PathStep) → AreDecls d → is_among d.names name ≡ true
    → is_path_under (schema_named d.schemas d.devices name) path ≡ true → is_base_path d name path ≡ true
path_there d name path known named under =
    both (is_some (device_named d.devices name)) (is_path_under (schema_named d.schemas d.devices name) path) (device_there d name known named) under

-- a write more of the open literal
pub written : (decls : Decls) (most : ℕ) (s : Script) (w : DevicePut) (writes : List DevicePut)
    → AreSteps decls most s → s.part ≡ part.Literal → is_write decls w ≡ true
    → writes ≡ s.writes ++ w ∷ [] → AreSteps decls (most + 1) (record s { writes = writes })
written decls most s w writes h here there grown =
    let call : Bool = has_caller s && are_begun decls s in
    let room : Bool = nat_lt (length s.actions) MOST_ACTIONS && not (is_service_among s.actions s.name) in
    let before = list_all (is_write decls) s.writes in
    let behind = list_all (is_write decls) (s.writes ++ w ∷ []) in
    let t : Script = record s { writes = s.writes ++ w ∷ [] } in
    let so_far : (call && is_literal_begun decls s) ≡ true = subst (λ (p : Part). is_open decls s p ≡ true) here h.call in
    let begun = second_so call (is_literal_begun decls s) so_far in
    let first = first_so (is_lawful_name s.name && before) room begun in
    let all = all_more (is_write decls) s.writes w (second_so (is_lawful_name s.name) before first) there in
    let opened : is_open decls t part.Literal ≡ true =
    both call (is_literal_begun decls t) (first_so call (is_literal_begun decls s) so_far)
    (both (is_lawful_name s.name && behind) room (both (is_lawful_name s.name) behind (first_so (is_lawful_name s.name) before first) all)
    (second_so (is_lawful_name s.name && before) room begun)) in
    let few = h.few in
    let size = length-append s.writes (w ∷ []) in
    let lawful : AreSteps decls (most + 1) t = record {
      steps = h.steps;
      call = subst (λ (p : Part). is_open decls t p ≡ true) (sym here) opened;
      few = omega arith;
    } in
    subst (λ (ws : List DevicePut). AreSteps decls (most + 1) (record s { writes = ws })) (sym grown) lawful
