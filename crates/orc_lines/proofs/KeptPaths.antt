-- A canonical form stands where its path does, among what the orchestrator keeps and the lists of services or not.
use Rattle.std.proofs.Common.{◌≡◌, ℕ, Bool, true, false, ◌&&◌, ◌||◌, List, [], ◌∷◌, ◌++◌, Option, Some, None, Result, Ok, Err, IfOk, refl, ap, ap₂, codes, sym, ◌∙◌, cond}
use Rattle.std.specs.Option.{option_and_then, option_map}
use Rattle.std.proofs.lemmas.Bool.{or_parts}
use Rattle.orc_path.specs.Steps.{PathStep}
use Rattle.orc_schema_nodes.specs.Schemas.{SchemaTable, path_names}
use Rattle.orc_typed.specs.Typed.{canonical_keys, canonical_path, canonical_steps, kinds_at}
use Rattle.orc_call.specs.declared.call.Put.{Put}
use Rattle.orc_services.specs.declared.list.ServiceList.{ServiceList}
use Rattle.orc_decls.specs.Devices.{is_same_text}
use Rattle.orc_decls.specs.Calls.{is_kept, is_served, meets}
use Rattle.orc_lines.specs.Items.{is_barred}
use Rattle.orc_lines.specs.declared.fault.LineFault.{LineFault}

-- the names stay

steps_names : (s : SchemaTable) (above : List (List ℕ)) (steps own : List PathStep) → canonical_steps s above steps ≡ Some own → path_names own ≡ path_names steps
steps_names s above [] own h = let same : [] ≡ own = cc in sym (ap path_names same)
steps_names s above (step ∷ later) own h =
    by (canonical_keys (kinds_at s (above ++ step.node ∷ [])) step.keys) (canonical_steps s (above ++ step.node ∷ []) later) refl
    (steps_names s (above ++ step.node ∷ []) later) h
  where
    by : (keys : Option (List (List ℕ))) (rest : Option (List PathStep)) → canonical_steps s (above ++ step.node ∷ []) later ≡ rest
        → ((steps : List PathStep) → canonical_steps s (above ++ step.node ∷ []) later ≡ Some steps → path_names steps ≡ path_names later)
        → option_and_then (λ first. option_map (λ more. first ∷ more) rest) (option_map (λ ks. record { node = step.node; keys = ks }) keys) ≡ Some own
        → path_names own ≡ path_names (step ∷ later)
    by None rest is go h = cc
    by (Some keys) None is go h = cc
    by (Some keys) (Some rest) is go h =
        let same : record { node = step.node; keys = keys } ∷ rest ≡ own = cc in
        sym (ap path_names same) ∙ ap (λ (ns : List (List ℕ)). step.node ∷ ns) (go rest is)

pub own_names : (s : SchemaTable) (path own : List PathStep) → canonical_path s path ≡ Some own → path_names own ≡ path_names path
own_names s path own h = on s.plain h where
  on : (b : Bool) → cond b (Some path) (canonical_steps s [] path) ≡ Some own → path_names own ≡ path_names path
  on true h = let same : path ≡ own = cc in sym (ap path_names same)
  on false h = steps_names s [] path own h

-- the names of a path's steps decide whether it is kept

abbrev names_kept : List (List ℕ) → Bool
names_kept [] = true
names_kept (name ∷ names) = is_same_text name (codes "orc:device") && true

by_names : (p : List PathStep) → is_kept p ≡ names_kept (path_names p)
by_names [] = refl
by_names (step ∷ later) = refl

pub kept_names : (own path : List PathStep) → path_names own ≡ path_names path → is_kept own ≡ is_kept path
kept_names own path same = by_names own ∙ ap names_kept same ∙ sym (by_names path)

abbrev names_meet : List PathStep → List (List ℕ) → Bool
names_meet [] names = true
names_meet (step ∷ later) [] = true
names_meet (step ∷ later) (name ∷ names) = is_same_text name step.node && names_meet later names

by_meeting : (list p : List PathStep) → meets list p ≡ names_meet list (path_names p)
by_meeting [] p = refl
by_meeting (step ∷ later) [] = refl
by_meeting (step ∷ later) (own ∷ below) = ap (λ (b : Bool). is_same_text own.node step.node && b) (by_meeting later below)

served_names : (lists : List ServiceList) (own path : List PathStep) → path_names own ≡ path_names path → is_served lists own ≡ is_served lists path
served_names [] own path same = refl
served_names (it ∷ lists) own path same =
    ap₂ (λ (a b : Bool). a || b) (by_meeting it.list own ∙ ap (names_meet it.list) same ∙ sym (by_meeting it.list path)) (served_names lists own path same)

barred_names : (o : Option (List ServiceList)) (own path : List PathStep) → path_names own ≡ path_names path → is_barred o own ≡ is_barred o path
barred_names None own path same = refl
barred_names (Some lists) own path same = ap₂ (λ (a b : Bool). a || b) (kept_names own path same) (served_names lists own path same)

pub still_open : (r : Result Put LineFault) (o : Option (List ServiceList)) (path : List PathStep) → IfOk r (λ put. path_names put.path ≡ path_names path)
    → is_barred o path ≡ false → IfOk r (λ put. is_barred o put.path ≡ false)
still_open (Ok put) o path names free = barred_names o put.path path names ∙ free
still_open (Err e) o path names free = names

pub still_free : (r : Result (List PathStep) LineFault) (lists : List ServiceList) (path : List PathStep) → IfOk r (λ own. path_names own ≡ path_names path)
    → is_barred (Some lists) path ≡ false → IfOk r (λ own. is_served lists own ≡ false)
still_free (Ok own) lists path names free = served_names lists own path names ∙ (or_parts (is_kept path) (is_served lists path) free).1
still_free (Err e) lists path names free = names
