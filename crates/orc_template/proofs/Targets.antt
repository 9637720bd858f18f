-- The device of a block, and what its `config` writes there.
use Rattle.std.proofs.Common.{◌≡◌, ℕ, List, Option, Some, None, Result, Ok, Err, codes, slice_get, sym, ap, ◌∙◌}
use Rattle.std.specs.Prelude.{IsErrAnd}
use Rattle.std.specs.Option.{unwrap_or}
use Rattle.std.proofs.lemmas.Result.{err_from_is_err_and}
use Rattle.serde_json.specs.Data.{Data, null}
use Rattle.serde_json.specs.Find.{get}
use Rattle.orc_path.specs.Steps.{PathStep}
use Rattle.orc_expr.specs.declared.read.Read.{Read}
use Rattle.orc_schema_nodes.specs.Schemas.{SchemaTable}
use Rattle.orc_template.specs.Values.{Done, Does, string_done}
use Rattle.orc_template.specs.Writing.{Ended}
use Rattle.orc_template.specs.Devices.{device_of, schema_of_device}
use Rattle.orc_template.specs.Expansions.{Expanding, Ground, scene_at, on_schema, on_device, on_name, target_by}
use Rattle.orc_template.specs.inside.Expanding.{Stops}
use Rattle.orc_template.specs.declared.fault.TheConstants.{UNKNOWN_DEVICE}
use Rattle.orc_template.specs.declared.fault.Halt.{Halt}
use Rattle.orc_template.specs.declared.fault.Halt.TheVariants as halt

pub stops_so : (left whole : Result Expanding Ended) (new : Expanding) (r : Result (Unit {0}) Halt) → left ≡ whole → Stops left new r → Stops whole new r
stops_so left whole new (Ok x) is h = sym is ∙ h
stops_so left whole new (Err (halt.Rule rule)) is h = sym is ∙ h
stops_so left whole new (Err halt.Memory) is h = tt

module _ (g : Ground) (here : List PathStep) (config : Data) (found : Option ℕ) (e : Expanding) where
  pub no_schema : (number : ℕ) → found ≡ Some number → schema_of_device g.devices number ≡ None → Stops (on_device g here config found e) e (Err (halt.Rule UNKNOWN_DEVICE))
  no_schema number is none =
      ap (λ o. on_device g here config o e) is ∙ ap (λ s. on_schema (scene_at g here) number config s (slice_get e.written number) e) none

  pub on_its_schema : (number : ℕ) (s : SchemaTable) (new : Expanding) (r : Result (Unit {0}) Halt) → found ≡ Some number → schema_of_device g.devices number ≡ Some s
      → Stops (on_schema (scene_at g here) number config (Some s) (slice_get e.written number) e) new r → Stops (on_device g here config found e) new r
  on_its_schema number s new r is some h =
      stops_so (on_schema (scene_at g here) number config (Some s) (slice_get e.written number) e) (on_device g here config found e) new r
      (sym (ap (λ o. on_device g here config o e) is ∙ ap (λ x. on_schema (scene_at g here) number config x (slice_get e.written number) e) some)) h

module _ (g : Ground) (here : List PathStep) (d : Data) (text : List ℕ) (e : Expanding) (reads : List Read) where
  abbrev name_by : Done (List ℕ) → Result Expanding Ended
  name_by x = on_name g here (unwrap_or (get (codes "config") d) null) x.value (record { written = e.written; reads = x.reads })

  name_err : (h : Halt) → Does (string_done (scene_at g here) text e.reads) reads (Err h) → Stops (target_by g here d (Some text) e) (record { written = e.written; reads = reads }) (Err h)
  name_err (halt.Rule rule) is = ap name_by is
  name_err halt.Memory is = tt

  pub name_fails : (r : Result (Unit {0}) Halt) (h : Halt) → IsErrAnd r (λ y. y ≡ h) → Does (string_done (scene_at g here) text e.reads) reads (Err h)
      → Stops (target_by g here d (Some text) e) (record { written = e.written; reads = reads }) r
  name_fails r h err is =
      let p = err_from_is_err_and r err in
      rw (p.1, p.2) (name_err h is)

  pub name_goes_on : (name : List ℕ) (config : Data) (new : Expanding) (r : Result (Unit {0}) Halt) → Does (string_done (scene_at g here) text e.reads) reads (Ok name)
      → config ≡ unwrap_or (get (codes "config") d) null
      → Stops (on_device g here config (device_of name g.devices.names) (record { written = e.written; reads = reads })) new r → Stops (target_by g here d (Some text) e) new r
  name_goes_on name config new r is same h =
      stops_so (on_device g here config (device_of name g.devices.names) (record { written = e.written; reads = reads })) (target_by g here d (Some text) e) new r
      (ap (λ c. on_device g here c (device_of name g.devices.names) (record { written = e.written; reads = reads })) same ∙ sym (ap name_by is)) h
