-- An entry of a list: its keys, then the entry, then its other members.
use Rattle.std.proofs.Common.{◌≡◌, ℕ, ◌<◌, List, [], ◌∷◌, ◌++◌, length, Result, Ok, Err, true, sym, ap, ◌∙◌, arith}
use Rattle.std.specs.Prelude.{IsErrAnd}
use Rattle.std.proofs.lemmas.List.{map-append}
use Rattle.serde_json.specs.Data.{Data, Members, object}
use Rattle.orc_path.specs.Items.{fits}
use Rattle.orc_path.specs.Steps.{PathStep}
use Rattle.orc_path.specs.declared.item.Item.TheVariants.{Entry}
use Rattle.orc_expr.specs.declared.read.Read.{Read}
use Rattle.orc_schema_nodes.specs.Schemas.{SchemaTable, path_names}
use Rattle.orc_json.specs.Findings.{below}
use Rattle.orc_template.specs.Values.{Scene, Done, Does, keys_done}
use Rattle.orc_template.specs.Writing.{Ended, go_on, with_done, write_at, members_done, entry_done, Writes}
use Rattle.orc_template.specs.declared.writing.Writing.{Writing}
use Rattle.orc_template.specs.declared.fault.Halt.{Halt}
use Rattle.orc_template.proofs.Handed.{writes_so, with_does, wrote, stops_on}
use Rattle.orc_json.proofs.Found.{entry_fits}

names_below : (at : List PathStep) (name : List ℕ) → path_names (below at name []) ≡ path_names at ++ name ∷ []
names_below at name = map-append (λ (step : PathStep). step.node) at _

-- an entry fits where there is a key at least
pub keyed_fits : (at : List PathStep) (name : List ℕ) (keys : List (List ℕ)) → 0 < length keys → fits (below at name keys) Entry ≡ true
keyed_fits at name [] some = absurd (omega (arith, some))
keyed_fits at name (key ∷ keys) some = entry_fits at name key keys

module _ (scene : Scene) (s : SchemaTable) (keys : List (List ℕ)) (at : List PathStep) (name : List ℕ) (d : Data) (ms : Members) (is : d ≡ object ms)
    (steps : List PathStep) (steps_are : steps ≡ below at name []) (w : Writing) where
  abbrev first : Done (List (List ℕ))
  first = keys_done scene s (path_names steps) d keys w.reads.reads

  abbrev more : List (List ℕ) → Writing → Result Writing Ended
  more texts v = go_on (write_at (below at name texts) Entry v) (members_done scene s keys (below at name texts) ms)

  abbrev whole : Result Writing Ended
  whole = entry_done scene s keys at name d w

  abbrev behind : List Read → Writing
  behind reads = record { tree = w.tree; reads = record { reads = reads } }

  by_keys : with_done first w.tree more ≡ whole
  by_keys =
      ap (λ x. with_done (keys_done scene s (path_names steps) x keys w.reads.reads) w.tree more) is
      ∙ ap (λ names. with_done (keys_done scene s names (object ms) keys w.reads.reads) w.tree more) (ap path_names steps_are ∙ names_below at name)
      ∙ ap (λ x. entry_done scene s keys at name x w) (sym is)

  module _ (texts : List (List ℕ)) (reads : List Read) (before : Does first reads (Ok texts)) where
    by_texts : more texts (behind reads) ≡ whole
    by_texts = sym (with_does first w.tree more texts reads before) ∙ by_keys

    pub entry_fails : (r : Result (Unit {0}) Halt) (h : Halt) (new : Writing) → IsErrAnd r (λ y. y ≡ h) → Writes (write_at (below at name texts) Entry (behind reads)) new (Err h) → Writes whole new r
    entry_fails r h new err fails =
        writes_so (more texts (behind reads)) whole new r by_texts
        (stops_on (write_at (below at name texts) Entry (behind reads)) (members_done scene s keys (below at name texts) ms) new r h err fails)

    pub entry_goes_on : (mid new : Writing) (r : Result (Unit {0}) Halt) → Writes (write_at (below at name texts) Entry (behind reads)) mid (Ok tt)
        → Writes (members_done scene s keys (below at name texts) ms mid) new r → Writes whole new r
    entry_goes_on mid new r written h =
        writes_so (members_done scene s keys (below at name texts) ms mid) whole new r
        (sym (wrote (write_at (below at name texts) Entry (behind reads)) (members_done scene s keys (below at name texts) ms) mid tt written) ∙ by_texts) h
