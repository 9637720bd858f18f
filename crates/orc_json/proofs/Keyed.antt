-- The keys of an entry, put among its members one after another; and the values of a leaf-list.
use Rattle.std.proofs.Common.{◌≡◌, ℕ, ◌+◌, zero, suc, true, List, [], ◌∷◌, ◌++◌, length, drop, drop_of_length-le, None, Ok, refl, sym, ap, subst, ◌∙◌, arith}
use Rattle.std.specs.Prelude.{IsTrue, slice_get}
use Rattle.serde_json.specs.Data.{Items, no_items, item, Members}
use Rattle.serde_json.specs.View.{view, items_view}
use Rattle.serde_json.specs.declared.value.Value.{Value}
use Rattle.orc_path.specs.Steps.{PathStep}
use Rattle.orc_value.specs.Canon.{canon_of, is_canonical, gives_text}
use Rattle.orc_value.specs.Json.{json_of}
use Rattle.orc_value.specs.declared.kind.Kind.{Kind}
use Rattle.orc_schema_nodes.specs.Schemas.{SchemaTable}
use Rattle.orc_json.specs.Findings.{below}
use Rattle.orc_json.specs.inside.Fronts.{Row, first_path}
use Rattle.orc_json.specs.Written.{Rows, AreValues, are_keys, with_key_members}
use Rattle.orc_json.specs.Written.AreValues.{no_value, value}
use Rattle.orc_json.proofs.WrittenRead.{same_itself}
use Rattle.orc_json.proofs.Made.{items_behind, one_item, items_behind-none}

-- One element further -------------------------------------------------------------------------------------------------

none_past : (xs : List (List ℕ)) (i : ℕ) → slice_get xs i ≡ None → drop i xs ≡ []
none_past [] i h = drop_of_length-le [] (omega arith)
none_past (x ∷ xs) zero h = cc
none_past (x ∷ xs) (suc i) h = none_past xs i h

-- Keys ----------------------------------------------------------------------------------------------------------------

-- of the keys these are left
abbrev pub KeysGoOn : SchemaTable → List (List ℕ) → List (List ℕ) → List (List ℕ) → ℕ → Members → Members → Type 0
KeysGoOn s names keys texts place old made = IsTrue (are_keys s names keys texts)
    → IsTrue (are_keys s names (drop place keys) (drop place texts))
    × (with_key_members s names (drop place keys) (drop place texts) made ≡ with_key_members s names keys texts old)

-- Values --------------------------------------------------------------------------------------------------------------

pub canonical : (kind : Kind) (text : List ℕ) → canon_of kind text ≡ Ok text → is_canonical kind text ≡ true
canonical kind text h = ap (gives_text text) h ∙ same_itself text

pub record ValuesLeft (kind : Kind) (at : List PathStep) (name : List ℕ) (rest : Rows) (made ds : Items) : Type 0 where
  pub more : Items
  pub values : AreValues kind at name rest more
  pub whole : items_behind made more ≡ ds

-- of the rows of a leaf-list these are left
abbrev pub ValuesGoOn : Kind → ℕ → Rows → Rows → Items → Type 0
ValuesGoOn kind depth rows rest made = (at : List PathStep) (name : List ℕ) (ds : Items) → length at ≡ depth → AreValues kind at name rows ds
    → ValuesLeft kind at name rest made ds

record FirstValue (kind : Kind) (at : List PathStep) (name : List ℕ) (path : List PathStep) (later : Rows) (whole : Items) : Type 0 where
  text : List ℕ
  others : Items
  path_is : path ≡ below at name (text ∷ [])
  own : canon_of kind text ≡ Ok text
  whole_is : whole ≡ item (json_of kind text) others
  values : AreValues kind at name later others

rows_behind : Rows → Rows
rows_behind [] = []
rows_behind (row ∷ rows) = rows

first_value : (kind : Kind) (at : List PathStep) (name : List ℕ) (rest : Rows) (row : Row) (later : Rows) (whole : Items) → rest ≡ row ∷ later
    → AreValues kind at name rest whole → FirstValue kind at name row.0 later whole
unfolding rows_behind
first_value kind at name rest row later whole e no_value = cc
first_value kind at name rest row later whole e (value text others es own rest_of) = record {
  text = text;
  others = es;
  path_is = sym (ap first_path e);
  own = own;
  whole_is = refl;
  values = subst (λ (xs : Rows). AreValues kind at name xs es) (ap rows_behind e) rest_of;
}

-- what a row's value says
abbrev pub MakesKey : Kind → ℕ → List PathStep → Value → Type 0
MakesKey kind depth path v = (at : List PathStep) (name text : List ℕ) → length at ≡ depth → path ≡ below at name (text ∷ [])
    → IsTrue (is_canonical kind text) → view v ≡ json_of kind text

pub value_made : (kind : Kind) (depth : ℕ) (rows rest : Rows) (row : Row) (later : Rows) (vs : List Value) (v : Value) → rest ≡ row ∷ later → MakesKey kind depth row.0 v
    → ValuesGoOn kind depth rows rest (items_view vs) → ValuesGoOn kind depth rows later (items_view (vs ++ v ∷ []))
value_made kind depth rows rest row later vs v e makes so_far at name ds deep values = on (so_far at name ds deep values)
  where
    on : ValuesLeft kind at name rest (items_view vs) ds → ValuesLeft kind at name later (items_view (vs ++ v ∷ [])) ds
    on l =
        let f = first_value kind at name rest row later l.more e l.values in
        let made_is = makes at name f.text deep f.path_is (canonical kind f.text f.own) in
        record {
          more = f.others;
          values = f.values;
          whole = one_item vs v f.others ∙ ap (λ d. items_behind (items_view vs) (item d f.others)) made_is ∙ sym (ap (items_behind (items_view vs)) f.whole_is) ∙ l.whole;
        }

no_value_left : (kind : Kind) (at : List PathStep) (name : List ℕ) (rest : Rows) (more : Items) → rest ≡ [] → AreValues kind at name rest more → more ≡ no_items
no_value_left kind at name rest more none no_value = refl
no_value_left kind at name rest more none (value text later es own rest_of) = cc

pub values_made : (kind : Kind) (depth : ℕ) (rows rest : Rows) (made : Items) → rest ≡ [] → ValuesGoOn kind depth rows rest made
    → (at : List PathStep) (name : List ℕ) (ds : Items) → length at ≡ depth → AreValues kind at name rows ds → made ≡ ds
values_made kind depth rows rest made none so_far at name ds deep values =
    let l = so_far at name ds deep values in
    sym (ap (items_behind made) (no_value_left kind at name rest l.more none l.values) ∙ items_behind-none made) ∙ l.whole
