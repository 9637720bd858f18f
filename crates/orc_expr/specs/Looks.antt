-- What an expression gives at a context, and what it reads, on a flat map.
use Rattle.std.specs.Prelude.{◌≡◌, ℕ, ◌-◌, nat_le, nat_eq, Bool, true, false, not, ◌&&◌, List, [], ◌∷◌, ◌++◌, length, take, map, slice_get, Option, Result, Vec, if◌then◌else◌}
use Rattle.std.specs.declared.option.Option.TheVariants.{None, Some}
use Rattle.std.specs.declared.result.Result.TheVariants.{Ok, Err}
use Rattle.std.specs.Option.{option_map, option_map_or, is_some}
use Rattle.std.specs.List.{list_all, flat_map, filter}
use Rattle.std.specs.FinMap.{get}
use Rattle.std.specs.Cmp.Lexicographic.{pointwise}
use Rattle.orc_path.specs.Alphabet.{is_key}
use Rattle.orc_path.specs.Steps.{PathStep, is_name_behind}
use Rattle.orc_path.specs.Configurations.{Config}
use Rattle.orc_path.specs.Views.{Viewed, entries_of}
use Rattle.orc_path.specs.declared.item.Item.{Item}
use Rattle.orc_path.specs.declared.item.Item.TheVariants.{Entry, Leaf}
use Rattle.orc_path.specs.declared.shape.Shape.{Shape}
use Rattle.orc_path.specs.declared.shape.Shape.TheVariants as shape
use Rattle.orc_expr.specs.Expressions.{Expression, Here, FromRoot, FromContext, Below, Where, Quoted, Condition}
use Rattle.orc_expr.specs.declared.read.Read.{Read}
use Rattle.orc_expr.specs.declared.read.Read.TheVariants as read
use Rattle.orc_expr.specs.declared.expr.Test.{Test}
use Rattle.orc_expr.specs.declared.expr.Test.TheVariants.{Any, Equals, Differs}
use Rattle.orc_expr.specs.declared.expr.EvalFault.{EvalFault}
use Rattle.orc_expr.specs.declared.expr.EvalFault.TheVariants.{Many, Memory}
use Rattle.orc_expr.specs.declared.looked.Looked.{Looked}
use Rattle.orc_expr.specs.declared.step.Asked.{Asked}
use Rattle.orc_expr.specs.declared.step.LastStep.{LastStep}
use Rattle.orc_expr.specs.declared.step.Reached.{Reached}
use Rattle.orc_expr.specs.declared.step.Reached.TheVariants.{Context, Given, Last}
use Rattle.orc_expr.specs.declared.step.Choice.{Choice}
use Rattle.orc_expr.specs.declared.step.Choice.TheVariants as choice
use Rattle.orc_expr.specs.declared.step.Chosen.{Chosen}

-- A look has what it found, in order, or nothing where the term of a predicate gave more than one text; and what it
-- read, in order.

-- these were found, and nothing was read
abbrev pub looked : {X : Type 0} → List X → Looked X
looked found = record { found = Some found; reads = [] }

-- what the places give and read, after the look that found them
abbrev pub look_on : {X : Type 0}
    → Looked (List PathStep) → (List (List PathStep) → List X) → (List (List PathStep) → List Read) → Looked X
look_on before give reads =
    record { found = option_map give before.found; reads = before.reads ++ option_map_or reads before.found [] }

-- what the places give, where nothing is read
abbrev pub give_on : {X : Type 0} → Looked (List PathStep) → (List (List PathStep) → List X) → Looked X
give_on before give = record { found = option_map give before.found; reads = before.reads }

-- nothing is found and nothing read there
abbrev pub nowhere : {X : Type 0} → Looked (List PathStep) → Looked X
nowhere before = give_on before (λ _. [])

abbrev pub made_step : List ℕ → List (List ℕ) → PathStep
made_step name keys = record { node = name; keys = keys }

-- the node of this name and these keys below a place, if such a name and such keys can stand there
abbrev pub node_under : List ℕ → List (List ℕ) → List PathStep → List (List PathStep)
node_under name keys place =
    if is_name_behind place name && list_all is_key keys then (place ++ made_step name keys ∷ []) ∷ [] else []

abbrev pub nodes_under : List ℕ → List (List ℕ) → List (List PathStep) → List (List PathStep)
nodes_under name keys places = flat_map (node_under name keys) places

-- the text at a leaf: its own, else its default
abbrev pub text_or : Option (List ℕ) → Option Item → List (List ℕ)
text_or default (Some (Leaf text)) = text ∷ []
text_or (Some text) None = text ∷ []
text_or (Some text) (Some Entry) = text ∷ []
text_or None None = []
text_or None (Some Entry) = []

abbrev pub leaf_texts : Config → Option (List ℕ) → List PathStep → List (List ℕ)
leaf_texts items default path = text_or default (get items path)

-- the keys of the last step
abbrev pub keys_at_end : List PathStep → List (List ℕ)
keys_at_end path = option_map_or (λ step. step.keys) (slice_get path (length path - 1)) []

-- the key of an entry at a place among its keys
abbrev pub key_at : ℕ → List PathStep → List (List ℕ)
key_at place entry = option_map_or (λ key. key ∷ []) (slice_get (keys_at_end entry) place) []

abbrev pub is_present : Config → List PathStep → Bool
is_present items path = is_some (get items path)

-- What the terms of predicates give in their order: the keys; or nothing, from the first on that gives no text; or that
-- one gives more than one text. And what they read, up to there.
abbrev pub key_then : List ℕ → Choice → Choice
key_then key (choice.Keys keys) = choice.Keys (key ∷ keys)
key_then key choice.Nothing = choice.Nothing
key_then key choice.Many = choice.Many

abbrev pub choose : Option (List (List ℕ)) → List Read → Chosen → Chosen
choose None reads later = record { choice = choice.Many; reads = reads }
choose (Some []) reads later = record { choice = choice.Nothing; reads = reads }
choose (Some (key ∷ [])) reads later =
    record { choice = key_then key later.choice; reads = reads ++ later.reads }
choose (Some (key ∷ other ∷ more)) reads later = record { choice = choice.Many; reads = reads }

abbrev pub chosen : List Asked → Chosen
chosen [] = record { choice = choice.Keys []; reads = [] }
chosen (asked ∷ later) = choose asked.given.found asked.given.reads (chosen later)

-- the entries with the chosen keys that are present
abbrev pub selected_by : Config → List ℕ → List (List PathStep) → List Read → Choice → Looked (List PathStep)
selected_by items name places reads (choice.Keys keys) = record {
  found = Some (filter (is_present items) (nodes_under name keys places));
  reads = reads ++ map read.Item (nodes_under name keys places);
}
selected_by items name places reads choice.Nothing = record { found = Some []; reads = reads }
selected_by items name places reads choice.Many = record { found = None; reads = reads }

-- terms are looked at where there is a place, once for all places, since all of them stand at the context
abbrev pub selected : Config → Looked (List PathStep) → List ℕ → List Asked → Option (List (List PathStep))
    → Looked (List PathStep)
selected items before name asked None = before
selected items before name asked (Some []) = before
selected items before name asked (Some (place ∷ more)) =
    selected_by items name (place ∷ more) (before.reads ++ (chosen asked).reads) (chosen asked).choice

-- a predicate leads nowhere but at a list
abbrev pub alone : {X : Type 0} → List Asked → Looked (List PathStep) → Looked X → Looked X
alone [] before found = found
alone (asked ∷ more) before found = nowhere before

-- the nodes of the last step
abbrev pub nodes_look : LastStep → Looked (List PathStep)
nodes_look step = give_on step.before (nodes_under step.name [])

-- all entries of the list, or all values of the leaf-list
abbrev pub entries_look : Config → LastStep → Looked (List PathStep)
entries_look items step = look_on step.before
    (λ places. flat_map (entries_of items) (nodes_under step.name [] places))
    (λ places. map read.Keys (nodes_under step.name [] places))

-- the predicates name each key once, in the order of the keys
abbrev pub asks_each_key : List (List ℕ) → List Asked → Bool
asks_each_key keys asked = pointwise (pointwise nat_eq) (map (λ predicate. predicate.key) asked) keys

-- the entries of a list: all without a predicate, and else one, whose keys the predicates give
abbrev pub list_look_by : Config → LastStep → List (List ℕ) → List Asked → Looked (List PathStep)
list_look_by items step keys [] = entries_look items step
list_look_by items step keys (asked ∷ more) =
    if asks_each_key keys step.asked
    then selected items step.before step.name step.asked step.before.found else nowhere step.before

abbrev pub list_look : Config → LastStep → List (List ℕ) → Looked (List PathStep)
list_look items step keys = list_look_by items step keys step.asked

-- where a step leads that has further steps after it: into containers and entries
abbrev pub leads_by : Config → LastStep → Shape → Looked (List PathStep)
leads_by items step shape.Absent = nowhere step.before
leads_by items step shape.Container = alone step.asked step.before (nodes_look step)
leads_by items step (shape.List keys) = list_look items step keys
leads_by items step (shape.Leaf default) = nowhere step.before
leads_by items step (shape.Key place) = nowhere step.before
leads_by items step shape.LeafList = nowhere step.before

abbrev pub leads : Viewed → List PathStep → Reached → Looked (List PathStep)
leads view here Context = looked (here ∷ [])
leads view here (Given text) = looked []
leads view here (Last step) = leads_by view.items step (view.shapes step.parent step.name)

-- The texts of a last step: a leaf's own, else its default; a key leaf's, which is the entry's key; the values of a
-- leaf-list.
abbrev pub texts_by : Config → LastStep → Shape → Looked (List ℕ)
texts_by items step shape.Absent = nowhere step.before
texts_by items step shape.Container = nowhere step.before
texts_by items step (shape.List keys) = nowhere (list_look items step keys)
texts_by items step (shape.Leaf default) = alone step.asked step.before (look_on step.before
    (λ places. flat_map (leaf_texts items default) (nodes_under step.name [] places))
    (λ places. map read.Item (nodes_under step.name [] places)))
texts_by items step (shape.Key place) =
    alone step.asked step.before (give_on step.before (flat_map (key_at place)))
texts_by items step shape.LeafList = alone step.asked step.before (look_on step.before
    (λ places. flat_map keys_at_end (flat_map (entries_of items) (nodes_under step.name [] places)))
    (λ places. map read.Keys (nodes_under step.name [] places)))

-- The nodes of a last step: a list's entries and a leaf-list's values, a leaf where it is present, a key leaf.
abbrev pub nodes_by : Config → LastStep → Shape → Looked (List PathStep)
nodes_by items step shape.Absent = nowhere step.before
nodes_by items step shape.Container = nowhere step.before
nodes_by items step (shape.List keys) = list_look items step keys
nodes_by items step (shape.Leaf default) = alone step.asked step.before (look_on step.before
    (λ places. filter (is_present items) (nodes_under step.name [] places))
    (λ places. map read.Item (nodes_under step.name [] places)))
nodes_by items step (shape.Key place) = alone step.asked step.before (nodes_look step)
nodes_by items step shape.LeafList = alone step.asked step.before (entries_look items step)

-- the context: what is above it, its last step, and its shape
abbrev pub front_of : List PathStep → List PathStep
front_of here = take (length here - 1) here

abbrev pub context_shape : Viewed → List PathStep → Shape
context_shape view here =
    option_map_or (λ last. view.shapes (front_of here) last.node) (slice_get here (length here - 1)) shape.Absent

abbrev pub context_texts : Config → List PathStep → Shape → Looked (List ℕ)
context_texts items here shape.Absent = looked []
context_texts items here shape.Container = looked []
context_texts items here (shape.List keys) = looked []
context_texts items here (shape.Leaf default) =
    record { found = Some (leaf_texts items default here); reads = read.Item here ∷ [] }
context_texts items here (shape.Key place) = looked (key_at place (front_of here))
context_texts items here shape.LeafList = looked (keys_at_end here)

abbrev pub context_nodes : Config → List PathStep → Shape → Looked (List PathStep)
context_nodes items here shape.Absent = looked []
context_nodes items here shape.Container = looked []
context_nodes items here (shape.List keys) = looked (here ∷ [])
context_nodes items here (shape.Leaf default) =
    record { found = Some (filter (is_present items) (here ∷ [])); reads = read.Item here ∷ [] }
context_nodes items here (shape.Key place) = looked (here ∷ [])
context_nodes items here shape.LeafList = looked (here ∷ [])

abbrev pub texts_at : Viewed → List PathStep → Reached → Looked (List ℕ)
texts_at view here Context = context_texts view.items here (context_shape view here)
texts_at view here (Given text) = looked (text ∷ [])
texts_at view here (Last step) = texts_by view.items step (view.shapes step.parent step.name)

abbrev pub nodes_at : Viewed → List PathStep → Reached → Looked (List PathStep)
nodes_at view here Context = context_nodes view.items here (context_shape view here)
nodes_at view here (Given text) = looked []
nodes_at view here (Last step) = nodes_by view.items step (view.shapes step.parent step.name)

-- a first step
abbrev pub first_step : List PathStep → List (List PathStep) → List ℕ → Reached
first_step parent places name = Last (record { parent = parent; before = looked places; name = name; asked = [] })

-- the node so many steps above the context, where there is one
abbrev pub above : ℕ → List PathStep → List (List PathStep)
above ups here = if nat_le ups (length here) then take (length here - ups) here ∷ [] else []

abbrev pub from_context : List PathStep → ℕ → List ℕ → Reached
from_context here ups name = first_step (take (length here - ups) here) (above ups here) name

-- the node of the schema that a step leads to, as a path without keys
abbrev pub parent_behind : List PathStep → List ℕ → List PathStep
parent_behind parent name = if is_name_behind parent name then parent ++ made_step name [] ∷ [] else []

abbrev pub parent_at : List PathStep → Reached → List PathStep
parent_at here Context = here
parent_at here (Given text) = []
parent_at here (Last step) = parent_behind step.parent step.name

-- a step more
abbrev pub step_down : Viewed → List PathStep → Reached → List ℕ → Reached
step_down view here followed name = Last (record {
  parent = parent_at here followed;
  before = leads view here followed;
  name = name;
  asked = [];
})

-- a predicate more at the last step
abbrev pub ask : Reached → List ℕ → Looked (List ℕ) → Reached
ask Context key given = Context
ask (Given text) key given = Given text
ask (Last step) key given = Last (record step { asked = step.asked ++ record { key = key; given = given } ∷ [] })

-- how far an expression leads: up to its last step, whose meaning depends on what is asked of it
abbrev pub followed : Viewed → List PathStep → Expression → Reached
followed view here Here = Context
followed view here (FromRoot name) = first_step [] ([] ∷ []) name
followed view here (FromContext ups name) = from_context here ups name
followed view here (Below front name) = step_down view here (followed view here front) name
followed view here (Where front key term) =
    ask (followed view here front) key (texts_at view here (followed view here term))
followed view here (Quoted text) = Given text

-- the texts that an expression gives at a context
abbrev pub texts_of : Expression → List PathStep → Viewed → Looked (List ℕ)
texts_of expression here view = texts_at view here (followed view here expression)

-- the nodes that it gives there
abbrev pub nodes_of : Expression → List PathStep → Viewed → Looked (List PathStep)
nodes_of expression here view = nodes_at view here (followed view here expression)

-- there is one text, and it is this one
abbrev pub is_only : List ℕ → List (List ℕ) → Bool
is_only text texts = pointwise (pointwise nat_eq) texts (text ∷ [])

-- A test of the texts: there is one at all; there is exactly one, and it is the given text (`=`); or that isn't so
-- (`!=`), since there is none, or there are several, or there is one other text.
abbrev pub is_met : Test → List (List ℕ) → Bool
is_met Any [] = false
is_met Any (text ∷ more) = true
is_met (Equals text) texts = is_only text texts
is_met (Differs text) texts = not (is_only text texts)

-- whether a condition holds, or nothing where a predicate's term gave more than one text; and what was read
pub record Judged : Type 0 where
  pub is_met : Option Bool
  pub reads : List Read

abbrev pub judged_by : Test → Looked (List ℕ) → Judged
judged_by test look = record { is_met = option_map (is_met test) look.found; reads = look.reads }

abbrev pub judged : Condition → List PathStep → Viewed → Judged
judged condition here view = judged_by condition.test (texts_of condition.look here view)

-- The answer is what was found, and the reads are added; where a term gave more than one text the reads up to there
-- are; and where memory runs out, none are.
abbrev pub AnswersLook : {X : Type 0} → Option X → List Read → List Read → List Read → Result X EvalFault → Type 0
AnswersLook found reads old new (Ok value) = (found ≡ Some value) × (new ≡ old ++ reads)
AnswersLook found reads old new (Err Many) = (found ≡ None) × (new ≡ old ++ reads)
AnswersLook found reads old new (Err Memory) = new ≡ old

abbrev pub listed_result : {X A : Type 0} → Result (Vec X A) EvalFault → Result (List X) EvalFault
listed_result (Ok values) = Ok values.items
listed_result (Err fault) = Err fault
