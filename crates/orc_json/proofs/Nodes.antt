-- What is built of a node, and of an entry.
use Rattle.std.proofs.Common.{◌≡◌, ◌≢◌, ℕ, ◌+◌, List, [], ◌∷◌, ◌++◌, length, take, Option, Some, None, Ok, Result, IfOk, Err, Bor, refl, sym, ap, subst, ◌∙◌, append-nil, arith}
use Rattle.std.specs.Prelude.{IsTrue, slice_get, option_map, option_copied}
use Rattle.std.proofs.lemmas.List.{map-append}
use Rattle.serde_json.specs.Data.{Data, array, object, Items, Members, put}
use Rattle.orc_path.specs.Steps.{PathStep}
use Rattle.orc_path.specs.declared.item.Item.TheVariants.{Entry, Leaf}
use Rattle.orc_value.specs.Canon.{is_canonical}
use Rattle.orc_value.specs.Json.{json_of}
use Rattle.orc_schema_nodes.specs.Schemas.{SchemaTable, path_names}
use Rattle.orc_schema_nodes.specs.declared.line.Node.{Node}
use Rattle.orc_schema_nodes.specs.declared.line.Node.TheVariants as node
use Rattle.orc_schema_nodes.specs.declared.line.ListNode.{ListNode}
use Rattle.orc_schema_nodes.specs.declared.line.LeafNode.{LeafNode}
use Rattle.orc_schema_nodes.specs.declared.line.ValueListNode.{ValueListNode}
use Rattle.orc_json.specs.Findings.{below, node_below}
use Rattle.orc_json.specs.inside.Fronts.{Row, first_path, AreLaid, MakesMembers, PutsNode, MakesNode, MakesEntries, MakesEntry}
use Rattle.orc_json.specs.Written.{Rows, AreValues, AreMembers, IsNode, are_keys, with_key_members}
use Rattle.orc_json.specs.Written.IsNode.{container, list, leaf, leaf_list}
use Rattle.orc_json.proofs.Keyed.{canonical}
use Rattle.orc_json.proofs.Parted.{laid_back}
use Rattle.orc_json.proofs.Under.{Each, IsUnder, IsInside, under_next, step_of, members_under, node_under, step_under, steps_under, length-below}

pub IfOk-so : {X E : Type 0} (P Q : X → Type 0) → ((x : X) → P x → Q x) → (r : Result X E) → IfOk r P → IfOk r Q
IfOk-so P Q f (Ok x) h = f x h
IfOk-so P Q f (Err e) h = h

pub mapped_none : {X Y : Type 0} (f : X → Y) (o : Option X) (p : Option Y) → option_map f o ≡ p → o ≡ None → p ≡ None
mapped_none f o p e is = sym e ∙ ap (option_map f) is

pub mapped_some : {X Y : Type 0} (f : X → Y) (o : Option X) (p : Option Y) (x : X) → option_map f o ≡ p → o ≡ Some x → p ≡ Some (f x)
mapped_some f o p x e is = sym e ∙ ap (option_map f) is

pub copied_none : {X : Type 0} (o : Option (Bor X)) (p : Option X) → option_copied o ≡ p → o ≡ None → p ≡ None
copied_none o p e is = sym e ∙ ap option_copied is

pub copied_some : {X : Type 0} (o : Option (Bor X)) (p : Option X) (x : Bor X) → option_copied o ≡ p → o ≡ Some x → p ≡ Some x.now
copied_some o p x e is = sym e ∙ ap option_copied is

-- Nodes ---------------------------------------------------------------------------------------------------------------

first_under : (s : SchemaTable) (at : List PathStep) (name : List ℕ) (o : Option Node) (rows : Rows) (d : Data) (row : Row) (behind : Rows) → rows ≡ row ∷ behind
    → IsNode s at name o rows d → IsUnder at name row
first_under s at name o rows d row behind e node = (subst (Each (IsUnder at name)) e (node_under s at name o rows d node)).0

pub no_step_put : (s : SchemaTable) (left : ℕ) (at : List PathStep) (rows : Rows) (row : Row) (behind : Rows) (old : Members) → rows ≡ row ∷ behind
    → slice_get row.0 (length at) ≡ None → PutsNode s left at rows old old
no_step_put s left at rows row behind old e none bound laid short name d node =
    let u = first_under s at name (node_below s at name) rows d row behind e node in
    let clash : Some (step_of name u.keys) ≡ None = sym (step_under at name row u) ∙ none in
    cc

named_so : (s : SchemaTable) (at : List PathStep) (rows : Rows) (row : Row) (behind : Rows) (step : PathStep) (name : List ℕ) (d : Data) → rows ≡ row ∷ behind
    → slice_get row.0 (length at) ≡ Some step → IsNode s at name (node_below s at name) rows d → name ≡ step.node
named_so s at rows row behind step name d e has node =
    let u = first_under s at name (node_below s at name) rows d row behind e node in
    let same : Some (step_of name u.keys) ≡ Some step = sym (step_under at name row u) ∙ has in
    let own : step_of name u.keys ≡ step = cc in
    ap (λ (x : PathStep). x.node) own

no_node : (s : SchemaTable) (at : List PathStep) (name : List ℕ) (o : Option Node) (rows : Rows) (d : Data) → o ≡ None → IsNode s at name o rows d → ⊥
no_node s at name o rows d e (container part ms some inside) = cc
no_node s at name o rows d e (list l part ds any differ some inside) = cc
no_node s at name o rows d e (leaf l text no_key own) = cc
no_node s at name o rows d e (leaf_list l part ds some inside) = cc

pub no_node_put : (s : SchemaTable) (left : ℕ) (at : List PathStep) (rows : Rows) (row : Row) (behind : Rows) (step : PathStep) (old : Members) → rows ≡ row ∷ behind
    → slice_get row.0 (length at) ≡ Some step → node_below s at step.node ≡ None → PutsNode s left at rows old old
no_node_put s left at rows row behind step old e has none bound laid short name d node =
    absurd (no_node s at name (node_below s at name) rows d (ap (node_below s at) (named_so s at rows row behind step name d e has node) ∙ none) node)

pub node_put : (s : SchemaTable) (left : ℕ) (at : List PathStep) (rows : Rows) (row : Row) (behind : Rows) (step : PathStep) (n : Node) (value : Data) (old new : Members)
    → rows ≡ row ∷ behind → slice_get row.0 (length at) ≡ Some step → node_below s at step.node ≡ Some n → MakesNode s left at (Some n) rows value
    → new ≡ put step.node value old → PutsNode s left at rows old new
node_put s left at rows row behind step n value old new e has found makes puts bound laid short name d node =
    let named = named_so s at rows row behind step name d e has node in
    let it : IsNode s at name (Some n) rows d = subst (λ (o : Option Node). IsNode s at name o rows d) (ap (node_below s at) named ∙ found) node in
    puts ∙ ap (λ v. put step.node v old) (makes bound laid short name d it) ∙ ap (λ x. put x d old) (sym named)

steps_of_first : (at : List PathStep) (name : List ℕ) (keys : List (List ℕ)) (rows : Rows) → rows ≢ [] → Each (IsInside (below at name keys)) rows
    → take (length at + 1) (first_path rows) ≡ below at name keys
steps_of_first at name keys [] some h = absurd (some refl)
steps_of_first at name keys (row ∷ rows) some h = steps_under at name row (under_next at name keys row h.0)

pub container_made : (s : SchemaTable) (left : ℕ) (at steps : List PathStep) (rows : Rows) (made : Members) → steps ≡ take (length at + 1) (first_path rows)
    → MakesMembers s left steps rows made → MakesNode s left at (Some node.Container) rows (object made)
container_made s left at steps rows made e makes bound laid short name d (container part ms some inside) =
    let steps_are : steps ≡ below at name [] = e ∙ steps_of_first at name [] rows some (members_under s [] (below at name []) rows ms inside) in
    let long : length steps ≡ length at + 1 = ap length steps_are ∙ length-below at name [] in
    ap object (makes bound laid (omega (arith, long, short)) [] ms (subst (λ (x : List PathStep). AreMembers s [] x rows ms) (sym steps_are) inside))

pub list_made : (s : SchemaTable) (left : ℕ) (at : List PathStep) (l : ListNode) (rows : Rows) (made : Items) → MakesEntries s left at l.keys rows made
    → MakesNode s left at (Some (node.List l)) rows (array made)
list_made s left at l rows made makes bound laid short name d (list own part ds any differ some inside) = ap array (makes bound laid short name ds inside)

pub leaf_made : (s : SchemaTable) (left : ℕ) (at : List PathStep) (l : LeafNode) (rows : Rows) (made : Data)
    → ((path : List PathStep) (text : List ℕ) → rows ≡ (path, Leaf text) ∷ [] → IsTrue (is_canonical l.kind text) → made ≡ json_of l.kind text)
    → MakesNode s left at (Some (node.Leaf l)) rows made
leaf_made s left at l rows made makes bound laid short name d (leaf same text no_key own) = makes (below at name []) text refl (canonical l.kind text own)

pub leaf_list_made : (s : SchemaTable) (left : ℕ) (at : List PathStep) (l : ValueListNode) (rows : Rows) (made : Items)
    → ((front : List PathStep) (name : List ℕ) (ds : Items) → length front ≡ length at → AreValues l.kind front name rows ds → made ≡ ds)
    → MakesNode s left at (Some (node.LeafList l)) rows (array made)
leaf_list_made s left at l rows made makes bound laid short name d (leaf_list same part ds some inside) = ap array (makes at name ds refl inside)

-- Entries -------------------------------------------------------------------------------------------------------------

last_of : PathStep → List PathStep → PathStep
last_of step [] = step
last_of step (other ∷ steps) = last_of other steps

last_of-seam : (first : PathStep) (front : List PathStep) (step : PathStep) → last_of first (front ++ step ∷ []) ≡ step
unfolding last_of
last_of-seam first [] step = refl
last_of-seam first (other ∷ front) step = last_of-seam other front step

same_last : (front : List PathStep) (step : PathStep) (at : List PathStep) (other : PathStep) → front ++ step ∷ [] ≡ at ++ other ∷ [] → step ≡ other
same_last front step at other e = sym (last_of-seam step front step) ∙ ap (last_of step) e ∙ last_of-seam step at other

inside_is : Rows → Rows
inside_is [] = []
inside_is (row ∷ rows) = rows

same_inside : (row other : Row) (rows others : Rows) → row ∷ rows ≡ other ∷ others → rows ≡ others
unfolding inside_is
same_inside row other rows others e = ap inside_is e

names_of : (at : List PathStep) (name : List ℕ) (keys : List (List ℕ)) → path_names (below at name keys) ≡ path_names at ++ name ∷ []
names_of at name keys = map-append (λ (step : PathStep). step.node) at (step_of name keys ∷ [])

pub entry_made : (s : SchemaTable) (left : ℕ) (at : List PathStep) (keys : List (List ℕ)) (rows : Rows) (row : Row) (behind : Rows) (steps front : List PathStep) (step : PathStep)
    (made new : Members) → rows ≡ row ∷ behind → steps ≡ take (length at + 1) (first_path rows) → steps ≡ front ++ step ∷ []
    → MakesMembers s left steps behind made
    → (IsTrue (are_keys s (path_names steps) keys step.keys) → new ≡ with_key_members s (path_names steps) keys step.keys made)
    → MakesEntry s left at keys rows (object new)
entry_made s left at keys rows row behind steps front step made new e taken cut makes puts bound laid short name texts inside ms is well within =
    let steps_are : steps ≡ below at name texts =
    taken ∙ ap (λ rs. take (length at + 1) (first_path rs)) is ∙ steps_under at name (below at name texts, Entry) own in
    let keys_are : step.keys ≡ texts = ap (λ (x : PathStep). x.keys) (same_last front step at (step_of name texts) (sym cut ∙ steps_are)) in
    let names_are : path_names steps ≡ path_names at ++ name ∷ [] = ap path_names steps_are ∙ names_of at name texts in
    let behind_is : behind ≡ inside = same_inside row (below at name texts, Entry) behind inside (sym e ∙ is) in
    let long : length steps ≡ length at + 1 = ap length steps_are ∙ length-below at name texts in
    let here : AreMembers s keys steps behind ms =
    subst (λ (x : Rows). AreMembers s keys steps x ms) (sym behind_is) (subst (λ (x : List PathStep). AreMembers s keys x inside ms) (sym steps_are) within) in
    let made_is : made ≡ ms = makes bound (laid_back bound (row ∷ []) behind (subst (AreLaid bound) e laid)) (omega (arith, long, short)) keys ms here in
    let well_here : IsTrue (are_keys s (path_names steps) keys step.keys) =
    ap (λ x. are_keys s x keys step.keys) names_are ∙ ap (are_keys s (path_names at ++ name ∷ []) keys) keys_are ∙ well in
    ap object (puts well_here ∙ ap (λ x. with_key_members s x keys step.keys made) names_are
    ∙ ap (λ x. with_key_members s (path_names at ++ name ∷ []) keys x made) keys_are
    ∙ ap (with_key_members s (path_names at ++ name ∷ []) keys texts) made_is)
  where
    own : IsUnder at name (below at name texts, Entry)
    own = record { keys = texts; more = []; is = sym (append-nil (below at name texts)) }
