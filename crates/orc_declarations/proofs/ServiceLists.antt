-- A template more stays lawful.
use Rattle.std.proofs.Common.{◌≡◌, ◌-◌, length, take, ◌&&◌, ◌||◌, Bool, true, false, not, ℕ, List, [], ◌∷◌, ◌++◌, is_some, map, refl, ap, sym, subst, ◌∙◌}
use Rattle.std.specs.List.{IsDistinct, list_all, list_any}
use Rattle.std.specs.Ordering.{eq_by_cmp}
use Rattle.std.proofs.lemmas.Bool.{and_from, and_parts, or_from, or_parts}
use Rattle.std.proofs.lemmas.Cmp.{eq_by_cmp_equiv}
use Rattle.std.proofs.lemmas.Map.Keys.{IsDistinct-push}
use Rattle.orc_path.specs.Order.{path_cmp}
use Rattle.orc_path.specs.Limits.{is_long_path}
use Rattle.orc_path.specs.Steps.{PathStep, has_keys, is_path}
use Rattle.orc_schema_nodes.specs.Schemas.{SchemaTable, node_at, path_names}
use Rattle.orc_typed.specs.Typed.{stand}
use Rattle.orc_path.proofs.PathOrder.{path_cmp_total}
use Rattle.orc_template.specs.Said.{json_value}
use Rattle.orc_call.specs.declared.call.Put.{Put}
use Rattle.orc_services.specs.declared.list.ServiceList.{ServiceList}
use Rattle.orc_decls.specs.Calls.{is_kept, is_served, meets}
use Rattle.orc_decls.specs.Declarations.{has_template, is_list_node, is_list_of_services, is_service_list}
use Rattle.orc_lines.specs.Lawful.{AreDeclared}
use Rattle.orc_lines.specs.declared.declared.Declared.{Declared}
use Rattle.orc_lines.proofs.Lawful.{all_more}
use Rattle.orc_declarations.specs.inside.Templates.{is_reached}
use Rattle.orc_declarations.specs.Declarations.{is_listed_already, is_template_of, may_be_served}

any_more : {X : Type 0} (f : X → Bool) (xs : List X) (x : X) → list_any f xs ≡ false → f x ≡ false → list_any f (xs ++ x ∷ []) ≡ false
any_more f [] x h e = or_from (f x) false e refl
any_more f (y ∷ ys) x h e = let parts = or_parts (f y) (list_any f ys) h in or_from (f y) (list_any f (ys ++ x ∷ [])) parts.0 (any_more f ys x parts.1 e)

back : (b : Bool) → not b ≡ true → b ≡ false
back false h = refl
back true h = sym h

-- no item of the data is at, under or above a list that gets a template
pub served_more : (lists : List ServiceList) (it : ServiceList) (puts : List Put) → list_all (λ (p : Put). not (is_served lists p.path)) puts ≡ true
    → list_any (λ (p : Put). meets it.list p.path) puts ≡ false → list_all (λ (p : Put). not (is_served (lists ++ it ∷ []) p.path)) puts ≡ true
served_more lists it [] h none = refl
served_more lists it (put ∷ puts) h none =
    let before = and_parts (not (is_served lists put.path)) (list_all (λ (p : Put). not (is_served lists p.path)) puts) h in
    let other = or_parts (meets it.list put.path) (list_any (λ (p : Put). meets it.list p.path) puts) none in
    and_from (not (is_served (lists ++ it ∷ []) put.path)) (list_all (λ (p : Put). not (is_served (lists ++ it ∷ []) p.path)) puts)
    (ap not (any_more (λ (l : ServiceList). meets l.list put.path) lists it (back (is_served lists put.path) before.0) other.0))
    (served_more lists it puts before.1 other.1)

-- no list has one already

any_mapped : {X Y : Type 0} (f : X → Y) (p : Y → Bool) (xs : List X) → list_any p (map f xs) ≡ list_any (λ (x : X). p (f x)) xs
any_mapped f p [] = refl
any_mapped f p (x ∷ xs) = ap (λ (b : Bool). p (f x) || b) (any_mapped f p xs)

lists_more : (lists : List ServiceList) (it : ServiceList) → map (λ (l : ServiceList). l.list) (lists ++ it ∷ []) ≡ map (λ (l : ServiceList). l.list) lists ++ it.list ∷ []
lists_more [] it = refl
lists_more (l ∷ lists) it = ap (λ (ps : List (List PathStep)). l.list ∷ ps) (lists_more lists it)

-- what holds of each of none
pub all_of_none : {X : Type 0} (f : X → Bool) (xs : List X) → xs ≡ [] → list_all f xs ≡ true
all_of_none {X = X} f xs h = subst (λ (ys : List X). list_all f ys ≡ true) (sym h) refl

-- no list is twice among none
pub none_apart : (lists : List ServiceList) → lists ≡ [] → IsDistinct (eq_by_cmp path_cmp) (map (λ (l : ServiceList). l.list) lists)
unfolding IsDistinct
none_apart lists h = subst (λ (ls : List ServiceList). IsDistinct (eq_by_cmp path_cmp) (map (λ (l : ServiceList). l.list) ls)) (sym h) tt

pub apart_more : (lists : List ServiceList) (it : ServiceList) → IsDistinct (eq_by_cmp path_cmp) (map (λ (l : ServiceList). l.list) lists)
    → list_any (λ (l : ServiceList). eq_by_cmp path_cmp it.list l.list) lists ≡ false → IsDistinct (eq_by_cmp path_cmp) (map (λ (l : ServiceList). l.list) (lists ++ it ∷ []))
apart_more lists it apart new =
    subst (IsDistinct (eq_by_cmp path_cmp)) (sym (lists_more lists it))
    (IsDistinct-push (eq_by_cmp_equiv path_cmp_total) (map (λ (l : ServiceList). l.list) lists) it.list apart
    (any_mapped (λ (l : ServiceList). l.list) (eq_by_cmp path_cmp it.list) lists ∙ new))

-- what was declared has a template more
template_more : (d : Declared) (it : ServiceList) (n : ℕ) (templates : List (List ℕ)) → AreDeclared d → may_be_served d it.list ≡ true → is_listed_already d it.list ≡ false
    → has_template d.data_schema it ≡ true → AreDeclared (record d { templates = templates; services = d.services ++ it ∷ []; skip = n })
template_more d it n templates known may new template =
    let parts = and_parts (is_service_list d.data_schema it.list) (not (list_any (λ (put : Put). meets it.list put.path) d.data)) may in
    record {
      named = known.named;
      plain = known.plain;
      typed = known.typed;
      devices = known.devices;
      few = known.few;
      items = known.items;
      served = served_more d.services it d.data known.served (back (list_any (λ (put : Put). meets it.list put.path) d.data) parts.1);
      services = all_more (is_list_of_services d.data_schema) d.services it known.services
          (and_from (is_service_list d.data_schema it.list) (has_template d.data_schema it) parts.0 template);
      apart = apart_more d.services it known.apart new;
      sound = known.sound;
    }

pub template_added : (d : Declared) (list : List PathStep) (text : List ℕ) (n : ℕ) (templates : List (List ℕ)) (services : List ServiceList) → AreDeclared d
    → may_be_served d list ≡ true → is_listed_already d list ≡ false → is_template_of d.data_schema list text ≡ true
    → services ≡ d.services ++ (record { list = list; template = text }) ∷ [] → AreDeclared (record d { templates = templates; services = services; skip = n })
template_added d list text n templates services known may new template grown =
    let it : ServiceList = record { list = list; template = text } in
    subst (λ (lists : List ServiceList). AreDeclared (record d { templates = templates; services = lists; skip = n })) (sym grown)
    (template_more d it n templates known may new (and_parts (is_some (json_value text)) (has_template d.data_schema it) template).1)

-- where a list of services stands

parts_of : (l b t n k : Bool) → true && not l && b && t && n && k ≡ not l && (k && (b && (t && n)))
parts_of true b t n k = refl
parts_of false false t n true = refl
parts_of false false t n false = refl
parts_of false true false n true = refl
parts_of false true false n false = refl
parts_of false true true false true = refl
parts_of false true true false false = refl
parts_of false true true true true = refl
parts_of false true true true false = refl

pub service_list_parts : (s : SchemaTable) (list : List PathStep) → is_path list ≡ true
    → is_service_list s list ≡ not (is_long_path list) && (not (is_kept list) && is_reached s list)
service_list_parts s list h =
    ap (λ (b : Bool). b && not (is_long_path list) && list_all (λ step. not (has_keys step)) list
    && stand s [] (take (length list - 1) list) && is_list_node (node_at s (path_names list)) && not (is_kept list)) h
    ∙ parts_of (is_long_path list) (list_all (λ step. not (has_keys step)) list) (stand s [] (take (length list - 1) list))
    (is_list_node (node_at s (path_names list))) (not (is_kept list))
