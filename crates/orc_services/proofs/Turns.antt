-- Actions that are expanded one after another.
use Rattle.std.proofs.Common.{◌≡◌, ℕ, List, [], ◌∷◌, ◌++◌, refl, sym, ap, subst, ◌∙◌, append_assoc, append-nil}
use Rattle.std.specs.declared.option.Option.{Option}
use Rattle.std.specs.declared.option.Option.TheVariants.{Some}
use Rattle.std.specs.declared.result.Result.{Result}
use Rattle.std.specs.declared.result.Result.TheVariants.{Ok, Err}
use Rattle.std.specs.Option.{option_map}
use Rattle.orc_call.specs.declared.answer.Answer.{Answer}
use Rattle.orc_call.specs.declared.call.Action.{Action}
use Rattle.orc_expr.specs.declared.read.Read.{Read}
use Rattle.orc_path.specs.Steps.{PathStep}
use Rattle.orc_template.specs.Said.{template_json}
use Rattle.orc_services.specs.Services.{Serving, expansion_at}
use Rattle.orc_services.specs.Expanded.{ExpandedTo, as_literal, expanded_actions, expanded_by, expanded_action, with_expanded, ExpandsTo}
use Rattle.orc_services.specs.declared.list.ServiceList.{ServiceList}

-- some that are expanded, before what later ones come to
abbrev pub with_actions : List Action → Result (List Action) Answer → Result (List Action) Answer
with_actions front (Ok actions) = Ok (front ++ actions)
with_actions front (Err answer) = Err answer

abbrev pub behind : List Action → List Read → ExpandedTo (List Action) → ExpandedTo (List Action)
behind front reads later = record { outcome = with_actions front later.outcome; reads = reads ++ later.reads }

-- what is expanded, and what is left comes to, are what all come to, with what was read before the first
abbrev pub Stands : Serving → List Read → List Action → List Action → List Read → List Action → Type 0
Stands s old all front reads left = behind front reads (expanded_actions s left) ≡ behind [] old (expanded_actions s all)

mapped_twice : (front : List Action) (a : Action) (o : Result (List Action) Answer)
    → with_actions front (with_expanded a o) ≡ with_actions (front ++ a ∷ []) o
mapped_twice front a (Ok actions) = ap Ok (sym (append_assoc front (a ∷ []) actions))
mapped_twice front a (Err answer) = refl

mapped_none : (o : Result (List Action) Answer) → with_actions [] o ≡ o
mapped_none (Ok actions) = refl
mapped_none (Err answer) = refl

-- one more is expanded
pub expanded_more : (s : Serving) (old : List Read) (all front left later : List Action) (reads new : List Read) (action a : Action)
    → Stands s old all front reads left → left ≡ action ∷ later → Ok a ≡ (expanded_action s action).outcome → new ≡ reads ++ (expanded_action s action).reads
    → Stands s old all (front ++ a ∷ []) new later
expanded_more s old all front left later reads new action a stands first outcome added =
    let rest = expanded_actions s later in
    let one = expanded_action s action in
    let turn : behind (front ++ a ∷ []) new rest ≡ behind front reads (expanded_by (Ok a) one.reads rest) =
    ap (λ (n : List Read). behind (front ++ a ∷ []) n rest) added
    ∙ sym (ap (λ (o : Result (List Action) Answer). record { outcome = o; reads = reads ++ (one.reads ++ rest.reads) }) (mapped_twice front a rest.outcome)
    ∙ ap (λ (r : List Read). record { outcome = with_actions (front ++ a ∷ []) rest.outcome; reads = r }) (sym (append_assoc reads one.reads rest.reads))) in
    turn
    ∙ ap (λ (o : Result Action Answer). behind front reads (expanded_by o one.reads rest)) outcome
    ∙ ap (λ (l : List Action). behind front reads (expanded_actions s l)) (sym first) ∙ stands

-- one can't be
pub expanded_stops : (s : Serving) (old : List Read) (all front left later : List Action) (reads new : List Read) (action : Action) (answer : Answer)
    → Stands s old all front reads left → left ≡ action ∷ later → Err answer ≡ (expanded_action s action).outcome → new ≡ reads ++ (expanded_action s action).reads
    → ExpandsTo (expanded_actions s all) old new (Err answer)
expanded_stops s old all front left later reads new action answer stands first outcome added =
    let one = expanded_action s action in
    let whole : behind front reads (expanded_by (Err answer) one.reads (expanded_actions s later)) ≡ behind [] old (expanded_actions s all) =
    ap (λ (o : Result Action Answer). behind front reads (expanded_by o one.reads (expanded_actions s later))) outcome
    ∙ ap (λ (l : List Action). behind front reads (expanded_actions s l)) (sym first) ∙ stands in (
      ap (λ (x : ExpandedTo (List Action)). x.outcome) whole ∙ mapped_none (expanded_actions s all).outcome,
      added ∙ ap (λ (x : ExpandedTo (List Action)). x.reads) whole,
    )

-- all are
pub expanded_whole : (s : Serving) (old : List Read) (all front left : List Action) (reads : List Read)
    → Stands s old all front reads left → left ≡ [] → ExpandsTo (expanded_actions s all) old reads (Ok front)
expanded_whole s old all front left reads stands none =
    let whole : behind front reads (expanded_actions s []) ≡ behind [] old (expanded_actions s all) =
    ap (λ (l : List Action). behind front reads (expanded_actions s l)) (sym none) ∙ stands in (
      ap Ok (sym (append-nil front)) ∙ ap (λ (x : ExpandedTo (List Action)). x.outcome) whole ∙ mapped_none (expanded_actions s all).outcome,
      sym (append-nil reads) ∙ ap (λ (x : ExpandedTo (List Action)). x.reads) whole,
    )

-- the literal service of a list's entry, of none, and of no path
pub of_list : (s : Serving) (names : List (List ℕ)) (id : List ℕ) (path : List PathStep) (found : Option ServiceList) (it : ServiceList) (old new : List Read)
    (outcome : Result Action Answer) → found ≡ Some it
    → ExpandsTo (as_literal names id (Some (expansion_at s (record { path = path; template = template_json it.template })))) old new outcome
    → ExpandsTo (as_literal names id (option_map (expansion_at s) (option_map (λ (it : ServiceList). record { path = path; template = template_json it.template }) found))) old new outcome
of_list s names id path found it old new outcome is gives =
    subst (λ (o : Option ServiceList). ExpandsTo (as_literal names id (option_map (expansion_at s) (option_map (λ (it : ServiceList). record { path = path; template = template_json it.template }) o))) old new outcome)
    (sym is) gives

-- what was read apart, after what was read before
pub added_to : (old new read fresh due : List Read) → new ≡ old ++ read → read ≡ fresh ++ due → fresh ≡ [] → new ≡ old ++ due
added_to old new read fresh due added gave none =
    added ∙ ap (λ (l : List Read). old ++ l) (gave ∙ ap (λ (l : List Read). l ++ due) none)
