-- What is due is planned, and a refusal has its cause.
use Rattle.std.proofs.Common.{All, ◌≡◌, ⊎_elim, true, ◌||◌, List, refl, sym, ap, subst, ◌∙◌, is_some, [], ◌∷◌, length, arith}
use Rattle.std.specs.FinMap.{get, find, is_sorted, from_sorted}
use Rattle.std.specs.List.{list_all}
use Rattle.std.proofs.lemmas.Bool.{and_parts, both_ways, cases_Bool, or_parts}
use Rattle.std.proofs.lemmas.List.Elements.{All-head, All-tail}
use Rattle.orc_path.specs.Steps.{PathStep}
use Rattle.orc_path.specs.Order.{path_cmp}
use Rattle.orc_path.specs.Items.{fits}
use Rattle.orc_path.specs.Configurations.{Config, IsConfig, drop_item, put_item}
use Rattle.orc_path.proofs.ConfigurationLaws.{IsConfig-drop_item, IsConfig-put_item}
use Rattle.orc_tree.specs.Changes.{applied, change_fits, drop_each, put_each}
use Rattle.orc_tree.specs.declared.change.Change.{Change}
use Rattle.orc_tree.specs.declared.change.Change.TheVariants.{Put, Remove}
use Rattle.orc_tree.proofs.InOrder.{is_true_T}
use Rattle.orc_change.specs.Differences.{difference}
use Rattle.orc_change.proofs.Exact.{difference_mentions, difference-same}
use Rattle.std.specs.Prelude.{◌==◌}
use Rattle.std.proofs.lemmas.Map.Views.{exact_unsigned_eq}
use Rattle.orc_change.proofs.Towards.{Mentions}
use Rattle.orc_refs.specs.Stores.{Store, Backs, store_of, written_by}
use Rattle.orc_refs.specs.Moves.{BringWhole, IsMoved, LeadsTo, StartAt, are_distinct, edited, writes_after}
use Rattle.orc_refs.specs.Clashes.{IsCause}
use Rattle.orc_refs.specs.inside.Kept.{AreKept}
use Rattle.orc_refs.specs.inside.Settling.{changes_touch, moves_touch}
use Rattle.orc_refs.specs.inside.Plans.{HasCause, IsPlanned, PutsAtPath, all_agree, changes_due, rows_due, planned_store, with_rows}
use Rattle.orc_refs.specs.declared.moves.Move.{Move}
use Rattle.orc_refs.specs.declared.moves.BaseEdit.{BaseEdit}
use Rattle.orc_refs.specs.declared.moves.RefsFault.{RefsFault}
use Rattle.orc_refs.specs.declared.moves.RefsFault.TheVariants.{Clash, Memory}
use Rattle.orc_refs.proofs.ExactLaws.{Paths}
use Rattle.orc_refs.proofs.StoreLaws.{after, untouched_bring}
use Rattle.orc_refs.proofs.SettledLaws.{Covers, plan_is}
use Rattle.orc_refs.proofs.RowLaws.{BackRows}
use Rattle.orc_refs.proofs.TouchedLaws.{mentions_touch}
use Rattle.orc_refs.proofs.ClashLaws.{clash_is}

abbrev pub AreTouched : Config → Config → List Move → Paths → Type 0
AreTouched base edited ms es = (p : List PathStep) → is_some (find path_cmp p es) ≡ (changes_touch (difference base edited) p || moves_touch ms p)

covers : (s : Store) (edited : Config) (ms : List Move) (es : Paths) → AreTouched s.base edited ms es → Covers s edited ms es
covers s edited ms es paths = record {
  touch = λ p f. (or_parts _ _ (sym (paths p) ∙ f)).1;
  same = λ p f. ⊎_elim
      (λ (e : get s.base p ≡ get edited p). sym e)
      (λ (e : Mentions p (difference s.base edited)). absurd (both_ways (changes_touch (difference s.base edited) p) (or_parts _ _ (sym (paths p) ∙ f)).0 (mentions_touch p (difference s.base edited) e)))
      (difference_mentions s.base edited p);
}

-- what is due at the touched paths is a plan
pub due_is_planned : (base tree edited : Config) (backs : BackRows) (ms : List Move) (es : Paths) (changes : List Change) (rows : BackRows) → AreKept base tree backs → IsConfig edited
    → StartAt (store_of base tree backs) ms → are_distinct ms ≡ true → BringWhole ms → is_sorted path_cmp es ≡ true → AreTouched base edited ms es
    → all_agree (from_sorted backs) tree edited ms es ≡ true → changes ≡ changes_due (from_sorted backs) tree edited ms es → rows ≡ rows_due (from_sorted backs) ms es
    → IsPlanned (store_of base tree backs) edited ms changes rows
due_is_planned base tree edited backs ms es changes rows kept config start distinct whole sorted paths agree is_changes is_rows =
    let s = store_of base tree backs in
    subst (λ (r : BackRows). IsPlanned s edited ms changes r) (sym is_rows)
    (subst (λ (l : List Change). IsPlanned s edited ms l (rows_due (from_sorted backs) ms es)) (sym is_changes)
    (plan_is s edited ms es kept.store config start distinct whole (is_true_T _ sorted) (covers s edited ms es paths) agree))

-- what is first among the touched paths is the least of all
pub cause_is : (base tree edited : Config) (backs : BackRows) (ms : List Move) (es : Paths) (fault : RefsFault) → AreKept base tree backs → are_distinct ms ≡ true → AreTouched base edited ms es
    → HasCause (from_sorted backs) tree edited ms es fault → IsCause (writes_after ms (written_by (store_of base tree backs))) ms fault
cause_is base tree edited backs ms es Memory kept distinct paths cause = tt
cause_is base tree edited backs ms es (Clash p other) kept distinct paths cause =
    let s = store_of base tree backs in
    let all = covers s edited ms es paths in
    clash_is s edited ms p other kept.store distinct cause.1
    (λ q less. ⊎_elim (λ t. cause.0.before q t less) (λ f. untouched_bring ms q (after s edited ms q) (all.touch q f)) (cases_Bool (is_some (find path_cmp q es))))

-- removals keep a configuration one
dropped_config : (changes : List Change) (m : Config) → IsConfig m → IsConfig (drop_each changes m)
dropped_config [] m config = config
dropped_config (Remove p ∷ rest) m config = dropped_config rest (drop_item m p) (IsConfig-drop_item m p config)
dropped_config (Put p item ∷ rest) m config = dropped_config rest m config

-- what is put at paths that it fits does too
put_config : (changes : List Change) (m : Config) → All PutsAtPath changes → list_all change_fits changes ≡ true → IsConfig m → IsConfig (put_each changes m)
put_config [] m paths fit config = config
put_config (Put p item ∷ rest) m paths fit config =
    let both = and_parts (fits p item) (list_all change_fits rest) fit in
    put_config rest (put_item m p item) (All-tail PutsAtPath (Put p item) rest paths) both.1
    (IsConfig-put_item m p item config (All-head PutsAtPath (Put p item) rest paths) both.0)
put_config (Remove p ∷ rest) m paths fit config =
    put_config rest m (All-tail PutsAtPath (Remove p) rest paths) (and_parts true (list_all change_fits rest) fit).1 config

-- a plan on the edited base leads where the moves and the edits lead
pub planned_is_moved : (s : Store) (base : Config) (ms : List Move) (edits : List BaseEdit) (changes : List Change) (rows : BackRows) (tree : Config) → base ≡ edited edits s.base
    → IsPlanned s base ms changes rows → tree ≡ applied changes s.tree → IsConfig tree → IsMoved s ms edits (planned_store s base changes rows)
planned_is_moved s base ms edits changes rows tree is_base plan is_tree config = record {
  base = is_base;
  written = plan.written;
  store = plan.store (subst IsConfig is_tree config);
}

abbrev store_with : Config → Config → Backs → Store
store_with base tree backs = record { base = base; tree = tree; backs = backs }

-- the parts put in place
pub put_in_place : (s : Store) (base tree : Config) (changes : List Change) (rows backs : BackRows) → tree ≡ applied changes s.tree
    → from_sorted {R = path_cmp} backs ≡ with_rows rows s.backs → store_of base tree backs ≡ planned_store s base changes rows
put_in_place s base tree changes rows backs is_tree is_backs =
    ap (λ (m : Config). store_of base m backs) is_tree ∙ ap (store_with base (applied changes s.tree)) is_backs

-- the parts put in place are those of the store to which the moves and the edits lead
pub applied_is : (base tree : Config) (backs : BackRows) (ms : List Move) (edits : List BaseEdit) (new_base new_tree : Config) (changes : List Change) (rows new_backs : BackRows)
    → IsMoved (store_of base tree backs) ms edits (planned_store (store_of base tree backs) new_base changes rows) → new_tree ≡ applied changes tree
    → from_sorted {R = path_cmp} new_backs ≡ with_rows rows (from_sorted backs) → IsMoved (store_of base tree backs) ms edits (store_of new_base new_tree new_backs)
applied_is base tree backs ms edits new_base new_tree changes rows new_backs moved is_tree is_backs =
    let s = store_of base tree backs in
    subst (IsMoved s ms edits) (sym (put_in_place s new_base new_tree changes rows new_backs is_tree is_backs)) moved

-- what a plan leads to
pub planned_leads : (s : Store) (base tree : Config) (ms : List Move) (edits : List BaseEdit) (changes set : List Change) (rows : BackRows) → set ≡ changes → IsMoved s ms edits (planned_store s base changes rows)
    → changes ≡ difference s.tree (applied changes s.tree) → LeadsTo s ms edits set
planned_leads s base tree ms edits changes set rows is moved exact = subst (LeadsTo s ms edits) (sym is) (record {
  after = planned_store s base changes rows;
  moved = moved;
  leads = refl;
  exact = exact;
})

-- a plan's changes make a configuration, and lead where the moves and the edits lead
pub looked_ahead : (s : Store) (base : Config) (ms : List Move) (edits : List BaseEdit) (changes set : List Change) (rows : BackRows) → base ≡ edited edits s.base → IsConfig s.tree
    → IsPlanned s base ms changes rows → All PutsAtPath changes → set ≡ changes → LeadsTo s ms edits set
looked_ahead s base ms edits changes set rows is_base tree plan paths is =
    let config : IsConfig (applied changes s.tree) = put_config changes (drop_each changes s.tree) paths plan.fit (dropped_config changes s.tree tree) in
    planned_leads s base (applied changes s.tree) ms edits changes set rows is
    (planned_is_moved s base ms edits changes rows (applied changes s.tree) is_base plan refl config) plan.exact

-- the touched paths, by where an edited base differs
pub touched_by : (base edited : Config) (changes : List Change) (ms : List Move) (es : Paths) → changes ≡ difference base edited
    → ((p : List PathStep) → is_some (find path_cmp p es) ≡ (changes_touch changes p || moves_touch ms p)) → AreTouched base edited ms es
touched_by base edited changes ms es is paths = subst (λ (l : List Change). (p : List PathStep) → is_some (find path_cmp p es) ≡ (changes_touch l p || moves_touch ms p)) is paths

-- where there is no edit nothing differs
pub unedited : (edits : List BaseEdit) (base tree : Config) → (length edits == 0) ≡ true → tree ≡ edited edits base → [] ≡ difference base tree
unedited [] base tree e is = sym (difference-same base) ∙ ap (difference base) (sym is)
unedited (x ∷ xs) base tree e is = absurd (omega (arith, exact_unsigned_eq (length (x ∷ xs)) 0 e))
