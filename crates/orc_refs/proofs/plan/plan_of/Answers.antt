use Rattle.std.proofs.Common.{◌≡◌, ◌<◌, ◌++◌, ◌∷◌, [], ℕ, length, get_or, Bool, true, Ok, Some, Result, List, refl, ap, sym, subst, ◌∙◌, arith}
use Rattle.std.specs.declared.option.Option.{Option}
use Rattle.std.specs.Option.{option_copied}
use Rattle.std.specs.FinMap.{from_sorted, get}
use Rattle.orc_path.specs.Steps.{PathStep}
use Rattle.orc_path.specs.declared.item.Item.{Item}
use Rattle.orc_path.specs.Configurations.{Config}
use Rattle.orc_tree.proofs.InOrder.{is_true_T}
use Rattle.orc_refs.specs.Stores.{ids_in}
use Rattle.orc_refs.specs.inside.Settling.{all_bring, ids_after, item_after}
use Rattle.orc_refs.specs.inside.Rivals.{rival_of}
use Rattle.orc_refs.specs.inside.Plans.{IsFirstClash, come, due, gone, puts_due, removals_due, rows_due}
use Rattle.orc_tree.specs.declared.change.Change.{Change}
use Rattle.std.specs.FinMap.{is_sorted}
use Rattle.orc_path.specs.Order.{path_cmp}
use Rattle.orc_refs.specs.inside.Marks.{paths_in, shown}
use Rattle.orc_refs.proofs.MarkLaws.{length-paths, path_here, sorted-paths}
use Rattle.orc_refs.proofs.LentLaws.{row_brought}
use Rattle.orc_refs.proofs.RowLaws.{BackRows}
use Rattle.orc_refs.proofs.SettledLaws.{agree_more, first_clash, more_planned}
use Rattle.orc_text.specs.declared.memory.Memory.{Memory}
use Rattle.orc_refs.proofs.plan.plan_of.Goals as goal

-- what is found at a path, put in place of what stands there
placed : (ids others : List (List ℕ)) (here item : Option Item) (base tree : Config) (X : Type 0) (F : List (List ℕ) → Option Item → Config → X) → ids ≡ others → here ≡ item → base ≡ tree
    → F ids here base ≡ F others item tree
placed ids others here item base tree X F e f g = ap (λ (l : List (List ℕ)). F l here base) e ∙ ap (λ (o : Option Item). F others o base) f ∙ ap (F others item) g

pub returns-then-not-branch-clause-clash : goal.returns-then-not-branch-clause-clash
returns-then-not-branch-clause-clash g c =
    let backs = from_sorted c.args.store.now.backs.now in
    let tree = c.args.store.now.tree.now in
    let base = c.args.store.now.base.now in
    let ms = c.args.moves.now in
    let rows = c.args.touched.now in
    let p = c.row-item.result.0.now in
    let l : c.loop-row.row-index < length (paths_in rows) = subst (λ n. c.loop-row.row-index < n) (sym (length-paths rows)) c.loop-row-test.true in
    let sorted : is_sorted path_cmp (paths_in rows) ≡ true = sorted-paths rows ∙ c.requires.paths in
    let here : ◌≡◌ {A = List PathStep × Unit {0}} (p, tt) (get_or (paths_in rows) c.loop-row.row-index (p, tt)) = path_here rows c.loop-row.row-index c.row-item.result c.loop-row-test.true c.row-item.is in
    let found = c.place_at-found.result in
    let is = c.place_at-found.ensures in
    let agreed : c.in_ok-settle.field-0 ≡ all_bring ms p (due backs tree base ms p) =
    c.in_ok-settle.ensures.agree ∙ placed found.ids.now (ids_in backs p) (option_copied found.here) (get tree p) found.base.now base Bool (λ ids h b. all_bring ms p (item_after ms p ids h (get b p))) is.ids is.here is.base in
    let rivals : rival_of ms p (ids_in backs p) (get tree p) ≡ Some c.in_ok-other.other =
    sym (ap (λ (q : List PathStep). rival_of ms q found.ids.now (option_copied found.here)) c.in_ok-path.ensures
    ∙ ap (λ (ids : List (List ℕ)). rival_of ms p ids (option_copied found.here)) is.ids
    ∙ ap (λ (o : Option Item). rival_of ms p (ids_in backs p) o) is.here)
    ∙ c.in_ok-other.ensures in
    subst (λ (q : List PathStep). IsFirstClash backs tree base ms (paths_in rows) q × (rival_of ms q (ids_in backs q) (get tree q) ≡ Some c.in_ok-other.other)) (sym c.in_ok-path.ensures)
    ((first_clash backs tree base ms (paths_in rows) c.loop-row.row-index (p, tt) (is_true_T _ sorted) l here c.loop-row.invariant.before (sym agreed ∙ c.if-not-branch.true)), rivals)

pub loop-row-preserved : goal.loop-row-preserved
loop-row-preserved g c =
    let backs = from_sorted c.args.store.now.backs.now in
    let tree = c.args.store.now.tree.now in
    let base = c.args.store.now.base.now in
    let ms = c.args.moves.now in
    let rows = c.args.touched.now in
    let es = paths_in rows in
    let i = c.loop-row.row-index in
    let p = c.row-item.result.0.now in
    let e : List PathStep × Unit {0} = (p, tt) in
    let l : i < length es = subst (λ n. i < n) (sym (length-paths rows)) c.loop-row-test.true in
    let here : e ≡ get_or es i e = path_here rows i c.row-item.result c.loop-row-test.true c.row-item.is in
    let place = c.place_at-found.result in
    let is = c.place_at-found.ensures in
    let found : (X : Type 0) (F : List (List ℕ) → Option Item → Config → X) → F place.ids.now (option_copied place.here) place.base.now ≡ F (ids_in backs p) (get tree p) base =
    λ X F. placed place.ids.now (ids_in backs p) (option_copied place.here) (get tree p) place.base.now base X F is.ids is.here is.base in
    let ok : ◌≡◌ {A = Result Bool Memory} (Ok c.in_ok-settle.field-0) (Ok true) = ap Ok c.if-not-branch.false in
    record {
      rows = λ w. more_planned (rows_due backs ms) (λ e. (e.0, ids_after ms e.0 (ids_in backs e.0)) ∷ []) (λ e es. refl) c.loop-row.plan.rows c.add_pointers.new.self.rows es i e l here
          (c.in_ok-add_pointers.ensures.rows w ∙ ap (λ (rows : BackRows). rows ++ (p, ids_after ms p place.ids.now) ∷ []) c.settle.ensures.rows
          ∙ ap (λ (ids : List (List ℕ)). c.loop-row.plan.rows ++ (p, ids_after ms p ids) ∷ []) is.ids) (c.loop-row.invariant.rows w);
      removals = more_planned (removals_due backs tree base ms) (λ e. gone (get tree e.0) (due backs tree base ms e.0) e.0) (λ e es. refl) c.loop-row.plan.removals c.add_pointers.new.self.removals es i e l here
          (c.add_pointers.ensures.removals ∙ c.in_ok-settle.ensures.removals ok ∙ found (List Change) (λ ids h b. c.loop-row.plan.removals ++ gone h (item_after ms p ids h (get b p)) p)) c.loop-row.invariant.removals;
      puts = more_planned (puts_due backs tree base ms) (λ e. come (get tree e.0) (due backs tree base ms e.0) e.0) (λ e es. refl) c.loop-row.plan.puts c.add_pointers.new.self.puts es i e l here
          (c.add_pointers.ensures.puts ∙ c.in_ok-settle.ensures.puts ok ∙ found (List Change) (λ ids h b. c.loop-row.plan.puts ++ come h (item_after ms p ids h (get b p)) p)) c.loop-row.invariant.puts;
      before = agree_more backs tree base ms es i e l here c.loop-row.invariant.before
          (sym (found Bool (λ ids h b. all_bring ms p (item_after ms p ids h (get b p)))) ∙ sym c.in_ok-settle.ensures.agree ∙ c.if-not-branch.false);
      steps = omega (arith, c.tick.ensures, c.loop-row.invariant.steps);
    }

pub settle-requires : goal.settle-requires
settle-requires g c =
    ap shown c.as_slice.ensures.value
    ∙ sym (row_brought c.args.touched.now c.loop-row.row-index c.row-item.result c.requires.paths c.loop-row-test.true c.row-item.is)
    ∙ c.requires.brings c.row-item.result.0.now

pub add_pointers-requires : goal.add_pointers-requires
add_pointers-requires g c =
    ap shown c.as_slice-in-loop-row.ensures.value
    ∙ sym (row_brought c.args.touched.now c.loop-row.row-index c.row-item.result c.requires.paths c.loop-row-test.true c.row-item.is)
    ∙ c.requires.brings c.row-item.result.0.now
