use Rattle.std.proofs.Common.{◌≤◌, ℕ, List, [], ◌∷◌, ◌++◌, length, take, drop, ap, sym, subst, ◌∙◌, arith}
use Rattle.std.proofs.lemmas.List.{take-append-drop, take_all, drop_all}
use Rattle.orc_refs.specs.inside.Settling.{enter_id}
use Rattle.orc_refs.proofs.IdsLaws.{same_at, enter_less, enter_equal, enter_greater}
use Rattle.orc_refs.proofs.settle.enter_id.Goals as goal

pub returns-in-Less : goal.returns-in-Less
returns-in-Less c =
    let ids = c.args.ids.now.items in
    let at = c.loop-at.at in
    let same = c.loop-at.invariant.same in
    let here = same_at _ ids at c.index.result.now same (omega arith) c.index.ensures in
    c.in_ok-insert-in-Less.ensures.items
    ∙ ap (λ (l : List (List ℕ)). take at l ++ c.in_ok-copy-in-Less.field-0 ∷ drop at l) same
    ∙ ap (λ (y : List ℕ). take at ids ++ y ∷ drop at ids) c.in_ok-copy-in-Less.ensures
    ∙ ap (λ r. take at ids ++ r) (sym (enter_less ids at c.args.id.now c.index.result.now here.0 here.1 (sym c.in-Less.ensures)))
    ∙ sym c.loop-at.invariant.before

pub returns-in-Equal : goal.returns-in-Equal
returns-in-Equal c =
    let ids = c.args.ids.now.items in
    let at = c.loop-at.at in
    let here = same_at _ ids at c.index.result.now c.loop-at.invariant.same (omega arith) c.index.ensures in
    c.loop-at.invariant.same ∙ sym (take-append-drop at ids)
    ∙ ap (λ r. take at ids ++ r) (sym (enter_equal ids at c.args.id.now c.index.result.now here.0 here.1 (sym c.in-Equal.ensures)))
    ∙ sym c.loop-at.invariant.before

pub loop-at-preserved : goal.loop-at-preserved
loop-at-preserved c =
    let ids = c.args.ids.now.items in
    let same = c.loop-at.invariant.same in
    let here = same_at _ ids c.loop-at.at c.index.result.now same (omega arith) c.index.ensures in
    record {
      same = same;
      before = c.loop-at.invariant.before ∙ enter_greater ids c.loop-at.at c.args.id.now c.index.result.now here.0 here.1 (sym c.in-Greater.ensures);
    }

pub returns : goal.returns
returns c =
    let ids = c.args.ids.now.items in
    let at = c.loop-at.at in
    let same = c.loop-at.invariant.same in
    let past : length ids ≤ at = subst (λ (l : List (List ℕ)). length l ≤ at) same (omega arith) in
    c.in_ok-push.ensures.items
    ∙ ap (λ (l : List (List ℕ)). l ++ c.in_ok-copy.field-0 ∷ []) same
    ∙ ap (λ (y : List ℕ). ids ++ y ∷ []) c.in_ok-copy.ensures
    ∙ sym (ap (λ (l : List (List ℕ)). take at ids ++ enter_id c.args.id.now l) (drop_all at ids past) ∙ ap (λ (l : List (List ℕ)). l ++ c.args.id.now ∷ []) (take_all at ids past))
    ∙ sym c.loop-at.invariant.before
