use Rattle.std.proofs.Common.{◌≡◌, ◌+◌, ◌<◌, ◌≤◌, List, length, ap, sym, subst, ◌∙◌, arith}
use Rattle.orc_path.specs.Steps.{PathStep}
use Rattle.orc_path.specs.Configurations.{has_keys_at, enter_all, ways_up_to}
use Rattle.orc_tree.specs.Pages.{chapters_rows}
use Rattle.orc_tree.specs.inside.Puts.{HasNoneBeyond, AreGaps}
use Rattle.orc_tree.proofs.Maps.{map_of}
use Rattle.orc_tree.proofs.Entering.{missing_more, missing_none}
use Rattle.orc_tree.proofs.Between.{gaps_more}
use Rattle.orc_tree.proofs.ways.missing_ways.Goals as goal
use Rattle.orc_tree.proofs.ways.missing_ways.Goals.{then-has_keys+in_ok-first_steps+in_ok-push, else-has_keys}

pub loop-at-preserved : goal.loop-at-preserved
loop-at-preserved c =
    let p = c.args.path.now in
    let at = c.loop-at.at in
    let rows = chapters_rows c.args.chapters.now in
    let is_steps : c.as_slice-steps.result.now ≡ p = c.as_slice-steps.ensures ∙ c.path.view_is in
    let more : at + 1 < length p = omega (arith, c.saturating_sub-at-end.ensures, ap length is_steps) in
    let beyond : HasNoneBeyond c.present_steps-present.result p rows = subst (λ (s : List PathStep). HasNoneBeyond c.present_steps-present.result s rows) is_steps c.present_steps-present.ensures.beyond in
    let told : c.has_keys.result ≡ has_keys_at p at = c.has_keys.ensures ∙ ap (λ (s : List PathStep). has_keys_at s at) is_steps in
    let from : c.present_steps-present.result ≤ at + 1 = omega (arith, c.loop-at.invariant.from) in
    elim c.if-has_keys.branch [
      | then-has_keys+in_ok-first_steps+in_ok-push w ↦
          let push = ap (λ v. v.items) w.missing-is ∙ w.in_ok-push.ensures.items in
          let keys = sym told ∙ w.if-has_keys.true in
          record {
            from = from;
            entered = missing_more p at (map_of rows) w.in_ok-first_steps.field-0 c.loop-at.missing.items c.if-has_keys.missing.items
                keys c.loop-at.invariant.entered w.in_ok-first_steps.ensures push;
            gaps = gaps_more p at rows w.in_ok-first_steps.field-0 c.loop-at.missing.items c.if-has_keys.missing.items
                c.requires.sorted c.requires.config more keys (beyond at c.loop-at.invariant.from more keys) c.loop-at.invariant.gaps w.in_ok-first_steps.ensures push;
          }
      | else-has_keys w ↦
          let same = sym (ap (λ v. v.items) w.missing-is) in
          record {
            from = from;
            entered = subst (λ (found : List (List PathStep)). enter_all found (map_of rows) ≡ enter_all (ways_up_to (at + 1) p) (map_of rows)) same
                (missing_none p at (map_of rows) c.loop-at.missing.items (sym told ∙ w.if-has_keys.false) c.loop-at.invariant.entered);
            gaps = subst (λ (found : List (List PathStep)). AreGaps p rows found) same c.loop-at.invariant.gaps;
          }
    ]
