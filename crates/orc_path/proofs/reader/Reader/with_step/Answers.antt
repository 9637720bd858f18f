use Rattle.std.proofs.Common.{◌≡◌, ◌∙◌, ◌++◌, ◌∷◌, [], true, List, ap, subst, sym}
use Rattle.orc_path.specs.Steps.{PathStep, is_path}
use Rattle.orc_path.specs.inside.Reading.{present_step}
use Rattle.orc_path.specs.declared.reader.Reader.{Reader}
use Rattle.orc_path.proofs.Feeds.{is_path_more}
use Rattle.orc_path.proofs.reader.Reader.with_step.Goals as goal

pub invariant_of-result : goal.invariant_of-result
invariant_of-result c =
    let self = c.args.self in
    let left = ap (λ (r : Reader). r.done ++ c.take_step-step.result ∷ []) c.take_step-step.ensures.left in
    let step = ap (λ (s : PathStep). c.args.self.done ++ s ∷ []) c.take_step-step.ensures.step in
    subst (λ (p : List PathStep). is_path p ≡ true) (sym (c.in_ok-push.ensures.ok ∙ left ∙ step))
    (is_path_more c.args.self.done (present_step c.args.self) c.requires.before c.requires.node c.requires.keys)
