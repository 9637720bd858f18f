-- Over whole runs, forward: what is kept of the world and of the turns so far.
use Rattle.std.proofs.Common.{[], ◌≡◌, Bool, true, false, Option, Some, None, List, ◌∷◌, ◌++◌, refl, sym, ap, subst, ◌∙◌, append-nil, append_assoc}
use Rattle.std.specs.List.{flat_map}
use Rattle.orc_rules.specs.Events.{Comes, Turn}
use Rattle.orc_rules.specs.Worlds.{Setting, World}
use Rattle.orc_runs.specs.Runs.{AreDone, EndsIn, LineDone, Run, line_list, turns_of}
use Rattle.orc_runs.specs.Scripts.{Goes, Part, line_parts, set_by}
use Rattle.orc_script.specs.declared.step.ScriptStep.{ScriptStep}

module _ {D : Type 0} (here : Setting D) (P : List (Turn D) → World D → Type 0)
    (p_turn : (ts : List (Turn D)) (turn : Turn D) → P ts turn.before → Comes here turn → P (ts ++ turn ∷ []) turn.behind)
    (p_set : (ts : List (Turn D)) (at : ScriptStep) (world : World D) → P ts world → P ts (set_by at world)) where
  goes_forward : (ended : Bool) (parts : List Part) (ts : List (Turn D)) (world : World D) (turns : List (Turn D)) (last : World D) → P ts world
      → Goes here ended parts world turns last → P (ts ++ turns) last
  goes_forward ended parts ts world turns last p (Goes.whole _) = subst (λ (l : List (Turn D)). P l world) (sym (append-nil ts)) p
  goes_forward ended parts ts world turns last p (Goes.broken _ _ is) = subst (λ (l : List (Turn D)). P l world) (sym (append-nil ts)) p
  goes_forward ended parts ts world turns last p (Goes.once part later turn more _ once next called comes goes) =
      subst (λ (l : List (Turn D)). P l last) (append_assoc ts (turn ∷ []) more)
      (goes_forward ended later (ts ++ turn ∷ []) turn.behind more last (p_turn ts turn p comes) goes)
  goes_forward ended parts ts world turns last p (Goes.again part later turn more _ again next comes goes) =
      subst (λ (l : List (Turn D)). P l last) (append_assoc ts (turn ∷ []) more)
      (goes_forward ended (part ∷ later) (ts ++ turn ∷ []) turn.behind more last (p_turn ts turn p comes) goes)
  goes_forward ended parts ts world turns last p (Goes.none part later _ _ _ none goes) = goes_forward ended later ts world turns last p goes
  goes_forward ended parts ts world turns last p (Goes.round_more later _ _ _ goes) = goes_forward ended _ ts world turns last p goes
  goes_forward ended parts ts world turns last p (Goes.still later _ _ _ still goes) = goes_forward ended later ts world turns last p goes

  pub lines_forward : (first last : World D) (lines : List (LineDone D)) (ts : List (Turn D)) → P ts first → AreDone here first lines last
      → P (ts ++ flat_map (λ line. line.turns) lines) last
  lines_forward first last [] ts p same = subst (λ (w : World D). P (ts ++ []) w) same (subst (λ (l : List (Turn D)). P l first) (sym (append-nil ts)) p)
  lines_forward first last (line ∷ lines) ts p are =
      let own : P ts line.before = subst (λ (w : World D). P ts w) (sym are.0) p in
      let one = goes_forward false (line_parts here.decls line.step) ts (set_by line.step line.before) line.turns line.behind (p_set ts line.step line.before own) are.1.goes in
      subst (λ (l : List (Turn D)). P l last) (append_assoc ts line.turns (flat_map (λ it. it.turns) lines))
      (lines_forward line.behind last lines (ts ++ line.turns) one are.2)

  -- a whole run
  pub run_forward : (script : List ScriptStep) (first last : World D) (run : Run here script first last) → P [] first → P (turns_of run) last
  run_forward script first last run p =
      subst (λ (l : List (Turn D)). P l last) (sym (flat run.lines (line_list run.end)))
      (end (flat_map (λ line. line.turns) run.lines) run.end run.ends (lines_forward first run.middle run.lines [] p run.done))
    where
      flat : (xs ys : List (LineDone D)) → flat_map (λ line. line.turns) (xs ++ ys) ≡ flat_map (λ line. line.turns) xs ++ flat_map (λ line. line.turns) ys
      flat [] ys = refl
      flat (x ∷ xs) ys = ap (λ (l : List (Turn D)). x.turns ++ l) (flat xs ys) ∙ sym (append_assoc x.turns (flat_map (λ line. line.turns) xs) (flat_map (λ line. line.turns) ys))

      end : (ts : List (Turn D)) (line : Option (LineDone D)) → EndsIn here run.middle line last → P ts run.middle → P (ts ++ flat_map (λ line. line.turns) (line_list line)) last
      end ts None same q = subst (λ (w : World D). P (ts ++ []) w) same (subst (λ (l : List (Turn D)). P l run.middle) (sym (append-nil ts)) q)
      end ts (Some line) ends q =
          subst (λ (w : World D). P (ts ++ (line.turns ++ [])) w) ends.2
          (subst (λ (l : List (Turn D)). P (ts ++ l) line.behind) (sym (append-nil line.turns))
          (goes_forward true (line_parts here.decls line.step) ts (set_by line.step line.before) line.turns line.behind
          (p_set ts line.step line.before (subst (λ (w : World D). P ts w) (sym ends.0) q)) ends.1.goes))
