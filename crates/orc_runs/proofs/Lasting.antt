-- Over whole runs: what is kept, and what a crash at each moment leaves.
use Rattle.std.proofs.Common.{[], ◌≡◌, ℕ, Bool, true, false, Option, Some, None, List, ◌∷◌, ◌++◌, Contains, refl, sym, ap, subst, ◌∙◌, append-nil, append_assoc, zero, suc}
use Rattle.std.specs.Prelude.{slice_get}
use Rattle.std.proofs.lemmas.Option.{same_Some, slice_get-get_or}
use Rattle.std.specs.List.{flat_map}
use Rattle.std.specs.Option.{option_map_or}
use Rattle.orc_journal.specs.Laws.{KeepsOrder}
use Rattle.orc_plans.specs.Plans.{LegalStands, PlanStands}
use Rattle.orc_decls.specs.Declarations.{AreDecls}
use Rattle.orc_rules.specs.Events.{Comes, Steps, Turn}
use Rattle.orc_rules.specs.Hubs.{Hub}
use Rattle.orc_rules.specs.Journals.{Journal}
use Rattle.orc_rules.specs.Kept.{HistoryKept}
use Rattle.orc_rules.specs.Worlds.{Setting, World}
use Rattle.orc_rules.specs.declared.event.Event.{Event}
use Rattle.orc_rules.proofs.Imaging.{LastsLegal, lasts_then, stays, steps_last}
use Rattle.orc_rules.proofs.Turning.{steps_keep}
use Rattle.orc_runs.specs.Runs.{AreDone, EndsIn, IsDone, LineDone, Run, line_list, turns_of}
use Rattle.orc_runs.specs.Scripts.{Goes, Part, line_parts, set_by}
use Rattle.orc_script.specs.declared.step.ScriptStep.{ScriptStep}
use Rattle.orc_script.specs.declared.step.ScriptStep.TheVariants as step

-- an element stands at its place
pub there_in : {X : Type 0} (xs : List X) (x : X) (among : Contains xs x) → slice_get xs among.0 ≡ Some x
there_in xs x among = slice_get-get_or xs among.0 x among.1 ∙ ap (λ y. Some y) among.2

-- each of these turns is so
abbrev pub Each : {D : Type 0} → (Turn D → Type 0) → List (Turn D) → Type 0
Each IsSo [] = Unit {0}
Each IsSo (turn ∷ turns) = IsSo turn × Each IsSo turns

-- the turn at a place is so
pub each_at : {D : Type 0} (IsSo : Turn D → Type 0) (turns : List (Turn D)) (place : ℕ) (turn : Turn D) → Each IsSo turns → slice_get turns place ≡ Some turn → IsSo turn
each_at IsSo [] place turn each is = absurd cc
each_at IsSo (x ∷ turns) zero turn each is = subst IsSo (same_Some x turn is) each.0
each_at IsSo (x ∷ turns) (suc place) turn each is = each_at IsSo turns place turn each.1 is

pub each_in : {D : Type 0} (IsSo : Turn D → Type 0) (turns : List (Turn D)) (turn : Turn D) → Each IsSo turns → Contains turns turn → IsSo turn
each_in IsSo turns turn each among = each_at IsSo turns among.0 turn each (there_in turns turn among)

module _ {D : Type 0} (here : Setting D)
    (only_now : (d : D) (c : List ℕ) → here.disk.left_since d (here.disk.moment d) c → here.disk.may_leave d c)
    (are : AreDecls here.decls) (plans : PlanStands) (legally : LegalStands) (order : KeepsOrder)
    (Also : World D → Type 0) (also_steps : (old new : World D) (meant : Event) (seen : Option Event) → HistoryKept here old → Also old → Steps here old meant seen new → Also new)
    (also_set : (at : ScriptStep) (world : World D) → Also world → Also (set_by at world)) where
  -- what is kept: the history, and whatever else each event and each setting keeps
  abbrev pub Kept : World D → Type 0
  Kept world = HistoryKept here world × Also world

  keeps : (turn : Turn D) → Kept turn.before → Comes here turn → Kept turn.behind
  keeps turn kept comes = (
    steps_keep here are plans legally order turn.before turn.behind turn.meant turn.seen kept.0 comes,
    also_steps turn.before turn.behind turn.meant turn.seen kept.0 kept.1 comes,
  )

  abbrev pub ToLast : Journal D → World D → Type 0
  ToLast now last = LastsLegal here only_now now last.journal

  -- a turn, as a run that ends here has it: what is kept before it and after it, and what a crash leaves from then on
  pub record IsKept (last : World D) (turn : Turn D) : Type 0 where
    pub comes : Comes here turn
    pub before : Kept turn.before
    pub behind : Kept turn.behind
    pub later : ToLast turn.behind.journal last

  -- what is shown of the turns of a part of a run
  pub record Survives (first : Journal D) (turns : List (Turn D)) (last : World D) : Type 0 where
    pub whole : ToLast first last
    pub each : Each (IsKept last) turns
    pub kept : Kept last

  nothing : (world : World D) → Kept world → Survives world.journal [] world
  nothing world kept = record { whole = stays here only_now world.journal kept.0.journal; each = tt; kept = kept }

  one_turn : (turn : Turn D) (turns : List (Turn D)) (last : World D) → Kept turn.before → Comes here turn
      → Survives turn.behind.journal turns last → Survives turn.before.journal (turn ∷ turns) last
  one_turn turn turns last kept comes rest = record {
    whole = lasts_then here only_now turn.before.journal turn.behind.journal last.journal
        (steps_last here only_now are plans legally order turn.before turn.behind turn.meant turn.seen kept.0 comes) rest.whole;
    each = (
      record {
        comes = comes;
        before = kept;
        behind = keeps turn kept comes;
        later = rest.whole;
      },
      rest.each,
    );
    kept = rest.kept;
  }

  goes_survive : (ended : Bool) (parts : List Part) (world : World D) (turns : List (Turn D)) (last : World D) → Kept world
      → Goes here ended parts world turns last → Survives world.journal turns last
  goes_survive ended parts world turns last kept (Goes.whole _) = nothing world kept
  goes_survive ended parts world turns last kept (Goes.broken _ _ is) = nothing world kept
  goes_survive ended parts world turns last kept (Goes.once part later turn more _ once next called comes goes) =
      one_turn turn more last kept comes (goes_survive ended later turn.behind more last (keeps turn kept comes) goes)
  goes_survive ended parts world turns last kept (Goes.again part later turn more _ again next comes goes) =
      one_turn turn more last kept comes (goes_survive ended (part ∷ later) turn.behind more last (keeps turn kept comes) goes)
  goes_survive ended parts world turns last kept (Goes.none part later _ _ _ none goes) = goes_survive ended later world turns last kept goes
  goes_survive ended parts world turns last kept (Goes.round_more later _ _ _ goes) = goes_survive ended _ world turns last kept goes
  goes_survive ended parts world turns last kept (Goes.still later _ _ _ still goes) = goes_survive ended later world turns last kept goes

  -- what a line sets
  armed_keeps : (world : World D) (count bytes : ℕ) → HistoryKept here world
      → let next : World D = record world { journal = record world.journal { armed = count; bytes = bytes } } in HistoryKept here next × ToLast world.journal next
  armed_keeps world count bytes kept =
      let same = stays here only_now world.journal kept.journal in (
        record {
          journal = record { holds = record { read = kept.journal.holds.read; crash = kept.journal.holds.crash }; fronts = kept.journal.fronts; read_back = kept.journal.read_back };
          hub = kept.hub;
        },
        record { synced = same.synced; images = same.images },
      )

  set_history : (at : ScriptStep) (world : World D) → HistoryKept here world → HistoryKept here (set_by at world) × ToLast world.journal (set_by at world)
  set_history (step.StopAt count bytes) world kept = on world.hub where
    on : (hub : Option Hub) → let next : World D = option_map_or (λ h. record world { journal = record world.journal { armed = count; bytes = bytes } }) hub world in
        HistoryKept here next × ToLast world.journal next
    on None = (kept, stays here only_now world.journal kept.journal)
    on (Some hub) = armed_keeps world count bytes kept
  set_history (step.Fault device op at) world kept = (record { journal = kept.journal; hub = kept.hub }, stays here only_now world.journal kept.journal)
  set_history other world kept = (kept, stays here only_now world.journal kept.journal)

  set_keeps : (at : ScriptStep) (world : World D) → Kept world → Kept (set_by at world) × ToLast world.journal (set_by at world)
  set_keeps at world kept = let own = set_history at world kept.0 in ((own.0, also_set at world kept.1), own.1)

  each_then : (P : Turn D → Type 0) (xs ys : List (Turn D)) → Each P xs → Each P ys → Each P (xs ++ ys)
  each_then P [] ys f g = g
  each_then P (x ∷ xs) ys f g = (f.0, each_then P xs ys f.1 g)

  each_more : (P Q : Turn D → Type 0) (xs : List (Turn D)) → ((turn : Turn D) → P turn → Q turn) → Each P xs → Each Q xs
  each_more P Q [] f each = tt
  each_more P Q (x ∷ xs) f each = (f x each.0, each_more P Q xs f each.1)

  -- one part of a run and then another
  survives_then : (a : Journal D) (b c : World D) (xs ys : List (Turn D)) → Survives a xs b → Survives b.journal ys c → Survives a (xs ++ ys) c
  survives_then a b c xs ys f g = record {
    whole = lasts_then here only_now a b.journal c.journal f.whole g.whole;
    each = each_then (IsKept c) xs ys
        (each_more (IsKept b) (IsKept c) xs
        (λ turn h. record { comes = h.comes; before = h.before; behind = h.behind; later = lasts_then here only_now turn.behind.journal b.journal c.journal h.later g.whole }) f.each) g.each;
    kept = g.kept;
  }

  line_survives : (ended : Bool) (line : LineDone D) → Kept line.before → IsDone here ended line → Survives line.before.journal line.turns line.behind
  line_survives ended line kept is =
      let set = set_keeps line.step line.before kept in
      let goes = goes_survive ended (line_parts here.decls line.step) (set_by line.step line.before) line.turns line.behind set.0 is.goes in
      record {
        whole = lasts_then here only_now line.before.journal (set_by line.step line.before).journal line.behind.journal set.1 goes.whole;
        each = goes.each;
        kept = goes.kept;
      }

  pub lines_survive : (first last : World D) (lines : List (LineDone D)) → Kept first → AreDone here first lines last
      → Survives first.journal (flat_map (λ line. line.turns) lines) last
  lines_survive first last [] kept same = subst (λ (w : World D). Survives first.journal [] w) same (nothing first kept)
  lines_survive first last (line ∷ lines) kept are' =
      let own : Kept line.before = subst Kept (sym are'.0) kept in
      let one = line_survives false line own are'.1 in
      subst (λ (w : World D). Survives w.journal (line.turns ++ flat_map (λ it. it.turns) lines) last) are'.0
      (survives_then line.before.journal line.behind last line.turns (flat_map (λ it. it.turns) lines) one
      (lines_survive line.behind last lines one.kept are'.2))

  -- what is kept before and after each line
  pub record IsKeptLine (line : LineDone D) : Type 0 where
    pub before : Kept line.before
    pub does : IsDone here false line
    pub behind : Kept line.behind

  pub each_line : (first last : World D) (lines : List (LineDone D)) → Kept first → AreDone here first lines last
      → (place : ℕ) (line : LineDone D) → slice_get lines place ≡ Some line → IsKeptLine line
  each_line first last [] kept done place line at = absurd cc
  each_line first last (x ∷ lines) kept done zero line at =
      let own : Kept x.before = subst Kept (sym done.0) kept in
      subst IsKeptLine (same_Some x line at) (record { before = own; does = done.1; behind = (line_survives false x own done.1).kept })
  each_line first last (x ∷ lines) kept done (suc place) line at =
      each_line x.behind last lines (line_survives false x (subst Kept (sym done.0) kept) done.1).kept done.2 place line at

  -- a whole run
  pub run_survives : (script : List ScriptStep) (first last : World D) (run : Run here script first last) → Kept first → Survives first.journal (turns_of run) last
  run_survives script first last run kept =
      let front = lines_survive first run.middle run.lines kept run.done in
      subst (λ (l : List (Turn D)). Survives first.journal l last) (sym (flat run.lines (line_list run.end)))
      (survives_then first.journal run.middle last (flat_map (λ line. line.turns) run.lines) (flat_map (λ line. line.turns) (line_list run.end)) front (end run.end run.ends front.kept))
    where
      flat : (xs ys : List (LineDone D)) → flat_map (λ line. line.turns) (xs ++ ys) ≡ flat_map (λ line. line.turns) xs ++ flat_map (λ line. line.turns) ys
      flat [] ys = refl
      flat (x ∷ xs) ys = ap (λ (l : List (Turn D)). x.turns ++ l) (flat xs ys) ∙ sym (append_assoc x.turns (flat_map (λ line. line.turns) xs) (flat_map (λ line. line.turns) ys))

      end : (line : Option (LineDone D)) → EndsIn here run.middle line last → Kept run.middle → Survives run.middle.journal (flat_map (λ line. line.turns) (line_list line)) last
      end None same kept = subst (λ (w : World D). Survives run.middle.journal [] w) same (nothing run.middle kept)
      end (Some line) ends kept =
          subst (λ (w : World D). Survives w.journal (line.turns ++ []) last) ends.0
          (subst (λ (w : World D). Survives line.before.journal (line.turns ++ []) w) ends.2
          (subst (λ (l : List (Turn D)). Survives line.before.journal l line.behind) (sym (append-nil line.turns))
          (line_survives true line (subst Kept (sym ends.0) kept) ends.1)))

-- what a line sets keeps the history
pub set_kept : {D : Type 0} (here : Setting D) (at : ScriptStep) (world : World D) → HistoryKept here world → HistoryKept here (set_by at world)
set_kept {D = D} here (step.StopAt count bytes) world kept = on world.hub where
  on : (hub : Option Hub) → HistoryKept here (option_map_or (λ h. record world { journal = record world.journal { armed = count; bytes = bytes } }) hub world)
  on None = kept
  on (Some hub) = record {
    journal = record { holds = record { read = kept.journal.holds.read; crash = kept.journal.holds.crash }; fronts = kept.journal.fronts; read_back = kept.journal.read_back };
    hub = kept.hub;
  }
set_kept here (step.Fault device op at) world kept = record { journal = kept.journal; hub = kept.hub }
set_kept here other world kept = kept
