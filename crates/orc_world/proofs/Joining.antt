-- What came in one call of the world, and then in another.
use Rattle.std.proofs.Common.{[], ◌≡◌, ℕ, Bool, true, false, List, ◌∷◌, ◌++◌, refl, sym, ap, subst, ◌∙◌, append_assoc}
use Rattle.std.specs.List.{flat_map}
use Rattle.orc_decls.specs.declared.declarations.Decls.{Decls}
use Rattle.orc_links.specs.Logs.{noted_on}
use Rattle.orc_rules.specs.Events.{Turn}
use Rattle.orc_rules.specs.Worlds.{Setting, World as Seen}
use Rattle.orc_runs.specs.Ends.{EndOfRun, EndedBecause}
use Rattle.orc_runs.specs.Runs.{EndsRun, operation_of}
use Rattle.orc_runs.specs.Scripts.{Goes, Part, said}
use Rattle.orc_script.specs.declared.step.ScriptStep.TheVariants as step
use Rattle.orc_scene.specs.Courses.{DoesParts, EndAtLast, EndsInParts, EndsWith, GoOn, GoesThrough, PrintsMost, PrintsTold, event_list, events_in, operations_in, told_in}
use Rattle.orc_scene.specs.RunEnds.{end_of_run}
use Rattle.orc_scene.specs.declared.stop.WorldStop.{WorldStop}
use Rattle.orc_scene.specs.declared.stop.WorldStop.TheVariants as stop
use Rattle.orc_scene.specs.declared.scene.Scene.{Scene}
use Rattle.orc_world.proofs.Goings.{goes_broken, goes_then}

pub flat_then : {X Y : Type 0} (f : X → List Y) (xs ys : List X) → flat_map f (xs ++ ys) ≡ flat_map f xs ++ flat_map f ys
flat_then f [] ys = refl
flat_then f (x ∷ xs) ys = ap (λ l. f x ++ l) (flat_then f xs ys) ∙ sym (append_assoc (f x) (flat_map f xs) (flat_map f ys))

pub events_then : {D : Type 0} (xs ys : List (Turn D)) → events_in (xs ++ ys) ≡ events_in xs ++ events_in ys
events_then xs ys = flat_then (λ turn. event_list turn.seen) xs ys

pub operations_then : {D : Type 0} (device : ℕ) (xs ys : List (Turn D)) → operations_in device (xs ++ ys) ≡ operations_in device xs ++ operations_in device ys
operations_then device xs ys = flat_then (λ turn. operation_of device turn turn.seen) xs ys

pub told_then : {D : Type 0} (decls : Decls) (xs ys : List (Turn D)) → told_in decls (xs ++ ys) ≡ told_in decls xs ++ told_in decls ys
told_then decls xs ys = flat_then (λ turn. said decls.names step.Settle turn turn.seen) xs ys

pub go_on_then : {D : Type 0} (xs ys : List (Turn D)) → GoOn xs → GoOn ys → GoOn (xs ++ ys)
go_on_then [] ys f g = g
go_on_then (x ∷ xs) ys f g = (f.0, go_on_then xs ys f.1 g)

pub at_last_then : {D : Type 0} (xs ys : List (Turn D)) → GoOn xs → EndAtLast ys → EndAtLast (xs ++ ys)
at_last_then [] ys on last earlier later turn is ends = last earlier later turn is ends
at_last_then (x ∷ xs) ys on last [] later turn is ends = let same : x ≡ turn = cc in absurd (on.0 (subst EndsRun (sym same) ends))
at_last_then (x ∷ xs) ys on last (t ∷ earlier) later turn is ends =
    let rest : xs ++ ys ≡ earlier ++ turn ∷ later = cc in at_last_then xs ys on.1 last earlier later turn rest ends

pub prints_then : {D : Type 0} (decls : Decls) (one two three : List ℕ) (xs ys : List (Turn D)) → PrintsTold decls one two xs → PrintsTold decls two three ys → PrintsTold decls one three (xs ++ ys)
prints_then decls one two three xs ys f g =
    g ∙ ap (λ (l : List ℕ). l ++ told_in decls ys) f ∙ append_assoc one (told_in decls xs) (told_in decls ys) ∙ ap (λ (l : List ℕ). one ++ l) (sym (told_then decls xs ys))

pub most_then : {D : Type 0} (decls : Decls) (why : WorldStop) (one two three : List ℕ) (xs ys : List (Turn D)) → PrintsTold decls one two xs → PrintsMost decls why two three ys
    → PrintsMost decls why one three (xs ++ ys)
most_then {D = D} decls stop.Memory one two three xs ys f (front, rest, is, short, out) = (
  xs ++ front,
  rest,
  ap (λ (l : List (Turn D)). xs ++ l) is ∙ sym (append_assoc xs front rest),
  short,
  prints_then decls one two three xs front f out,
)
most_then decls stop.JournalFault one two three xs ys f g = prints_then decls one two three xs ys f g
most_then decls (stop.Full len) one two three xs ys f g = prints_then decls one two three xs ys f g
most_then decls (stop.Foreign at) one two three xs ys f g = prints_then decls one two three xs ys f g
most_then decls stop.NotJournal one two three xs ys f g = prints_then decls one two three xs ys f g
most_then decls (stop.Damaged at) one two three xs ys f g = prints_then decls one two three xs ys f g

module _ {D : Type 0} (here : Setting D) where
  pub because_more : (xs ys : List (Turn D)) (why : EndOfRun) → EndedBecause here ys why → EndedBecause here (xs ++ ys) why
  because_more xs ys EndOfRun.Memory because = tt
  because_more xs ys EndOfRun.WriteFault because = tt
  because_more xs ys EndOfRun.JournalFault (earlier, turn, is, by) = (xs ++ earlier, turn, ap (λ (l : List (Turn D)). xs ++ l) is ∙ sym (append_assoc xs earlier (turn ∷ [])), by)
  because_more xs ys (EndOfRun.Full len) (earlier, turn, is, by) = (xs ++ earlier, turn, ap (λ (l : List (Turn D)). xs ++ l) is ∙ sym (append_assoc xs earlier (turn ∷ [])), by)
  because_more xs ys (EndOfRun.Foreign at) (earlier, turn, is, by) = (xs ++ earlier, turn, ap (λ (l : List (Turn D)). xs ++ l) is ∙ sym (append_assoc xs earlier (turn ∷ [])), by)
  because_more xs ys EndOfRun.NotJournal (earlier, turn, is, by) = (xs ++ earlier, turn, ap (λ (l : List (Turn D)). xs ++ l) is ∙ sym (append_assoc xs earlier (turn ∷ [])), by)
  because_more xs ys (EndOfRun.Damaged at) (earlier, turn, is, by) = (xs ++ earlier, turn, ap (λ (l : List (Turn D)). xs ++ l) is ∙ sym (append_assoc xs earlier (turn ∷ [])), by)

  pub through_then : (old middle new : Scene D) (xs ys : List (Turn D)) (a b : Seen D) → GoesThrough here old middle xs a → GoesThrough here middle new ys b → GoesThrough here old new (xs ++ ys) b
  through_then old middle new xs ys a b f g = record {
    is = g.is;
    limit = g.limit ∙ f.limit;
    events = g.events ∙ ap (λ es. es ++ events_in ys) f.events ∙ append_assoc old.events.items.items (events_in xs) (events_in ys) ∙ ap (λ es. old.events.items.items ++ es) (sym (events_then xs ys));
    logs = λ device. g.logs device ∙ ap (λ ops. ops ++ operations_in device ys) (f.logs device) ∙ append_assoc (noted_on old.links.logs device) (operations_in device xs) (operations_in device ys)
        ∙ ap (λ ops. noted_on old.links.logs device ++ ops) (sym (operations_then device xs ys));
    goes_on = go_on_then xs ys f.goes_on g.goes_on;
  }

  pub with_then : (old middle new : Scene D) (xs ys : List (Turn D)) (a last : Seen D) → GoesThrough here old middle xs a → EndsWith here middle new ys last → EndsWith here old new (xs ++ ys) last
  with_then old middle new xs ys a last f g = record {
    disk = g.disk;
    events = g.events ∙ ap (λ es. es ++ events_in ys) f.events ∙ append_assoc old.events.items.items (events_in xs) (events_in ys) ∙ ap (λ es. old.events.items.items ++ es) (sym (events_then xs ys));
    at_last = at_last_then xs ys f.goes_on g.at_last;
  }

  -- a row of parts, and then another one
  pub parts_then : (seen : Seen D) (old middle new : Scene D) (one two three : List ℕ) (first second : List Part) (f : DoesParts here seen old middle one two first)
      → DoesParts here f.next middle new two three second → DoesParts here seen old new one three (first ++ second)
  parts_then seen old middle new one two three first second f g = record {
    turns = f.turns ++ g.turns;
    next = g.next;
    goes = goes_then here false first second seen f.next g.next f.turns g.turns f.goes g.goes;
    through = through_then old middle new f.turns g.turns f.next g.next f.through g.through;
    prints = prints_then here.decls one two three f.turns g.turns f.prints g.prints;
  }

  pub parts_turns : (seen : Seen D) (old middle new : Scene D) (one two three : List ℕ) (first second : List Part) (f : DoesParts here seen old middle one two first)
      (g : DoesParts here f.next middle new two three second) → (parts_then seen old middle new one two three first second f g).turns ≡ f.turns ++ g.turns
  unfolding parts_then
  parts_turns seen old middle new one two three first second f g = refl

  -- one row was done, and the run ended in the next
  pub ends_then : (seen : Seen D) (old middle new : Scene D) (one two three : List ℕ) (first second : List Part) (why : WorldStop) (f : DoesParts here seen old middle one two first)
      → EndsInParts here f.next middle new two three second why → EndsInParts here seen old new one three (first ++ second) why
  ends_then seen old middle new one two three first second why f g = record {
    turns = f.turns ++ g.turns;
    last = g.last;
    goes = goes_then here true first second seen f.next g.last f.turns g.turns f.goes g.goes;
    because = because_more f.turns g.turns (end_of_run why) g.because;
    ended = with_then old middle new f.turns g.turns f.next g.last f.through g.ended;
    prints = most_then here.decls why one two three f.turns g.turns f.prints g.prints;
  }

  -- the run ended in the first of two rows
  pub ends_more : (seen : Seen D) (old new : Scene D) (one two : List ℕ) (first second : List Part) (why : WorldStop) → EndsInParts here seen old new one two first why
      → EndsInParts here seen old new one two (first ++ second) why
  ends_more seen old new one two first second why f = record {
    turns = f.turns;
    last = f.last;
    goes = goes_broken here first second seen f.last f.turns f.goes;
    because = f.because;
    ended = f.ended;
    prints = f.prints;
  }

  -- where nothing came the rules see what they saw
  pub goes_nothing : (ended : Bool) (parts : List Part) (a b : Seen D) (turns : List (Turn D)) → turns ≡ [] → Goes here ended parts a turns b → a ≡ b
  goes_nothing ended parts a b turns none (Goes.whole _) = refl
  goes_nothing ended parts a b turns none (Goes.broken _ _ is) = refl
  goes_nothing ended parts a b turns none (Goes.once one later turn more _ once is called comes goes) = absurd cc
  goes_nothing ended parts a b turns none (Goes.again one later turn more _ again is comes goes) = absurd cc
  goes_nothing ended parts a b turns none (Goes.none one later _ _ _ nothing goes) = goes_nothing ended later a b turns none goes
  goes_nothing ended parts a b turns none (Goes.round_more later _ _ _ goes) = goes_nothing ended _ a b turns none goes
  goes_nothing ended parts a b turns none (Goes.still later _ _ _ still goes) = goes_nothing ended later a b turns none goes
