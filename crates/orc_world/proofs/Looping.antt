-- Turns of one kind, one after another, until none may come.
use Rattle.std.proofs.Common.{[], ◌≡◌, ℕ, Bool, true, false, List, ◌∷◌, ◌++◌, refl, sym, ap, subst, ◌∙◌, append-nil, append_assoc}
use Rattle.std.proofs.lemmas.Bool.{false≢true}
use Rattle.orc_links.specs.Logs.{noted_on}
use Rattle.orc_rules.specs.Events.{Comes, Turn}
use Rattle.orc_rules.specs.Worlds.{Setting, World as Seen}
use Rattle.orc_rules.specs.declared.event.Event.{Event}
use Rattle.orc_runs.specs.Ends.{EndedBecause}
use Rattle.orc_runs.specs.Scripts.{Goes, IsOf, NoneOf, Part, comes_again}
use Rattle.orc_scene.specs.Courses.{DoesOperation, DoesParts, DoesTurn, EndsAtOnce, EndsInParts, EndsTurn, GoesThrough, PrintsTold, StaysSame}
use Rattle.orc_world.specs.inside.Rows.{DoesRow}
use Rattle.orc_scene.specs.Stands.{IsSeenAs}
use Rattle.orc_scene.specs.RunEnds.{end_of_run}
use Rattle.orc_scene.specs.declared.stop.WorldStop.{WorldStop}
use Rattle.orc_scene.specs.declared.scene.Scene.{Scene}
use Rattle.orc_world.proofs.Joining.{because_more, goes_nothing, most_then, prints_then, through_then, with_then}
use Rattle.orc_scene.proofs.Unsaid.{all_told}
use Rattle.orc_scene.proofs.Looping.{at_last_none, through_none}

module _ {D : Type 0} (here : Setting D) where
  -- where nothing changed nothing came
  pub through_same : (seen : Seen D) (old new : Scene D) (before after : List ℕ) → StaysSame here seen old new before after → GoesThrough here old new [] seen
  through_same seen old new before after same = record {
    is = same.is;
    limit = same.limit;
    events = same.events ∙ sym (append-nil old.events.items.items);
    logs = λ device. ap (λ logs. noted_on logs device) same.logs ∙ sym (append-nil (noted_on old.links.logs device));
    goes_on = tt;
  }

module _ {D : Type 0} (here : Setting D) (seen : Seen D) (old : Scene D) (before : List ℕ) (one : Part) where
  -- turns of this part came so far, and more of them may
  pub record Lasts (middle : Scene D) (now : List ℕ) (came : Bool) : Type 0 where
    pub turns : List (Turn D)
    pub next : Seen D
    pub goes_on : (ended : Bool) (more : List (Turn D)) (last : Seen D) → Goes here ended (one ∷ []) next more last → Goes here ended (one ∷ []) seen (turns ++ more) last
    pub through : GoesThrough here old middle turns next
    pub prints : PrintsTold here.decls before now turns
    pub quiet : came ≡ false → turns ≡ []

  pub lasts_first : IsSeenAs here seen old → Lasts old before false
  lasts_first is = record {
    turns = [];
    next = seen;
    goes_on = λ ended more last goes. goes;
    through = through_none here seen old is;
    prints = sym (append-nil before);
    quiet = λ none. refl;
  }

  module _ (again : comes_again one ≡ true) (middle new : Scene D) (now after : List ℕ) (came : Bool) (so : Lasts middle now came) where
    -- a turn of it, and then others
    then_turn : (ended : Bool) (turn : Turn D) (more : List (Turn D)) (last : Seen D) → turn.before ≡ so.next → IsOf one turn.meant → Comes here turn → Goes here ended (one ∷ []) turn.behind more last
        → Goes here ended (one ∷ []) so.next (turn ∷ more) last
    then_turn ended turn more last first is comes goes =
        subst (λ (w : Seen D). Goes here ended (one ∷ []) w (turn ∷ more) last) first (Goes.again one [] turn more last again is comes goes)

    pub lasts_turn : (single : Part) → ((event : Event) → IsOf single event → IsOf one event) → DoesTurn here so.next middle new now after single → Lasts new after true
    lasts_turn single kind does = record {
      turns = so.turns ++ does.turn ∷ [];
      next = does.turn.behind;
      goes_on = λ ended more last goes. subst (λ (l : List (Turn D)). Goes here ended (one ∷ []) seen l last) (sym (append_assoc so.turns (does.turn ∷ []) more))
          (so.goes_on ended (does.turn ∷ more) last (then_turn ended does.turn more last does.first (kind does.turn.meant does.is_of) does.comes goes));
      through = through_then here old middle new so.turns (does.turn ∷ []) so.next does.turn.behind so.through does.through;
      prints = prints_then here.decls before now after so.turns (does.turn ∷ []) so.prints does.prints;
      quiet = λ no_turn. absurd (false≢true (sym no_turn));
    }

    -- an operation and its report
    pub lasts_operation : (device : ℕ) → ((event : Event) → IsOf (Part.Operation device) event → IsOf one event) → ((event : Event) → IsOf (Part.Hearing device) event → IsOf one event)
        → (does : DoesOperation here so.next middle new now after device) → PrintsTold here.decls now after (does.turn ∷ does.hearing ∷ []) → Lasts new after true
    lasts_operation device kind other does prints = record {
      turns = so.turns ++ does.turn ∷ does.hearing ∷ [];
      next = does.hearing.behind;
      goes_on = λ ended more last goes. subst (λ (l : List (Turn D)). Goes here ended (one ∷ []) seen l last) (sym (append_assoc so.turns (does.turn ∷ does.hearing ∷ []) more))
          (so.goes_on ended (does.turn ∷ does.hearing ∷ more) last
          (then_turn ended does.turn (does.hearing ∷ more) last does.first (kind does.turn.meant does.is_of) does.comes
          (subst (λ (w : Seen D). Goes here ended (one ∷ []) w (does.hearing ∷ more) last) does.second
          (Goes.again one [] does.hearing more last again (other does.hearing.meant does.hears) does.heard goes))));
      through = through_then here old middle new so.turns (does.turn ∷ does.hearing ∷ []) so.next does.hearing.behind so.through does.through;
      prints = prints_then here.decls before now after so.turns (does.turn ∷ does.hearing ∷ []) so.prints prints;
      quiet = λ no_turn. absurd (false≢true (sym no_turn));
    }

    -- the run ended with a turn of it
    pub ends_turn : (single : Part) → ((event : Event) → IsOf single event → IsOf one event) → (why : WorldStop) → EndsTurn here so.next middle new now after single why
        → EndsInParts here seen old new before after (one ∷ []) why
    ends_turn single kind why ends = record {
      turns = so.turns ++ ends.turn ∷ [];
      last = ends.turn.behind;
      goes = so.goes_on true (ends.turn ∷ []) ends.turn.behind
          (then_turn true ends.turn [] ends.turn.behind ends.first (kind ends.turn.meant ends.is_of) ends.comes (Goes.broken (one ∷ []) ends.turn.behind refl));
      because = because_more here so.turns (ends.turn ∷ []) (end_of_run why) ends.because;
      ended = with_then here old middle new so.turns (ends.turn ∷ []) so.next ends.turn.behind so.through ends.ended;
      prints = most_then here.decls why before now after so.turns (ends.turn ∷ []) so.prints ends.prints;
    }

    -- the run ended before another turn of it, since memory ran out
    pub ends_between : (why : WorldStop) → EndsAtOnce here so.next middle new now after why → EndsInParts here seen old new before after (one ∷ []) why
    ends_between why ends = record {
      turns = so.turns;
      last = so.next;
      goes = subst (λ (l : List (Turn D)). Goes here true (one ∷ []) seen l so.next) (append-nil so.turns) (so.goes_on true [] so.next (Goes.broken (one ∷ []) so.next refl));
      because = subst (λ (w : WorldStop). EndedBecause here so.turns (end_of_run w)) (sym ends.memory) tt;
      ended = record {
        disk = ends.disk;
        events = ends.events ∙ so.through.events;
        at_last = at_last_none so.turns so.through.goes_on;
      };
      prints = all_told here.decls why before after so.turns (ends.printed ∙ so.prints);
    }

    -- none of it may come any more
    pub lasts_whole : NoneOf here so.next one → StaysSame here so.next middle new now after → DoesParts here seen old new before after (one ∷ [])
    lasts_whole none same = record {
      turns = so.turns;
      next = so.next;
      goes = subst (λ (l : List (Turn D)). Goes here false (one ∷ []) seen l so.next) (append-nil so.turns)
          (so.goes_on false [] so.next (Goes.none one [] so.next so.next [] none (Goes.whole so.next)));
      through = subst (λ (l : List (Turn D)). GoesThrough here old new l so.next) (append-nil so.turns)
          (through_then here old middle new so.turns [] so.next so.next so.through (through_same here so.next middle new now after same));
      prints = same.printed ∙ so.prints;
    }

    -- where nothing came this is so of what the rules saw before it
    pub lasts_row : (IsSo : Seen D → Type 0) → NoneOf here so.next one → IsSo so.next → StaysSame here so.next middle new now after
        → DoesRow here seen old new before after (one ∷ []) came (IsSo seen)
    unfolding lasts_whole
    lasts_row IsSo none is same = record {
      does = lasts_whole none same;
      quiet = λ no.
          (let nothing : so.turns ≡ [] = so.quiet no in
          (nothing, subst IsSo (sym (goes_nothing here false (one ∷ []) seen so.next so.turns nothing (lasts_whole none same).goes)) is));
    }
