-- An operation of each device, one device after another.
use Rattle.std.proofs.Common.{[], ◌≡◌, ◌≤◌, ◌<◌, ◌+◌, ◌⊎◌, inl, inr, ℕ, Bool, true, false, Option, Some, None, List, ◌∷◌, ◌++◌, length, map, refl, sym, ap, subst, ◌∙◌, append-nil, append_assoc, zero, suc, arith}
use Rattle.std.specs.Prelude.{slice_get, if◌then◌else◌}
use Rattle.std.specs.List.{flat_map, range_with_len}
use Rattle.std.specs.Option.{option_map_or}
use Rattle.std.proofs.lemmas.Bool.{cases_lt, false≢true}
use Rattle.std.proofs.lemmas.List.FromFn.{map-range_with_len_more}
use Rattle.std.proofs.lemmas.Option.{slice_get_past}
use Rattle.orc_decls.specs.declared.declarations.Decls.{Decls}
use Rattle.orc_device.specs.declared.op.Op.TheVariants as op
use Rattle.orc_journal.specs.declared.entry.Entry.{Entry}
use Rattle.orc_links.specs.Networks.{absent_link, heard_link}
use Rattle.orc_node.specs.LinkStates.{LinkState}
use Rattle.orc_rules.specs.Duties.{duty_order}
use Rattle.orc_rules.specs.Events.{DoesUnderHub, Steps, Turn, seen_failing}
use Rattle.orc_rules.specs.Hubs.{Hub, due_on, has_come_to, has_met_failure, order_on}
use Rattle.orc_rules.specs.Worlds.{Link, Setting, World as Seen, declared}
use Rattle.orc_rules.specs.declared.duty.Duty.{Duty}
use Rattle.orc_rules.specs.declared.event.Event.{Event}
use Rattle.orc_rules.specs.declared.event.Event.TheVariants as event
use Rattle.orc_runs.specs.Scripts.{Goes, IsOf, NoneOf, Part, Part as part, said}
use Rattle.orc_script.specs.declared.step.ScriptStep.TheVariants as step
use Rattle.orc_scene.specs.Courses.{DoesOperation, DoesParts, EndsInParts, MayDoOperation, PrintsTold, told_in}
use Rattle.orc_world.specs.inside.Rows.{DoesRow, NoneOrdered}
use Rattle.orc_hub.specs.Hubs.{record_of}
use Rattle.orc_scene.specs.Stands.{IsPlaceSeenAs, IsSeenAs}
use Rattle.orc_scene.specs.declared.scene.Place.{Place}
use Rattle.orc_scene.specs.declared.scene.Place.TheVariants.{Up, Down, Ended, Moved}
use Rattle.orc_scene.specs.declared.stop.WorldStop.{WorldStop}
use Rattle.orc_scene.specs.declared.scene.Scene.{Scene}
use Rattle.orc_world.proofs.Goings.{goes_then}
use Rattle.orc_world.proofs.Joining.{ends_more, ends_then, flat_then, goes_nothing, parts_then, prints_then, through_then}
use Rattle.orc_scene.proofs.Looping.{through_none}
use Rattle.orc_world.proofs.Looping.{through_same}
use Rattle.orc_scene.proofs.Apiece.{any_none, heard_none, hearing_of_device, operation_of_device, under_none}

-- of no entries none is left
pub none_left : (done rest : List Entry) (entry : Entry) (later : List Entry) → [] ≡ done ++ rest → rest ≡ entry ∷ later → ⊥
none_left [] rest entry later none is = let wrong : [] ≡ entry ∷ later = none ∙ is in cc
none_left (x ∷ done) rest entry later none is = cc

-- something is done on each declared device
pub sized_there : {D : Type 0} (here : Setting D) (seen : Seen D) (place : Place D) → IsPlaceSeenAs here seen place → (hub : Hub) → seen.hub ≡ Some hub
    → length hub.duties ≡ length here.decls.names
sized_there here seen (Up own) is hub up =
    let same : ◌≡◌ {A = Option Hub} (Some (record_of own)) (Some hub) = sym is.is ∙ up in
    let one : record_of own ≡ hub = cc in
    ap (λ (h : Hub). length h.duties) (sym one) ∙ is.sound.duties ∙ ap (λ (d : Decls). length d.names) is.decls
sized_there here seen (Down disk decls) is hub up = let wrong : ◌≡◌ {A = Option Hub} None (Some hub) = sym is.0 ∙ up in cc
sized_there here seen (Ended disk) is hub up = absurd is
sized_there here seen Moved is hub up = absurd is

module _ {D : Type 0} (here : Setting D) where
  -- an operation and its report append nothing
  module _ (world : Seen D) (hub : Hub) (device : ℕ) where
    pub appends_nothing : (meant : Event) (row : List Entry) (next : Seen D) → IsOf (part.Operations device) meant → DoesUnderHub here world hub meant row next → row ≡ []
    appends_nothing meant row next is (DoesUnderHub.performs other op happened due unheard possible way) = refl
    appends_nothing meant row next is (DoesUnderHub.leaves_unsent other changes due unheard) = refl
    appends_nothing meant row next is (DoesUnderHub.reports other op reply unheard) = refl
    appends_nothing meant row next is (DoesUnderHub.begins caller) = absurd is
    appends_nothing meant row next is (DoesUnderHub.answers call front said asked snap why keeps) = absurd is
    appends_nothing meant row next is (DoesUnderHub.queues it front snap alike lawful_call closed apart fresh within made number slot) = absurd is
    appends_nothing meant row next is (DoesUnderHub.turns_away place it said there first idle why) = absurd is
    appends_nothing meant row next is (DoesUnderHub.admits place it sets there first idle passes fresh) = absurd is
    appends_nothing meant row next is (DoesUnderHub.commits place it there least due prepared valid) = absurd is
    appends_nothing meant row next is (DoesUnderHub.aborts place it said there least due why) = absurd is
    appends_nothing meant row next is (DoesUnderHub.settles place it there least settling) = absurd is
    appends_nothing meant row next is DoesUnderHub.stops = absurd is
    appends_nothing meant row next is (DoesUnderHub.mends numbers idle unsettled) = absurd is
    appends_nothing meant row next is (DoesUnderHub.mended numbers met busy heard unsettled) = absurd is
    appends_nothing meant row next is (DoesUnderHub.finds_no_memory met busy heard) = absurd is
    appends_nothing meant row next is (DoesUnderHub.fails_to_mend met failed heard) = absurd is

  -- what is performed on a device says nothing
  says_nothing : (names : List (List ℕ)) (device : ℕ) (turn : Turn D) (meant : Event) → IsOf (part.Operations device) meant → said names step.Settle turn (Some meant) ≡ []
  says_nothing names device turn (event.Perform other op reply count) is = refl
  says_nothing names device turn (event.Unsent other) is = refl
  says_nothing names device turn (event.Report other op reply count) is = refl
  says_nothing names device turn (event.Begin other front) is = absurd is
  says_nothing names device turn (event.Submit call front given) is = absurd is
  says_nothing names device turn (event.Admit t given) is = absurd is
  says_nothing names device turn (event.Decide t given) is = absurd is
  says_nothing names device turn (event.Settle t) is = absurd is
  says_nothing names device turn (event.Tick seconds) is = absurd is
  says_nothing names device turn (event.Restart other) is = absurd is
  says_nothing names device turn event.Stop is = absurd is
  says_nothing names device turn event.Recover is = absurd is
  says_nothing names device turn (event.Reconcile result) is = absurd is

  tells_nothing : (names : List (List ℕ)) (device : ℕ) (turn : Turn D) (old : Seen D) (meant : Event) (seen : Option Event) (new : Seen D) → IsOf (part.Operations device) meant → Steps here old meant seen new
      → said names step.Settle turn seen ≡ []
  tells_nothing names device turn old meant seen new is (Steps.done hub row next _ up does appends same) = says_nothing names device turn meant is
  tells_nothing names device turn old meant seen new is (Steps.cut hub row next _ up does appends same) =
      let none : [] ≡ appends.done ++ appends.rest = sym (appends_nothing old hub device meant row next is does) ∙ appends.parts in
      absurd (none_left appends.done appends.rest appends.ends.0.0 appends.ends.0.1 none appends.ends.0.2)
  tells_nothing names device turn old meant seen new is (Steps.failed hub row next _ up does appends same) = fails meant is
    where
      fails : (meant : Event) → IsOf (part.Operations device) meant → said names step.Settle turn (seen_failing meant) ≡ []
      fails (event.Perform other op reply count) is = refl
      fails (event.Unsent other) is = refl
      fails (event.Report other op reply count) is = refl
      fails (event.Begin other front) is = absurd is
      fails (event.Submit call front given) is = absurd is
      fails (event.Admit t given) is = absurd is
      fails (event.Decide t given) is = absurd is
      fails (event.Settle t) is = absurd is
      fails (event.Tick seconds) is = absurd is
      fails (event.Restart other) is = absurd is
      fails event.Stop is = absurd is
      fails event.Recover is = absurd is
      fails (event.Reconcile result) is = absurd is
  tells_nothing names device turn old meant seen new is (Steps.full hub row next len _ up does appends same) = refl
  tells_nothing names device turn old meant seen new is (Steps.anyway _ does) = says_nothing names device turn meant is
  tells_nothing names device turn old meant seen new is (Steps.unopened _ down recovers closed same) = refl
  tells_nothing names device turn old meant seen new is (Steps.recovers _ down recovers opens same) = says_nothing names device turn meant is

  -- an operation that came prints nothing
  pub operation_prints : (seen : Seen D) (old new : Scene D) (before after : List ℕ) (device : ℕ) (does : DoesOperation here seen old new before after device)
      → PrintsTold here.decls before after (does.turn ∷ does.hearing ∷ [])
  operation_prints seen old new before after device does =
      let one : said here.decls.names step.Settle does.turn does.turn.seen ≡ [] =
      tells_nothing here.decls.names device does.turn does.turn.before does.turn.meant does.turn.seen does.turn.behind (operation_of_device here device does.turn.meant does.is_of) does.comes in
      let two : said here.decls.names step.Settle does.hearing does.hearing.seen ≡ [] =
      tells_nothing here.decls.names device does.hearing does.hearing.before does.hearing.meant does.hearing.seen does.hearing.behind (hearing_of_device here device does.hearing.meant does.hears) does.heard in
      let none : told_in here.decls (does.turn ∷ does.hearing ∷ []) ≡ [] =
      ap (λ (l : List ℕ). l ++ (said here.decls.names step.Settle does.hearing does.hearing.seen ++ [])) one ∙ ap (λ (l : List ℕ). l ++ []) two in
      does.printed ∙ sym (append-nil before) ∙ ap (λ (l : List ℕ). before ++ l) (sym none)

  -- none may come on this device
  abbrev pub NoneOn : Seen D → ℕ → Type 0
  NoneOn seen device = NoneOf here seen (part.Operation device) × NoneOf here seen (part.Hearing device)

  pub operation_does : (seen : Seen D) (old new : Scene D) (device : ℕ) (came : Bool) → MayDoOperation here seen old new [] [] device came
      → DoesRow here seen old new [] [] (part.Operation device ∷ part.Hearing device ∷ []) came (NoneOn seen device)
  operation_does seen old new device came (inl (some, does)) = record {
    does = record {
      turns = does.turn ∷ does.hearing ∷ [];
      next = does.hearing.behind;
      goes = subst (λ (w : Seen D). Goes here false (part.Operation device ∷ part.Hearing device ∷ []) w (does.turn ∷ does.hearing ∷ []) does.hearing.behind) does.first
          (Goes.once (part.Operation device) (part.Hearing device ∷ []) does.turn (does.hearing ∷ []) does.hearing.behind refl does.is_of tt does.comes
          (subst (λ (w : Seen D). Goes here false (part.Hearing device ∷ []) w (does.hearing ∷ []) does.hearing.behind) does.second
          (Goes.once (part.Hearing device) [] does.hearing [] does.hearing.behind refl does.hears tt does.heard (Goes.whole does.hearing.behind))));
      through = does.through;
      prints = operation_prints seen old new [] [] device does;
    };
    quiet = λ no. absurd (false≢true (sym no ∙ some));
  }
  operation_does seen old new device came (inr (not_came, none, unheard, same)) = record {
    does = record {
      turns = [];
      next = seen;
      goes = Goes.none (part.Operation device) (part.Hearing device ∷ []) seen seen [] none (Goes.none (part.Hearing device) [] seen seen [] unheard (Goes.whole seen));
      through = through_same here seen old new [] [] same;
      prints = refl;
    };
    quiet = λ none_came. (refl, (none, unheard));
  }

  -- no operation is due on a device that isn't declared
  pub none_undeclared : (seen : Seen D) (world : Scene D) → IsSeenAs here seen world → (device : ℕ) → length here.decls.names ≤ device → NoneOn seen device
  none_undeclared seen world is device past = (none_due, none_unheard)
    where
      unheard_none : (o : Option LinkState) → (option_map_or heard_link o absent_link).unheard ≡ None
      unheard_none None = refl
      unheard_none (Some link) = refl

      no_due : (hub : Hub) → seen.hub ≡ Some hub → due_on hub device ≡ None
      no_due hub up =
          let sized : length hub.duties ≡ length here.decls.names = sized_there here seen world.place is.place hub up in
          let none : order_on hub device ≡ None = ap (λ (o : Option Duty). option_map_or duty_order o None) (slice_get_past hub.duties device (subst (λ (n : ℕ). n ≤ device) (sym sized) past)) in
          on (has_met_failure hub.mends) (has_come_to hub device) none
        where
          on : (met come : Bool) → order_on hub device ≡ None → (if met then None else if come then order_on hub device else None) ≡ None
          on true come none = refl
          on false true none = none
          on false false none = refl

      none_due : NoneOf here seen (part.Operation device)
      none_due one of (inl (hub, row, next, up, does)) = under_none here seen hub device (no_due hub up) one row next of does
      none_due one of (inr (inl (next, does))) = any_none here seen device one next (operation_of_device here device one of) does
      none_due one of (inr (inr (recovers, down))) = subst (λ (e : Event). IsOf (part.Operation device) e) recovers of

      none_unheard : NoneOf here seen (part.Hearing device)
      none_unheard one of (inl (hub, row, next, up, does)) =
          heard_none here seen hub device (ap (λ (f : ℕ → Link). (f device).unheard) is.links ∙ unheard_none (slice_get world.links.links device)) one row next of does
      none_unheard one of (inr (inl (next, does))) = any_none here seen device one next (hearing_of_device here device one of) does
      none_unheard one of (inr (inr (recovers, down))) = subst (λ (e : Event). IsOf (part.Hearing device) e) recovers of

-- the parts of the first so many devices
abbrev pub each_of : ℕ → List Part
each_of count = flat_map (λ device. part.Operation device ∷ part.Hearing device ∷ []) (range_with_len 0 count)

map_same : (xs : List ℕ) → map (λ x. x) xs ≡ xs
map_same [] = refl
map_same (x ∷ xs) = ap (λ (l : List ℕ). x ∷ l) (map_same xs)

pub range_more : (n : ℕ) → range_with_len 0 (n + 1) ≡ range_with_len 0 n ++ n ∷ []
range_more n = sym (map_same (range_with_len 0 (n + 1))) ∙ map-range_with_len_more (λ x. x) 0 n n (omega arith) ∙ ap (λ (l : List ℕ). l ++ n ∷ []) (map_same (range_with_len 0 n))

each_more : (n : ℕ) → each_of (n + 1) ≡ each_of n ++ part.Operation n ∷ part.Hearing n ∷ []
each_more n = ap (λ (l : List ℕ). flat_map (λ device. part.Operation device ∷ part.Hearing device ∷ []) l) (range_more n) ∙ flat_then (λ device. part.Operation device ∷ part.Hearing device ∷ []) (range_with_len 0 n) (n ∷ [])

each_front : (n k : ℕ) → (rest : List Part) × (each_of (n + k) ≡ each_of n ++ rest)
each_front n zero = ([], ap each_of (omega arith) ∙ sym (append-nil (each_of n)))
each_front n (suc k) = let before = each_front n k in (
  before.0 ++ part.Operation (n + k) ∷ part.Hearing (n + k) ∷ [],
  ap each_of (omega arith) ∙ each_more (n + k) ∙ ap (λ (l : List Part). l ++ part.Operation (n + k) ∷ part.Hearing (n + k) ∷ []) before.1 ∙ append_assoc (each_of n) before.0 (part.Operation (n + k) ∷ part.Hearing (n + k) ∷ []),
)

module _ {D : Type 0} (here : Setting D) (seen : Seen D) (old : Scene D) where
  -- none may come on the first so many devices
  abbrev pub NoneBefore : ℕ → Type 0
  NoneBefore count = (device : ℕ) → device < count → NoneOn here seen device

  pub each_first : IsSeenAs here seen old → DoesRow here seen old old [] [] (each_of 0) false (NoneBefore 0)
  each_first is = record {
    does = record { turns = []; next = seen; goes = Goes.whole seen; through = through_none here seen old is; prints = refl };
    quiet = λ no. (refl, λ device below. absurd (omega (arith, below)));
  }

  pub each_then : (count : ℕ) (middle new : Scene D) (came one now : Bool) (so : DoesRow here seen old middle [] [] (each_of count) came (NoneBefore count))
      → DoesRow here so.does.next middle new [] [] (part.Operation count ∷ part.Hearing count ∷ []) one (NoneOn here so.does.next count)
      → (now ≡ false → (came ≡ false) × (one ≡ false)) → DoesRow here seen old new [] [] (each_of (count + 1)) now (NoneBefore (count + 1))
  each_then count middle new came one now so more none = record {
    does = record {
      turns = so.does.turns ++ more.does.turns;
      next = more.does.next;
      goes = subst (λ (ps : List Part). Goes here false ps seen (so.does.turns ++ more.does.turns) more.does.next) (sym (each_more count))
          (goes_then here false (each_of count) (part.Operation count ∷ part.Hearing count ∷ []) seen so.does.next more.does.next so.does.turns more.does.turns so.does.goes more.does.goes);
      through = through_then here old middle new so.does.turns more.does.turns so.does.next more.does.next so.does.through more.does.through;
      prints = prints_then here.decls [] [] [] so.does.turns more.does.turns so.does.prints more.does.prints;
    };
    quiet = λ no. both (so.quiet (none no).0) (more.quiet (none no).1);
  }
    where
      both : (so.does.turns ≡ []) × NoneBefore count → (more.does.turns ≡ []) × NoneOn here so.does.next count → (so.does.turns ++ more.does.turns ≡ []) × NoneBefore (count + 1)
      both x y =
          let same : seen ≡ so.does.next = goes_nothing here false (each_of count) seen so.does.next so.does.turns x.0 so.does.goes in
          let last : NoneOn here seen count = subst (λ (w : Seen D). NoneOn here w count) (sym same) y.1 in
          (ap (λ (l : List (Turn D)). l ++ more.does.turns) x.0 ∙ y.0, λ device below. on device (lt_or_same device count below) last)
        where
          lt_or_same : (a b : ℕ) → a < b + 1 → (a < b) ⊎ (a ≡ b)
          lt_or_same a b below = elim (cases_lt a b) [
            | inl less ↦ inl less
            | inr more ↦ inr (omega (arith, below, more))
          ]

          on : (device : ℕ) → (device < count) ⊎ (device ≡ count) → NoneOn here seen count → NoneOn here seen device
          on device (inl less) last = x.1 device less
          on device (inr is) last = subst (λ (d : ℕ). NoneOn here seen d) (sym is) last

  -- all devices were gone through
  pub each_whole : (new : Scene D) (came : Bool) → IsSeenAs here seen old → DoesRow here seen old new [] [] (each_of (length here.decls.names)) came (NoneBefore (length here.decls.names))
      → DoesRow here seen old new [] [] (flat_map (λ device. part.Operation device ∷ part.Hearing device ∷ []) (declared here.decls)) came (NoneOrdered here seen)
  each_whole new came is so = record {
    does = so.does;
    quiet = λ no. let none = so.quiet no in (none.0, λ device. on none.1 device (cases_lt device (length here.decls.names)));
  }
    where
      on : NoneBefore (length here.decls.names) → (device : ℕ) → (device < length here.decls.names) ⊎ (length here.decls.names ≤ device) → NoneOn here seen device
      on none device (inl less) = none device less
      on none device (inr past) = none_undeclared here seen old is device past

-- so many more make it up
room_for : (a b : ℕ) → a < b → (k : ℕ) × (a + 1 + k ≡ b)
room_for a zero below = absurd (omega (arith, below))
room_for a (suc b) below = on (cases_lt a b) (λ less. room_for a b less)
  where
    on : (a < b) ⊎ (b ≤ a) → (a < b → (k : ℕ) × (a + 1 + k ≡ b)) → (k : ℕ) × (a + 1 + k ≡ suc b)
    on (inl less) rest = let before = rest less in let is : a + 1 + before.0 ≡ b = before.1 in (before.0 + 1, omega (arith, is))
    on (inr more) rest = (0, omega (arith, below, more))

mends_front : (n k : ℕ) → (rest : List Part) × (map part.Operations (range_with_len 0 (n + k)) ≡ map part.Operations (range_with_len 0 n) ++ rest)
mends_front n zero = ([], ap (λ (m : ℕ). map part.Operations (range_with_len 0 m)) (omega arith) ∙ sym (append-nil (map part.Operations (range_with_len 0 n))))
mends_front n (suc k) = let before = mends_front n k in (
  before.0 ++ part.Operations (n + k) ∷ [],
  ap (λ (m : ℕ). map part.Operations (range_with_len 0 m)) (omega arith) ∙ map-range_with_len_more part.Operations 0 (n + k) (n + k) (omega arith)
      ∙ ap (λ (l : List Part). l ++ part.Operations (n + k) ∷ []) before.1 ∙ append_assoc (map part.Operations (range_with_len 0 n)) before.0 (part.Operations (n + k) ∷ []),
)

module _ {D : Type 0} (here : Setting D) (seen : Seen D) (old : Scene D) where
  -- the run ended with a device of a round
  pub each_ends : (count : ℕ) (middle new : Scene D) (came : Bool) (why : WorldStop) (so : DoesRow here seen old middle [] [] (each_of count) came (NoneBefore here seen old count))
      → count < length here.decls.names → EndsInParts here so.does.next middle new [] [] (part.Operation count ∷ part.Hearing count ∷ []) why
      → EndsInParts here seen old new [] [] (flat_map (λ device. part.Operation device ∷ part.Hearing device ∷ []) (declared here.decls)) why
  each_ends count middle new came why so below ends =
      let room = room_for count (length here.decls.names) below in
      let front = each_front (count + 1) room.0 in
      let whole : each_of (length here.decls.names) ≡ (each_of count ++ part.Operation count ∷ part.Hearing count ∷ []) ++ front.0 =
      sym (ap each_of room.1) ∙ front.1 ∙ ap (λ (l : List Part). l ++ front.0) (each_more count) in
      subst (λ (ps : List Part). EndsInParts here seen old new [] [] ps why) (sym whole)
      (ends_more here seen old new [] [] (each_of count ++ part.Operation count ∷ part.Hearing count ∷ []) front.0 why
      (ends_then here seen old middle new [] [] [] (each_of count) (part.Operation count ∷ part.Hearing count ∷ []) why so.does ends))

  -- all operations of the first so many devices
  pub mends_first : IsSeenAs here seen old → DoesParts here seen old old [] [] (map part.Operations (range_with_len 0 0))
  mends_first is = record { turns = []; next = seen; goes = Goes.whole seen; through = through_none here seen old is; prints = refl }

  pub mends_then : (count : ℕ) (middle new : Scene D) (so : DoesParts here seen old middle [] [] (map part.Operations (range_with_len 0 count)))
      → DoesParts here so.next middle new [] [] (part.Operations count ∷ []) → DoesParts here seen old new [] [] (map part.Operations (range_with_len 0 (count + 1)))
  mends_then count middle new so more =
      subst (λ (ps : List Part). DoesParts here seen old new [] [] ps) (sym (map-range_with_len_more part.Operations 0 count count (omega arith)))
      (parts_then here seen old middle new [] [] [] (map part.Operations (range_with_len 0 count)) (part.Operations count ∷ []) so more)

  pub mends_end : (count : ℕ) (middle new : Scene D) (why : WorldStop) (so : DoesParts here seen old middle [] [] (map part.Operations (range_with_len 0 count)))
      → count < length here.decls.names → EndsInParts here so.next middle new [] [] (part.Operations count ∷ []) why
      → EndsInParts here seen old new [] [] (map part.Operations (declared here.decls)) why
  mends_end count middle new why so below ends =
      let room = room_for count (length here.decls.names) below in
      let front = mends_front (count + 1) room.0 in
      let whole : map part.Operations (declared here.decls) ≡ (map part.Operations (range_with_len 0 count) ++ part.Operations count ∷ []) ++ front.0 =
      sym (ap (λ (m : ℕ). map part.Operations (range_with_len 0 m)) room.1) ∙ front.1 ∙ ap (λ (l : List Part). l ++ front.0) (map-range_with_len_more part.Operations 0 count count (omega arith)) in
      subst (λ (ps : List Part). EndsInParts here seen old new [] [] ps why) (sym whole)
      (ends_more here seen old new [] [] (map part.Operations (range_with_len 0 count) ++ part.Operations count ∷ []) front.0 why
      (ends_then here seen old middle new [] [] [] (map part.Operations (range_with_len 0 count)) (part.Operations count ∷ []) why so ends))
