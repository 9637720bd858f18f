-- After all operations of each device none is due there.
use Rattle.std.proofs.Common.{[], ◌≡◌, ◌<◌, ◌+◌, ◌⊎◌, inl, inr, ℕ, zero, suc, Bool, true, false, not, cond, Option, Some, None, List, ◌∷◌, ◌++◌, length, map, refl, sym, ap, subst, ◌∙◌, arith}
use Rattle.std.specs.Prelude.{MatchOption, is_some, take}
use Rattle.std.specs.List.{list_all, range_with_len}
use Rattle.std.specs.Option.{option_map, option_map_or, option_or}
use Rattle.std.proofs.lemmas.Bool.{cases_lt, false≢true}
use Rattle.std.proofs.lemmas.List.{take_all}
use Rattle.std.proofs.lemmas.Option.{none-some, same_Some}
use Rattle.orc_call.specs.declared.answer.RecFault.{RecFault}
use Rattle.orc_device.specs.Links.{Possible, Way as way, is_stranded, way_reply}
use Rattle.orc_device.specs.Listings.{kind_of_op, listed_when}
use Rattle.orc_device.specs.Nodes.{DeviceKind, NodeState, op_refusal}
use Rattle.orc_device.specs.Operations.{mark_of}
use Rattle.orc_device.specs.declared.kind.OpKind.{OpKind}
use Rattle.orc_device.specs.declared.kind.When.{When}
use Rattle.orc_device.specs.declared.kind.When.TheVariants as when
use Rattle.orc_device.specs.declared.op.Op.{Op}
use Rattle.orc_device.specs.declared.reply.Reply.{Reply}
use Rattle.orc_call.specs.declared.answer.Tag.{Tag}
use Rattle.orc_disk.specs.Meanings.{DiskMeaning}
use Rattle.orc_hub.specs.Hubs.{record_of}
use Rattle.orc_journal.specs.declared.entry.Entry.{Entry}
use Rattle.orc_node.specs.LinkStates.{listed_way}
use Rattle.orc_recover.specs.Menders.{differences, is_mending, mend_order}
use Rattle.orc_recover.specs.declared.stage.MendStage.{MendStage}
use Rattle.orc_recover.specs.declared.stage.MendStage.TheVariants as mending
use Rattle.orc_rules.specs.Duties.{duty_order, is_busy}
use Rattle.orc_rules.specs.Events.{DoesAnyway, DoesUnderHub, Steps, Turn, way_due}
use Rattle.orc_rules.specs.Hubs.{Hub, duty_on, has_come_to, has_met_failure, hub_reported, order_on}
use Rattle.orc_rules.specs.Worlds.{Setting, World as Seen, declared}
use Rattle.orc_rules.specs.declared.duty.Duty.{Duty}
use Rattle.orc_rules.specs.declared.duty.Duty.TheVariants as duty
use Rattle.orc_rules.specs.declared.event.Event.{Event}
use Rattle.orc_rules.specs.declared.event.Event.TheVariants as event
use Rattle.orc_rules.proofs.Moving.{order_is}
use Rattle.orc_rules.proofs.Reaching.{come_past, due_so, none_before}
use Rattle.orc_rules.proofs.Reporting.{get_other}
use Rattle.orc_runs.specs.Scripts.{Goes, IsOf, NoneOf, Part, Part as part, comes_again}
use Rattle.orc_worker.specs.Workers.{is_due, order_at}
use Rattle.orc_worker.specs.declared.stage.Stage.{Stage}
use Rattle.orc_worker.specs.declared.stage.Stage.TheVariants as working
use Rattle.orc_scene.specs.Effects.{hub_in}
use Rattle.orc_scene.specs.Courses.{DoesParts, MendsDevices, RowOrEnd}
use Rattle.orc_scene.specs.Stands.{IsPlaceSeenAs, IsSoundScene, run_setting}
use Rattle.orc_scene.specs.declared.scene.Place.{Place}
use Rattle.orc_scene.specs.declared.scene.Place.TheVariants.{Up, Down, Ended, Moved}
use Rattle.orc_scene.specs.declared.scene.Scene.{Scene}
use Rattle.orc_world.proofs.Apiece.{appends_nothing, none_left, sized_there}
use Rattle.orc_scene.proofs.Lasted.{done}

-- what is to happen to an operation may
way_possible : (kind : DeviceKind) (node : NodeState) (session : ℕ) (op : Op) (listed : Option When)
    → Possible kind node session op (cond (is_stranded node session op) way.Stranded (listed_way listed (op_refusal kind node session op)))
way_possible kind node session op listed = on (is_stranded node session op) refl
  where
    denied : (o : Option Tag) → op_refusal kind node session op ≡ o → is_stranded node session op ≡ false → Possible kind node session op (listed_way None o)
    denied None is none = is
    denied (Some tag) is none = (is, none)

    lost : (o : Option Tag) → op_refusal kind node session op ≡ o → is_stranded node session op ≡ false → Possible kind node session op (listed_way (Some when.After) o)
    lost None is none = is
    lost (Some tag) is none = none

    by : (l : Option When) → is_stranded node session op ≡ false → Possible kind node session op (listed_way l (op_refusal kind node session op))
    by None none = denied (op_refusal kind node session op) refl none
    by (Some when.Before) none = none
    by (Some when.After) none = lost (op_refusal kind node session op) refl none

    on : (b : Bool) → is_stranded node session op ≡ b → Possible kind node session op (cond b way.Stranded (listed_way listed (op_refusal kind node session op)))
    on true is = is
    on false is = by listed is

some_none : {X : Type 0} (x : X) → Some x ≡ None → ⊥
some_none x is = none-some x (sym is)

-- where none is due nothing is at work
busy_none : (one : Duty) → duty_order one ≡ None → is_busy one ≡ false
busy_none duty.Free none = refl
busy_none (duty.Works worker) none = due worker.stage none
  where
    due : (stage : Stage) → order_at worker.t worker.set stage ≡ None → is_due stage ≡ false
    due working.Opening h = absurd (some_none _ h)
    due working.LockingRunning h = absurd (some_none _ h)
    due working.LockingCandidate h = absurd (some_none _ h)
    due working.Editing h = absurd (some_none _ h)
    due working.Validating h = absurd (some_none _ h)
    due working.Committing h = absurd (some_none _ h)
    due working.Refusing h = absurd (some_none _ h)
    due working.Prepared h = refl
    due working.Lost h = refl
    due working.Confirming h = absurd (some_none _ h)
    due working.Cancelling h = absurd (some_none _ h)
    due working.Reopening h = absurd (some_none _ h)
    due working.Recancelling h = absurd (some_none _ h)
    due working.UnlockingCandidate h = absurd (some_none _ h)
    due working.UnlockingRunning h = absurd (some_none _ h)
    due working.Closing h = absurd (some_none _ h)
    due working.Over h = refl
busy_none (duty.Mends mender) none = mends mender.stage none
  where
    mends : (stage : MendStage) → mend_order differences mender.left mender.due stage ≡ None → is_mending stage ≡ false
    mends mending.Opening h = absurd (some_none _ h)
    mends mending.Resolving h = absurd (some_none _ h)
    mends (mending.LockingRunning read) h = absurd (some_none _ h)
    mends (mending.LockingCandidate read) h = absurd (some_none _ h)
    mends (mending.Editing read) h = absurd (some_none _ h)
    mends mending.Validating h = absurd (some_none _ h)
    mends mending.Committing h = absurd (some_none _ h)
    mends mending.UnlockingCandidate h = absurd (some_none _ h)
    mends mending.UnlockingRunning h = absurd (some_none _ h)
    mends mending.Closing h = absurd (some_none _ h)
    mends mending.Over h = refl

-- A reconciliation stays begun, a failure that it has met stays, and what is due on the devices before this one.
record StaysBegun (hub after : Hub) (below : ℕ) : Type 0 where
  pub begun : is_some hub.mends ≡ true → is_some after.mends ≡ true
  pub unmet : has_met_failure after.mends ≡ false → has_met_failure hub.mends ≡ false
  pub others : (device : ℕ) → device < below → order_on after device ≡ order_on hub device

same_begun : (hub : Hub) (below : ℕ) → StaysBegun hub hub below
same_begun hub below = record { begun = λ is. is; unmet = λ is. is; others = λ device less. refl }

met_begun : (now : Option RecFault) (mends : Option (Option RecFault)) → is_some mends ≡ true → is_some (option_map (λ met. option_or met now) mends) ≡ true
met_begun now None is = is
met_begun now (Some met) is = refl

met_stays : (now : Option RecFault) (mends : Option (Option RecFault)) → has_met_failure (option_map (λ met. option_or met now) mends) ≡ false → has_met_failure mends ≡ false
met_stays now None is = refl
met_stays now (Some None) is = refl
met_stays now (Some (Some met)) is = is

reported_begun : (hub : Hub) (device : ℕ) (reply : Reply) (faults : ℕ) → StaysBegun hub (hub_reported device reply faults hub) device
reported_begun hub device reply faults = record {
  begun = met_begun _ hub.mends;
  unmet = met_stays _ hub.mends;
  others = λ other less. ap (λ (o : Option Duty). option_map_or duty_order o None) (get_other _ device other hub.duties (λ same. apart same less));
}
  where
    apart : {other : ℕ} → device ≡ other → other < device → ⊥
    apart same less = omega (arith, same, less)

-- the first of a row of devices, each of which does all its operations
record HeadsRow (one : Part) (later : List Part) (first count : ℕ) : Type 0 where
  pub left : ℕ
  pub is : count ≡ suc left
  pub head : one ≡ part.Operations first
  pub tail : later ≡ map part.Operations (range_with_len (first + 1) left)

heads : (one : Part) (later : List Part) (first count : ℕ) → one ∷ later ≡ map part.Operations (range_with_len first count) → HeadsRow one later first count
heads one later first zero is = absurd cc
heads one later first (suc left) is = record {
  left = left;
  is = refl;
  head = let same : one ≡ part.Operations first = cc in same;
  tail = let same : later ≡ map part.Operations (range_with_len (first + 1) left) = cc in same;
}

-- what is so of the hub while a reconciliation goes on: nothing is due on the first so many devices, unless it met a failure
record MendsBelow (hub : Hub) (below : ℕ) : Type 0 where
  pub begun : is_some hub.mends ≡ true
  pub none : has_met_failure hub.mends ≡ false → (device : ℕ) → device < below → order_on hub device ≡ None

below_kept : (hub after : Hub) (below : ℕ) → StaysBegun hub after below → MendsBelow hub below → MendsBelow after below
below_kept hub after below stays so = record {
  begun = stays.begun so.begun;
  none = λ unmet device less. stays.others device less ∙ so.none (stays.unmet unmet) device less;
}

-- where nothing is next on the first so many devices, nothing is left to do there
none_busy : (hub : Hub) (below : ℕ) → ((device : ℕ) → device < below → order_on hub device ≡ None) → list_all (λ one. not (is_busy one)) (take below hub.duties) ≡ true
none_busy hub below none = none_before hub.duties below (λ device less. busy_none (duty_on hub.duties device) (sym (order_is hub device) ∙ none device less))

-- and the reconciliation has come to the next one
come_next : (hub : Hub) (device : ℕ) → ((other : ℕ) → other < device → order_on hub other ≡ None) → has_come_to hub device ≡ true
come_next hub device none = come_past hub device (none_busy hub device none)

module _ {D : Type 0} (here : Setting D) where
  -- an operation of a device, or its report, under a hub
  record LeadsTo (hub : Hub) (device : ℕ) (next : Seen D) : Type 0 where
    pub after : Hub
    pub up : next.hub ≡ Some after
    pub stays : StaysBegun hub after device

  under_operates : (world : Seen D) (hub : Hub) (device : ℕ) → world.hub ≡ Some hub → (meant : Event) (row : List Entry) (next : Seen D) → IsOf (part.Operations device) meant
      → DoesUnderHub here world hub meant row next → LeadsTo hub device next
  under_operates world hub device up meant row next is (DoesUnderHub.performs other op happened due unheard possible way) = record { after = hub; up = up; stays = same_begun hub device }
  under_operates world hub device up meant row next is (DoesUnderHub.leaves_unsent other changes due unheard) = record { after = hub; up = up; stays = same_begun hub device }
  under_operates world hub device up meant row next is (DoesUnderHub.reports other op reply unheard) = record {
    after = hub_reported other reply (world.links other).faults hub;
    up = refl;
    stays = subst (λ (d : ℕ). StaysBegun hub (hub_reported other reply (world.links other).faults hub) d) is (reported_begun hub other reply (world.links other).faults);
  }
  under_operates world hub device up meant row next is does = absurd is

  never_ends : (device : ℕ) (world : Seen D) (hub : Hub) (meant : Event) (row done rest : List Entry) (next : Seen D) → IsOf (part.Operations device) meant
      → DoesUnderHub here world hub meant row next → row ≡ done ++ rest → (entry : Entry) (later : List Entry) → rest ≡ entry ∷ later → ⊥
  never_ends device world hub meant row done rest next is does parts entry later left =
      none_left done rest entry later (sym (appends_nothing here world hub device meant row next is does) ∙ parts) left

  operates : (old new : Seen D) (meant : Event) (seen : Option Event) (device : ℕ) (hub : Hub) → old.hub ≡ Some hub → IsOf (part.Operations device) meant → Steps here old meant seen new
      → LeadsTo hub device new
  operates old new meant seen device hub up is (Steps.done other row next _ up' does appends same) =
      let one : other ≡ hub = same_Some other hub (sym up' ∙ up) in
      let leads : LeadsTo other device next = under_operates old other device up' meant row next is does in
      subst (λ (h : Hub). LeadsTo h device new) one (record { after = leads.after; up = ap (λ (w : Seen D). w.hub) same ∙ leads.up; stays = leads.stays })
  operates old new meant seen device hub up is (Steps.cut other row next _ up' does appends same) =
      absurd (never_ends device old other meant row appends.done appends.rest next is does appends.parts appends.ends.0.0 appends.ends.0.1 appends.ends.0.2)
  operates old new meant seen device hub up is (Steps.failed other row next _ up' does appends same) =
      absurd (never_ends device old other meant row appends.done appends.rest next is does appends.parts appends.ends.0.0 appends.ends.0.1 appends.ends.0.2)
  operates old new meant seen device hub up is (Steps.full other row next len _ up' does appends same) =
      absurd (never_ends device old other meant row appends.done appends.rest next is does appends.parts appends.ends.2.0 appends.ends.2.1 appends.ends.2.2)
  operates old new meant seen device hub up is (Steps.anyway _ (DoesAnyway.ticks seconds)) = absurd is
  operates old new meant seen device hub up is (Steps.anyway _ (DoesAnyway.restarts other)) = absurd is
  operates old new meant seen device hub up is (Steps.anyway _ (DoesAnyway.answers_down call front down)) = absurd is
  operates old new meant seen device hub up is (Steps.unopened _ down recover stays same) = absurd (subst (IsOf (part.Operations device)) recover is)
  operates old new meant seen device hub up is (Steps.recovers _ down recover opens same) = absurd (subst (IsOf (part.Operations device)) recover is)

  -- where none may come any more on a device that the reconciliation has come to, none is next there
  none_there : (world : Seen D) (hub : Hub) (device : ℕ) → world.hub ≡ Some hub → NoneOf here world (part.Operations device) → has_met_failure hub.mends ≡ false → has_come_to hub device ≡ true
      → order_on hub device ≡ None
  none_there world hub device up none unmet come = on (world.links device).unheard refl
    where
      due : (world.links device).unheard ≡ None → (o : Option Op) → order_on hub device ≡ o → order_on hub device ≡ None
      due e None is = is
      due e (Some one) is =
          let happened = way_due here world device one in
          absurd (none (event.Perform device (kind_of_op one) (mark_of (way_reply (world.nodes device) one happened)) _) refl
          (inl (
            hub,
            [],
            _,
            up,
            DoesUnderHub.performs device one happened (due_so hub device unmet come ∙ is) e
                (way_possible (here.kinds device) (world.nodes device) (world.links device).session one (listed_when (kind_of_op one) (world.links device).listed)) (inl refl),
          )))

      on : (u : Option (OpKind × Reply)) → (world.links device).unheard ≡ u → order_on hub device ≡ None
      on (Some one) e = absurd (none (event.Report device one.0 (mark_of one.1) (world.links device).faults) refl (inl (hub, [], _, up, DoesUnderHub.reports device one.0 one.1 e)))
      on None e = due e (order_on hub device) refl

  -- one device more
  below_more : (world : Seen D) (hub : Hub) (device : ℕ) → world.hub ≡ Some hub → NoneOf here world (part.Operations device) → MendsBelow hub device → MendsBelow hub (device + 1)
  below_more world hub device up none so = record {
    begun = so.begun;
    none = λ unmet other less. by unmet other (lt_or_same other device less);
  }
    where
      lt_or_same : (a b : ℕ) → a < b + 1 → (a < b) ⊎ (a ≡ b)
      lt_or_same a b below = elim (cases_lt a b) [
        | inl less ↦ inl less
        | inr more ↦ inr (omega (arith, below, more))
      ]

      by : has_met_failure hub.mends ≡ false → (other : ℕ) → (other < device) ⊎ (other ≡ device) → order_on hub other ≡ None
      by unmet other (inl less) = so.none unmet other less
      by unmet other (inr is) = subst (λ (d : ℕ). order_on hub d ≡ None) (sym is) (none_there world hub device up none unmet (come_next hub device (so.none unmet)))

  -- after all operations of a row of devices
  record EndsBelow (below : ℕ) (last : Seen D) : Type 0 where
    pub hub : Hub
    pub up : last.hub ≡ Some hub
    pub so : MendsBelow hub below

  goes_below : (parts : List Part) (world : Seen D) (turns : List (Turn D)) (last : Seen D) → Goes here false parts world turns last
      → (first count : ℕ) → parts ≡ map part.Operations (range_with_len first count) → (hub : Hub) → world.hub ≡ Some hub → MendsBelow hub first → EndsBelow (first + count) last
  goes_below parts world turns last (Goes.whole _) first zero is hub up so = record { hub = hub; up = up; so = subst (λ (n : ℕ). MendsBelow hub n) (omega arith) so }
  goes_below parts world turns last (Goes.whole _) first (suc count) is hub up so = absurd cc
  goes_below parts world turns last (Goes.broken _ _ wrong) first count is hub up so = absurd (false≢true wrong)
  goes_below parts world turns last (Goes.once one later turn more _ once is_of called comes goes) first count is hub up so =
      let row : HeadsRow one later first count = heads one later first count is in
      absurd (false≢true (sym once ∙ ap comes_again row.head))
  goes_below parts world turns last (Goes.again one later turn more _ again is_of comes goes) first count is hub up so =
      let row : HeadsRow one later first count = heads one later first count is in
      let leads : LeadsTo hub first turn.behind = operates turn.before turn.behind turn.meant turn.seen first hub up (subst (λ (p : Part). IsOf p turn.meant) row.head is_of) comes in
      goes_below (one ∷ later) turn.behind more last goes first count is leads.after leads.up (below_kept hub leads.after first leads.stays so)
  goes_below parts world turns last (Goes.none one later _ _ _ none goes) first count is hub up so =
      let row : HeadsRow one later first count = heads one later first count is in
      let rest : EndsBelow (first + 1 + row.left) last = goes_below later world turns last goes (first + 1) row.left row.tail hub up
      (below_more world hub first up (subst (λ (p : Part). NoneOf here world p) row.head none) so) in
      let size : count ≡ suc row.left = row.is in
      subst (λ (n : ℕ). EndsBelow n last) (omega (arith, size)) rest
  goes_below parts world turns last (Goes.round_more later _ _ _ goes) first count is hub up so =
      let row : HeadsRow part.Rounds later first count = heads part.Rounds later first count is in absurd (let wrong : part.Rounds ≡ part.Operations first = row.head in cc)
  goes_below parts world turns last (Goes.still later _ _ _ still goes) first count is hub up so =
      let row : HeadsRow part.Rounds later first count = heads part.Rounds later first count is in absurd (let wrong : part.Rounds ≡ part.Operations first = row.head in cc)

-- after the operations of all devices nothing is due on any, unless a failure was met
pub devices_mended : {D : Type 0} (disk : DiskMeaning D) (old new : Scene D) → IsSoundScene disk old → MatchOption (hub_in old.place) ⊥ (λ hub. is_some hub.mends ≡ true)
    → RowOrEnd disk (λ here. map part.Operations (declared here.decls)) old (done tt) new [] [] → MatchOption (hub_in new.place) ⊥ MendsDevices
devices_mended {D = D} disk old new sound begun each =
    let here : Setting D = run_setting disk sound.0 old.limit sound.1 in
    let does : DoesParts here sound.2 old new [] [] (map part.Operations (declared here.decls)) = each sound.0 sound.1 sound.2 sound.3 in
    behind here sound.2 old.place new.place sound.3.place begun does.next does.turns does.goes does.through.is.place
  where
    behind : (here : Setting D) (seen : Seen D) (place after : Place D) → IsPlaceSeenAs here seen place → MatchOption (hub_in place) ⊥ (λ hub. is_some hub.mends ≡ true)
        → (next : Seen D) (turns : List (Turn D)) → Goes here false (map part.Operations (declared here.decls)) seen turns next → IsPlaceSeenAs here next after → MatchOption (hub_in after) ⊥ MendsDevices
    behind here seen (Up hub) after is begun next turns goes is_after =
        there here next after is_after (goes_below here (map part.Operations (declared here.decls)) seen turns next goes 0 (length here.decls.names) refl (record_of hub) is.is
        (record { begun = begun; none = λ unmet device less. absurd (omega (arith, less)) }))
      where
        there : (here : Setting D) (next : Seen D) (place : Place D) → IsPlaceSeenAs here next place → EndsBelow here (0 + length here.decls.names) next → MatchOption (hub_in place) ⊥ MendsDevices
        there here next (Up own) is ends =
            let same : record_of own ≡ ends.hub = same_Some (record_of own) ends.hub (sym is.is ∙ ends.up) in
            let at : MendsBelow (record_of own) (0 + length here.decls.names) = subst (λ (h : Hub). MendsBelow h (0 + length here.decls.names)) (sym same) ends.so in
            let so : MendsBelow (record_of own) (length here.decls.names) = subst (λ (n : ℕ). MendsBelow (record_of own) n) (omega arith) at in
            let sized : length (record_of own).duties ≡ length here.decls.names = sized_there here next (Up own) is (record_of own) is.is in (
              so.begun,
              λ unmet. subst (λ (l : List Duty). list_all (λ one. not (is_busy one)) l ≡ true) (take_all (length here.decls.names) (record_of own).duties (omega (arith, sized)))
                  (none_busy (record_of own) (length here.decls.names) (so.none unmet)),
            )
        there here next (Down disk decls) is ends = absurd (none-some ends.hub (sym is.0 ∙ ends.up))
        there here next (Ended disk) is ends = absurd is
        there here next Moved is ends = absurd is
    behind here seen (Down disk decls) after is begun next turns goes is_after = absurd begun
    behind here seen (Ended disk) after is begun next turns goes is_after = absurd begun
    behind here seen Moved after is begun next turns goes is_after = absurd begun
