-- What a device would come back to changes only by a Confirm or a Commit on it.
use Rattle.std.proofs.Common.{◌≡◌, ◌⊎◌, inl, inr, ℕ, Option, Some, List, refl, sym, ap, subst, ◌∙◌}
use Rattle.orc_device.specs.Links.{Way, Way as way, way_node}
use Rattle.orc_device.specs.Listings.{kind_of_op}
use Rattle.orc_device.specs.Nodes.{DeviceKind, NodeState, kept_tree}
use Rattle.orc_device.specs.declared.kind.OpKind.{OpKind}
use Rattle.orc_device.specs.declared.kind.OpKind.TheVariants as kind
use Rattle.orc_device.specs.declared.op.Op.{Op}
use Rattle.orc_device.specs.declared.op.Op.TheVariants as ops
use Rattle.orc_journal.specs.declared.entry.Entry.{Entry}
use Rattle.orc_rules.specs.Events.{DoesAnyway, DoesUnderHub, Steps, Turn, performed, unsent}
use Rattle.orc_rules.specs.Hubs.{Hub}
use Rattle.orc_rules.specs.Worlds.{Setting, World}
use Rattle.orc_rules.specs.declared.event.Event.{Event}
use Rattle.orc_rules.proofs.NodeLaws.{kept_goes, way_trees}
use Rattle.orc_rules.proofs.Others.{dropped_turns, restarted_turns, ticked_turns}
use Rattle.orc_rules.proofs.Recording.{either, given_at, given_other}
use Rattle.orc_runs.specs.Headline.{MovesOn}

-- an operation that is no Confirm and no Commit leaves it
way_keeps : (k : DeviceKind) (n : NodeState) (s : ℕ) (op : Op) (happened : Way) → (kept_tree (way_node k n s op happened) ≡ kept_tree n) ⊎ ((kind_of_op op ≡ kind.Confirm) ⊎ (kind_of_op op ≡ kind.Commit))
way_keeps k n s (ops.Confirm t) happened = inr (inl refl)
way_keeps k n s ops.Commit happened = inr (inr refl)
way_keeps k n s (ops.CommitConfirmed t seconds) way.Done = inl refl
way_keeps k n s (ops.CommitConfirmed t seconds) (way.Denied tag) = inl refl
way_keeps k n s (ops.CommitConfirmed t seconds) way.Stranded = inl refl
way_keeps k n s (ops.CommitConfirmed t seconds) way.Before = inl refl
way_keeps k n s (ops.CommitConfirmed t seconds) way.After = inl refl
way_keeps k n s (ops.CommitConfirmed t seconds) way.NoMemory = inl refl
way_keeps k n s (ops.Cancel t) way.Done = inl refl
way_keeps k n s (ops.Cancel t) (way.Denied tag) = inl refl
way_keeps k n s (ops.Cancel t) way.Stranded = inl refl
way_keeps k n s (ops.Cancel t) way.Before = inl refl
way_keeps k n s (ops.Cancel t) way.After = inl refl
way_keeps k n s (ops.Cancel t) way.NoMemory = inl refl
way_keeps k n s op happened = inl (kept_goes n (way_node k n s op happened) (way_trees k n s op happened refl))

module _ {D : Type 0} (here : Setting D) where
  -- a device from one world to another
  abbrev MovesTo : World D → Option Event → World D → ℕ → Type 0
  MovesTo old seen new x = MovesOn (kept_tree (old.nodes x)) seen (kept_tree (new.nodes x)) x

  -- the device that does it, or another
  performs_keeps : (old : World D) (device : ℕ) (op : Op) (happened : Way) (x : ℕ) → (seen : Option Event)
      → ((k : OpKind) → kind_of_op op ≡ k → (k ≡ kind.Confirm) ⊎ (k ≡ kind.Commit) → MovesTo old seen (performed here old device op happened) device) → MovesTo old seen (performed here old device op happened) x
  performs_keeps old device op happened x seen moves = elim (either device x) [
    | inl same ↦ subst (λ (y : ℕ). MovesTo old seen (performed here old device op happened) y) same (here_moves (way_keeps (here.kinds device) (old.nodes device) (old.links device).session op happened))
    | inr other ↦ inl (ap kept_tree (given_other old.nodes device _ x other))
  ]
    where
      here_moves : (kept_tree (way_node (here.kinds device) (old.nodes device) (old.links device).session op happened) ≡ kept_tree (old.nodes device)) ⊎ ((kind_of_op op ≡ kind.Confirm) ⊎ (kind_of_op op ≡ kind.Commit))
          → MovesTo old seen (performed here old device op happened) device
      here_moves (inl same) = inl (ap kept_tree (given_at old.nodes device _) ∙ same)
      here_moves (inr which) = moves (kind_of_op op) refl which

  does_keep : (old : World D) (hub : Hub) (meant : Event) (row : List Entry) (next : World D) → DoesUnderHub here old hub meant row next → (x : ℕ) → MovesTo old (Some meant) next x
  does_keep old hub meant row next (DoesUnderHub.performs device op happened due unheard possible way') x =
      performs_keeps old device op happened x (Some meant) (λ k is which. inr (kind_of_op op, _, _, refl, is_so k is which))
    where
      is_so : (k : OpKind) → kind_of_op op ≡ k → (k ≡ kind.Confirm) ⊎ (k ≡ kind.Commit) → (kind_of_op op ≡ kind.Confirm) ⊎ (kind_of_op op ≡ kind.Commit)
      is_so k is (inl confirm) = inl (is ∙ confirm)
      is_so k is (inr commit) = inr (is ∙ commit)
  does_keep old hub meant row next (DoesUnderHub.leaves_unsent device changes due unheard) x = elim (either device x) [
    | inl same ↦ inl (subst (λ (y : ℕ). kept_tree ((unsent here old device changes).nodes y) ≡ kept_tree (old.nodes y)) same (ap kept_tree (given_at old.nodes device (old.nodes device))))
    | inr other ↦ inl (ap kept_tree (given_other old.nodes device _ x other))
  ]
  does_keep old hub meant row next DoesUnderHub.stops x = inl (dropped_turns (old.nodes x) 0).kept_same
  does_keep old hub meant row next does x = inl refl

  anyway_keeps : (old : World D) (meant : Event) (next : World D) → DoesAnyway old meant next → (x : ℕ) → MovesTo old (Some meant) next x
  anyway_keeps old meant next (DoesAnyway.ticks seconds) x = inl (ticked_turns (old.nodes x) 0 seconds).kept_same
  anyway_keeps old meant next (DoesAnyway.restarts device) x = elim (either device x) [
    | inl same ↦ inl (subst (λ (y : ℕ). kept_tree (next.nodes y) ≡ kept_tree (old.nodes y)) same (ap kept_tree (given_at old.nodes device _) ∙ (restarted_turns (old.nodes device) 0).kept_same))
    | inr other ↦ inl (ap kept_tree (given_other old.nodes device _ x other))
  ]
  anyway_keeps old meant next (DoesAnyway.answers_down call front down) x = inl refl

  steps_move : (old new : World D) (meant : Event) (seen : Option Event) → Steps here old meant seen new → (x : ℕ) → MovesTo old seen new x
  steps_move old new meant seen (Steps.done hub row next _ up does appends is) x =
      subst (λ (n : ℕ → NodeState). MovesOn (kept_tree (old.nodes x)) (Some meant) (kept_tree (n x)) x) (sym (ap (λ (w : World D). w.nodes) is)) (does_keep old hub meant row next does x)
  steps_move old new meant seen (Steps.cut hub row next _ up does appends is) x = inl (ap (λ (w : World D). kept_tree (w.nodes x)) is ∙ (dropped_turns (old.nodes x) 0).kept_same)
  steps_move old new meant seen (Steps.failed hub row next _ up does appends is) x = inl (ap (λ (w : World D). kept_tree (w.nodes x)) is)
  steps_move old new meant seen (Steps.full hub row next len _ up does appends is) x = inl (ap (λ (w : World D). kept_tree (w.nodes x)) is)
  steps_move old new meant seen (Steps.anyway _ does) x = anyway_keeps old meant new does x
  steps_move old new meant seen (Steps.unopened _ down recover stays is) x = inl (ap (λ (w : World D). kept_tree (w.nodes x)) is)
  steps_move old new meant seen (Steps.recovers _ down recover reopens is) x = inl (ap (λ (w : World D). kept_tree (w.nodes x)) is)

  -- of a turn that came
  pub turn_moves : (turn : Turn D) → Steps here turn.before turn.meant turn.seen turn.behind → (x : ℕ) → MovesOn (kept_tree (turn.before.nodes x)) turn.seen (kept_tree (turn.behind.nodes x)) x
  turn_moves turn comes x = steps_move turn.before turn.behind turn.meant turn.seen comes x
