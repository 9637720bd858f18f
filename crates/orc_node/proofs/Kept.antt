-- What a device comes back to, and what it runs, and which operations change it.
use Rattle.std.proofs.Common.{◌≡◌, ℕ, ◌-◌, Bool, true, false, cond, List, [], ◌∷◌, length, nat_lt, Option, Some, None, refl, sym, ap, ◌∙◌}
use Rattle.std.proofs.lemmas.Bool.{true≢false}
use Rattle.orc_path.specs.Configurations.{Config}
use Rattle.orc_call.specs.declared.answer.Tag.{Tag}
use Rattle.orc_device.specs.declared.op.Op.{Op}
use Rattle.orc_device.specs.declared.op.Op.TheVariants.{OpenSession, LockRunning, LockCandidate, Edit, Validate, CommitConfirmed, Commit, Confirm, Cancel, Discard, UnlockCandidate, UnlockRunning, CloseSession, GetRunning}
use Rattle.orc_device.specs.Nodes.{DeviceKind, NodeState, PendingCommit, effect, kept_by, kept_tree, least_of, next_session, node_after, op_refusal, reverted_by, dropped, roomy, session_begun, session_ended, ticked_by, unless_denied}
use Rattle.orc_node.specs.Laws.{KeepsWhatItComesBackTo, RunsWhatWasCommitted, commits_for_good, commits_or_cancels}

-- what the end of a session keeps
module _ (part : NodeState → Config) (ends : (node : NodeState) (session : ℕ) → part (session_ended node session) ≡ part node) where
  -- room for one more keeps too
  with_room : (node : NodeState) (live : List ℕ) → part (roomy node live) ≡ part node
  with_room node [] = refl
  with_room node (first ∷ later) = on (nat_lt 7 (length (first ∷ later)))
    where
      on : (full : Bool) → part (cond full (session_ended node (least_of first later)) node) ≡ part node
      on true = ends node (least_of first later)
      on false = refl

  -- so does an operation that is refused
  unless : (cause : Option Tag) (node after : NodeState) → part after ≡ part node → part (unless_denied cause node after) ≡ part node
  unless None node after same = same
  unless (Some tag) node after same = refl

ends_kept : (node : NodeState) (session : ℕ) → kept_tree (session_ended node session) ≡ kept_tree node
ends_kept node session = refl

begins_kept : (node : NodeState) → kept_tree (session_begun node) ≡ kept_tree node
begins_kept node =
    let others = session_ended node (next_session node.last) in
    with_room kept_tree ends_kept others others.live ∙ ends_kept node (next_session node.last)

effect_kept : (kind : DeviceKind) (node : NodeState) (session : ℕ) (op : Op) → commits_for_good op ≡ false → kept_tree (effect kind node session op) ≡ kept_tree node
effect_kept kind node session OpenSession h = begins_kept (session_ended node session) ∙ ends_kept node session
effect_kept kind node session LockRunning h = refl
effect_kept kind node session LockCandidate h = refl
effect_kept kind node session (Edit set) h = refl
effect_kept kind node session Validate h = refl
effect_kept kind node session (CommitConfirmed id seconds) h = refl
effect_kept kind node session Commit h = absurd (true≢false h)
effect_kept kind node session (Confirm id) h = absurd (true≢false h)
effect_kept kind node session (Cancel id) h = refl
effect_kept kind node session Discard h = refl
effect_kept kind node session UnlockCandidate h = refl
effect_kept kind node session UnlockRunning h = refl
effect_kept kind node session CloseSession h = ends_kept node session
effect_kept kind node session GetRunning h = refl

time_kept : (node : NodeState) (seconds : ℕ) (pending : Option PendingCommit) → node.pending ≡ pending → kept_tree (ticked_by node seconds pending) ≡ kept_tree node
time_kept node seconds None is = refl
time_kept node seconds (Some commit) is = on (nat_lt seconds commit.left)
  where
    on : (early : Bool) → kept_tree (cond early (record node { pending = Some (record commit { left = commit.left - seconds }) }) (reverted_by node (Some commit))) ≡ kept_tree node
    on true = sym (ap (λ (pending : Option PendingCommit). kept_by pending node.running) is)
    on false = sym (ap (λ (pending : Option PendingCommit). kept_by pending node.running) is)

restart_kept : (node : NodeState) (pending : Option PendingCommit) → node.pending ≡ pending → kept_tree (dropped (reverted_by node pending)) ≡ kept_tree node
restart_kept node None is = refl
restart_kept node (Some commit) is = sym (ap (λ (pending : Option PendingCommit). kept_by pending node.running) is)

pub kept_always : KeepsWhatItComesBackTo
kept_always = record {
  operation = λ kind node session op h.
      unless kept_tree ends_kept (op_refusal kind node session op) node (effect kind node session op) (effect_kept kind node session op h);
  time = λ node seconds. time_kept node seconds node.pending refl;
  restart = λ node. restart_kept node node.pending refl;
  begins = begins_kept;
  ends = ends_kept;
  drops = λ node. refl;
}

abbrev running : NodeState → Config
running node = node.running

ends_running : (node : NodeState) (session : ℕ) → running (session_ended node session) ≡ running node
ends_running node session = refl

begins_running : (node : NodeState) → running (session_begun node) ≡ running node
begins_running node =
    let others = session_ended node (next_session node.last) in
    with_room running ends_running others others.live ∙ ends_running node (next_session node.last)

effect_running : (kind : DeviceKind) (node : NodeState) (session : ℕ) (op : Op) → commits_or_cancels op ≡ false → running (effect kind node session op) ≡ running node
effect_running kind node session OpenSession h = begins_running (session_ended node session) ∙ ends_running node session
effect_running kind node session LockRunning h = refl
effect_running kind node session LockCandidate h = refl
effect_running kind node session (Edit set) h = refl
effect_running kind node session Validate h = refl
effect_running kind node session (CommitConfirmed id seconds) h = absurd (true≢false h)
effect_running kind node session Commit h = absurd (true≢false h)
effect_running kind node session (Confirm id) h = absurd (true≢false h)
effect_running kind node session (Cancel id) h = absurd (true≢false h)
effect_running kind node session Discard h = refl
effect_running kind node session UnlockCandidate h = refl
effect_running kind node session UnlockRunning h = refl
effect_running kind node session CloseSession h = ends_running node session
effect_running kind node session GetRunning h = refl

pub running_always : RunsWhatWasCommitted
running_always = record {
  operation = λ kind node session op h.
      unless running ends_running (op_refusal kind node session op) node (effect kind node session op) (effect_running kind node session op h);
  begins = begins_running;
  ends = ends_running;
  drops = λ node. refl;
}
