-- Sessions that live, and who holds a lock.
use Rattle.std.proofs.Common.{◌≡◌, ℕ, ◌+◌, ◌-◌, ◌≤◌, Bool, true, false, not, ◌||◌, cond, nat_eq, nat_lt, List, [], ◌∷◌, ◌++◌, length, Option, Some, None, refl, sym, subst, ◌∙◌, arith}
use Rattle.std.specs.List.{list_any, filter}
use Rattle.std.proofs.lemmas.Bool.{eq-eqb, eqb-true, true≢false, false≢true, or_from, or_left, or_right, or_parts}
use Rattle.orc_call.specs.declared.answer.Tag.{Tag}
use Rattle.orc_device.specs.declared.op.Op.{Op}
use Rattle.orc_device.specs.declared.op.Op.TheVariants.{OpenSession, LockRunning, LockCandidate, Edit, Validate, CommitConfirmed, Commit, Confirm, Cancel, Discard, UnlockCandidate, UnlockRunning, CloseSession, GetRunning}
use Rattle.orc_device.specs.Nodes.{DeviceKind, NodeState, PendingCommit, effect, freed, is_live, least_of, next_session, node_after, op_refusal, reverted, reverted_by, dropped, roomy, session_begun, session_ended, ticked_by, unless_denied, with_session}
use Rattle.orc_node.specs.Laws.{HasSoundSessions, HolderLives, SessionsStaySound}
use Rattle.orc_node.proofs.Rooms.{ended_few, longer_by_one, start_room}

-- a number that doesn't live still doesn't where one has gone
none_left : (number gone : ℕ) (live : List ℕ) → list_any (nat_eq number) live ≡ false → list_any (nat_eq number) (filter (λ other. not (nat_eq gone other)) live) ≡ false
none_left number gone [] h = refl
none_left number gone (x ∷ live) h = on (not (nat_eq gone x)) (none_left number gone live (or_parts (nat_eq number x) (list_any (nat_eq number) live) h).1)
  where
    on : (keeps : Bool) → list_any (nat_eq number) (filter (λ other. not (nat_eq gone other)) live) ≡ false
        → list_any (nat_eq number) (cond keeps (x ∷ filter (λ other. not (nat_eq gone other)) live) (filter (λ other. not (nat_eq gone other)) live)) ≡ false
    on true rest =
        or_from (nat_eq number x) (list_any (nat_eq number) (filter (λ other. not (nat_eq gone other)) live))
        (or_parts (nat_eq number x) (list_any (nat_eq number) live) h).0 rest
    on false rest = rest

-- one that lives still does where another has gone
some_left : (number gone : ℕ) (live : List ℕ) → nat_eq number gone ≡ false → list_any (nat_eq number) live ≡ true
    → list_any (nat_eq number) (filter (λ other. not (nat_eq gone other)) live) ≡ true
some_left number gone [] apart h = absurd (false≢true h)
some_left number gone (x ∷ live) apart h = on (nat_eq gone x) refl (nat_eq number x) refl h (some_left number gone live apart)
  where
    on : (goes : Bool) → nat_eq gone x ≡ goes → (here : Bool) → nat_eq number x ≡ here → (here || list_any (nat_eq number) live) ≡ true
        → (list_any (nat_eq number) live ≡ true → list_any (nat_eq number) (filter (λ other. not (nat_eq gone other)) live) ≡ true)
        → list_any (nat_eq number) (cond (not goes) (x ∷ filter (λ other. not (nat_eq gone other)) live) (filter (λ other. not (nat_eq gone other)) live)) ≡ true
    on true is true same k rest = absurd (false≢true (sym apart ∙ eq-eqb number gone (eqb-true number x same ∙ sym (eqb-true gone x is))))
    on true is false same k rest = rest k
    on false is true same k rest = or_left (nat_eq number x) (list_any (nat_eq number) (filter (λ other. not (nat_eq gone other)) live)) same
    on false is false same k rest = or_right (nat_eq number x) (list_any (nat_eq number) (filter (λ other. not (nat_eq gone other)) live)) (rest k)

holder_left : (node : NodeState) (session : ℕ) (lock : Option ℕ) → HolderLives lock node → HolderLives (freed lock session) (session_ended node session)
holder_left node session None h = tt
holder_left node session (Some holder) h = on (nat_eq holder session) refl
  where
    on : (own : Bool) → nat_eq holder session ≡ own → HolderLives (cond own None (Some holder)) (session_ended node session)
    on true is = tt
    on false is = some_left holder session node.live is h

ended_sound : (node : NodeState) (session : ℕ) → HasSoundSessions node → HasSoundSessions (session_ended node session)
ended_sound node session h = record {
  few = ended_few node session h.few;
  numbered = none_left 0 session node.live h.numbered;
  running_holder = holder_left node session node.running_lock h.running_holder;
  candidate_holder = holder_left node session node.candidate_lock h.candidate_holder;
}

roomy_sound : (node : NodeState) (live : List ℕ) → HasSoundSessions node → HasSoundSessions (roomy node live)
roomy_sound node [] h = h
roomy_sound node (first ∷ later) h = on (nat_lt 7 (length (first ∷ later)))
  where
    on : (full : Bool) → HasSoundSessions (cond full (session_ended node (least_of first later)) node)
    on true = ended_sound node (least_of first later) h
    on false = h

-- a number more at the end
none_more : (number more : ℕ) (live : List ℕ) → nat_eq number more ≡ false → list_any (nat_eq number) live ≡ false → list_any (nat_eq number) (live ++ more ∷ []) ≡ false
none_more number more [] apart h = or_from (nat_eq number more) false apart refl
none_more number more (x ∷ live) apart h =
    let parts = or_parts (nat_eq number x) (list_any (nat_eq number) live) h in
    or_from (nat_eq number x) (list_any (nat_eq number) (live ++ more ∷ [])) parts.0 (none_more number more live apart parts.1)

some_more : (number more : ℕ) (live : List ℕ) → list_any (nat_eq number) live ≡ true → list_any (nat_eq number) (live ++ more ∷ []) ≡ true
some_more number more [] h = absurd (false≢true h)
some_more number more (x ∷ live) h = on (nat_eq number x) h (some_more number more live)
  where
    on : (here : Bool) → (here || list_any (nat_eq number) live) ≡ true → (list_any (nat_eq number) live ≡ true → list_any (nat_eq number) (live ++ more ∷ []) ≡ true)
        → (here || list_any (nat_eq number) (live ++ more ∷ [])) ≡ true
    on true k rest = refl
    on false k rest = rest k

-- the next number isn't 0
not_zero : (last : ℕ) → nat_eq 0 (next_session last) ≡ false
not_zero last = on (nat_lt last 4294967295)
  where
    zero_apart : (t : Bool) → nat_eq 0 (last + 1) ≡ t → t ≡ false
    zero_apart false is = refl
    zero_apart true is = let same : 0 ≡ last + 1 = eqb-true 0 (last + 1) is in absurd (omega (arith, same))

    on : (early : Bool) → nat_eq 0 (cond early (last + 1) 1) ≡ false
    on true = zero_apart (nat_eq 0 (last + 1)) refl
    on false = refl

holder_more : (node : NodeState) (session : ℕ) (lock : Option ℕ) → HolderLives lock node → HolderLives lock (with_session node session)
holder_more node session None h = tt
holder_more node session (Some holder) h = some_more holder session node.live h

begun_sound : (node : NodeState) → HasSoundSessions node → HasSoundSessions (session_begun node)
begun_sound node h =
    let session = next_session node.last in
    let others = session_ended node session in
    let room = roomy others others.live in
    let sound : HasSoundSessions room = roomy_sound others others.live (ended_sound node session h) in
    record {
      few = longer_by_one room.live session (start_room node others room session h.few refl refl);
      numbered = none_more 0 session room.live (not_zero node.last) sound.numbered;
      running_holder = holder_more room session room.running_lock sound.running_holder;
      candidate_holder = holder_more room session room.candidate_lock sound.candidate_holder;
    }

dropped_sound : (node : NodeState) → HasSoundSessions (dropped node)
dropped_sound node = record { few = omega arith; numbered = refl; running_holder = tt; candidate_holder = tt }

-- the session of an operation that isn't refused lives
asks_live : (dead : Bool) (later : Option Tag) (tag : Tag) → cond dead (Some tag) later ≡ None → dead ≡ false
asks_live true later tag h = absurd cc
asks_live false later tag h = refl

lives : (t : Bool) → not t ≡ false → t ≡ true
lives true h = refl
lives false h = absurd (true≢false h)

-- sessions stay sound where locks alone change and the holders of these live
relocked : (node : NodeState) → HasSoundSessions node → (after : NodeState) → after.live ≡ node.live
    → HolderLives after.running_lock node → HolderLives after.candidate_lock node → HasSoundSessions after
relocked node h after same running candidate = record {
  few = subst (λ (live : List ℕ). length live ≤ 8) (sym same) h.few;
  numbered = subst (λ (live : List ℕ). list_any (nat_eq 0) live ≡ false) (sym same) h.numbered;
  running_holder = moved after.running_lock running;
  candidate_holder = moved after.candidate_lock candidate;
}
  where
    moved : (lock : Option ℕ) → HolderLives lock node → HolderLives lock after
    moved None k = tt
    moved (Some holder) k = subst (λ (live : List ℕ). list_any (nat_eq holder) live ≡ true) (sym same) k

module _ (kind : DeviceKind) (node : NodeState) (session : ℕ) (h : HasSoundSessions node) where
  kept : (after : NodeState) → after.live ≡ node.live → after.running_lock ≡ node.running_lock → after.candidate_lock ≡ node.candidate_lock → HasSoundSessions after
  kept after same running candidate =
      relocked node h after same
      (subst (λ (lock : Option ℕ). HolderLives lock node) (sym running) h.running_holder)
      (subst (λ (lock : Option ℕ). HolderLives lock node) (sym candidate) h.candidate_holder)

  effect_sound : (op : Op) → op_refusal kind node session op ≡ None → HasSoundSessions (effect kind node session op)
  effect_sound OpenSession none = begun_sound (session_ended node session) (ended_sound node session h)
  effect_sound LockRunning none = relocked node h (effect kind node session LockRunning) refl (lives (is_live node session) (asks_live (not (is_live node session)) _ _ none)) h.candidate_holder
  effect_sound LockCandidate none = relocked node h (effect kind node session LockCandidate) refl h.running_holder (lives (is_live node session) (asks_live (not (is_live node session)) _ _ none))
  effect_sound (Edit set) none = kept (effect kind node session (Edit set)) refl refl refl
  effect_sound Validate none = h
  effect_sound (CommitConfirmed id seconds) none = kept (effect kind node session (CommitConfirmed id seconds)) refl refl refl
  effect_sound Commit none = kept (effect kind node session Commit) refl refl refl
  effect_sound (Confirm id) none = kept (effect kind node session (Confirm id)) refl refl refl
  effect_sound (Cancel id) none = kept (effect kind node session (Cancel id)) refl refl refl
  effect_sound Discard none = kept (effect kind node session Discard) refl refl refl
  effect_sound UnlockCandidate none = relocked node h (effect kind node session UnlockCandidate) refl h.running_holder tt
  effect_sound UnlockRunning none = relocked node h (effect kind node session UnlockRunning) refl tt h.candidate_holder
  effect_sound CloseSession none = ended_sound node session h
  effect_sound GetRunning none = h

  after_sound : (op : Op) → HasSoundSessions (node_after kind node session op)
  after_sound op = on (op_refusal kind node session op) refl
    where
      on : (cause : Option Tag) → op_refusal kind node session op ≡ cause → HasSoundSessions (unless_denied cause node (effect kind node session op))
      on None is = effect_sound op is
      on (Some tag) is = h

reverted_sound : (node : NodeState) (pending : Option PendingCommit) → HasSoundSessions node → HasSoundSessions (reverted_by node pending)
reverted_sound node None h = h
reverted_sound node (Some commit) h = relocked node h (reverted_by node (Some commit)) refl h.running_holder h.candidate_holder

ticked_sound : (node : NodeState) (seconds : ℕ) (pending : Option PendingCommit) → HasSoundSessions node → HasSoundSessions (ticked_by node seconds pending)
ticked_sound node seconds None h = h
ticked_sound node seconds (Some commit) h = on (nat_lt seconds commit.left)
  where
    on : (early : Bool) → HasSoundSessions (cond early (record node { pending = Some (record commit { left = commit.left - seconds }) }) (reverted_by node (Some commit)))
    on true = relocked node h (record node { pending = Some (record commit { left = commit.left - seconds }) }) refl h.running_holder h.candidate_holder
    on false = reverted_sound node (Some commit) h

pub sound_always : SessionsStaySound
sound_always = record {
  opening = λ base accept. record { few = omega arith; numbered = refl; running_holder = tt; candidate_holder = tt };
  operation = λ kind node session op h. after_sound kind node session h op;
  begins = begun_sound;
  ends = λ node session h. ended_sound node session h;
  drops = dropped_sound;
  time = λ node seconds h. ticked_sound node seconds node.pending h;
  restart = λ node. dropped_sound (reverted node);
}
