-- What a link's operation does, by what its node does.
use Rattle.std.proofs.Common.{◌≡◌, Bool, true, false, ℕ, List, refl, sym, ◌∙◌, ap, subst, cond, inl, inr}
use Rattle.std.specs.Prelude.{Option, Some, None, ◌⊎◌}
use Rattle.orc_call.specs.declared.answer.Tag.{Tag}
use Rattle.orc_device.specs.declared.op.Op.{Op}
use Rattle.orc_device.specs.declared.op.Op.TheVariants.{OpenSession, LockRunning, LockCandidate, Edit, Validate, CommitConfirmed, Commit, Confirm, Cancel, Discard, UnlockCandidate, UnlockRunning, CloseSession, GetRunning}
use Rattle.orc_device.specs.declared.reply.Reply.{Reply}
use Rattle.orc_device.specs.declared.reply.Reply.TheVariants as reply
use Rattle.orc_device.specs.Nodes.{NodeState, node_after, node_reply, op_refusal, effect, unless_denied, reply_by, good_reply}
use Rattle.orc_device.specs.Links.{Way, is_stranded, session_after, takes_memory, took_effect}
use Rattle.orc_device.specs.Links.Way.{Done, Denied, Stranded, Before, After, NoMemory}
use Rattle.orc_node.specs.Kinds.{device_kind}
use Rattle.orc_device.specs.Listings.{kind_of_op, listed_when, without_first}
use Rattle.orc_node.specs.Nodes.{AcceptingNode, with_state, PerformsAs}
use Rattle.orc_node.specs.LinkStates.{LinkState, LinkPerforms, link_kind, due_way, listed_way, link_after}
use Rattle.orc_node.specs.inside.Asked.{AsksNode, FailsAt, LosesReply, asked, cause_of, session_by, failed}
use Rattle.orc_device.specs.declared.kind.OpKind.{OpKind}
use Rattle.orc_device.specs.declared.kind.When.{When}
use Rattle.orc_device.specs.declared.kind.When.TheVariants as when

keeps_session : (n : NodeState) (s : ℕ) (op : Op) → (op ≡ OpenSession → ⊥) → session_after n s op ≡ s
keeps_session n s OpenSession h = absurd (h refl)
keeps_session n s LockRunning h = refl
keeps_session n s LockCandidate h = refl
keeps_session n s (Edit set) h = refl
keeps_session n s Validate h = refl
keeps_session n s (CommitConfirmed id seconds) h = refl
keeps_session n s Commit h = refl
keeps_session n s (Confirm id) h = refl
keeps_session n s (Cancel id) h = refl
keeps_session n s Discard h = refl
keeps_session n s UnlockCandidate h = refl
keeps_session n s UnlockRunning h = refl
keeps_session n s CloseSession h = refl
keeps_session n s GetRunning h = refl

one_session : (cause : Option Tag) (s : ℕ) → session_by cause s s ≡ s
one_session None s = refl
one_session (Some tag) s = refl

abbrev of_parts : AcceptingNode → ℕ → ℕ → List (OpKind × When) → LinkState
of_parts node session faults listed = record { node = node; session = session; faults = faults; listed = listed }

module _ (node after : AcceptingNode) (s faults : ℕ) (listed : List (OpKind × When)) (op : Op) (other : op ≡ OpenSession → ⊥) where
  leads : after ≡ with_state node (node_after (device_kind node.accept) node.state s op) → of_parts after s faults listed ≡ asked (of_parts node s faults listed) op
  leads e i = record {
    node = e i;
    session = sym (ap (session_by (op_refusal (device_kind node.accept) node.state s op) s) (keeps_session node.state s op other) ∙ one_session (op_refusal (device_kind node.accept) node.state s op) s) i;
    faults = faults;
    listed = listed;
  }

  pub asked_of : (answer : Reply) → PerformsAs node s op after answer → AsksNode (of_parts node s faults listed) op (of_parts after s faults listed) answer
  asked_of reply.Ok h = (h.0, leads h.1)
  asked_of (reply.Tree tree) h = (h.0, leads h.1)
  asked_of (reply.Refused tag) h = (h.0, leads h.1)
  asked_of reply.Fault h = (h.0, leads h.1)
  asked_of reply.Memory h = (h.0, h.1, ap (λ (n : AcceptingNode). of_parts n s faults listed) h.2)

-- the link without the first listing of the operation's kind
abbrev served : LinkState → Op → LinkState
served link op = record link { listed = without_first (kind_of_op op) link.listed }

module _ (link after : LinkState) (op : Op) (lives : is_stranded link.node.state link.session op ≡ false) where
  due_by : (w : Option When) (cause : Option Tag) → listed_when (kind_of_op op) link.listed ≡ w → cause_of link op ≡ cause → listed_way w cause ≡ due_way link op
  due_by w cause e f =
      sym (ap (λ b. cond b Stranded (listed_way (listed_when (kind_of_op op) link.listed) (cause_of link op))) lives ∙ ap (λ o. listed_way o (cause_of link op)) e ∙ ap (listed_way w) f)

  wanting : (w : Option When) → listed_when (kind_of_op op) link.listed ≡ w → took_effect (listed_way w None) ≡ true
      → (answer : Reply) → answer ≡ reply.Memory → (cause_of link op ≡ None) → takes_memory op ≡ true → after ≡ served link op → LinkPerforms link op after answer
  wanting w listed reaches answer is none takes e = record {
    way = NoMemory;
    possible = (takes, none);
    due = inr refl;
    reached = sym (ap took_effect (due_by w None listed none)) ∙ reaches;
    leads = e;
    answered = is;
  }

  -- the node is asked, and the reply comes
  answered_by : listed_when (kind_of_op op) link.listed ≡ None → (answer : Reply) (cause : Option Tag) → cause_of link op ≡ cause → answer ≡ reply_by (cause_of link op) (good_reply link.node.state op) →
      after ≡ asked (served link op) op → LinkPerforms link op after answer
  answered_by none answer None f h e = record {
    way = Done;
    possible = f;
    due = inl (due_by None None none f);
    reached = tt;
    leads = e ∙ ap (λ (o : Option Tag). record { node = with_state link.node (unless_denied o link.node.state (effect (link_kind link) link.node.state link.session op)); session = session_by o link.session (session_after link.node.state link.session op); faults = link.faults; listed = without_first (kind_of_op op) link.listed }) f;
    answered = h ∙ ap (λ (o : Option Tag). reply_by o (good_reply link.node.state op)) f;
  }
  answered_by none answer (Some tag) f h e = record {
    way = Denied tag;
    possible = (f, lives);
    due = inl (due_by None (Some tag) none f);
    reached = tt;
    leads = e ∙ ap (λ (o : Option Tag). record { node = with_state link.node (unless_denied o link.node.state (effect (link_kind link) link.node.state link.session op)); session = session_by o link.session (session_after link.node.state link.session op); faults = link.faults; listed = without_first (kind_of_op op) link.listed }) f;
    answered = h ∙ ap (λ (o : Option Tag). reply_by o (good_reply link.node.state op)) f;
  }

  answered_performs : listed_when (kind_of_op op) link.listed ≡ None → (answer : Reply) → AsksNode (served link op) op after answer → LinkPerforms link op after answer
  answered_performs none reply.Ok h = answered_by none reply.Ok (cause_of link op) refl h.0 h.1
  answered_performs none (reply.Tree tree) h = answered_by none (reply.Tree tree) (cause_of link op) refl h.0 h.1
  answered_performs none (reply.Refused tag) h = answered_by none (reply.Refused tag) (cause_of link op) refl h.0 h.1
  answered_performs none reply.Fault h = answered_by none reply.Fault (cause_of link op) refl h.0 h.1
  answered_performs none reply.Memory h = wanting None none refl reply.Memory refl h.0 h.1 h.2

  -- the node is asked, and the link fails
  lost_by_cause : listed_when (kind_of_op op) link.listed ≡ Some when.After → (cause : Option Tag) → cause_of link op ≡ cause →
      after ≡ failed (asked (served link op) op) → LinkPerforms link op after reply.Fault
  lost_by_cause listed None f e = record {
    way = After;
    possible = f;
    due = inl (due_by (Some when.After) None listed f);
    reached = tt;
    leads = e ∙ ap (λ (o : Option Tag). failed (record { node = with_state link.node (unless_denied o link.node.state (effect (link_kind link) link.node.state link.session op)); session = session_by o link.session (session_after link.node.state link.session op); faults = link.faults; listed = without_first (kind_of_op op) link.listed })) f;
    answered = refl;
  }
  lost_by_cause listed (Some tag) f e = record {
    way = Before;
    possible = lives;
    due = inl (due_by (Some when.After) (Some tag) listed f);
    reached = tt;
    leads = e ∙ ap (λ (o : Option Tag). failed (record { node = with_state link.node (unless_denied o link.node.state (effect (link_kind link) link.node.state link.session op)); session = session_by o link.session (session_after link.node.state link.session op); faults = link.faults; listed = without_first (kind_of_op op) link.listed })) f;
    answered = refl;
  }

  lost_performs : listed_when (kind_of_op op) link.listed ≡ Some when.After → (answer : Reply) → LosesReply (served link op) op after answer → LinkPerforms link op after answer
  lost_performs listed reply.Ok h = subst (λ (r : Reply). LinkPerforms link op after r) (sym h.0) (lost_by_cause listed (cause_of link op) refl h.1)
  lost_performs listed (reply.Tree tree) h = subst (λ (r : Reply). LinkPerforms link op after r) (sym h.0) (lost_by_cause listed (cause_of link op) refl h.1)
  lost_performs listed (reply.Refused tag) h = subst (λ (r : Reply). LinkPerforms link op after r) (sym h.0) (lost_by_cause listed (cause_of link op) refl h.1)
  lost_performs listed reply.Fault h = lost_by_cause listed (cause_of link op) refl h.1
  lost_performs listed reply.Memory h = wanting (Some when.After) listed refl reply.Memory refl h.0 h.1 h.2

  failed_performs : listed_when (kind_of_op op) link.listed ≡ Some when.Before → (answer : Reply) → answer ≡ reply.Fault → after ≡ failed (served link op) → LinkPerforms link op after answer
  failed_performs listed answer is e = record { way = Before; possible = lives; due = inl (due_by (Some when.Before) (cause_of link op) listed refl); reached = tt; leads = e; answered = is }

  fails_performs : (w : When) → listed_when (kind_of_op op) link.listed ≡ Some w → (answer : Reply) → FailsAt w (served link op) op after answer → LinkPerforms link op after answer
  fails_performs when.Before listed answer h = failed_performs listed answer h.0 h.1
  fails_performs when.After listed answer h = lost_performs listed answer h

-- what a link that fails performs, by the parts of the link
module _ (node : AcceptingNode) (session : ℕ) (faults : ℕ) (listed rest : List (OpKind × When)) (op : Op) (kind : OpKind) (after : LinkState) (answer : Reply)
    (is : kind ≡ kind_of_op op) (left : rest ≡ without_first kind listed) (lives : is_stranded node.state session op ≡ false) where
  served_is : rest ≡ without_first (kind_of_op op) listed
  served_is = left ∙ ap (λ k. without_first k listed) is

  pub fails_from : (w : When) → Some w ≡ listed_when kind listed → FailsAt w (of_parts node session faults rest) op after answer → LinkPerforms (of_parts node session faults listed) op after answer
  fails_from w e h =
      fails_performs (of_parts node session faults listed) after op lives w (sym (e ∙ ap (λ k. listed_when k listed) is)) answer
      (subst (λ xs. FailsAt w (of_parts node session faults xs) op after answer) served_is h)

  pub asked_from : None ≡ listed_when kind listed → AsksNode (of_parts node session faults rest) op after answer → LinkPerforms (of_parts node session faults listed) op after answer
  asked_from e h =
      answered_performs (of_parts node session faults listed) after op lives (sym (e ∙ ap (λ k. listed_when k listed) is)) answer
      (subst (λ xs. AsksNode (of_parts node session faults xs) op after answer) served_is h)
