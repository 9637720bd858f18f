-- An operation of a device, and what the rules see of it.
use Rattle.std.proofs.Common.{[], ◌≡◌, ◌<◌, ◌⊎◌, inl, inr, nat_eq, ℕ, false, Option, Some, None, List, ◌∷◌, ◌++◌, map, sym, ap, subst, ◌∙◌}
use Rattle.std.specs.Prelude.{slice_get}
use Rattle.std.specs.Option.{option_map, option_map_or}
use Rattle.std.proofs.Math.Path.{fun_ext}
use Rattle.std.proofs.lemmas.Option.{same_Some, slice_get-map}
use Rattle.orc_check.specs.declared.acceptance.Accept.{Accept}
use Rattle.orc_decls.specs.Declarations.{accept_of}
use Rattle.orc_decls.specs.declared.declarations.Decls.{Decls}
use Rattle.orc_decls.specs.declared.declarations.Device.{Device}
use Rattle.orc_device.specs.Links.{Possible, way_node, way_reply, way_session}
use Rattle.orc_device.specs.Listings.{kind_of_op, without_first}
use Rattle.orc_device.specs.Nodes.{DeviceKind, NodeState}
use Rattle.orc_device.specs.declared.op.Op.{Op}
use Rattle.orc_device.specs.declared.reply.Logged.{Logged}
use Rattle.orc_device.specs.declared.reply.Reply.{Reply}
use Rattle.orc_links.specs.Logs.{PerformsLogged}
use Rattle.orc_links.proofs.States.{links_changed, nodes_changed}
use Rattle.orc_links.specs.Networks.{AreLinksOf, absent_link, absent_node, heard_link, link_states, node_states}
use Rattle.orc_node.specs.Kinds.{device_kind}
use Rattle.orc_node.specs.LinkStates.{LinkState, link_kind}
use Rattle.orc_rules.specs.Acceptance.{declared_kind, node_kind}
use Rattle.orc_rules.specs.Cells.{updated_at}
use Rattle.orc_rules.specs.Events.{link_behind, performed}
use Rattle.orc_rules.specs.Worlds.{Link, Setting, World as Seen, unheard_of}
use Rattle.orc_rules.proofs.Recording.{either, given_at, given_other}
use Rattle.orc_scene.specs.Stands.{IsSeenAs}
use Rattle.orc_scene.specs.declared.scene.Scene.{Scene}
use Rattle.orc_scene.proofs.Seeing.{changed_mapped}

-- what a link's device says of configurations is what is declared of it
pub kind_there : (decls : Decls) (links : List LinkState) (device : ℕ) (link : LinkState) → AreLinksOf decls links
    → slice_get links device ≡ Some link → declared_kind decls device ≡ device_kind link.node.accept
kind_there decls links device link accepts there =
    let accept : LinkState → Accept = λ one. one.node.accept in
    let here : option_map (accept_of decls.schemas) (slice_get decls.devices device) ≡ Some link.node.accept =
    sym (slice_get-map (accept_of decls.schemas) decls.devices device)
    ∙ ap (λ (all : List Accept). slice_get all device) (sym accepts)
    ∙ slice_get-map accept links device ∙ ap (option_map accept) there in
    on (slice_get decls.devices device) here
  where
    on : (o : Option Device) → option_map (accept_of decls.schemas) o ≡ Some link.node.accept
        → node_kind decls.schemas o ≡ device_kind link.node.accept
    on None is = absurd cc
    on (Some one) is = ap device_kind (same_Some (accept_of decls.schemas one) link.node.accept is)

-- the device and its link, as they are seen
pub node_there : (links : List LinkState) (device : ℕ) (link : LinkState) → slice_get links device ≡ Some link
    → node_states links device ≡ link.node.state
node_there links device link there = ap (λ (o : Option LinkState). option_map_or (λ one. one.node.state) o absent_node) there

pub link_seen : (links : List LinkState) (device : ℕ) (link : LinkState) → slice_get links device ≡ Some link
    → link_states links device ≡ heard_link link
link_seen links device link there = ap (λ (o : Option LinkState). option_map_or heard_link o absent_link) there

-- a value changed twice at one number
pub updated_twice : {A : Type 0} (f : ℕ → A) (at : ℕ) (a : A) (g : A → A)
    → updated_at (updated_at f at a) at (g (updated_at f at a at)) ≡ updated_at f at (g a)
updated_twice {A} f at a g = fun_ext (λ x. on x (either at x))
  where
    on : (x : ℕ) → ((at ≡ x) ⊎ (nat_eq at x ≡ false))
        → updated_at (updated_at f at a) at (g (updated_at f at a at)) x ≡ updated_at f at (g a) x
    on x (inl same) = subst (λ (y : ℕ). updated_at (updated_at f at a) at (g (updated_at f at a at)) y ≡ updated_at f at (g a) y) same
        (given_at (updated_at f at a) at (g (updated_at f at a at)) ∙ ap g (given_at f at a) ∙ sym (given_at f at (g a)))
    on x (inr apart) = given_other (updated_at f at a) at (g (updated_at f at a at)) x apart ∙ given_other f at a x apart
        ∙ sym (given_other f at (g a) x apart)

module _ {D : Type 0} (here : Setting D) (seen : Seen D) (old : Scene D) (is : IsSeenAs here seen old)
    (kinds : (device : ℕ) → here.kinds device ≡ declared_kind here.decls device)
    (device : ℕ) (op : Op) (reply : Reply) (after_links : List LinkState) (after_logs : List (List Logged))
    (did : PerformsLogged old.links.links old.links.logs device op reply after_links after_logs) where
  -- the device and its link, as the rules see them
  pub node_is : seen.nodes device ≡ did.link.node.state
  node_is = ap (λ (f : ℕ → NodeState). f device) is.nodes ∙ node_there old.links.links device did.link did.there

  pub link_is : seen.links device ≡ heard_link did.link
  link_is = ap (λ (f : ℕ → Link). f device) is.links ∙ link_seen old.links.links device did.link did.there

  pub kind_is : here.kinds device ≡ link_kind did.link
  kind_is = kinds device ∙ kind_there here.decls old.links.links device did.link is.accepts did.there

  -- what happened may happen, and is what was due, or memory ran out
  pub may_happen : Possible (here.kinds device) (seen.nodes device) (seen.links device).session op did.performs.way
  may_happen = subst (λ (kind : DeviceKind). Possible kind (seen.nodes device) (seen.links device).session op did.performs.way) (sym kind_is)
      (subst (λ (state : NodeState). Possible (link_kind did.link) state (seen.links device).session op did.performs.way) (sym node_is)
      (subst (λ (link : Link). Possible (link_kind did.link) did.link.node.state link.session op did.performs.way) (sym link_is) did.performs.possible))

  -- the devices after it
  pub nodes_after : (performed here seen device op did.performs.way).nodes ≡ node_states after_links
  nodes_after =
      let due : DeviceKind → NodeState → Link → NodeState = λ kind state link. way_node kind state link.session op did.performs.way in
      ap {B = ℕ → NodeState} (λ (f : ℕ → NodeState). updated_at f device (due (here.kinds device) (seen.nodes device) (seen.links device))) is.nodes
      ∙ ap {B = ℕ → NodeState} (λ (kind : DeviceKind). updated_at (node_states old.links.links) device (due kind (seen.nodes device) (seen.links device))) kind_is
      ∙ ap {B = ℕ → NodeState} (λ (state : NodeState). updated_at (node_states old.links.links) device (due (link_kind did.link) state (seen.links device))) node_is
      ∙ ap {B = ℕ → NodeState} (λ (link : Link). updated_at (node_states old.links.links) device (due (link_kind did.link) did.link.node.state link)) link_is
      ∙ ap {B = ℕ → NodeState} (λ (link : LinkState). updated_at (node_states old.links.links) device link.node.state) (sym did.performs.leads)
      ∙ sym (nodes_changed (λ one. did.after) device did.link old.links.links did.there)
      ∙ ap (λ (links : List LinkState). node_states links) (sym did.links_are)

  -- the links after it, once the hub has heard of it
  pub links_after : let world : Seen D = performed here seen device op did.performs.way in
      updated_at world.links device (unheard_of (world.links device)) ≡ link_states after_links
  links_after =
      let made : NodeState → Link → Link = λ state link. link_behind (without_first (kind_of_op op) link.listed) link
      (way_session state link.session op did.performs.way) op did.performs.way (way_reply state op did.performs.way) in
      updated_twice seen.links device (made (seen.nodes device) (seen.links device)) unheard_of
      ∙ ap {B = ℕ → Link} (λ (f : ℕ → Link). updated_at f device (unheard_of (made (seen.nodes device) (seen.links device)))) is.links
      ∙ ap {B = ℕ → Link} (λ (state : NodeState). updated_at (link_states old.links.links) device (unheard_of (made state (seen.links device)))) node_is
      ∙ ap {B = ℕ → Link} (λ (link : Link). updated_at (link_states old.links.links) device (unheard_of (made did.link.node.state link))) link_is
      ∙ ap {B = ℕ → Link} (λ (link : LinkState). updated_at (link_states old.links.links) device (heard_link link)) (sym did.performs.leads)
      ∙ sym (links_changed (λ one. did.after) device did.link old.links.links did.there)
      ∙ ap (λ (links : List LinkState). link_states links) (sym did.links_are)

  -- each device accepts what it did before
  pub accepts_after : AreLinksOf here.decls after_links
  accepts_after =
      ap {B = List Accept} (λ (links : List LinkState). map (λ link. link.node.accept) links) did.links_are
      ∙ changed_mapped (λ (link : LinkState). link.node.accept) (λ one. did.after) old.links.links device did.link did.there
      (ap (λ (link : LinkState). link.node.accept) did.performs.leads)
      ∙ is.accepts
