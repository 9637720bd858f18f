-- What the rules see of links that changed.
use Rattle.std.proofs.Common.{ℕ, zero, suc, ◌≡◌, Bool, true, false, Option, Some, None, List, [], ◌∷◌, map, nat_eq, refl, sym, ap, ◌∙◌, ◌⊎◌, inl, inr, subst, eq-eqb}
use Rattle.std.specs.Prelude.{slice_get, slice_set}
use Rattle.std.specs.Option.{option_map, option_map_or}
use Rattle.std.proofs.Math.Path.{fun_ext}
use Rattle.std.proofs.lemmas.Bool.{false≢true}
use Rattle.orc_device.specs.Nodes.{NodeState, dropped, ticked}
use Rattle.orc_node.specs.LinkStates.{LinkState}
use Rattle.orc_rules.specs.Cells.{updated_at}
use Rattle.orc_rules.specs.Hubs.{with_changed}
use Rattle.orc_rules.proofs.Recording.{given_at, given_other, either}
use Rattle.orc_rules.proofs.Reporting.{get_changed, get_other}
use Rattle.orc_links.specs.Networks.{absent_link, absent_node, heard_link, link_dropped, link_listing, link_restarted, link_states, link_ticked, node_states, with_node}

module _ (f : NodeState → NodeState) (g : LinkState → LinkState) (none : f absent_node ≡ absent_node)
    (some : (link : LinkState) → (g link).node.state ≡ f link.node.state) where
  -- each link changed
  pub nodes_mapped_at : (links : List LinkState) (device : ℕ) → node_states (map g links) device ≡ f (node_states links device)
  nodes_mapped_at [] device = sym none
  nodes_mapped_at (link ∷ links) zero = some link
  nodes_mapped_at (link ∷ links) (suc device) = nodes_mapped_at links device

  pub nodes_mapped : (links : List LinkState) → node_states (map g links) ≡ (λ device. f (node_states links device))
  nodes_mapped links = fun_ext (λ device. nodes_mapped_at links device)

-- links whose change isn't seen are seen as before
pub links_mapped_at : (g : LinkState → LinkState) → ((link : LinkState) → heard_link (g link) ≡ heard_link link)
    → (links : List LinkState) (device : ℕ) → link_states (map g links) device ≡ link_states links device
links_mapped_at g same [] device = refl
links_mapped_at g same (link ∷ links) zero = same link
links_mapped_at g same (link ∷ links) (suc device) = links_mapped_at g same links device

pub links_mapped : (g : LinkState → LinkState) → ((link : LinkState) → heard_link (g link) ≡ heard_link link)
    → (links : List LinkState) → link_states (map g links) ≡ link_states links
links_mapped g same links = fun_ext (λ device. links_mapped_at g same links device)

-- one link changed: what is seen of it, by any view of links
module _ {V : Type 0} (view : LinkState → V) (absent : V) where
  abbrev Seen : Option LinkState → V
  Seen o = option_map_or view o absent

  pub view_changed_at : (g : LinkState → LinkState) (at : ℕ) (link : LinkState) (links : List LinkState)
      → slice_get links at ≡ Some link → (device : ℕ)
      → Seen (slice_get (with_changed g at links) device)
      ≡ updated_at (λ other. Seen (slice_get links other)) at (view (g link)) device
  view_changed_at g at link links there device = on (either at device)
    where
      on : ((at ≡ device) ⊎ (nat_eq at device ≡ false))
          → Seen (slice_get (with_changed g at links) device)
          ≡ updated_at (λ other. Seen (slice_get links other)) at (view (g link)) device
      on (inl same) = subst (λ (x : ℕ). Seen (slice_get (with_changed g at links) x)
          ≡ updated_at (λ other. Seen (slice_get links other)) at (view (g link)) x) same
          (ap Seen (get_changed g at links ∙ ap (option_map g) there)
          ∙ sym (given_at (λ other. Seen (slice_get links other)) at (view (g link))))
      on (inr apart) = ap Seen (get_other g at device links (λ e. apart_of apart e))
          ∙ sym (given_other (λ other. Seen (slice_get links other)) at (view (g link)) device apart)
        where
          apart_of : nat_eq at device ≡ false → at ≡ device → ⊥
          apart_of differ e = false≢true (sym differ ∙ eq-eqb at device e)

-- one link changed
pub nodes_changed : (g : LinkState → LinkState) (at : ℕ) (link : LinkState) (links : List LinkState)
    → slice_get links at ≡ Some link
    → node_states (with_changed g at links) ≡ updated_at (node_states links) at (g link).node.state
nodes_changed g at link links there =
    fun_ext (λ device. view_changed_at (λ link. link.node.state) absent_node g at link links there device)

pub links_changed : (g : LinkState → LinkState) (at : ℕ) (link : LinkState) (links : List LinkState)
    → slice_get links at ≡ Some link
    → link_states (with_changed g at links) ≡ updated_at (link_states links) at (heard_link (g link))
links_changed g at link links there =
    fun_ext (λ device. view_changed_at heard_link absent_link g at link links there device)

-- time, restarts, and a stop
pub nodes_ticked : (seconds : ℕ) (links : List LinkState)
    → node_states (map (link_ticked seconds) links) ≡ (λ device. ticked (node_states links device) seconds)
nodes_ticked seconds links = nodes_mapped (λ state. ticked state seconds) (link_ticked seconds) refl (λ link. refl) links

pub nodes_dropped : (links : List LinkState)
    → node_states (map link_dropped links) ≡ (λ device. dropped (node_states links device))
nodes_dropped links = nodes_mapped dropped link_dropped refl (λ link. refl) links
