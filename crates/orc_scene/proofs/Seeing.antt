-- What the rules see of a world that changed.
use Rattle.std.proofs.Common.{[], ◌≡◌, ◌<◌, ℕ, zero, suc, nat_eq, false, Some, List, ◌∷◌, ◌++◌, ◌⊎◌, inl, inr, map, All, length, refl, sym, ap, subst, ◌∙◌}
use Rattle.std.specs.Prelude.{slice_get, slice_set}
use Rattle.std.proofs.lemmas.Option.{same_Some}
use Rattle.std.proofs.Math.Path.{fun_ext}
use Rattle.orc_links.specs.Networks.{AreLinksOf, link_states, node_states}
use Rattle.orc_links.specs.declared.links.Links.{Links}
use Rattle.orc_links.proofs.Noted.{set_is_changed}
use Rattle.orc_rules.specs.Cells.{updated_at}
use Rattle.orc_rules.specs.Hubs.{with_changed}
use Rattle.orc_rules.specs.Journals.{history_read}
use Rattle.orc_rules.proofs.Recording.{either, given_at, given_other}
use Rattle.orc_rules.specs.Worlds.{Setting, World as Seen}
use Rattle.orc_state.specs.States.{IsSnapshotAt}
use Rattle.orc_scene.specs.Snapshots.{fronts_of}
use Rattle.orc_scene.specs.Stands.{HasDisk, IsPlaceSeenAs, IsSeenAs}
use Rattle.orc_scene.specs.declared.snapshots.Snapshots.{Snapshots}
use Rattle.orc_scene.specs.declared.scene.Place.{Place}
use Rattle.orc_scene.specs.declared.scene.Place.TheVariants.{Up, Down, Ended, Moved}
use Rattle.orc_scene.specs.declared.scene.Scene.{Scene}

module _ {D : Type 0} (here : Setting D) where
  -- the disk of the journal is that which the rules see
  pub place_disk : (seen : Seen D) (place : Place D) → IsPlaceSeenAs here seen place → HasDisk place seen.journal.disk
  place_disk seen (Up hub) is = sym (ap (λ j. j.disk) is.journal)
  place_disk seen (Down disk decls) is = sym is.2
  place_disk seen (Ended disk) is = absurd is
  place_disk seen Moved is = absurd is

  -- what the rules see of a world they see of another one with the same parts
  pub seen_same : (seen : Seen D) (old new : Scene D) → new.limit ≡ old.limit → new.place ≡ old.place → new.links ≡ old.links
      → new.snapshots ≡ old.snapshots → IsSeenAs here seen old → IsSeenAs here seen new
  seen_same seen old new limit place links snapshots is = record {
    decls = is.decls;
    short = is.short;
    limit = (limit ∙ is.limit.0, is.limit.1);
    place = subst (λ (p : Place D). IsPlaceSeenAs here seen p) (sym place) is.place;
    snapshots = λ caller. is.snapshots caller ∙ ap (λ (s : Snapshots). fronts_of s.taken caller) (sym snapshots);
    fronts = subst (λ (s : Snapshots). All (λ one. IsSnapshotAt here.decls (history_read seen.journal) one.snapshot) s.taken) (sym snapshots) is.fronts;
    nodes = is.nodes ∙ ap (λ (l : Links). node_states l.links) (sym links);
    links = is.links ∙ ap (λ (l : Links). link_states l.links) (sym links);
    accepts = subst (λ (l : Links). AreLinksOf here.decls l.links) (sym links) is.accepts;
    logs = ap (λ (l : Links). length l.logs) links ∙ is.logs;
    numbered = is.numbered;
    kept = is.kept;
  }

-- one link changed, whose acceptance and whose link, as the hub has heard of it, stay

pub set_mapped : {X Y : Type 0} (f : X → Y) (xs : List X) (i : ℕ) (x y : X) → slice_get xs i ≡ Some x → f y ≡ f x
    → map f (slice_set xs i y) ≡ map f xs
set_mapped f [] i x y there same = refl
set_mapped f (z ∷ xs) zero x y there same = let is : x ≡ z = same_Some x z (sym there) in ap (λ b. b ∷ map f xs) (same ∙ ap f is)
set_mapped f (z ∷ xs) (suc i) x y there same = ap (λ bs. f z ∷ bs) (set_mapped f xs i x y there same)

pub changed_mapped : {X Y : Type 0} (f : X → Y) (g : X → X) (xs : List X) (i : ℕ) (x : X) → slice_get xs i ≡ Some x → f (g x) ≡ f x
    → map f (with_changed g i xs) ≡ map f xs
changed_mapped f g xs i x there same =
    ap (λ ys. map f ys) (sym (set_is_changed g xs i x (g x) there refl)) ∙ set_mapped f xs i x (g x) there same

pub updated_same : {A : Type 0} (f : ℕ → A) (at : ℕ) (a : A) → f at ≡ a → updated_at f at a ≡ f
updated_same f at a is = fun_ext (λ x. on x (either at x))
  where
    on : (x : ℕ) → ((at ≡ x) ⊎ (nat_eq at x ≡ false)) → updated_at f at a x ≡ f x
    on x (inl same) = subst (λ (y : ℕ). updated_at f at a y ≡ f y) same (given_at f at a ∙ sym is)
    on x (inr apart) = given_other f at a x apart
