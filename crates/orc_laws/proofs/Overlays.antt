-- The overlay of services that agree.
use Rattle.std.proofs.Common.{◌≡◌, ℕ, List, [], ◌∷◌, ◌⊎◌, inl, inr, map, None, Some, refl, sym, ap, subst, ◌∙◌}
use Rattle.std.specs.declared.option.Option.{Option}
use Rattle.std.specs.Option.{option_or}
use Rattle.std.specs.List.{Contains}
use Rattle.std.specs.FinMap.{get}
use Rattle.orc_path.specs.Steps.{PathStep}
use Rattle.orc_path.specs.Configurations.{Config, overlay}
use Rattle.orc_path.proofs.ConfigurationLaws.{same_config, get-overlay}
use Rattle.orc_path.specs.declared.item.Item.{Item}
use Rattle.orc_refs.specs.Live.{overlaid}
use Rattle.orc_datastore.specs.States.{part, tree_due, config_of}
use Rattle.orc_datastore.specs.Legal.{state_of}
use Rattle.orc_plans.specs.Clashing.{AllAgree}
use Rattle.orc_laws.specs.Histories.{IsOverlay, OverlayIsOne, OrderOfCreationIsFree}
use Rattle.orc_datastore.specs.declared.service.Service.{Service}
use Rattle.orc_datastore.proofs.Agreement.{none_in_nil, first_in, later_in, in_cases}
use Rattle.orc_plans.proofs.Agreeing.{living_agree}

-- the overlay of services, one after the other, on a base
abbrev laid : List Service → ℕ → Config → Config
laid live d base = overlaid (map (λ service. part service d) live) base

-- where none of them writes, the base stays
laid_elsewhere : (live : List Service) (d : ℕ) (base : Config) (p : List PathStep)
    → ((a : Service) → Contains live a → get (part a d) p ≡ None) → get (laid live d base) p ≡ get base p
laid_elsewhere [] d base p h = refl
laid_elsewhere (a ∷ rest) d base p h =
    laid_elsewhere rest d (overlay (part a d) base) p (λ b c. h b (later_in a b rest c))
    ∙ get-overlay (part a d) base p
    ∙ ap (λ (o : Option Item). option_or o (get base p)) (h a (first_in a rest))

-- where all that write at a path write this item, it stands there
laid_same : (live : List Service) (d : ℕ) (base : Config) (p : List PathStep) (x : Item)
    → ((a : Service) (y : Item) → Contains live a → get (part a d) p ≡ Some y → y ≡ x)
    → (get base p ≡ Some x) ⊎ ((a : Service) × Contains live a × (get (part a d) p ≡ Some x))
    → get (laid live d base) p ≡ Some x
laid_same [] d base p x same (inl h) = h
laid_same [] d base p x same (inr h) = absurd (none_in_nil h.0 h.1)
laid_same (a ∷ rest) d base p x same from =
    laid_same rest d (overlay (part a d) base) p x (λ b y c. same b y (later_in a b rest c)) (here (get (part a d) p) refl from)
  where
    here : (o : Option Item) → get (part a d) p ≡ o
        → (get base p ≡ Some x) ⊎ ((b : Service) × Contains (a ∷ rest) b × (get (part b d) p ≡ Some x))
        → (get (overlay (part a d) base) p ≡ Some x) ⊎ ((b : Service) × Contains rest b × (get (part b d) p ≡ Some x))
    here (Some y) is w =
        inl (get-overlay (part a d) base p ∙ ap (λ (o : Option Item). option_or o (get base p)) is ∙ ap Some (same a y (first_in a rest) is))
    here None is (inl h) = inl (get-overlay (part a d) base p ∙ ap (λ (o : Option Item). option_or o (get base p)) is ∙ h)
    here None is (inr h) = elim (in_cases a h.0 rest h.1) [
      | inl first ↦ let none : None ≡ Some x = sym is ∙ ap (λ (z : Service). get (part z d) p) first ∙ h.2 in cc
      | inr later ↦ inr (h.0, later, h.2)
    ]

-- services that agree: at each path what one of them writes, else the base's item
laid_is_overlay : (live : List Service) (d : ℕ) (base : Config) → AllAgree live → IsOverlay live d base (laid live d base)
laid_is_overlay live d base all =
    record {
      written = λ a p x c h. laid_same live d base p x (λ b y e g. all b a e c d p y x g h) (inr (a, c, h));
      others = λ p h. laid_elsewhere live d base p h;
    }

-- either some of them writes at the path, or none does
some_or_none : (live : List Service) (d : ℕ) (p : List PathStep)
    → ((a : Service) × (x : Item) × Contains live a × (get (part a d) p ≡ Some x)) ⊎ ((a : Service) → Contains live a → get (part a d) p ≡ None)
some_or_none [] d p = inr (λ a c. absurd (none_in_nil a c))
some_or_none (a ∷ rest) d p = by (get (part a d) p) refl (some_or_none rest d p)
  where
    by : (o : Option Item) → get (part a d) p ≡ o
        → ((b : Service) × (x : Item) × Contains rest b × (get (part b d) p ≡ Some x)) ⊎ ((b : Service) → Contains rest b → get (part b d) p ≡ None)
        → ((b : Service) × (x : Item) × Contains (a ∷ rest) b × (get (part b d) p ≡ Some x)) ⊎ ((b : Service) → Contains (a ∷ rest) b → get (part b d) p ≡ None)
    by (Some x) is below = inl (a, x, first_in a rest, is)
    by None is (inl h) = inl (h.0, h.1, later_in a h.0 rest h.2, h.3)
    by None is (inr none) = inr (λ b c. elim (in_cases a b rest c) [
      | inl first ↦ subst (λ (z : Service). get (part z d) p ≡ None) first is
      | inr later ↦ none b later
    ])

-- there is one overlay
overlay_unique : (live : List Service) (d : ℕ) (base tree other : Config) → IsOverlay live d base tree → IsOverlay live d base other → tree ≡ other
overlay_unique live d base tree other one two = same_config tree other (λ p. at p (some_or_none live d p))
  where
    at : (p : List PathStep)
        → ((a : Service) × (x : Item) × Contains live a × (get (part a d) p ≡ Some x)) ⊎ ((a : Service) → Contains live a → get (part a d) p ≡ None)
        → get tree p ≡ get other p
    at p (inl h) = one.written h.0 p h.1 h.2 h.3 ∙ sym (two.written h.0 p h.1 h.2 h.3)
    at p (inr none) = one.others p none ∙ sym (two.others p none)

pub overlay_one : OverlayIsOne
overlay_one decls history d h =
    let s = state_of decls history in
    let is = laid_is_overlay s.live d (config_of s.bases d) (living_agree decls history h) in
    (is, λ tree other. overlay_unique s.live d (config_of s.bases d) tree (tree_due s d) other is)

pub order_free : OrderOfCreationIsFree
order_free decls one other d h g there back same =
    let s = state_of decls one in
    let t = state_of decls other in
    let is = laid_is_overlay s.live d (config_of s.bases d) (living_agree decls one h) in
    let is' = subst (λ (b : Config). IsOverlay t.live d b (tree_due t d)) (sym same)
    (laid_is_overlay t.live d (config_of t.bases d) (living_agree decls other g)) in
    overlay_unique s.live d (config_of s.bases d) (tree_due s d) (tree_due t d) is
    (record { written = λ a p x c. is'.written a p x (there a c); others = λ p none. is'.others p (λ a c. none a (back a c)) })
