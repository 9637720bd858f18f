-- Parts of a tree's rows that are gone through, and one that a tree has.
use Rattle.std.proofs.Common.{◌≡◌, ℕ, ◌+◌, suc, ◌<◌, List, ◌∷◌, ◌++◌, length, take, drop, get_or, sym, ap, subst, ◌∙◌}
use Rattle.std.specs.List.{flat_map}
use Rattle.std.proofs.lemmas.List.{append_assoc, drop_more}
use Rattle.orc_path.specs.Configurations.{Config}
use Rattle.orc_tree.specs.declared.change.Change.{Change}
use Rattle.orc_tree.proofs.Maps.{Rows}
use Rattle.orc_tree.proofs.Paged.{rows_of-parts}
use Rattle.orc_change.specs.inside.Held.{AreHeld}
use Rattle.orc_change.proofs.Exact.{AreHeld-part}

module _ {E : Type 0} (g : E → Rows) where
  -- the changes of one part more, and of one less that is left
  pub part_more : (f : Rows → List Change) → ((es ds : Rows) → f (es ++ ds) ≡ f es ++ f ds) → (parts : List E) (i : ℕ) (part : E) (old new all : List Change)
      → i < length parts → part ≡ get_or parts i part → new ≡ old ++ f (g part) → old ++ f (flat_map g (drop i parts)) ≡ all → new ++ f (flat_map g (drop (i + 1) parts)) ≡ all
  part_more f split parts i part old new all within is push so =
      let rest : Rows = flat_map g (drop (i + 1) parts) in
      let left : drop i parts ≡ part ∷ drop (i + 1) parts = drop_more parts i part within ∙ ap (λ (x : E). x ∷ drop (i + 1) parts) (sym is) in
      let parted : f (flat_map g (drop i parts)) ≡ f (g part) ++ f rest = ap (λ (ps : List E). f (flat_map g ps)) left ∙ split (g part) rest in
      ap (λ l. l ++ f rest) push ∙ append_assoc old (f (g part)) (f rest) ∙ ap (λ l. old ++ l) (sym parted) ∙ so

  -- the rows of a part are held where those of all parts are
  pub part_held : (m : Config) (parts : List E) (i : ℕ) (part : E) → AreHeld m (flat_map g parts) → i < length parts → part ≡ get_or parts i part → AreHeld m (g part)
  part_held m parts i part held within is =
      subst (AreHeld m) (ap g (sym is))
      (AreHeld-part m (flat_map g (take i parts)) (g (get_or parts i part)) (flat_map g (drop (suc i) parts))
      (subst (AreHeld m) (rows_of-parts g parts i part within) held))
