-- Predicates that are looked at one by one.
use Rattle.std.proofs.Common.{◌≡◌, ℕ, List, [], ◌∷◌, ◌++◌, Option, Some, None, refl, sym, ap, ap₂, ◌∙◌, append_assoc}
use Rattle.orc_expr.specs.Looks.{key_then, choose, chosen}
use Rattle.orc_expr.specs.inside.Chosen.{with_keys, chosen_behind}
use Rattle.orc_expr.specs.inside.Lists.{only_of}
use Rattle.orc_expr.specs.declared.choosing.Only.TheVariants as only
use Rattle.orc_expr.specs.declared.read.Read.{Read}
use Rattle.orc_expr.specs.declared.step.Asked.{Asked}
use Rattle.orc_expr.specs.declared.step.Choice.{Choice}
use Rattle.orc_expr.specs.declared.step.Choice.TheVariants as choice
use Rattle.orc_expr.specs.declared.step.Chosen.{Chosen}

pub chosen_first : (later : Chosen) → chosen_behind [] [] later ≡ later
chosen_first later = ap (λ c. record { choice = c; reads = later.reads }) (by later.choice)
  where
    by : (c : Choice) → with_keys [] c ≡ c
    by (choice.Keys keys) = refl
    by choice.Nothing = refl
    by choice.Many = refl

module _ (keys : List (List ℕ)) (reads : List Read) (a : Asked) (later : List Asked) where
  -- one text
  pub chosen_more : (text : List ℕ) → only_of a.given.found ≡ only.One text
      → chosen_behind keys reads (chosen (a ∷ later)) ≡ chosen_behind (keys ++ text ∷ []) (reads ++ a.given.reads) (chosen later)
  chosen_more text h = by a.given.found h
    where
      pushed : (c : Choice) → with_keys keys (key_then text c) ≡ with_keys (keys ++ text ∷ []) c
      pushed (choice.Keys more) = ap choice.Keys (sym (append_assoc keys (text ∷ []) more))
      pushed choice.Nothing = refl
      pushed choice.Many = refl

      by : (f : Option (List (List ℕ))) → only_of f ≡ only.One text
          → chosen_behind keys reads (choose f a.given.reads (chosen later)) ≡ chosen_behind (keys ++ text ∷ []) (reads ++ a.given.reads) (chosen later)
      by None h = let never : ⊥ = cc in absurd never
      by (Some []) h = let never : ⊥ = cc in absurd never
      by (Some (t ∷ [])) h =
          let same : t ≡ text = cc in
          ap (λ u. chosen_behind keys reads (choose (Some (u ∷ [])) a.given.reads (chosen later))) same
          ∙ ap₂ (λ c r. record { choice = c; reads = r }) (pushed (chosen later).choice) (sym (append_assoc reads a.given.reads (chosen later).reads))
      by (Some (t ∷ u ∷ more)) h = let never : ⊥ = cc in absurd never
