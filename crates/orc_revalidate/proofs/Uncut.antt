-- Entries that a path shares with one that is there are there themselves.
use Rattle.std.proofs.Common.{◌≡◌, ◌⊎◌, ℕ, zero, suc, ◌<◌, ◌≤◌, inl, inr, Bool, true, false, ◌&&◌, ◌++◌, length, take, Some, None, refl, sym, ap, ◌∙◌, arith, is_some}
use Rattle.std.specs.declared.option.Option.{Option}
use Rattle.std.specs.Prelude.{is_none}
use Rattle.std.specs.FinMap.{get}
use Rattle.std.proofs.lemmas.Bool.{false≢true, or_from, cases_lt}
use Rattle.std.proofs.lemmas.List.{length-take, take_all, take-take, take-append-le}
use Rattle.std.proofs.Math.Seq.{take-append_seam}
use Rattle.orc_path.specs.Steps.{ends_in_keys}
use Rattle.orc_path.specs.Configurations.{Config, IsConfig, is_entry}
use Rattle.orc_path.specs.declared.item.Item.{Item}
use Rattle.orc_path.proofs.Equality.{path_eq_decides}
use Rattle.orc_check.specs.Validity.{shares}
use Rattle.orc_revalidate.specs.inside.Led.{is_cut_off}
use Rattle.orc_revalidate.proofs.Rowed.{Path}

an_entry : (o : Option Item) → is_entry o ≡ true → is_none o ≡ false
an_entry None h = absurd (false≢true h)
an_entry (Some x) h = refl

an_item : (o : Option Item) → is_some o ≡ true → is_none o ≡ false
an_item None h = absurd (false≢true h)
an_item (Some x) h = refl

module _ (c : Config) (config : IsConfig c) (path : Path) (there : is_some (get c path) ≡ true) where
  -- the entries on the way to the path, and it itself
  front_is : (j : ℕ) → ends_in_keys (take j path) ≡ true → is_none (get c (take j path)) ≡ false
  front_is j keyed = on (cases_lt j (length path))
    where
      on : (j < length path) ⊎ (length path ≤ j) → is_none (get c (take j path)) ≡ false
      on (inl less) =
          let long : length (take j path) ≡ j = omega (arith, less, length-take j path) in
          an_entry (get c (take j path))
          (config.ways path (take j path) there (record {
            shorter = omega (arith, long, less);
            begins = ap (λ (k : ℕ). take k path) (sym long);
            keyed = keyed;
          }))
      on (inr more) = an_item (get c (take j path)) (ap (λ (p : Path). is_some (get c p)) (take_all j path more) ∙ there)

  -- the first k steps of the other path are a prefix of the path
  record IsFront (q : Path) (k : ℕ) : Type 0 where
    steps : ℕ
    same : take k q ≡ take steps path

  here : (q : Path) (k : ℕ) → IsFront q k → (ends_in_keys (take k q) && is_none (get c (take k q))) ≡ false
  here q k front = ap (λ (p : Path). ends_in_keys p && is_none (get c p)) front.same ∙ on (ends_in_keys (take front.steps path)) refl
    where
      on : (b : Bool) → ends_in_keys (take front.steps path) ≡ b → (b && is_none (get c (take front.steps path))) ≡ false
      on true keyed = front_is front.steps keyed
      on false keyed = refl

  uncut : (q : Path) (n : ℕ) → ((k : ℕ) → k ≤ n → IsFront q k) → is_cut_off c q n ≡ false
  uncut q zero fronts = refl
  uncut q (suc n) fronts =
      or_from (ends_in_keys (take (suc n) q) && is_none (get c (take (suc n) q))) (is_cut_off c q n) (here q (suc n) (fronts (suc n) (omega arith)))
      (uncut q n (λ k within. fronts k (omega (arith, within))))

  shared_front : (q : Path) (n : ℕ) → shares n q path ≡ true → (k : ℕ) → k ≤ n → take k q ≡ take k path
  shared_front q n h k within =
      let same : take n q ≡ take n path = (path_eq_decides (take n q) (take n path)).0 h in
      sym (take-take k n q within) ∙ ap (take k) same ∙ take-take k n path within

  -- of a path that shares its first steps
  pub shared_uncut : (q : Path) (n : ℕ) → shares n q path ≡ true → is_cut_off c q n ≡ false
  shared_uncut q n h = uncut q n (λ k within. record { steps = k; same = shared_front q n h k within })

  -- and of a place on the way of one
  pub place_uncut : (place later : Path) (n : ℕ) → shares n (place ++ later) path ≡ true → is_cut_off c place n ≡ false
  place_uncut place later n h = uncut place n (λ k within. on k within (cases_lt k (length place)))
    where
      on : (k : ℕ) → k ≤ n → (k < length place) ⊎ (length place ≤ k) → IsFront place k
      on k within (inl less) = record {
        steps = k;
        same = sym (take-append-le k place later (omega (arith, less))) ∙ shared_front (place ++ later) n h k within;
      }
      on k within (inr more) = record {
        steps = length place;
        same = take_all k place more ∙ sym (take-append_seam place later) ∙ shared_front (place ++ later) n h (length place) (omega (arith, within, more));
      }
