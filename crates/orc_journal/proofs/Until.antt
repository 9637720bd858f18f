-- What an append made of the content of a disk, up to the operation that was armed.
use Rattle.std.specs.Prelude.{◌≡◌, ◌⊎◌, ℕ, ◌+◌, ◌<◌, List, [], ◌++◌, take, drop, Option, Some, None}
use Rattle.std.specs.Option.{option_map}
use Rattle.std.proofs.Common.{arith, inl, inr, refl, sym, ap, ◌∙◌, ⊎_elim}
use Rattle.std.proofs.lemmas.Bool.{cases_eq}
use Rattle.std.proofs.lemmas.List.{take-append-drop}
use Rattle.orc_disk.specs.Files.{written}
use Rattle.orc_journal.specs.Appends.{block_bytes, with_entry}
use Rattle.orc_journal.specs.declared.entry.Entry.{Entry}
use Rattle.orc_journal.specs.Outcomes.{BecomesUntil}

-- no byte was written
nothing_there : (at : ℕ) (file : List ℕ) → file ≡ written at [] file
nothing_there at file =
    sym (take-append-drop at file) ∙ ap (λ (n : ℕ). take at file ++ drop n file) (omega arith)

pub written_nothing : (content : Option (List ℕ)) (at bytes : ℕ) (block : List ℕ) → bytes ≡ 0 → content ≡ option_map (written at (take bytes block)) content
written_nothing None at bytes block none = refl
written_nothing (Some file) at bytes block none =
    ap Some (nothing_there at file ∙ ap (λ (n : ℕ). written at (take n block) file) (sym none))

-- of four operations those after one and after three others are the syncs
last_of_four : (n : ℕ) → n < 4 → (n ≡ 0 → ⊥) → (n ≡ 1 → ⊥) → (n ≡ 2 → ⊥) → n ≡ 3
last_of_four n few none one two = grind (arith, few, none, one, two)

pub sync_of_four : (n done : ℕ) → n ≡ done + 1 → done < 4 → (n ≡ 1 → ⊥) → (n ≡ 3 → ⊥) → (done ≡ 1) ⊎ (done ≡ 3)
sync_of_four n done is few first third = ⊎_elim
    (λ one. inl one)
    (λ other. inr (last_of_four done few (λ none. first (omega (arith, is, none))) other (λ two. third (omega (arith, is, two)))))
    (cases_eq done 1)

module _ (operation bytes len : ℕ) (entry : Entry) (old new : Option (List ℕ)) where
  -- the write of the entry was cut
  pub until_cut : operation ≡ 1 → new ≡ option_map (written len (take bytes (block_bytes entry))) old → BecomesUntil operation bytes len entry old new
  until_cut first put = record {
    cut = λ _. put;
    closed = λ other. absurd (⊎_elim (λ two. omega (arith, first, two)) (λ third. omega (arith, first, third.0)) other);
    opened = λ other. absurd (⊎_elim (λ third. omega (arith, first, third.0)) (λ four. omega (arith, first, four)) other);
  }

  -- all of it was put, and the gate before it stayed closed
  pub until_closed : 1 < operation → operation < 4 → (operation ≡ 3 → bytes ≡ 0) → new ≡ option_map (written len (block_bytes entry)) old
      → BecomesUntil operation bytes len entry old new
  until_closed behind before none put = record {
    cut = λ first. absurd (omega (arith, behind, first));
    closed = λ _. put;
    opened = λ other. absurd (⊎_elim (λ third. omega (arith, none third.0, third.1)) (λ four. omega (arith, before, four)) other);
  }

  -- and it was opened
  pub until_opened : 2 < operation → (operation ≡ 3 → 0 < bytes) → new ≡ option_map (with_entry len entry) old → BecomesUntil operation bytes len entry old new
  until_opened behind some put = record {
    cut = λ first. absurd (omega (arith, behind, first));
    closed = λ other. absurd (⊎_elim (λ two. omega (arith, behind, two)) (λ third. omega (arith, some third.0, third.1)) other);
    opened = λ _. put;
  }
