-- Chapters without a row.
use Rattle.std.proofs.Common.{◌≡◌, ◌↔◌, ◌==◌, Bool, [], ◌∷◌, length, refl, sym, ap, ◌∙◌, arith, eqb-true}
use Rattle.std.specs.Prelude.{IsTrue}
use Rattle.std.proofs.lemmas.List.{length-append, nil_from_length}
use Rattle.std.specs.FinMap.{empty, entries}
use Rattle.std.specs.declared.alloc.Global.{Global}
use Rattle.std.specs.declared.sync.Arc.{Arc}
use Rattle.orc_path.specs.Configurations.{Config}
use Rattle.orc_tree.specs.declared.chapter.Chapter.{Chapter}
use Rattle.orc_tree.specs.Pages.{chapter_rows, chapters_rows, chapters_map}
use Rattle.orc_tree.specs.inside.Places.{AreLaid, AreChapters}
use Rattle.orc_tree.proofs.Maps.{map_of-nil, entries-of_rows}
use Rattle.orc_tree.proofs.Chaptered.{Chapters}

-- chapters have a row
some_row : (c : Arc Chapter Global) (cs : Chapters) → AreLaid (c ∷ cs) → chapters_rows (c ∷ cs) ≡ [] → ⊥
some_row c cs laid none = omega (arith, (laid 0 c (omega arith)).1, ap length none, length-append (chapter_rows c) (chapters_rows cs))

-- the map of chapters is empty where there is none of them
empty_chapters : (cs : Chapters) → AreChapters cs → (cs ≡ []) ↔ (chapters_map cs ≡ empty)
empty_chapters cs are = (
  λ e. ap (λ (x : Chapters). chapters_map x) e ∙ map_of-nil,
  λ e. on cs are (sym (entries-of_rows (chapters_rows cs) are.sorted) ∙ ap (λ (m : Config). entries m) (e ∙ sym map_of-nil) ∙ entries-of_rows [] refl),
)
  where
    on : (cs : Chapters) → AreChapters cs → chapters_rows cs ≡ [] → cs ≡ []
    on [] are none = refl
    on (c ∷ cs) are none = absurd (some_row c cs are.laid none)

-- the test whether there is a chapter says whether there is an item
pub empty_where : (cs : Chapters) (m : Config) (b : Bool) → AreChapters cs → chapters_map cs ≡ m → b ≡ (length cs == 0) → (IsTrue b ↔ (m ≡ empty))
empty_where cs m b are view test = (
  λ t. sym view ∙ (empty_chapters cs are).0 (nil_from_length cs (eqb-true (length cs) 0 (sym test ∙ t))),
  λ e. test ∙ ap (λ (x : Chapters). length x == 0) ((empty_chapters cs are).1 (view ∙ e)),
)
