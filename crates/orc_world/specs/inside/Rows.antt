-- Rows of parts of a line, and rounds.
use Rattle.std.specs.Prelude.{[], ◌≡◌, ◌∷◌, ℕ, Bool, false, List, Result, MatchResult}
use Rattle.orc_disk.specs.Meanings.{DiskMeaning}
use Rattle.orc_rules.specs.Worlds.{Setting, World as Seen}
use Rattle.orc_runs.specs.Scripts.{IsStill, NoneOf, Part, Part as part}
use Rattle.orc_scene.specs.declared.stop.WorldStop.{WorldStop}
use Rattle.orc_scene.specs.declared.scene.Scene.{Scene}
use Rattle.orc_scene.specs.Courses.{DoesParts, EndsInParts, InEachView}

module _ {D : Type 0} (here : Setting D) (seen : Seen D) (old new : Scene D) (before after : List ℕ) where
  -- A row of parts was done, and where nothing came in it `IsSo` holds.
  pub record DoesRow (parts : List Part) (came : Bool) (IsSo : Type 0) : Type 0 where
    pub does : DoesParts here seen old new before after parts
    pub quiet : came ≡ false → (does.turns ≡ []) × IsSo

-- A call does a row of parts, or the run ends in it. It reports whether anything came; where nothing did `IsSo` holds.
abbrev pub RowOrQuiet : {D : Type 0} → DiskMeaning D → (Setting D → List Part) → (Setting D → Seen D → Type 0) → Scene D
    → Result Bool WorldStop → Scene D → List ℕ → List ℕ → Type 0
RowOrQuiet disk parts IsSo old result new before after = InEachView disk old (λ here seen. MatchResult result
    (λ came. DoesRow here seen old new before after (parts here) came (IsSo here seen))
    (λ why. EndsInParts here seen old new before after (parts here) why))

-- no operation may come on any device, and none is to be heard
abbrev pub NoneOrdered : {D : Type 0} → Setting D → Seen D → Type 0
NoneOrdered here seen =
    (device : ℕ) → NoneOf here seen (part.Operation device) × NoneOf here seen (part.Hearing device)

-- Rounds are done until nothing is left for one, or the run ends.
abbrev pub SettlesRounds : {D A : Type 0} → DiskMeaning D → Scene D → Result A WorldStop → Scene D → List ℕ → List ℕ
    → Type 0
SettlesRounds disk old result new before after = InEachView disk old (λ here seen. MatchResult result
    (λ value. (does : DoesParts here seen old new before after (part.Rounds ∷ [])) × IsStill here does.next)
    (λ why. EndsInParts here seen old new before after (part.Rounds ∷ []) why))
