-- A path has one text.
use Rattle.std.proofs.Common.{◌≡◌, true, List, Some, sym, ap, ◌∙◌}
use Rattle.orc_path.specs.Steps.{PathStep, is_path}
use Rattle.orc_path.specs.Texts.{path_text}
use Rattle.orc_path.specs.inside.Reading.{at_start}
use Rattle.orc_path.proofs.Again.{path_behind, path_again}

-- paths with one text are one path
pub path_text-injective : (p q : List PathStep) → is_path p ≡ true → is_path q ≡ true → path_text p ≡ path_text q → p ≡ q
path_text-injective p q h k e = let same : Some p ≡ Some q = sym (path_again p h) ∙ ap (path_behind at_start) e ∙ path_again q k in cc
