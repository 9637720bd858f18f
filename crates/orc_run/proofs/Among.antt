-- What is so of each turn of a list.
use Rattle.std.proofs.Common.{List, [], ◌∷◌, ◌++◌, Contains}
use Rattle.std.proofs.lemmas.List.Elements.{Contains-append_left, Contains-append_right, Contains-push}
use Rattle.orc_rules.specs.Events.{Turn}
use Rattle.orc_runs.proofs.Lasting.{Each}

module _ {D : Type 0} (IsSo : Turn D → Type 0) where
  pub each_of : (turns : List (Turn D)) → ((turn : Turn D) → Contains turns turn → IsSo turn) → Each IsSo turns
  each_of [] so = tt
  each_of (turn ∷ turns) so = (
    so turn (Contains-append_left (turn ∷ []) turns turn (Contains-push [] turn)),
    each_of turns (λ other among. so other (Contains-append_right (turn ∷ []) turns other among)),
  )

  -- of two lists one after the other
  pub each_split : (first later : List (Turn D)) → Each IsSo (first ++ later) → Each IsSo first × Each IsSo later
  each_split [] later each = (tt, each)
  each_split (turn ∷ first) later each =
      let rest = each_split first later each.1 in
      ((each.0, rest.0), rest.1)

  pub each_both : (first later : List (Turn D)) → Each IsSo first → Each IsSo later → Each IsSo (first ++ later)
  each_both [] later each each' = each'
  each_both (turn ∷ first) later each each' = (each.0, each_both first later each.1 each')
