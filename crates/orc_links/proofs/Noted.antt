-- An operation that is performed and noted, among links and logs.
use Rattle.std.proofs.Common.{ℕ, ◌≡◌, ◌<◌, Option, Some, None, List, [], ◌∷◌, ◌++◌, length, get_or, refl, sym, ap, ◌∙◌, IfOk}
use Rattle.std.specs.Prelude.{Result, slice_get, slice_set}
use Rattle.std.specs.declared.result.Result.TheVariants.{Ok, Err}
use Rattle.std.specs.Option.{option_map_or}
use Rattle.std.proofs.lemmas.Option.{slice_get-get_or}
use Rattle.orc_device.specs.declared.op.Op.{Op}
use Rattle.orc_device.specs.declared.reply.Logged.{Logged}
use Rattle.orc_device.specs.declared.reply.Reply.{Reply}
use Rattle.orc_node.specs.LinkStates.{LinkState}
use Rattle.orc_rules.specs.Hubs.{with_changed}
use Rattle.orc_text.specs.declared.memory.Memory.{Memory}
use Rattle.orc_links.specs.Logs.{PerformsLogged, PerformsNoted, logged_as}

-- an element that is set is one that changed
pub set_is_changed : {X : Type 0} (f : X → X) (xs : List X) (i : ℕ) (x y : X) → slice_get xs i ≡ Some x → y ≡ f x
    → slice_set xs i y ≡ with_changed f i xs
set_is_changed f xs i x y there is =
    ap (slice_set xs i) is ∙ sym (ap (λ o. option_map_or (λ z. slice_set xs i (f z)) o xs) there)

pub performs_there : (links : List LinkState) (logs : List (List Logged)) (device : ℕ) (op : Op) (result : Result Reply Memory)
    (any after : LinkState) (other noted : List Logged) → device < length links → device < length logs
    → IfOk result (λ reply. PerformsNoted (get_or links device any) (get_or logs device other) op reply after noted)
    → IfOk result (λ reply. PerformsLogged links logs device op reply (slice_set links device after) (slice_set logs device noted))
performs_there links logs device op (Ok reply) any after other noted within known did =
    let there : slice_get links device ≡ Some (get_or links device any) = slice_get-get_or links device any within in
    let kept : slice_get logs device ≡ Some (get_or logs device other) = slice_get-get_or logs device other known in
    record {
      link = get_or links device any;
      there = there;
      after = after;
      performs = did.0;
      links_are = set_is_changed (λ (one : LinkState). after) links device (get_or links device any) after there refl;
      logs_are = set_is_changed (λ (rows : List Logged). rows ++ logged_as op reply ∷ []) logs device (get_or logs device other) noted kept did.1;
    }
performs_there links logs device op (Err memory) any after other noted within known did = tt
