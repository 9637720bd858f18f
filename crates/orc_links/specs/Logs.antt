-- What is performed on the devices of a network, and the logs of it.
use Rattle.std.specs.Prelude.{[], ◌≡◌, ◌++◌, ◌∷◌, ℕ, List, Some, slice_get}
use Rattle.std.specs.Option.{option_map_or}
use Rattle.orc_device.specs.Operations.{mark_of}
use Rattle.orc_device.specs.declared.op.Op.{Op}
use Rattle.orc_device.specs.declared.reply.Logged.{Logged}
use Rattle.orc_device.specs.declared.reply.Reply.{Reply}
use Rattle.orc_node.specs.LinkStates.{LinkPerforms, LinkState}
use Rattle.orc_rules.specs.Hubs.{with_changed}

-- the line of an operation to which this was replied
abbrev pub logged_as : Op → Reply → Logged
logged_as op reply = record { op = op; mark = mark_of reply }

-- the log of a device begins anew
abbrev pub cleared_log : ℕ → List (List Logged) → List (List Logged)
cleared_log device logs = with_changed (λ log. []) device logs

-- a line is added to the log of a device
abbrev pub with_line : ℕ → Logged → List (List Logged) → List (List Logged)
with_line device line logs = with_changed (λ log. log ++ line ∷ []) device logs

-- the operations of a device since its log was printed last
abbrev pub noted_on : List (List Logged) → ℕ → List Logged
noted_on logs device = option_map_or (λ log. log) (slice_get logs device) []

-- the link performed the operation, and it was noted
abbrev pub PerformsNoted : LinkState → List Logged → Op → Reply → LinkState → List Logged → Type 0
PerformsNoted link log op reply after noted =
    LinkPerforms link op after reply × (noted ≡ log ++ logged_as op reply ∷ [])

-- The link of the device performed the operation, and it was noted in the log of the device. No other link or log
-- changed.
pub record PerformsLogged (links : List LinkState) (logs : List (List Logged)) (device : ℕ) (op : Op) (reply : Reply)
    (links_after : List LinkState) (logs_after : List (List Logged)) : Type 0 where
  pub link : LinkState
  pub there : slice_get links device ≡ Some link
  pub after : LinkState
  pub performs : LinkPerforms link op after reply
  pub links_are : links_after ≡ with_changed (λ one. after) device links
  pub logs_are : logs_after ≡ with_line device (logged_as op reply) logs
