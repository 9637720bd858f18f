-- What is answered names declared devices alone, and rules that there are.
use Rattle.std.specs.Prelude.{◌≡◌, ℕ, true, List, Some, Result, length, IsTrue}
use Rattle.orc_call.specs.declared.answer.Answer.{Answer}
use Rattle.orc_call.specs.declared.answer.RecFault.{RecFault}
use Rattle.orc_call.specs.declared.call.Call.{Call}
use Rattle.orc_datastore.specs.declared.plan.Plan.{Plan}
use Rattle.orc_decls.specs.declared.declarations.Decls.{Decls}
use Rattle.orc_disk.specs.Meanings.{DiskMeaning}
use Rattle.orc_disk.specs.Stops.{Stopping, inside}
use Rattle.orc_hub.specs.Admits.{Admits}
use Rattle.orc_hub.specs.Decisions.{Decides}
use Rattle.orc_hub.specs.Keeps.{IsHub}
use Rattle.orc_hub.specs.Mends.{EndsMending}
use Rattle.orc_hub.specs.Submits.{Submits}
use Rattle.orc_hub.specs.declared.hub.Admit.TheVariants as admit
use Rattle.orc_hub.specs.declared.hub.Decided.TheVariants as decided
use Rattle.orc_hub.specs.declared.hub.Hub.{Hub}
use Rattle.orc_hub.specs.declared.hub.Submitted.TheVariants as submitted
use Rattle.orc_journal.specs.declared.entry.Entry.{Entry}
use Rattle.orc_print.specs.Printed.{is_answer_among, is_end_among}
use Rattle.orc_rules.specs.Worlds.{Setting, World}
use Rattle.orc_hub_laws.specs.Under.{IsWorldOf}

-- the answer can be printed under these declarations
abbrev pub IsNamedAnswer : Decls → Answer → Type 0
IsNamedAnswer decls given = IsTrue (is_answer_among (length decls.names) given)

-- The end of a reconciliation names a device that is known, if one.
abbrev pub MendingEndIsNamed : {D : Type 0} → Setting D → Type 0
MendingEndIsNamed {D} here =
    (world : World D) (old new : Hub (Stopping D)) (result : Result Unit RecFault) → IsWorldOf here world old
    → EndsMending (inside here.disk) old result new
    → IsTrue (is_end_among (length here.decls.names) (Some result))

-- Each answer to a submission names a device or a rule that is known.
abbrev pub SubmissionsAreNamed : {D : Type 0} → DiskMeaning D → Type 0
SubmissionsAreNamed {D} disk =
    (old new : Hub D) (call : Call) (front : ℕ) (plan : Result Plan Answer) (given : Answer)
    → Submits old call front plan (submitted.Answered given) new → IsNamedAnswer old.decls given

-- Each answer to an admission names a device or a rule that is known.
abbrev pub AdmissionsAreNamed : {D : Type 0} → DiskMeaning D → Type 0
AdmissionsAreNamed {D} disk =
    (old new : Hub D) (entries : List Entry) (caller : List ℕ) (number : ℕ) (given : Answer) → IsHub disk old entries
    → Admits disk old (admit.Answered caller number given) new → IsNamedAnswer old.decls given

-- Each answer to a decision names a device or a rule that is known.
abbrev pub DecisionsAreNamed : {D : Type 0} → DiskMeaning D → Type 0
DecisionsAreNamed {D} disk =
    (old new : Hub D) (entries : List Entry) (caller : List ℕ) (number : ℕ) (given : Answer) → IsHub disk old entries
    → Decides disk old (decided.Answered caller number given) new → IsNamedAnswer old.decls given
