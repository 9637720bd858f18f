-- What in particular is at fault goes into the notes; the line and the rule are answered.
use Rattle.std.proofs.Common.{sym, subst}
use Rattle.orc_bundle.specs.Bundles.{scripted_of}
use Rattle.orc_bundle.specs.declared.scripted.ScriptedBundle.{ScriptedBundle}
use Rattle.orc_decls.specs.declared.fault.BundleFault.{BundleFault}
use Rattle.orc_lines.specs.Answers.{Gives}
use Rattle.orc_lines.proofs.Rules.{err}
use Rattle.orc_run.proofs.Explained.{declarations_refused, script_refused}
use Rattle.orc_run.proofs.reading.input_of.Goals as goal

pub returns-in-Err-clause-gives : goal.returns-in-Err-clause-gives
returns-in-Err-clause-gives c =
    subst (λ (f : BundleFault). Gives (scripted_of c.args.bytes.now) (err ScriptedBundle BundleFault f)) (sym c.take_fault.ensures)
    (declarations_refused c.args.bytes.now c.in-Err.fault c.in-Err.ensures.gives)

pub returns-in-Err-read_script_explained-clause-gives : goal.returns-in-Err-read_script_explained-clause-gives
returns-in-Err-read_script_explained-clause-gives c =
    subst (λ (f : BundleFault). Gives (scripted_of c.args.bytes.now) (err ScriptedBundle BundleFault f)) (sym c.take_fault-in-Err-read_script_explained.ensures)
    (script_refused c.args.bytes.now c.in-Ok.bundle c.in-Ok.ensures.gives c.in-Err-read_script_explained.fault c.in-Err-read_script_explained.ensures.gives)
