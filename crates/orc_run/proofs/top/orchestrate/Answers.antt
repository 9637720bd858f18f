-- The words name a command, the bundle is read, and it is checked or its script run, or the history is printed.
use Rattle.std.proofs.Common.{Some, Err, List, Option, map, refl, sym, subst, ap, ◌∙◌}
use Rattle.std.specs.Prelude.{is_some}
use Rattle.std.specs.String.{string_bytes}
use Rattle.orc_script.specs.declared.step.ScriptStep.{ScriptStep}
use Rattle.orc_run.specs.Checks.{EndsCheck}
use Rattle.orc_run.specs.Ends.{EndsBy, GivesBundleFor, Outside}
use Rattle.orc_run.specs.inside.Inputs.{numbers_of, scripted}
use Rattle.orc_run.specs.declared.stop.Ended.{Ended}
use Rattle.orc_run.specs.declared.stop.Stop.TheVariants as ending
use Rattle.orc_words.specs.Words.{command_of}
use Rattle.orc_words.specs.declared.words.Command.{Command}
use Rattle.orc_run.proofs.Tops.{by_check, by_input, by_words, check_is, gives_none, history_by, made_by, run_by}
use Rattle.orc_run.proofs.top.orchestrate.Goals as goal

pub returns-in-Err-Memory-clause-ends : goal.returns-in-Err-Memory-clause-ends
returns-in-Err-Memory-clause-ends g c =
    let before : Outside g.row.D.Denot = record { left = g.S.Source.source.left c.args.source.now; held = g.K.Sink.sink.held c.args.sink.now; disk = c.args.disk } in
    subst (λ (e : Ended g.row.D.Denot). EndsBy g.D.Disk.disk (command_of (map (λ w. string_bytes w) c.args.words.now)) before (record before { disk = e.disk }) e.status) (sym c.at-in-Err-Memory.ensures)
    (by_words g.D.Disk.disk (command_of (map (λ w. string_bytes w) c.args.words.now)) before (gives_none _ before.left))

pub returns-in-Err-clause-ends : goal.returns-in-Err-clause-ends
returns-in-Err-clause-ends g c =
    let before : Outside g.row.D.Denot = record { left = g.S.Source.source.left c.args.source.now; held = g.K.Sink.sink.held c.args.sink.now; disk = c.args.disk } in
    let after : g.row.D.Denot → Outside g.row.D.Denot = λ d. record { left = g.S.Source.source.left c.input_for.new.source; held = g.K.Sink.sink.held c.args.sink.now; disk = d } in
    subst (λ (command : Option Command). EndsBy g.D.Disk.disk command before (after c.at-in-Err.result.disk) c.at-in-Err.result.status) (sym c.in-Ok.ensures.command)
    (subst (λ (e : Ended g.row.D.Denot). EndsBy g.D.Disk.disk (Some c.in-Ok.command) before (after e.disk) e.status) (sym c.at-in-Err.ensures)
    (by_input g.D.Disk.disk c.in-Ok.command before (after c.args.disk) c.in-Err.stop c.in-Err.ensures.causes (λ line rule is. c.in-Err.ensures.fault line rule (ap Err is)) c.in-Err.ensures.begun refl refl))

pub returns-in-Check-clause-ends : goal.returns-in-Check-clause-ends
returns-in-Check-clause-ends g c =
    let left = g.S.Source.source.left in
    let held = g.K.Sink.sink.held in
    let input = c.in-Ok-input_for.input in
    let before : Outside g.row.D.Denot = record { left = left c.args.source.now; held = held c.args.sink.now; disk = c.args.disk } in
    let after : Outside g.row.D.Denot = record { left = left c.input_for.new.source; held = held c.check_bundle.new.sink; disk = c.args.disk } in
    subst (λ (command : Option Command). EndsBy g.D.Disk.disk command before after c.check_bundle.result) (ap Some (sym c.in-Check.is) ∙ sym c.in-Ok.ensures.command)
    (by_check g.D.Disk.disk before after c.check_bundle.result (record {
      bundle = scripted input;
      gives = subst (λ (k : Command). GivesBundleFor k before.left after.left (scripted input)) c.in-Check.is c.in-Ok-input_for.ensures.gives;
      ends = subst (λ (l : List ScriptStep). EndsCheck (record { decls = input.bundle.decls; steps = l }) (held c.args.sink.now) (held c.check_bundle.new.sink) c.check_bundle.result)
          c.as_slice.ensures c.check_bundle.ensures.ends;
      disk_is = refl;
    }))

pub returns-in-Check-clause-usage_keeps : goal.returns-in-Check-clause-usage_keeps
returns-in-Check-clause-usage_keeps g c is =
    let held = g.K.Sink.sink.held in
    absurd (check_is (record { decls = c.in-Ok-input_for.input.bundle.decls; steps = c.as_slice.result.now }) (held c.args.sink.now) (held c.check_bundle.new.sink) c.check_bundle.result ending.Usage c.check_bundle.ensures.ends is)

pub returns-in-Check-clause-read : goal.returns-in-Check-clause-read
returns-in-Check-clause-read g c is =
    let held = g.K.Sink.sink.held in
    absurd (check_is (record { decls = c.in-Ok-input_for.input.bundle.decls; steps = c.as_slice.result.now }) (held c.args.sink.now) (held c.check_bundle.new.sink) c.check_bundle.result ending.ReadFault c.check_bundle.ensures.ends is)

pub returns-in-Check-clause-read_keeps : goal.returns-in-Check-clause-read_keeps
returns-in-Check-clause-read_keeps g c is =
    let held = g.K.Sink.sink.held in
    absurd (check_is (record { decls = c.in-Ok-input_for.input.bundle.decls; steps = c.as_slice.result.now }) (held c.args.sink.now) (held c.check_bundle.new.sink) c.check_bundle.result ending.ReadFault c.check_bundle.ensures.ends is)

pub returns-in-Check-clause-journal : goal.returns-in-Check-clause-journal
returns-in-Check-clause-journal g c is =
    let held = g.K.Sink.sink.held in
    absurd (check_is (record { decls = c.in-Ok-input_for.input.bundle.decls; steps = c.as_slice.result.now }) (held c.args.sink.now) (held c.check_bundle.new.sink) c.check_bundle.result ending.JournalFault c.check_bundle.ensures.ends is)

pub returns-in-Run-clause-ends : goal.returns-in-Run-clause-ends
returns-in-Run-clause-ends g c =
    let left = g.S.Source.source.left in
    let held = g.K.Sink.sink.held in
    let before : Outside g.row.D.Denot = record { left = left c.args.source.now; held = held c.args.sink.now; disk = c.args.disk } in
    let after : Outside g.row.D.Denot = record { left = left c.input_for.new.source; held = held c.run_over.new.sink; disk = c.run_over.result.disk } in
    subst (λ (command : Option Command). EndsBy g.D.Disk.disk command before after c.run_over.result.status) (ap Some (sym c.in-Run.is) ∙ sym c.in-Ok.ensures.command)
    (run_by g.D.Disk.disk (scripted c.in-Ok-input_for.input) before after c.run_over.result.status c.run_over.ensures.causes
    (subst (λ (k : Command). GivesBundleFor k before.left after.left (scripted c.in-Ok-input_for.input)) c.in-Run.is c.in-Ok-input_for.ensures.gives)
    c.in-Ok-input_for.ensures.begun c.as_slice-in-Run.result.now c.as_slice-in-Run.ensures (c.run_over.ensures.ends (left c.args.source.now) (left c.input_for.new.source)))

pub returns-in-History-clause-ends : goal.returns-in-History-clause-ends
returns-in-History-clause-ends g c =
    let left = g.S.Source.source.left in
    let held = g.K.Sink.sink.held in
    let before : Outside g.row.D.Denot = record { left = left c.args.source.now; held = held c.args.sink.now; disk = c.args.disk } in
    let after : Outside g.row.D.Denot = record { left = left c.input_for.new.source; held = held c.run_over-in-History.new.sink; disk = c.run_over-in-History.result.disk } in
    subst (λ (command : Option Command). EndsBy g.D.Disk.disk command before after c.run_over-in-History.result.status) (ap Some (sym c.in-History.is) ∙ sym c.in-Ok.ensures.command)
    (history_by g.D.Disk.disk (scripted c.in-Ok-input_for.input) before after c.run_over-in-History.result.status c.run_over-in-History.ensures.causes
    (subst (λ (k : Command). GivesBundleFor k before.left after.left (scripted c.in-Ok-input_for.input)) c.in-History.is c.in-Ok-input_for.ensures.gives)
    c.in-Ok-input_for.ensures.begun (c.run_over-in-History.ensures.ends (left c.args.source.now) (left c.input_for.new.source)))

pub returns-in-Gen-clause-ends : goal.returns-in-Gen-clause-ends
returns-in-Gen-clause-ends g c =
    let left = g.S.Source.source.left in
    let held = g.K.Sink.sink.held in
    let before : Outside g.row.D.Denot = record { left = left c.args.source.now; held = held c.args.sink.now; disk = c.args.disk } in
    let after : Outside g.row.D.Denot = record { left = left c.input_for.new.source; held = held c.sum_over.new.sink; disk = c.sum_over.result.disk } in
    subst (λ (command : Option Command). EndsBy g.D.Disk.disk command before after c.sum_over.result.status) (sym c.in-Ok.ensures.command)
    (made_by g.D.Disk.disk c.in-Ok.command (ap (λ (k : Command). is_some (numbers_of k)) c.in-Gen.is) (scripted c.in-Ok-input_for.input) before after
    c.sum_over.result.status c.sum_over.ensures.causes c.in-Ok-input_for.ensures.gives c.in-Ok-input_for.ensures.begun c.as_slice-in-Gen.result.now
    c.as_slice-in-Gen.ensures (c.sum_over.ensures.ends (left c.args.source.now) (left c.input_for.new.source)))
