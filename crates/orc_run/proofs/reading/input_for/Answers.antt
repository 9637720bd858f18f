-- The command makes its bundle, or reads it.
use Rattle.std.proofs.Common.{◌∙◌, None, Some, sym}
use Rattle.orc_run.proofs.Made.{in_ranges, made_causes, made_faults, made_gives, made_unread, read_faults, read_gives}
use Rattle.orc_run.proofs.Tops.{gives_none}
use Rattle.orc_run.proofs.reading.input_for.Goals as goal

pub made_input-requires : goal.made_input-requires
made_input-requires g c =
    record { ranges = in_ranges c.args.command.now c.in-Some.number c.in-Some.devices c.in-Some.calls (sym c.numbers_of.ensures ∙ c.in-Some.is) c.requires.ranges }

pub returns-in-Some-clause-gives : goal.returns-in-Some-clause-gives
returns-in-Some-clause-gives g c =
    made_gives c.args.command.now c.in-Some.number c.in-Some.devices c.in-Some.calls (sym c.numbers_of.ensures ∙ c.in-Some.is)
    (g.S.Source.source.left c.args.source.now) c.made_input.result c.made_input.ensures.gives

pub returns-in-Some-clause-fault : goal.returns-in-Some-clause-fault
returns-in-Some-clause-fault g c line rule is =
    made_faults c.args.command.now c.in-Some.number c.in-Some.devices c.in-Some.calls (sym c.numbers_of.ensures ∙ c.in-Some.is)
    (g.S.Source.source.left c.args.source.now) line rule (c.made_input.ensures.fault line rule is)

pub returns-in-Some-clause-begun : goal.returns-in-Some-clause-begun
returns-in-Some-clause-begun g c = gives_none _ (g.S.Source.source.left c.args.source.now)

pub returns-in-Some-clause-read : goal.returns-in-Some-clause-read
returns-in-Some-clause-read g c is = absurd (made_unread c.made_input.result c.made_input.ensures.causes is)

pub returns-in-Some-clause-causes : goal.returns-in-Some-clause-causes
returns-in-Some-clause-causes g c = made_causes c.made_input.result c.made_input.ensures.causes

pub returns-in-None-clause-gives : goal.returns-in-None-clause-gives
returns-in-None-clause-gives g c =
    read_gives c.args.command.now (sym c.numbers_of.ensures ∙ c.in-None.is) (g.S.Source.source.left c.args.source.now) (g.S.Source.source.left c.read_input.new.source)
    c.read_input.result c.read_input.ensures.gives

pub returns-in-None-clause-fault : goal.returns-in-None-clause-fault
returns-in-None-clause-fault g c line rule is =
    read_faults c.args.command.now (sym c.numbers_of.ensures ∙ c.in-None.is) (g.S.Source.source.left c.args.source.now) (g.S.Source.source.left c.read_input.new.source)
    line rule (c.read_input.ensures.fault line rule is)
