use Rattle.std.proofs.Common.{◌*◌, ◌∙◌, ap, sym, subst, refl}
use Rattle.std.specs.List.Sorted.{IsStrictlyIncreasing}
use Rattle.orc_journal.proofs.Devices.{devices_found, other_length, not_ascending}
use Rattle.orc_journal.proofs.decoding.devices_of.Goals as goal

pub returns-then-rest-from : goal.returns-then-rest-from
returns-then-rest-from c = other_length c.args.bytes.now c.in-Some.rest.now c.in-Some.count c.in-Some.ensures (λ e. c.if-rest-from.true (e ∙ ap (λ n. 2 * n) (sym c.from.ensures)))

pub returns-then-not-is_ascending : goal.returns-then-not-is_ascending
returns-then-not-is_ascending c =
    not_ascending c.args.bytes.now c.in-Some.rest.now c.in-Some.count c.in_ok-devices.devices c.in-Some.ensures c.in_ok-devices.ensures
    (λ h. let test = c.if-not-is_ascending.ensures.1 (subst IsStrictlyIncreasing (sym c.as_slice.ensures) h) in absurd cc)

pub returns : goal.returns
returns c =
    devices_found c.args.bytes.now c.in-Some.rest.now c.in-Some.count c.in_ok-devices.devices c.in-Some.ensures c.in_ok-devices.ensures
    (subst IsStrictlyIncreasing c.as_slice.ensures (c.if-not-is_ascending.ensures.0 refl))
