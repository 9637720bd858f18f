use Rattle.std.proofs.Common.{false, Err, ap, ◌∙◌}
use Rattle.orc_hub_parts.proofs.Noting.{not_long, taken_back}
use Rattle.orc_hub_parts.proofs.log.Log.append_intent.Goals as goal

pub returns-in-Err-clause-memory : goal.returns-in-Err-clause-memory
returns-in-Err-clause-memory g c = λ h.
    let journal = (c.append.ensures.memory (c.in-Err.is ∙ h)).1 in
    let unsettled = c.take_back.ensures ∙ taken_back (record { t = c.args.t; devices = c.args.devices.now; is_decided = false }) c.args.self.now.unsettled c.note_intent.new.unsettled
    c.in_ok-place.place c.in_ok-place.ensures.within c.in_ok-place.ensures.place c.in_ok-place.ensures.ok in
    λ i. record { journal = journal i; unsettled = unsettled i }

pub returns-in-Err-clause-fits : goal.returns-in-Err-clause-fits
returns-in-Err-clause-fits g c = λ h long.
    not_long c.append.result c.args.self.now.journal.len (c.in-Err.is ∙ h) (c.append.ensures.too_long long)
