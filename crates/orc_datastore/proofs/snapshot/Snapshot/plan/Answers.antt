use Rattle.std.proofs.Common.{◌≡◌, IfOk, subst, ap, ◌∙◌}
use Rattle.std.specs.declared.result.Result.{Result}
use Rattle.orc_check.specs.Validity.{broken_of}
use Rattle.orc_call.specs.declared.answer.Answer.{Answer}
use Rattle.orc_datastore.specs.declared.plan.Plan.{Plan}
use Rattle.orc_decls.proofs.Fits.{call-fits}
use Rattle.orc_datastore.proofs.Kept.{decls-few}
use Rattle.orc_datastore.proofs.Planning.{differs_inside}
use Rattle.orc_datastore.proofs.Sighting.{call_keys, lawful_actions, sight_is}
use Rattle.orc_datastore.proofs.snapshot.Snapshot.plan.Goals as goal

pub plan_known-requires-clause-fit : goal.plan_known-requires-clause-fit
plan_known-requires-clause-fit c = call-fits c.args.decls.now c.args.call.now c.requires.call

pub plan_known-requires-clause-keys : goal.plan_known-requires-clause-keys
plan_known-requires-clause-keys c = call_keys c.args.decls.now c.args.call.now c.requires.call

pub plan_known-requires-clause-few : goal.plan_known-requires-clause-few
plan_known-requires-clause-few c = decls-few c.args.decls.now c.requires.decls

pub plan_known-requires-clause-valid : goal.plan_known-requires-clause-valid
plan_known-requires-clause-valid c =
    ap (broken_of c.args.decls.now.data_schema) c.requires.state.1.1.same_data ∙ c.requires.state.1.0.valid

pub returns : goal.returns
returns c = λ state kept of.
    subst (λ (due : Result Plan Answer). IfOk c.plan_known.result (λ found. found ≡ due))
    (sight_is c.literal_is_expansion.ensures c.args.decls.now c.requires.decls state c.args.self.now of c.args.call.now (decls-few c.args.decls.now c.requires.decls))
    c.plan_known.ensures

pub plan_known-requires-clause-changed : goal.plan_known-requires-clause-changed
plan_known-requires-clause-changed c =
    differs_inside c.args.decls.now c.args.call.now.actions c.args.self.now.data (lawful_actions c.args.decls.now c.args.call.now c.requires.call)
