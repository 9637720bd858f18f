use Rattle.std.proofs.Common.{inl, inr, refl, subst}
use Rattle.std.specs.Prelude.{IsTrue, MatchOption}
use Rattle.orc_datastore.specs.Snapshots.{IsSnapshotUnder}
use Rattle.orc_decls.specs.Calls.{is_call}
use Rattle.orc_decls.specs.Declarations.{AreDecls}
use Rattle.orc_state.specs.States.{state_at}
use Rattle.orc_scene.specs.Stands.{decls_in}
use Rattle.orc_scene.proofs.Firsts.{declared_there, so_declared}
use Rattle.orc_scene.proofs.scene.Scene.plan.Goals as goal

pub decls-requires : goal.decls-requires
decls-requires g c = declared_there AreDecls (decls_in c.args.self.now.place) c.requires.decls

pub plan-requires-clause-decls : goal.plan-requires-clause-decls
plan-requires-clause-decls g c = subst (λ o. MatchOption o ⊥ AreDecls) c.decls.ensures c.requires.decls

pub plan-requires-clause-call : goal.plan-requires-clause-call
plan-requires-clause-call g c = subst (λ o. MatchOption o ⊥ (λ decls. IsTrue (is_call decls c.args.call.now))) c.decls.ensures c.requires.lawful

pub plan-requires-clause-state : goal.plan-requires-clause-state
plan-requires-clause-state g c = subst (λ o. MatchOption o ⊥ (λ decls. IsSnapshotUnder decls c.args.snapshot.now)) c.decls.ensures c.requires.under

pub returns-in-Ok : goal.returns-in-Ok
returns-in-Ok g c =
    so_declared (decls_in c.args.self.now.place) c.decls.result.now c.decls.ensures _
    (inr (λ history at. c.in-Ok.ensures (state_at c.decls.result.now history c.args.snapshot.now.front) at.kept at.of))

pub returns-in-Err : goal.returns-in-Err
returns-in-Err g c = so_declared (decls_in c.args.self.now.place) c.decls.result.now c.decls.ensures _ (inl refl)
