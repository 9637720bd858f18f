use Rattle.std.proofs.Common.{◌∙◌, ap, subst, []}
use Rattle.std.specs.Prelude.{Err, None, ◌≡◌, false}
use Rattle.std.specs.List.{list_any}
use Rattle.orc_modules.specs.Statements.{module_places}
use Rattle.orc_statements.specs.Faults.{fault_here, first_some, module_fault}
use Rattle.orc_schema.specs.Drafts.{drafts_of}
use Rattle.orc_schema.specs.Links.{first_link_fault}
use Rattle.orc_schema.specs.Schemas.{drafts, GivesTable, is_deep_module}
use Rattle.orc_statements.specs.Meeting.{Meets}
use Rattle.orc_schema.proofs.Tables.{Gives-first, Gives-later, all_whole}
use Rattle.orc_schema.proofs.build.schema_of.Goals as goal

pub returns-in-Err-clause-builds : goal.returns-in-Err-clause-builds
returns-in-Err-clause-builds c = Gives-first (module_fault c.args.modules.now) (first_link_fault (drafts c.args.modules.now)) (drafts c.args.modules.now) c.in-Err.fault
    (subst (λ ms. Meets (first_some (fault_here ms) (module_places [] ms.all)) (Err c.in-Err.fault)) c.in_ok-modules.ensures c.in-Err.ensures)

pub returns-in_ok-drafts-in-Ok-clause-builds : goal.returns-in_ok-drafts-in-Ok-clause-builds
returns-in_ok-drafts-in-Ok-clause-builds c = Gives-later (module_fault c.args.modules.now) (first_link_fault (drafts c.args.modules.now)) (drafts c.args.modules.now) _
    (subst (λ ms. first_some (fault_here ms) (module_places [] ms.all) ≡ None) c.in_ok-modules.ensures c.in-Ok.ensures)
    (subst (λ ds. GivesTable (first_link_fault ds) ds c.table_of.result) (c.as_slice.ensures ∙ c.in_ok-drafts-in-Ok.ensures.drafts ∙ ap (λ ms. drafts_of ms ms.all) c.in_ok-modules.ensures) c.table_of.ensures.table)

pub returns-in_ok-drafts-in-Ok-clause-whole : goal.returns-in_ok-drafts-in-Ok-clause-whole
returns-in_ok-drafts-in-Ok-clause-whole c = all_whole c.args.modules.now c.as_slice.result.now c.table_of.result
    (c.as_slice.ensures ∙ c.in_ok-drafts-in-Ok.ensures.drafts ∙ ap (λ ms. drafts_of ms ms.all) c.in_ok-modules.ensures)
    (subst (λ ms. list_any (is_deep_module ms) ms.all ≡ false) c.in_ok-modules.ensures c.in_ok-drafts-in-Ok.ensures.whole) c.table_of.ensures.whole
