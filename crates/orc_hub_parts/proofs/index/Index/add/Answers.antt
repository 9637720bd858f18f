use Rattle.std.proofs.Common.{ap, ◌∙◌, List, ℕ, [], ◌∷◌, ◌++◌}
use Rattle.orc_decls.specs.Names.{with_name}
use Rattle.orc_hub_parts.proofs.Indexing.{added_name}
use Rattle.orc_hub_parts.specs.declared.index.Calls.{Calls}
use Rattle.orc_hub_parts.specs.declared.index.Index.{Index}
use Rattle.orc_hub_parts.proofs.index.Index.add.Goals as goal

pub returns-in-Ok-clause-ok : goal.returns-in-Ok-clause-ok
returns-in-Ok-clause-ok c =
    let old = c.args.self.now in
    let names = c.in-Ok.ensures.ok ∙ ap (with_name old.callers) c.in_ok-name.ensures ∙ added_name old.callers c.args.caller.now c.requires in
    ap (λ (callers : List (List ℕ)). record { callers = callers; rows = c.push.new.self }) names
    ∙ ap (λ (rows : List Calls). record { callers = old.callers ++ c.args.caller.now ∷ []; rows = rows }) c.in_ok-push.ensures.ok
