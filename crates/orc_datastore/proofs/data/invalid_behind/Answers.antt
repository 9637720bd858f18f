-- Actions on services alone leave the data.
use Rattle.std.proofs.Common.{◌≡◌, subst, false, List, [], ◌∷◌, refl, sym, ap, ◌∙◌}
use Rattle.std.specs.Prelude.{option_map}
use Rattle.std.specs.List.{list_any}
use Rattle.std.proofs.lemmas.Bool.{false≢true}
use Rattle.orc_path.specs.Configurations.{Config}
use Rattle.orc_check.specs.Validity.{Breach}
use Rattle.orc_call.specs.declared.answer.Answer.TheVariants.{Invalid}
use Rattle.orc_call.specs.declared.call.Action.{Action}
use Rattle.orc_call.specs.declared.call.Action.TheVariants.{Create, Modify, Delete, Set, Unset}
use Rattle.orc_datastore.specs.Actions.{data_after, data_step, leave_service}
use Rattle.orc_datastore.proofs.DataLaws.{no_slash_no_path}
use Rattle.orc_datastore.specs.Next.{invalid}
use Rattle.orc_datastore.specs.inside.Behind.{is_on_data}
use Rattle.orc_decls.proofs.Lists.{or_first, or_second}
use Rattle.orc_expr.specs.declared.read.Target.{Target}
use Rattle.orc_revalidate.specs.Changes.{DiffersInside}
use Rattle.orc_datastore.proofs.data.invalid_behind.Goals as goal

step_leaves : (action : Action) (config : Config) → is_on_data action ≡ false → data_step config action ≡ config
step_leaves (Create id body) config h = absurd (false≢true (sym h))
step_leaves (Modify id body) config h = absurd (false≢true (sym h))
step_leaves (Delete id) config h = ap (λ o. leave_service o config) (no_slash_no_path id h)
step_leaves (Set put) config h = absurd (false≢true (sym h))
step_leaves (Unset path) config h = absurd (false≢true (sym h))
step_leaves other config h = refl

leave : (actions : List Action) (config : Config) → list_any is_on_data actions ≡ false → data_after actions config ≡ config
leave [] config h = refl
leave (action ∷ actions) config h =
    ap (λ (c : Config). data_after actions c) (step_leaves action config (or_first (is_on_data action) (list_any is_on_data actions) h))
    ∙ leave actions config (or_second (is_on_data action) (list_any is_on_data actions) h)

pub returns-then-not-any_on_data : goal.returns-then-not-any_on_data
returns-then-not-any_on_data c =
    let schema = c.args.schema.now in
    let stays = leave c.args.actions.now c.args.old.now (sym c.any_on_data.ensures ∙ c.if-not-any_on_data.true) in
    sym (ap (λ (m : Config). invalid schema m) (c.requires.behind ∙ stays) ∙ ap (option_map (λ (b : Breach). Invalid b.path b.rule)) c.requires.valid)

pub invalid-requires-clause-changed : goal.invalid-requires-clause-changed
invalid-requires-clause-changed c =
    subst (λ (ts : List Target). DiffersInside ts c.args.old.now c.args.data.now) (sym (c.as_slice.ensures ∙ c.in_ok-targets.ensures)) c.requires.changed
