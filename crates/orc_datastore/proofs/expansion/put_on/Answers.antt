use Rattle.std.proofs.Common.{rules, ◌≡◌, ◌==◌, ◌∙◌, Some, None, ap}
use Rattle.std.specs.FinMap.{empty}
use Rattle.std.specs.List.{position}
use Rattle.orc_path.specs.Configurations.{put_item}
use Rattle.orc_datastore.specs.Services.{written_on}
use Rattle.orc_datastore.proofs.Spreading.{set_new, set_there}
use Rattle.orc_datastore.proofs.expansion.put_on.Goals as goal

pub returns-in_ok-set-in-Some : goal.returns-in_ok-set-in-Some
returns-in_ok-set-in-Some c =
    let there : position (λ one. one.0 == c.args.device) c.args.written.now.items ≡ Some c.in-Some.place = search rules in
    set_there c.args.written.now.items c.in-Some.place c.args.device c.args.path c.args.item c.index_mut.result.now c.set.new.self
    there c.index_mut.ensures.value c.in_ok-set-in-Some.ensures.ok

pub returns-in_ok-push-in-None : goal.returns-in_ok-push-in-None
returns-in_ok-push-in-None c d =
    let w = c.args.written.now.items in
    let none : position (λ one. one.0 == c.args.device) w ≡ None = search rules in
    let made : c.set-in-None.new.self ≡ put_item empty c.args.path c.args.item = search rules in
    ap (λ l. written_on l d) c.in_ok-push-in-None.ensures.items
    ∙ set_new w c.args.device c.args.path c.args.item c.set-in-None.new.self d none made
