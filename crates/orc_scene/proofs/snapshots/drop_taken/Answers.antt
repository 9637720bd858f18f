use Rattle.std.proofs.Common.{not, rules}
use Rattle.std.proofs.lemmas.Fn.{filter_same}
use Rattle.orc_scene.specs.Snapshots.{is_taken_by}
use Rattle.orc_scene.proofs.snapshots.drop_taken.Goals as goal

pub returns : goal.returns
returns c = filter_same _ (λ one. not (is_taken_by c.args.caller.now one)) _ (λ x b f' k. search rules) _ _ c.retain.ensures.filtered
