use Rattle.std.proofs.Common.{◌==◌, not, sym, ap, ◌∙◌}
use Rattle.std.specs.FinMap.{len, len-empty}
use Rattle.orc_path.specs.Configurations.{Config}
use Rattle.orc_path.specs.Order.{path_cmp}
use Rattle.orc_path.specs.declared.item.Item.{Item}
use Rattle.orc_datastore.proofs.service.Service.is_on.Goals as goal

pub returns-in-None : goal.returns-in-None
returns-in-None c =
    sym (ap (λ n. not (n == 0)) (len-empty path_cmp Item))
    ∙ ap (λ (m : Config). not (len m == 0)) c.in-None.ensures
