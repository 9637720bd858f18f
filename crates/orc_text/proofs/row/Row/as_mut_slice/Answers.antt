use Rattle.std.proofs.Common.{◌++◌, length, take, drop, refl, ap, ◌∙◌, rules}
use Rattle.orc_text.specs.Lends.{with_items}
use Rattle.orc_text.proofs.row.Row.as_mut_slice.Goals as goal

pub returns : goal.returns
returns g c =
    let items = c.self.inside.items in (
      (
        refl,
        λ w.
            ap (λ len. take len (w ++ drop (length w) items.items)) items.ok.0
            ∙ ap (λ row. with_items row w) c.self.view_is,
      ),
      record { writes_back = tt; value = search rules },
    )
