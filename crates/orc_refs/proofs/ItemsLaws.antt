-- The items of a configuration as a list.
use Rattle.std.proofs.Common.{◌≡◌, List, [], ◌∷◌, map, refl, sym, ap, subst, ◌∙◌, is_some}
use Rattle.std.specs.FinMap.{entries, entries_sorted, find, get, get-entries, is_sorted}
use Rattle.orc_path.specs.Steps.{PathStep}
use Rattle.orc_path.specs.Order.{path_cmp}
use Rattle.orc_path.specs.Configurations.{Config, IsConfig}
use Rattle.orc_path.specs.declared.item.Item.{Item}
use Rattle.orc_path.proofs.ConfigurationLaws.{is_entry-some}
use Rattle.orc_call.specs.declared.call.Put.{Put}
use Rattle.orc_tree.proofs.InOrder.{T_is_true}
use Rattle.orc_refs.specs.Moves.{AreWhole, items_of, put_at, rows_in}
use Rattle.orc_refs.proofs.Halves.{put_at-rows}

rows_back : (rows : List (List PathStep × Item)) → rows_in (map (λ row. record { path = row.0; item = row.1 }) rows) ≡ rows
rows_back [] = refl
rows_back (row ∷ rows) = ap (λ l. row ∷ l) (rows_back rows)

pub put_at-items : (config : Config) (p : List PathStep) → put_at (items_of config) p ≡ get config p
put_at-items config p =
    put_at-rows (items_of config) p
    ∙ ap (find path_cmp p) (rows_back (entries config))
    ∙ sym (get-entries config p)

pub items-whole : (config : Config) (items : List Put) → IsConfig config → items ≡ items_of config → AreWhole items
items-whole config items is same = subst AreWhole (sym same) (record {
  sorted = ap (is_sorted path_cmp) (rows_back (entries config)) ∙ T_is_true _ (entries_sorted config);
  fit = λ path item h. is.fit path item (sym (put_at-items config path) ∙ h);
  ways = λ path way some is_way.
      put_at-items config way ∙ is_entry-some (get config way) (is.ways path way (sym (ap is_some (put_at-items config path)) ∙ some) is_way);
})
