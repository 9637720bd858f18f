use Rattle.std.proofs.Common.{rules, ◌≡◌, ◌∙◌, ap, cond, Some, None, true, ℤ, to_z, of_z, w32, ◌∷◌, ◌++◌, []}
use Rattle.std.specs.Option.{option_or}
use Rattle.std.specs.Ordering.{int_eq}
use Rattle.orc_value.specs.Canon.{same_text}
use Rattle.orc_types.specs.declared.types.EnumName.{EnumName}
use Rattle.orc_types.specs.inside.Running.{by_name, higher, is_taken, HasToo}
use Rattle.orc_types.proofs.Running.{one_more}
use Rattle.orc_types.proofs.enumeration.Enums.with.Goals as goal

pub invariant_of-result : goal.invariant_of-result
invariant_of-result c =
    let was = c.self.inside in
    let e : EnumName = record { name = c.args.name.now; value = c.args.value } in
    let same : to_z w32 (of_z w32 c.args.value) ≡ c.args.value = search rules in
    let row : c.push.new.self ≡ was.row ++ e ∷ [] = search rules in
    let values : HasToo was.values c.args.value c.add.new.self = λ z. c.in_ok-add.ensures z ∙ ap (λ (v : ℤ). cond (int_eq v z) true (is_taken was.values z)) same in
    let high : c.higher.result ≡ higher was.greatest c.args.value = search rules in
    one_more was.row c.push.new.self (by_name was.firsts) (by_name c.add_first.new.firsts) was.values c.add.new.self was.greatest c.higher.result e c.self.invariant (λ q. c.in_ok-add_first.ensures q ∙ ap (λ (v : ℤ). option_or (by_name was.firsts q) (cond (same_text c.args.name.now q) (Some v) None)) same) row values high
