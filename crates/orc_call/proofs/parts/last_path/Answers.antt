use Rattle.std.proofs.Common.{◌≡◌, ◌-◌, suc, List, [], ◌∷◌, length, Option, slice_get, sym, subst, arith}
use Rattle.std.specs.declared.option.Option.TheVariants.{None, Some}
use Rattle.orc_path.specs.Steps.{PathStep}
use Rattle.orc_call.specs.declared.call.Put.{Put}
use Rattle.orc_call.specs.inside.Reading.{last_path}
use Rattle.orc_call.proofs.parts.last_path.Goals as goal

-- the path of the put at the last place
last_path_is : (before : Option (List PathStep)) (puts : List Put) (put : Put) → slice_get puts (length puts - 1) ≡ Some put → Some put.path ≡ last_path before puts
last_path_is before [] put e = absurd cc
last_path_is before (p ∷ []) put e = cc
last_path_is before (p ∷ q ∷ rest) put e =
    let place : length (p ∷ q ∷ rest) - 1 ≡ suc (length (q ∷ rest) - 1) = omega arith in
    last_path_is (Some p.path) (q ∷ rest) put (subst (λ n. slice_get (p ∷ q ∷ rest) n ≡ Some put) place e)

pub returns-in-Some : goal.returns-in-Some
returns-in-Some c = last_path_is None c.args.puts.now c.in-Some.put.now (sym c.in-Some.ensures.value)
