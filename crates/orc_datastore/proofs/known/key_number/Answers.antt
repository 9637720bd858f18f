use Rattle.std.proofs.Common.{◌≡◌, ℕ, List, get_or, ap, ◌∙◌, arith}
use Rattle.std.specs.Fmt.{decimal}
use Rattle.std.proofs.lemmas.Fmt.{parse-decimal}
use Rattle.orc_datastore.proofs.Numbers.{told, untold}
use Rattle.orc_datastore.proofs.known.key_number.Goals as goal

pub returns-in-Ok : goal.returns-in-Ok
returns-in-Ok c device small is =
    let text : c.as_str.result.now ≡ decimal device =
    c.as_str.ensures ∙ c.key-item.is ∙ ap (λ (keys : List (List ℕ)). get_or keys 0 c.key-item.result) is in
    told c.parse.result c.in-Ok.number device c.in-Ok.is
    (parse-decimal 32 device c.as_str.result.now c.parse.result small (omega (arith, small)) text c.parse.ensures.value.0)

pub returns-in-Err : goal.returns-in-Err
returns-in-Err c device small is =
    let text : c.as_str.result.now ≡ decimal device =
    c.as_str.ensures ∙ c.key-item.is ∙ ap (λ (keys : List (List ℕ)). get_or keys 0 c.key-item.result) is in
    untold c.parse.result c.in-Err.field-0 device c.in-Err.is
    (parse-decimal 32 device c.as_str.result.now c.parse.result small (omega (arith, small)) text c.parse.ensures.value.0)
