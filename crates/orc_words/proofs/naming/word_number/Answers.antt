use Rattle.std.proofs.Common.{sym, ◌∙◌, ap}
use Rattle.orc_words.specs.Numbers.{has_sign}
use Rattle.orc_words.proofs.Counting.{long_none, number_none, number_some, signed_none}
use Rattle.orc_words.proofs.naming.word_number.Goals as goal

pub returns-then-is_long_number : goal.returns-then-is_long_number
returns-then-is_long_number c = long_none c.args.word.now (sym c.is_long_number.ensures ∙ c.if-is_long_number.true)

pub returns-then-has_sign : goal.returns-then-has_sign
returns-then-has_sign c =
    signed_none c.args.word.now (sym c.is_long_number.ensures ∙ c.if-is_long_number.false)
    (sym (ap has_sign c.as_bytes.ensures.value) ∙ sym c.has_sign.ensures ∙ c.if-has_sign.true)

pub returns-in-Ok : goal.returns-in-Ok
returns-in-Ok c =
    number_some c.args.word.now c.parse.result c.in-Ok.number (sym (ap has_sign c.as_bytes.ensures.value) ∙ sym c.has_sign.ensures ∙ c.if-has_sign.false)
    (sym c.is_long_number.ensures ∙ c.if-is_long_number.false) c.parse.ensures.value.0 c.in-Ok.is

pub returns-in-Err : goal.returns-in-Err
returns-in-Err c =
    number_none c.args.word.now c.parse.result c.in-Err.field-0 (sym (ap has_sign c.as_bytes.ensures.value) ∙ sym c.has_sign.ensures ∙ c.if-has_sign.false)
    (sym c.is_long_number.ensures ∙ c.if-is_long_number.false) c.parse.ensures.value.0 c.in-Err.is
