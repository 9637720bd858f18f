use Rattle.std.proofs.Common.{◌∙◌, List, ℕ, Some, encode_utf8, refl, sym, ap}
use Rattle.orc_path.proofs.Plain.{are_wide-encode}
use Rattle.orc_path.proofs.Behind.{wide_in, wide_out, encode_some}
use Rattle.orc_path.proofs.reader.Reader.take_wide.Goals as goal

pub returns-in_ok-push-in-Key : goal.returns-in_ok-push-in-Key
returns-in_ok-push-in-Key c =
    let r = c.args.self.now in
    let bytes = encode_utf8 c.args.character in
    wide_in r.mode r bytes refl c.in-Key.is (are_wide-encode c.args.character c.requires)
    ∙ ap (λ (key : List ℕ). Some (record r { key = key })) (sym c.in_ok-push-in-Key.ensures.ok)

pub returns-in_default : goal.returns-in_default
returns-in_default c =
    wide_out c.args.self.now (encode_utf8 c.args.character) c.in_default.not-Key (are_wide-encode c.args.character c.requires) (encode_some c.args.character)
