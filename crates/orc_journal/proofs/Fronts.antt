-- The entry that bytes begin with.
use Rattle.std.proofs.Common.{◌≡◌, ℕ, ◌<◌, ◌^◌, List, [], ◌∷◌, ◌++◌, length, take, drop, get_or, refl, sym, ap, ◌∙◌, arith}
use Rattle.std.specs.Int.{w32, w64, to_be_bytes}
use Rattle.std.proofs.lemmas.List.{take_at, drop_at}
use Rattle.orc_call.proofs.Singles.{same_4}
use Rattle.orc_journal.specs.Entries.{entry_kind, payload}
use Rattle.orc_journal.specs.inside.Fronts.{HasEntry, HasFrame, HasNumber, Says}
use Rattle.orc_journal.specs.declared.entry.Entry.{Entry}
use Rattle.orc_journal.specs.declared.entry.Entry.TheVariants.{Intent, Decide, Abort, Settled}
use Rattle.orc_journal.proofs.Intents.{one_number, one_intent}

-- frames at one place are one
record OneFrame (kind : ℕ) (says rest : List ℕ) (other : ℕ) (saying more : List ℕ) : Type 0 where
  same_kind : kind ≡ other
  same_says : says ≡ saying
  same_rest : rest ≡ more

one_frame : (bytes : List ℕ) (kind : ℕ) (says rest : List ℕ) (other : ℕ) (saying more : List ℕ) → HasFrame bytes kind says rest → HasFrame bytes other saying more → OneFrame kind says rest other saying more
one_frame bytes kind says rest other saying more a b =
    let e : kind ∷ to_be_bytes w32 (length says) ++ (says ++ rest) ≡ other ∷ to_be_bytes w32 (length saying) ++ (saying ++ more) = sym a.parts ∙ b.parts in
    let lengths : length says ≡ length saying = same_4 (length says) (length saying) (says ++ rest) (saying ++ more) a.short b.short (ap (drop 1) e) in
    let behind : says ++ rest ≡ saying ++ more = ap (drop 5) e in
    record {
      same_kind = ap (λ t. get_or t 0 0) e;
      same_says = sym (take_at says rest (length says) refl) ∙ ap (take (length says)) behind ∙ take_at saying more (length says) (sym lengths);
      same_rest = sym (drop_at says rest (length says) refl) ∙ ap (drop (length says)) behind ∙ drop_at saying more (length says) (sym lengths);
    }

pub entry_frame : (bytes : List ℕ) (entry : Entry) (rest : List ℕ) → HasEntry bytes entry rest → HasFrame bytes (entry_kind entry) (payload entry) rest
entry_frame bytes entry rest has = record { short = has.writable.length; parts = has.parts }

pub entry_found : (bytes : List ℕ) (kind : ℕ) (says rest : List ℕ) (entry : Entry) → HasFrame bytes kind says rest → Says kind says entry → HasEntry bytes entry rest
entry_found bytes kind says rest entry f s = record {
  writable = record { fields = s.fields; length = rw (← s.parts) f.short };
  parts = f.parts ∙ ap (λ t. kind ∷ to_be_bytes w32 (length t) ++ (t ++ rest)) s.parts ∙ ap (λ k. k ∷ to_be_bytes w32 (length (payload entry)) ++ (payload entry ++ rest)) s.of_kind;
}

said_number : (says : List ℕ) (t u : ℕ) → t < 2 ^ 64 → u < 2 ^ 64 → says ≡ to_be_bytes w64 t → says ≡ to_be_bytes w64 u → t ≡ u
said_number says t u h k a b =
    let here : HasNumber says t [] = record { fits = h; parts = a } in
    let there : HasNumber says u [] = record { fits = k; parts = b } in
    (one_number says t u [] [] here there).0

-- entries that say the same are one
one_said : (kind : ℕ) (says : List ℕ) (x y : Entry) → Says kind says x → Says kind says y → x ≡ y
one_said kind says (Intent t call devices) (Intent u other others) a b =
    one_intent says t u call other devices others (record { of_kind = refl; fields = a.fields; parts = a.parts }) (record { of_kind = refl; fields = b.fields; parts = b.parts })
one_said kind says (Decide t) (Decide u) a b = ap Decide (said_number says t u a.fields b.fields a.parts b.parts)
one_said kind says (Abort t) (Abort u) a b = ap Abort (said_number says t u a.fields b.fields a.parts b.parts)
one_said kind says (Settled t) (Settled u) a b = ap Settled (said_number says t u a.fields b.fields a.parts b.parts)
one_said kind says x y a b = absurd (omega (arith, a.of_kind, b.of_kind))

-- entries at one place are one, and so is what follows
pub one_entry : (bytes : List ℕ) (x y : Entry) (r s : List ℕ) → HasEntry bytes x r → HasEntry bytes y s → (x ≡ y) × (r ≡ s)
one_entry bytes x y r s a b =
    let o = one_frame bytes (entry_kind x) (payload x) r (entry_kind y) (payload y) s (entry_frame bytes x r a) (entry_frame bytes y s b) in
    let said : Says (entry_kind x) (payload x) y = record { of_kind = o.same_kind; fields = b.writable.fields; parts = o.same_says } in
    (one_said (entry_kind x) (payload x) x y (record { of_kind = refl; fields = a.writable.fields; parts = refl }) said, o.same_rest)
