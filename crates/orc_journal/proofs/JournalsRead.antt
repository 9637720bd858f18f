-- A journal that is read entry by entry.
use Rattle.std.proofs.Common.{◌≡◌, ℕ, ◌-◌, true, false, List, [], ◌∷◌, ◌++◌, length, All, IsTrue, sym, ap, subst, ◌∙◌, append_assoc, length-append, arith}
use Rattle.std.proofs.lemmas.List.{flat_map_more}
use Rattle.std.proofs.lemmas.List.Elements.{All-push}
use Rattle.orc_journal.specs.Entries.{IsWritable}
use Rattle.orc_journal.specs.Orders.{follows, is_ordered}
use Rattle.orc_journal.specs.Journals.{header, gated, journal_bytes, IsDamaged}
use Rattle.orc_journal.specs.inside.Stages.{AreStages}
use Rattle.orc_journal.specs.inside.Fronts.{HasEntry, HasNoNext, HasNext}
use Rattle.orc_journal.specs.declared.entry.Entry.{Entry}
use Rattle.orc_journal.specs.declared.order.Stages.{Stages}
use Rattle.orc_journal.proofs.Fronts.{one_entry}
use Rattle.orc_journal.proofs.Orderings.{is_ordered-push}

-- where the entry that is there may not follow, none does
pub none_follows : (before : List Entry) (bytes : List ℕ) (entry : Entry) (rest : List ℕ) → HasEntry bytes entry rest → follows before entry ≡ false → HasNoNext before bytes
none_follows before bytes entry rest has refused other more there follows_it =
    let same : entry ≡ other = (one_entry bytes entry other rest more has there).0 in
    let contrary : false ≡ true = sym refused ∙ ap (follows before) same ∙ follows_it in
    absurd cc

-- entries that were read, and what is left
pub record IsRead (file decls : List ℕ) (entries : List Entry) (rest : List ℕ) (stages : Stages) : Type 0 where
  pub parts : file ≡ journal_bytes decls entries ++ rest
  pub writable : All IsWritable entries
  pub ordered : IsTrue (is_ordered entries)
  pub known : AreStages stages entries

journal_bytes-push : (decls : List ℕ) (entries : List Entry) (entry : Entry) (after : List ℕ) → journal_bytes decls entries ++ (gated entry ++ after) ≡ journal_bytes decls (entries ++ entry ∷ []) ++ after
journal_bytes-push decls entries entry after =
    sym (append_assoc (journal_bytes decls entries) (gated entry) after)
    ∙ ap (λ t. t ++ after) (flat_map_more gated (header decls) entries entry)

-- one entry more after an open gate
pub read_more : (file decls : List ℕ) (entries : List Entry) (rest behind : List ℕ) (stages : Stages) (more : List Entry) (after : List ℕ) (later : Stages)
    → IsRead file decls entries rest stages → rest ≡ 1 ∷ behind → HasNext entries behind more after later → IsRead file decls more after later
read_more file decls entries rest behind stages more after later r gate next =
    let entry = next.entry in
    let parts : file ≡ journal_bytes decls (entries ++ entry ∷ []) ++ after =
    r.parts ∙ ap (λ t. journal_bytes decls entries ++ t) (gate ∙ ap (λ t. 1 ∷ t) next.there.parts) ∙ journal_bytes-push decls entries entry after in
    record {
      parts = parts ∙ ap (λ es. journal_bytes decls es ++ after) (sym next.read);
      writable = subst (All IsWritable) (sym next.read) (All-push IsWritable entries entry r.writable next.there.writable);
      ordered = subst (λ es. IsTrue (is_ordered es)) (sym next.read) (is_ordered-push entries entry r.ordered next.may_follow);
      known = next.counted;
    }

pub damaged : (file decls : List ℕ) (entries : List Entry) (rest behind : List ℕ) (stages : Stages) → IsRead file decls entries rest stages → rest ≡ 1 ∷ behind → HasNoNext entries behind → IsDamaged file decls (length file - length behind)
damaged file decls entries rest behind stages r gate none =
    let parts : file ≡ journal_bytes decls entries ++ 1 ∷ behind = r.parts ∙ ap (λ t. journal_bytes decls entries ++ t) gate in
    record {
      before = entries;
      rest = behind;
      bytes = parts;
      place = omega (arith, ap length parts, length-append (journal_bytes decls entries) (1 ∷ behind));
      writable = r.writable;
      ordered = r.ordered;
      none = λ entry more there writable may_follow. none entry more (record { writable = writable; parts = there }) may_follow;
    }
