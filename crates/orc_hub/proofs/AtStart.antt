-- A hub that starts over the past of its journal's entries.
use Rattle.std.proofs.Common.{◌≡◌, ℕ, ◌+◌, true, false, List, [], IsTrue, Some, None, Option, length, map, take, refl, sym, ap, subst, ◌∙◌, arith}
use Rattle.std.specs.List.{flat_map, range_with_len, slice_get}
use Rattle.std.proofs.lemmas.List.{length-append, length-map}
use Rattle.std.proofs.lemmas.List.Elements.{All-nil}
use Rattle.std.proofs.lemmas.Option.{none-some, slice_get_within}
use Rattle.std.proofs.lemmas.List.FromFn.{length-range_with_len}
use Rattle.orc_call.specs.declared.answer.Why.{Why}
use Rattle.orc_decls.specs.Declarations.{AreDecls}
use Rattle.orc_decls.specs.declared.declarations.Decls.{Decls}
use Rattle.orc_disk.specs.Meanings.{DiskMeaning}
use Rattle.orc_journal.specs.Journals.{header, gated, journal_bytes}
use Rattle.orc_journal.specs.Opened.{Holds, OpenJournal}
use Rattle.orc_journal.specs.Orders.{is_ordered}
use Rattle.orc_journal.specs.declared.entry.Entry.{Entry}
use Rattle.orc_rules.specs.Kept.{HubKept}
use Rattle.orc_rules.specs.Worlds.{declared}
use Rattle.orc_rules.specs.declared.asked.Asked.{Asked}
use Rattle.orc_rules.specs.declared.duty.Duty.{Duty}
use Rattle.orc_rules.specs.declared.duty.Duty.TheVariants.{Free}
use Rattle.orc_rules.specs.declared.transaction.Transaction.{Transaction}
use Rattle.orc_rules.specs.declared.transaction.Waiting.{Waiting}
use Rattle.orc_hub.specs.Keeps.{AreAskers, IsHub}
use Rattle.orc_hub.specs.Starts.{HasStarted, known_at_start}
use Rattle.orc_hub.specs.declared.hub.Hub.{Hub}
use Rattle.orc_hub_parts.specs.declared.past.Past.{Past}
use Rattle.orc_hub_parts.specs.Numbered.{is_given}
use Rattle.orc_hub_parts.specs.Pasts.{IsPast}
use Rattle.orc_hub_parts.proofs.Pasts.{none_given}

-- one thing for each device
length_declared : {X : Type 0} (decls : Decls) (x : X) (row : List X) → row ≡ map (λ device. x) (declared decls) → length row ≡ length decls.names
length_declared {X = X} decls x row is =
    ap (λ (l : List X). length l) is ∙ length-map (declared decls) (λ (device : ℕ). x) ∙ length-range_with_len 0 (length decls.names)

-- no call is under way
pub nothing : {X : Type 0} (place : ℕ) (x : X) → slice_get [] place ≡ Some x → ⊥
nothing place x e = let h = slice_get_within [] place x e in omega (arith, h)

kept_at_start : (decls : Decls) (entries : List Entry) (past : Past) → HubKept decls entries past.state.history [] [] (is_given past.numbers)
kept_at_start decls entries past = record {
  intents = λ place it there. absurd (nothing place it there);
  settle = λ place it there. absurd (nothing place it there);
  admitted = λ place it there. absurd (nothing place it there);
  fresh = λ place it there. absurd (nothing place it there);
  fit = λ place place' it other there. absurd (nothing place it there);
  apart = λ place place' it other there. absurd (nothing place it there);
  waits_apart = λ place it there. absurd (nothing place it there);
  waits = All-nil _;
  unused = All-nil _;
  numbered = All-nil _;
  waiting_apart = tt;
}

none_asked : (asked : List Asked) → AreAskers asked [] []
none_asked asked = record { waits = All-nil _; prepares = λ place it there. absurd (nothing place it there) }

-- the hub of a past
abbrev started : {D : Type 0} → Decls → OpenJournal D → Past → List Duty → List (Option Why) → List Waiting → List Transaction → List Asked → Hub D
started decls journal past duties stale waiting active asked = record {
  decls = decls;
  log = record { journal = journal; unsettled = past.unsettled };
  state = past.state;
  numbers = past.numbers;
  waiting = waiting;
  active = active;
  duties = duties;
  stale = stale;
  askers = asked;
  mends = None;
  down = false;
}

module _ {D : Type 0} (decls : Decls) (journal : OpenJournal D) (past : Past) (duties : List Duty) (stale : List (Option Why))
    (free : duties ≡ map (λ device. Free) (declared decls)) (known : stale ≡ map (λ device. known_at_start journal.fresh) (declared decls))
    (first : past.numbers.next ≡ 1) (waiting : List Waiting) (waits : waiting ≡ []) (active : List Transaction) (acts : active ≡ []) (asked : List Asked) (asks : asked ≡ []) where
  pub has_started : HasStarted decls journal (started decls journal past duties stale waiting active asked)
  has_started = record {
    decls_are = refl;
    journal_is = refl;
    hub_is = λ i. record {
      waiting = waits i;
      active = acts i;
      duties = free i;
      stale = known i;
      asked = asks i;
      given = λ t. none_given past.numbers first t i;
      mends = None;
    };
    up = refl;
  }

  pub is_hub : (disk : DiskMeaning D) (entries : List Entry) → AreDecls decls → Holds disk journal decls.text entries → IsTrue (is_ordered entries)
      → IsPast decls past entries → IsHub disk (started decls journal past duties stale waiting active asked) entries
  is_hub disk entries are holds ordered told = record {
    decls = are;
    log = record { holds = holds; ordered = ordered; unsettled = told.unsettled };
    history = sym told.history;
    state = told.state;
    kept = subst (λ (l : List Transaction). HubKept decls entries past.state.history l waiting (is_given past.numbers)) (sym acts)
        (subst (λ (l : List Waiting). HubKept decls entries past.state.history [] l (is_given past.numbers)) (sym waits) (kept_at_start decls entries past));
    numbers = told.numbers;
    askers = subst (λ (l : List Transaction). AreAskers asked waiting l) (sym acts)
        (subst (λ (l : List Waiting). AreAskers asked l []) (sym waits) (none_asked asked));
    duties = length_declared decls Free duties free;
    stale = length_declared decls (known_at_start journal.fresh) stale known;
    mending = λ met mends. absurd (none-some met mends);
  }

-- the place of an entry
pub offset_of : (start at : ℕ) (decls : List ℕ) (entries : List Entry) → start ≡ length (header decls) → at ≡ start + length (flat_map gated entries) + 1
    → at ≡ length (journal_bytes decls entries) + 1
offset_of start at decls entries begin is = omega (arith, begin, is, length-append (header decls) (flat_map gated entries))

pub offset_there : (start at : ℕ) (read entries : List Entry) (at_place place : ℕ) → at ≡ start + length (flat_map gated (take at_place read)) + 1 → read ≡ entries
    → at_place ≡ place → at ≡ start + length (flat_map gated (take place entries)) + 1
offset_there start at read entries at_place place is same there =
    is ∙ ap (λ (l : List Entry). start + length (flat_map gated (take at_place l)) + 1) same
    ∙ ap (λ (p : ℕ). start + length (flat_map gated (take p entries)) + 1) there
