-- A reconciliation that ends well settles what is unsettled: that row keeps order and history.
use Rattle.std.proofs.Common.{◌≡◌, ◌≢◌, ℕ, ◌<◌, Bool, true, false, nat_eq, cond, List, [], ◌∷◌, ◌++◌, Option, None, Some, map, All, IsTrue, refl, sym, ap, subst, arith, append-nil, append_assoc, eqb-true}
use Rattle.std.proofs.lemmas.List.Elements.{All-append, All-cons, All-head, All-nil, All-tail, All-weaker, Contains-push}
use Rattle.orc_call.specs.declared.call.Call.{Call}
use Rattle.orc_journal.specs.Committed.{history_of}
use Rattle.orc_journal.specs.Entries.{number_of}
use Rattle.orc_journal.specs.Laws.{IsUnnamed, KeepsOrder, MayFollow}
use Rattle.orc_journal.specs.Orders.{are_ordered, follows, is_ordered}
use Rattle.orc_journal.specs.declared.entry.Entry.{Entry}
use Rattle.orc_journal.specs.declared.entry.Entry.TheVariants as entry
use Rattle.orc_journal.proofs.Orderings.{is_ordered-push, parts}
use Rattle.orc_datastore.specs.Legal.{IsLegal}
use Rattle.orc_decls.specs.declared.declarations.Decls.{Decls}
use Rattle.orc_rules.specs.Cells.{updated_at}
use Rattle.orc_rules.specs.Kept.{FrontsAre, HubKept}
use Rattle.orc_rules.specs.Network.{Noted}
use Rattle.orc_rules.specs.Told.{Told, named_call, told_by, told_from, told_with}
use Rattle.orc_rules.specs.Worlds.{DoAscend}
use Rattle.orc_rules.specs.declared.transaction.Waiting.{Waiting}
use Rattle.orc_rules.proofs.Entering.{apart_of, named_by, settle_push, unnamed_push}
use Rattle.orc_rules.proofs.Legality.{no_front, same_history}

-- an intent that entries report is there, and isn't settled
Knows : List Entry → Told → Type 0
Knows before told = (t : ℕ) → (told.intents t ≢ None) → MayFollow before (entry.Settled t)

module _ (order : KeepsOrder) where
  given_settles : (before : List Entry) (told : Told) (e : Entry) (u t : ℕ) (x : Option (Noted Call)) → (nat_eq u t ≡ true → x ≢ None → MayFollow (before ++ e ∷ []) (entry.Settled t))
      → (nat_eq u t ≡ false → e ≡ entry.Settled t → ⊥) → Knows before told → (updated_at told.intents u x t ≢ None) → MayFollow (before ++ e ∷ []) (entry.Settled t)
  unfolding Knows
  given_settles before told e u t x here apart knows some = on (nat_eq u t) refl some
    where
      on : (b : Bool) → nat_eq u t ≡ b → (cond b x (told.intents t) ≢ None) → MayFollow (before ++ e ∷ []) (entry.Settled t)
      on true is some = here is some
      on false is some = settle_push t before e (apart is) (knows t some)

  one_knows : (before : List Entry) (told : Told) (e : Entry) → IsTrue (is_ordered before) → IsTrue (follows before e) → Knows before told → Knows (before ++ e ∷ []) (told_with before told e)
  unfolding Knows
  one_knows before told (entry.Intent u call devices) ordered may knows t some =
      given_settles before told (entry.Intent u call devices) u t (Some (record { plan = named_call call devices; base = told.history }))
      (λ is _. subst (λ (n : ℕ). MayFollow (before ++ entry.Intent u call devices ∷ []) (entry.Settled n)) (eqb-true u t is) new) (λ _ e. cc) knows some
    where
      none : IsUnnamed before u
      none = (order before (entry.Intent u call devices) ordered).0 may

      P : Entry → Type 0
      P x = x ≡ entry.Settled u → ⊥

      new : MayFollow (before ++ entry.Intent u call devices ∷ []) (entry.Settled u)
      new = (
        (call, devices, Contains-push before (entry.Intent u call devices)),
        All-append P before (entry.Intent u call devices ∷ []) (All-weaker (λ x. number_of x ≡ u → ⊥) P (λ x no e. no (ap number_of e)) before none)
            (All-cons P (entry.Intent u call devices) [] (λ e. cc) (All-nil P)),
      )
  one_knows before told (entry.Decide u) ordered may knows t some = settle_push t before (entry.Decide u) (λ e. cc) (knows t some)
  one_knows before told (entry.Abort u) ordered may knows t some = settle_push t before (entry.Abort u) (λ e. cc) (knows t some)
  one_knows before told (entry.Settled u) ordered may knows t some =
      given_settles before told (entry.Settled u) u t None (λ is no. absurd (no refl)) (λ is e. apart_of t u (flip is) (sym (ap number_of (sym e)))) knows some
    where
      flip : nat_eq u t ≡ false → nat_eq t u ≡ false
      flip h = grind arith

  all_known : (before entries : List Entry) (told : Told) → IsTrue (is_ordered before) → IsTrue (are_ordered before entries) → Knows before told → Knows (before ++ entries) (told_from before told entries)
  unfolding Knows
  all_known before [] told ordered may knows t some = subst (λ (l : List Entry). MayFollow l (entry.Settled t)) (sym (append-nil before)) (knows t some)
  all_known before (e ∷ entries) told ordered may knows t some =
      let two = parts (follows before e) (are_ordered (before ++ e ∷ []) entries) may in
      subst (λ (l : List Entry). MayFollow l (entry.Settled t)) (append_assoc before (e ∷ []) entries)
      (all_known (before ++ e ∷ []) entries (told_with before told e) (is_ordered-push before e ordered two.0) two.1 (one_knows before told e ordered two.0 knows) t some)

  pub settles_known : (entries : List Entry) → IsTrue (is_ordered entries) → (t : ℕ) → ((told_by entries).intents t ≢ None) → MayFollow entries (entry.Settled t)
  unfolding Knows
  settles_known entries ordered t some = all_known [] entries (record { history = []; place = λ t. None; intents = λ t. None }) refl ordered (λ t some. absurd (some refl)) t some

  module _ (decls : Decls) (taken : ℕ → Bool) (waiting : List Waiting) where
    abbrev pub Idle : List Entry → Type 0
    Idle entries = HubKept decls entries (history_of entries) [] waiting taken

    -- one more
    module _ (entries : List Entry) (n : ℕ) (numbers : List ℕ) (ordered : IsTrue (is_ordered entries)) (legal : IsLegal decls (history_of entries))
        (up : All (λ other. n < other) numbers) (may : All (λ t. MayFollow entries (entry.Settled t)) (n ∷ numbers)) (idle : Idle entries) where
      abbrev M : ℕ → Type 0
      M t = MayFollow entries (entry.Settled t)

      may_n : MayFollow entries (entry.Settled n)
      may_n = All-head M n numbers may

      ordered' : IsTrue (is_ordered (entries ++ entry.Settled n ∷ []))
      ordered' = is_ordered-push entries (entry.Settled n) ordered ((order entries (entry.Settled n) ordered).1 may_n)

      same : history_of entries ≡ history_of (entries ++ entry.Settled n ∷ [])
      same = sym (same_history entries (entry.Settled n) refl)

      later : (ns : List ℕ) → All (λ other. n < other) ns → All M ns → All (λ t. MayFollow (entries ++ entry.Settled n ∷ []) (entry.Settled t)) ns
      later [] up may = All-nil (λ t. MayFollow (entries ++ entry.Settled n ∷ []) (entry.Settled t))
      later (m ∷ ns) up may = All-cons (λ t. MayFollow (entries ++ entry.Settled n ∷ []) (entry.Settled t)) m ns
          (settle_push m entries (entry.Settled n) (λ e. less n m (All-head (λ other. n < other) m ns up) (ap number_of e)) (All-head M m ns may))
          (later ns (All-tail (λ other. n < other) m ns up) (All-tail M m ns may))
        where
          less : (a b : ℕ) → a < b → a ≡ b → ⊥
          less a b lt e = omega (arith, lt, e)

      idle' : Idle (entries ++ entry.Settled n ∷ [])
      idle' = subst (λ (h : List Call). HubKept decls (entries ++ entry.Settled n ∷ []) h [] waiting taken) same (record {
        intents = λ i x there h. absurd cc;
        settle = λ i x there h. absurd cc;
        admitted = λ i x there h. absurd cc;
        fresh = λ i x there h. absurd cc;
        fit = λ i j x y there there' differ. absurd cc;
        apart = λ i j x y there there' h h' differ same. absurd cc;
        waits_apart = λ i x there h. absurd cc;
        waits = idle.waits;
        unused = All-weaker (λ (one : Waiting). IsUnnamed entries one.t) (λ (one : Waiting). IsUnnamed (entries ++ entry.Settled n ∷ []) one.t)
            (λ one none. unnamed_push one.t entries (entry.Settled n) (named_by n one.t entries may_n.0 none) none) waiting idle.unused;
        numbered = idle.numbered;
        waiting_apart = idle.waiting_apart;
      })

      rest_may : All (λ t. MayFollow (entries ++ entry.Settled n ∷ []) (entry.Settled t)) numbers
      rest_may = later numbers up (All-tail M n numbers may)

      legal' : IsLegal decls (history_of (entries ++ entry.Settled n ∷ []))
      legal' = subst (IsLegal decls) same legal

      fronts : FrontsAre decls (entries ++ entry.Settled n ∷ []) (map entry.Settled numbers) → FrontsAre decls entries (entry.Settled n ∷ map entry.Settled numbers)
      fronts rest [] others is = no_front decls entries ordered legal [] [] refl
      fronts rest (x ∷ done) others is =
          let first : entry.Settled n ≡ x = cc in
          let back : map entry.Settled numbers ≡ done ++ others = cc in
          subst (λ (y : Entry). IsTrue (is_ordered (entries ++ y ∷ done)) × IsLegal decls (history_of (entries ++ y ∷ done))) first
          (subst (λ (l : List Entry). IsTrue (is_ordered l) × IsLegal decls (history_of l)) (append_assoc entries (entry.Settled n ∷ []) done) (rest done others back))

    pub row_settles : (entries : List Entry) (numbers : List ℕ) → IsTrue (is_ordered entries) → IsLegal decls (history_of entries) → DoAscend numbers
        → All (λ t. MayFollow entries (entry.Settled t)) numbers → Idle entries
        → FrontsAre decls entries (map entry.Settled numbers) × Idle (entries ++ map entry.Settled numbers)
    row_settles entries [] ordered legal ascend may idle = (
      no_front decls entries ordered legal,
      subst (λ (l : List Entry). Idle l) (sym (append-nil entries)) idle,
    )
    row_settles entries (n ∷ numbers) ordered legal ascend may idle =
        let rest = row_settles (entries ++ entry.Settled n ∷ []) numbers (ordered' entries n numbers ordered legal ascend.0 may idle) (legal' entries n numbers ordered legal ascend.0 may idle) ascend.1
        (rest_may entries n numbers ordered legal ascend.0 may idle) (idle' entries n numbers ordered legal ascend.0 may idle) in (
          fronts entries n numbers ordered legal ascend.0 may idle rest.0,
          subst (λ (l : List Entry). Idle l) (append_assoc entries (entry.Settled n ∷ []) (map entry.Settled numbers)) rest.1,
        )
