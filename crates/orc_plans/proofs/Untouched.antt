-- A call leaves the trees of the devices that it doesn't touch.
use Rattle.std.proofs.Common.{◌≡◌, ℕ, Bool, true, false, not, cond, List, [], ◌∷◌, ◌++◌, map, All, None, Some, refl, sym, ap, ◌∙◌}
use Rattle.std.specs.Prelude.{Option, if◌then◌else◌}
use Rattle.std.specs.Option.{option_or}
use Rattle.std.specs.List.{filter, list_any}
use Rattle.std.specs.FinMap.{empty, get, get-empty}
use Rattle.std.proofs.lemmas.Bool.{false≢true}
use Rattle.std.proofs.lemmas.List.Elements.{All-nil, All-cons, All-tail, All-head, All-append, All-filter, All-weaker}
use Rattle.orc_path.specs.Order.{path_cmp}
use Rattle.orc_path.specs.Configurations.{Config, drop_item, overlay, put_item}
use Rattle.orc_path.specs.declared.item.Item.{Item}
use Rattle.orc_path.proofs.ConfigurationLaws.{get-overlay, same_config}
use Rattle.orc_call.specs.declared.answer.Answer.{Answer}
use Rattle.orc_call.specs.declared.call.Action.{Action}
use Rattle.orc_call.specs.declared.call.Action.TheVariants.{Literal, Delete, BasePut, BaseRemove}
use Rattle.orc_refs.specs.Live.{overlaid}
use Rattle.orc_datastore.specs.States.{config_of, expansion, has_id, part, Datastore}
use Rattle.orc_decls.specs.Devices.{name_of}
use Rattle.orc_datastore.specs.Actions.{base_step, bases_after, live_after, live_step, names, new_services}
use Rattle.orc_datastore.specs.Next.{expanded_call, expanded_to}
use Rattle.orc_datastore.specs.Touched.{is_held_by, is_touched_among, is_touched_by, is_written_by}
use Rattle.orc_plans.specs.Plans.{UntouchedStay}
use Rattle.orc_decls.specs.declared.declarations.Decls.{Decls}
use Rattle.orc_datastore.specs.declared.service.Service.{Service}
use Rattle.orc_datastore.proofs.Bases.{KeepsBase, base_kept}
use Rattle.orc_decls.proofs.Lists.{any_none, or_first, or_second}
use Rattle.orc_datastore.proofs.Blank.{blank_part, held}

-- ---- services that write nothing on a device

module _ (d : ℕ) where
  abbrev pub Blank : Service → Type 0
  Blank a = part a d ≡ empty

  abbrev pub laid : List Service → Config → Config
  laid live base = overlaid (map (λ service. part service d) live) base

  overlay-empty : (base : Config) → overlay empty base ≡ base
  overlay-empty base = same_config (overlay empty base) base (λ q. get-overlay empty base q ∙ ap (λ (o : Option Item). option_or o (get base q)) (get-empty path_cmp q))

  pub laid-blank : (a : Service) (rest : List Service) (base : Config) → Blank a → laid (a ∷ rest) base ≡ laid rest base
  laid-blank a rest base blank = ap (λ (b : Config). laid rest b) (ap (λ (top : Config). overlay top base) blank ∙ overlay-empty base)

  laid-blanks : (made : List Service) (base : Config) → All Blank made → laid made base ≡ base
  laid-blanks [] base h = refl
  laid-blanks (a ∷ rest) base h = laid-blank a rest base (All-head Blank a rest h) ∙ laid-blanks rest base (All-tail Blank a rest h)

  -- without services that write nothing there, and with new ones that don't
  laid-kept : (p : Service → Bool) (live made : List Service) (base : Config) → All (λ a. p a ≡ true → Blank a) live → All Blank made
      → laid (filter (λ a. not (p a)) live ++ made) base ≡ laid live base
  laid-kept p [] made base gone new = laid-blanks made base new
  laid-kept p (a ∷ rest) made base gone new = on (p a) refl (λ under. laid-kept p rest made under (All-tail (λ x. p x ≡ true → Blank x) a rest gone) new)
    where
      kept : List Service
      kept = filter (λ x. not (p x)) rest

      on : (t : Bool) → p a ≡ t → ((under : Config) → laid (kept ++ made) under ≡ laid rest under) → laid (cond (not t) (a ∷ kept) kept ++ made) base ≡ laid (a ∷ rest) base
      on true is later = later base ∙ sym (laid-blank a rest base (All-head (λ x. p x ≡ true → Blank x) a rest gone is))
      on false is later = later (overlay (part a d) base)

  module _ (devices : List (List ℕ)) where
    -- an action names no living service that writes there, and makes none
    abbrev pub IsQuiet : List Service → Action → Type 0
    IsQuiet live action = All (λ a. names action a.id ≡ true → Blank a) live × All Blank (new_services devices action)

    behind_quiet : (actions : List Action) (live : List Service) (base : Config) → All (IsQuiet live) actions
        → laid (live_after devices actions live) base ≡ laid live base
    behind_quiet [] live base h = refl
    behind_quiet (action ∷ actions) live base h =
        let now : IsQuiet live action = All-head (IsQuiet live) action actions h in
        let made = new_services devices action in
        let still : (other : Action) → IsQuiet live other → IsQuiet (live_step devices live action) other = λ other quiet. (
          All-append (λ (a : Service). names other a.id ≡ true → Blank a) _ made
              (All-filter (λ a. _) (λ (a : Service). names other a.id ≡ true → Blank a) live quiet.0)
              (All-weaker Blank (λ (a : Service). names other a.id ≡ true → Blank a) (λ a blank named. blank) made now.1),
          quiet.1,
        ) in
        behind_quiet actions (live_step devices live action) base
        (All-weaker (IsQuiet live) (IsQuiet (live_step devices live action)) still actions (All-tail (IsQuiet live) action actions h))
        ∙ laid-kept (λ a. names action a.id) live made base now.0 now.1

pub none_first : (a b : Option Answer) → option_or a b ≡ None → a ≡ None
none_first (Some x) b e = cc
none_first None b e = refl

module _ (decls : Decls) (state : Datastore) (d : ℕ) where
  -- a service of this name holds nothing there
  free : (id : List ℕ) → list_any (is_held_by id d) state.live ≡ false → All (λ (a : Service). has_id id a ≡ true → Blank d a) state.live
  free id off =
      All-weaker (λ (a : Service). is_held_by id d a ≡ false) (λ (a : Service). has_id id a ≡ true → Blank d a) (λ a free named. held (has_id id a) (part a d) named free)
      state.live (any_none (is_held_by id d) state.live off)

  quiet : (action : Action) → is_touched_by decls.names state d action ≡ false → IsQuiet d decls.names state.live action
  quiet (Literal id writes) off = (
    free id (or_second (is_written_by writes (name_of decls.names d)) (list_any (is_held_by id d) state.live) off),
    All-cons (Blank d) (record { id = id; parts = expansion decls.names writes }) []
        (blank_part decls.names writes d (or_first (is_written_by writes (name_of decls.names d)) (list_any (is_held_by id d) state.live) off)) (All-nil (Blank d)),
  )
  quiet (Delete id) off = (free id off, All-nil (Blank d))
  quiet other off = (All-weaker (λ (a : Service). Unit {0}) (λ (a : Service). names other a.id ≡ true → Blank d a) (λ a u named. absurd (false≢true named)) state.live (λ i x lt. tt), All-nil (Blank d))

  pub all_quiet : (actions : List Action) → list_any (is_touched_by decls.names state d) actions ≡ false → All (IsQuiet d decls.names state.live) actions
  all_quiet [] off = All-nil (IsQuiet d decls.names state.live)
  all_quiet (action ∷ actions) off =
      let touches = is_touched_by decls.names state d action in
      let later = list_any (is_touched_by decls.names state d) actions in
      All-cons (IsQuiet d decls.names state.live) action actions
      (quiet action (or_first touches later off)) (all_quiet actions (or_second touches later off))

-- an action that doesn't touch a device leaves its base
base_stays : (names : List (List ℕ)) (state : Datastore) (d : ℕ) (action : Action) → is_touched_by names state d action ≡ false
    → (base : Config) → base_step (name_of names d) base action ≡ base
base_stays names state d (BasePut put) off base = ap (λ t. if t then put_item base put.path put.item else base) off
base_stays names state d (BaseRemove device path) off base = ap (λ t. if t then drop_item base path else base) off
base_stays names state d other off base = refl

-- so its base stays
pub base_untouched : (decls : Decls) (state : Datastore) (acts : List Action) (d : ℕ) → is_touched_among decls.names state acts d ≡ false
    → config_of (bases_after decls.names acts state.bases) d ≡ config_of state.bases d
base_untouched decls state acts d off =
    let base = config_of state.bases d in
    base_kept (λ (b : Config). b ≡ base) decls.names acts state.bases d
    (All-weaker (λ (action : Action). is_touched_by decls.names state d action ≡ false) (KeepsBase (λ (b : Config). b ≡ base) (name_of decls.names d))
    (λ action none b is. base_stays decls.names state d action none b ∙ is) acts
    (any_none (is_touched_by decls.names state d) acts off)) refl

pub untouched_stay : UntouchedStay
untouched_stay decls state call d off =
    let acts = expanded_to (expanded_call decls state call) in
    ap (λ (b : Config). laid d (live_after decls.names acts state.live) b) (base_untouched decls state acts d off) ∙
    behind_quiet d decls.names acts state.live (config_of state.bases d) (all_quiet decls state d acts off)
