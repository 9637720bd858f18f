-- What the loops of the writer have made, and what is left to make.
use Rattle.std.proofs.Common.{◌≡◌, ◌≢◌, ◌≤◌, ℕ, ◌+◌, ◌==◌, suc, Bool, true, false, List, [], ◌∷◌, ◌++◌, length, take, drop, refl, sym, ap, subst, ◌∙◌, length-append, arith}
use Rattle.std.proofs.lemmas.Bool.{false≢true}
use Rattle.std.proofs.lemmas.Bool.Decides.{nat_tests}
use Rattle.std.proofs.Math.Seq.{take-append_seam, drop-append_seam}
use Rattle.serde_json.specs.Data.{object, Items, no_items, item, Members, no_members, put}
use Rattle.serde_json.specs.View.{view, items_view}
use Rattle.serde_json.specs.declared.value.Value.{Value}
use Rattle.orc_path.specs.Steps.{PathStep}
use Rattle.orc_path.specs.declared.item.Item.TheVariants.{Entry}
use Rattle.orc_schema_nodes.specs.Schemas.{SchemaTable, path_names}
use Rattle.orc_json.specs.Findings.{below}
use Rattle.orc_json.specs.inside.Fronts.{same_name, same_step, front, longest, AreLaid, MakesMembers, PutsNode, MakesEntries, MakesEntry}
use Rattle.orc_json.specs.Written.{Rows, AreMembers, AreEntries, with_key_members}
use Rattle.orc_json.specs.Written.AreMembers.{no_member, child}
use Rattle.orc_json.specs.Written.AreEntries.{no_entry, entry}
use Rattle.orc_json.proofs.Ordered.{put_all, put_in_order}
use Rattle.orc_json.proofs.Parted.{FirstMember, first_member, FirstEntry, first_entry, laid_front, laid_back}
use Rattle.orc_json.proofs.Under.{Each, IsInside, members_under, node_some, length-below}

-- Members ------------------------------------------------------------------------------------------------------------

pub record MembersLeft (s : SchemaTable) (bound : ℕ) (keys : List (List ℕ)) (at : List PathStep) (rest : Rows) (made ms : Members) : Type 0 where
  pub more : Members
  pub laid : AreLaid bound rest
  pub members : AreMembers s keys at rest more
  pub whole : put_all more made ≡ ms

-- of the rows with a JSON value these are left
abbrev pub GoesOn : SchemaTable → ℕ → List PathStep → Rows → Rows → Members → Type 0
GoesOn s left at rows rest made = (bound : ℕ) → AreLaid bound rows → bound ≤ length at + left → (keys : List (List ℕ)) (ms : Members)
    → AreMembers s keys at rows ms → MembersLeft s bound keys at rest made ms

pub none_made : (s : SchemaTable) (left : ℕ) (at : List PathStep) (rows : Rows) (made : Members) → made ≡ no_members → GoesOn s left at rows rows made
none_made s left at rows made none bound laid short keys ms members = record {
  more = ms;
  laid = laid;
  members = members;
  whole = ap (put_all ms) none ∙ put_in_order s keys at rows ms members;
}

one_made : (s : SchemaTable) (bound left : ℕ) (keys : List (List ℕ)) (at : List PathStep) (rest : Rows) (made new ms : Members) → bound ≤ length at + 1 + left
    → PutsNode s left at (take (front (same_name (length at)) rest) rest) made new → (l : MembersLeft s bound keys at rest made ms) → FirstMember s keys at rest l.more
    → MembersLeft s bound keys at (drop (front (same_name (length at)) rest) rest) new ms
one_made s bound left keys at rest made new ms short puts l f =
    let front_is : take (front (same_name (length at)) rest) rest ≡ f.rows =
    ap (λ n. take n rest) f.count ∙ ap (take (length f.rows)) f.all_are ∙ take-append_seam f.rows f.later in
    let back_is : drop (front (same_name (length at)) rest) rest ≡ f.later =
    ap (λ n. drop n rest) f.count ∙ ap (drop (length f.rows)) f.all_are ∙ drop-append_seam f.rows f.later in
    let laid : AreLaid bound (f.rows ++ f.later) = subst (AreLaid bound) f.all_are l.laid in
    let put_is : new ≡ put f.name f.value made =
    (subst (λ (xs : Rows). PutsNode s left at xs made new) front_is puts) bound (laid_front bound f.rows f.later laid) short f.name f.value f.node in
    subst (λ (xs : Rows). MembersLeft s bound keys at xs new ms) (sym back_is) (record {
      more = f.others;
      laid = laid_back bound f.rows f.later laid;
      members = f.members;
      whole = ap (put_all f.others) put_is ∙ sym (ap (λ x. put_all x made) f.whole_is) ∙ l.whole;
    })

pub one_more : (s : SchemaTable) (left fewer : ℕ) (at : List PathStep) (rows rest : Rows) (made new : Members) → left ≤ fewer + 1 → rest ≢ []
    → PutsNode s fewer at (take (front (same_name (length at)) rest) rest) made new → GoesOn s left at rows rest made
    → GoesOn s left at rows (drop (front (same_name (length at)) rest) rest) new
one_more s left fewer at rows rest made new less some puts so_far bound laid short keys ms members =
    let l = so_far bound laid short keys ms members in
    one_made s bound fewer keys at rest made new ms (omega (arith, short, less)) puts l (first_member s keys at rest l.more some l.members)

none_left : (s : SchemaTable) (keys : List (List ℕ)) (at : List PathStep) (rest : Rows) (more : Members) → rest ≡ [] → AreMembers s keys at rest more → more ≡ no_members
none_left s keys at rest more none no_member = refl
none_left s keys at rest more none (child name d part later others other named one before more_of) =
    absurd (node_some s at name _ part d one (front_none part later none))
  where
    front_none : (xs ys : Rows) → xs ++ ys ≡ [] → xs ≡ []
    front_none [] ys h = refl
    front_none (x ∷ xs) ys h = cc

pub all_made : (s : SchemaTable) (left : ℕ) (at : List PathStep) (rows rest : Rows) (made : Members) → rest ≡ [] → GoesOn s left at rows rest made
    → MakesMembers s left at rows made
all_made s left at rows rest made none so_far bound laid short keys ms members =
    let l = so_far bound laid short keys ms members in
    sym (ap (λ x. put_all x made) (none_left s keys at rest l.more none l.members)) ∙ l.whole

-- where no step may come, there is no row
no_step : (at : List PathStep) (rows : Rows) → Each (IsInside at) rows → longest rows ≤ length at → rows ≡ []
no_step at [] h k = refl
no_step at (row ∷ rows) h k =
    let u = h.0.1 in
    let long : length row.0 ≡ length (below at h.0.0 u.keys ++ u.more) = ap length u.is in
    let both : length (below at h.0.0 u.keys ++ u.more) ≡ length (below at h.0.0 u.keys) + length u.more = length-append (below at h.0.0 u.keys) u.more in
    let one = length-below at h.0.0 u.keys in
    absurd (omega (arith, k, long, both, one))

pub nothing_made : (s : SchemaTable) (left : ℕ) (at : List PathStep) (rows : Rows) (made : Members) → left ≡ 0 → made ≡ no_members → MakesMembers s left at rows made
nothing_made s left at rows made zero_left none bound laid short keys ms members =
    let within : longest rows ≤ length at = omega (arith, laid.short, short, zero_left) in
    none ∙ sym (none_left s keys at rows ms (no_step at rows (members_under s keys at rows ms members) within) members)

-- Items --------------------------------------------------------------------------------------------------------------

abbrev pub items_behind : Items → Items → Items
items_behind no_items ds = ds
items_behind (item d more) ds = item d (items_behind more ds)

pub one_item : (vs : List Value) (v : Value) (ds : Items) → items_behind (items_view (vs ++ v ∷ [])) ds ≡ items_behind (items_view vs) (item (view v) ds)
one_item [] v ds = refl
one_item (x ∷ vs) v ds = ap (item (view x)) (one_item vs v ds)

pub items_behind-none : (ds : Items) → items_behind ds no_items ≡ ds
items_behind-none no_items = refl
items_behind-none (item d ds) = ap (item d) (items_behind-none ds)

-- Entries ------------------------------------------------------------------------------------------------------------

pub record EntriesLeft (s : SchemaTable) (bound : ℕ) (keys : List (List ℕ)) (at : List PathStep) (name : List ℕ) (rest : Rows) (made ds : Items) : Type 0 where
  pub more : Items
  pub laid : AreLaid bound rest
  pub entries : AreEntries s keys at name rest more
  pub whole : items_behind made more ≡ ds

abbrev pub EntriesGoOn : SchemaTable → ℕ → List PathStep → List (List ℕ) → Rows → Rows → Items → Type 0
EntriesGoOn s left at keys rows rest made = (bound : ℕ) → AreLaid bound rows → bound ≤ length at + 1 + left → (name : List ℕ) (ds : Items)
    → AreEntries s keys at name rows ds → EntriesLeft s bound keys at name rest made ds

one_entry_made : (s : SchemaTable) (bound left : ℕ) (keys : List (List ℕ)) (at : List PathStep) (name : List ℕ) (rest : Rows) (vs : List Value) (v : Value) (ds : Items)
    → bound ≤ length at + 1 + left → MakesEntry s left at keys (take (front (same_step (length at)) rest) rest) (view v)
    → (l : EntriesLeft s bound keys at name rest (items_view vs) ds) → FirstEntry s keys at name rest l.more
    → EntriesLeft s bound keys at name (drop (front (same_step (length at)) rest) rest) (items_view (vs ++ v ∷ [])) ds
one_entry_made s bound left keys at name rest vs v ds short makes l f =
    let mine : Rows = (below at name f.texts, Entry) ∷ f.inside in
    let front_is : take (front (same_step (length at)) rest) rest ≡ mine =
    ap (λ n. take n rest) f.count ∙ ap (take (length mine)) f.all_are ∙ take-append_seam mine f.later in
    let back_is : drop (front (same_step (length at)) rest) rest ≡ f.later =
    ap (λ n. drop n rest) f.count ∙ ap (drop (length mine)) f.all_are ∙ drop-append_seam mine f.later in
    let laid : AreLaid bound (mine ++ f.later) = subst (AreLaid bound) f.all_are l.laid in
    let made_is : view v ≡ object (with_key_members s (path_names at ++ name ∷ []) keys f.texts f.ms) =
    (subst (λ (xs : Rows). MakesEntry s left at keys xs (view v)) front_is makes) bound (laid_front bound mine f.later laid) short name f.texts f.inside f.ms refl f.well f.within in
    subst (λ (xs : Rows). EntriesLeft s bound keys at name xs (items_view (vs ++ v ∷ [])) ds) (sym back_is) (record {
      more = f.others;
      laid = laid_back bound mine f.later laid;
      entries = f.entries;
      whole = one_item vs v f.others ∙ ap (λ d. items_behind (items_view vs) (item d f.others)) made_is ∙ sym (ap (items_behind (items_view vs)) f.whole_is) ∙ l.whole;
    })

pub one_entry_more : (s : SchemaTable) (left : ℕ) (at : List PathStep) (keys : List (List ℕ)) (rows rest : Rows) (vs : List Value) (v : Value) → rest ≢ []
    → MakesEntry s left at keys (take (front (same_step (length at)) rest) rest) (view v) → EntriesGoOn s left at keys rows rest (items_view vs)
    → EntriesGoOn s left at keys rows (drop (front (same_step (length at)) rest) rest) (items_view (vs ++ v ∷ []))
one_entry_more s left at keys rows rest vs v some makes so_far bound laid short name ds entries =
    let l = so_far bound laid short name ds entries in
    one_entry_made s bound left keys at name rest vs v ds short makes l (first_entry s keys at name rest l.more some l.laid.ascending l.entries)

no_entry_left : (s : SchemaTable) (keys : List (List ℕ)) (at : List PathStep) (name : List ℕ) (rest : Rows) (more : Items) → rest ≡ [] → AreEntries s keys at name rest more → more ≡ no_items
no_entry_left s keys at name rest more none no_entry = refl
no_entry_left s keys at name rest more none (entry texts inside later ms es well within more_of) = cc

pub all_entries_made : (s : SchemaTable) (left : ℕ) (at : List PathStep) (keys : List (List ℕ)) (rows rest : Rows) (made : Items) → rest ≡ []
    → EntriesGoOn s left at keys rows rest made → MakesEntries s left at keys rows made
all_entries_made s left at keys rows rest made none so_far bound laid short name ds entries =
    let l = so_far bound laid short name ds entries in
    sym (ap (items_behind made) (no_entry_left s keys at name rest l.more none l.entries) ∙ items_behind-none made) ∙ l.whole

-- A test whether rows are left ---------------------------------------------------------------------------------------

pub some_rows : (rest : Rows) (b : Bool) → b ≡ (length rest == 0) → b ≡ false → rest ≢ []
some_rows rest b h t e = false≢true (sym t ∙ h ∙ ap (λ (xs : Rows). length xs == 0) e)

pub no_rows : (rest : Rows) (b : Bool) → b ≡ (length rest == 0) → b ≡ true → rest ≡ []
no_rows [] b h t = refl
no_rows (row ∷ rows) b h t = absurd (false≢true (more (length rows) ∙ sym h ∙ t))
  where
    more : (n : ℕ) → false ≡ (suc n == 0)
    more n = grind (arith, nat_tests)

-- As the code has them -----------------------------------------------------------------------------------------------

pub next_members : (s : SchemaTable) (left fewer : ℕ) (at : List PathStep) (rows rest mine behind : Rows) (count : ℕ) (made new : Members) → left ≤ fewer + 1 → rest ≢ []
    → count ≡ front (same_name (length at)) rest → mine ≡ take count rest → behind ≡ drop count rest
    → PutsNode s fewer at mine made new → GoesOn s left at rows rest made → GoesOn s left at rows behind new
next_members s left fewer at rows rest mine behind count made new less some counted front_is back_is puts so_far =
    subst (λ (xs : Rows). GoesOn s left at rows xs new) (sym (back_is ∙ ap (λ n. drop n rest) counted))
    (one_more s left fewer at rows rest made new less some (subst (λ (xs : Rows). PutsNode s fewer at xs made new) (front_is ∙ ap (λ n. take n rest) counted) puts) so_far)

pub next_entries : (s : SchemaTable) (left : ℕ) (at : List PathStep) (keys : List (List ℕ)) (rows rest mine behind : Rows) (count : ℕ) (vs : List Value) (v : Value) → rest ≢ []
    → count ≡ front (same_step (length at)) rest → mine ≡ take count rest → behind ≡ drop count rest
    → MakesEntry s left at keys mine (view v) → EntriesGoOn s left at keys rows rest (items_view vs)
    → EntriesGoOn s left at keys rows behind (items_view (vs ++ v ∷ []))
next_entries s left at keys rows rest mine behind count vs v some counted front_is back_is makes so_far =
    subst (λ (xs : Rows). EntriesGoOn s left at keys rows xs (items_view (vs ++ v ∷ []))) (sym (back_is ∙ ap (λ n. drop n rest) counted))
    (one_entry_more s left at keys rows rest vs v some (subst (λ (xs : Rows). MakesEntry s left at keys xs (view v)) (front_is ∙ ap (λ n. take n rest) counted) makes) so_far)
