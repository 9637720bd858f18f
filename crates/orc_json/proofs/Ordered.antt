-- Members in the order of their names: put in turn, they stand one after another.
use Rattle.std.proofs.Common.{◌≡◌, ℕ, List, true, Ordering, Less, Equal, Greater, nat_cmp, refl, sym, ap, ◌∙◌}
use Rattle.std.specs.Ordering.{match_ordering, ordering_reverse, is_lt}
use Rattle.std.specs.Cmp.Lexicographic.{slice_cmp}
use Rattle.std.proofs.lemmas.Cmp.{nat_list_cmp_total}
use Rattle.serde_json.specs.Data.{Data, Members, no_members, member, put}
use Rattle.orc_path.specs.Order.{text_cmp}
use Rattle.orc_path.specs.Steps.{PathStep}
use Rattle.orc_schema_nodes.specs.Schemas.{SchemaTable}
use Rattle.orc_json.specs.Written.{Rows, AreMembers, is_before}
use Rattle.orc_json.specs.Written.AreMembers.{no_member, child}

-- members put into others one after another
abbrev pub put_all : Members → Members → Members
put_all no_members done = done
put_all (member name d ms) done = put_all ms (put name d done)

-- members after others
abbrev pub chained : Members → Members → Members
chained no_members ms = ms
chained (member name d more) ms = member name d (chained more ms)

abbrev IsLeast : List ℕ → Members → Type 0
IsLeast name no_members = Unit {0}
IsLeast name (member other d ms) = (text_cmp name other ≡ Less) × IsLeast name ms

abbrev Ascends : Members → Type 0
Ascends no_members = Unit {0}
Ascends (member name d ms) = IsLeast name ms × Ascends ms

abbrev Precedes : Members → Members → Type 0
Precedes no_members ms = Unit {0}
Precedes (member name d more) ms = IsLeast name ms × Precedes more ms

put_at_end : (done : Members) (name : List ℕ) (d : Data) → Precedes done (member name d no_members) → put name d done ≡ chained done (member name d no_members)
put_at_end no_members name d h = refl
put_at_end (member first e more) name d h =
    let above : slice_cmp nat_cmp name first ≡ Greater = nat_list_cmp_total.antisymm name first ∙ ap ordering_reverse h.0.0 in
    ap (λ o. match_ordering o (member name d (member first e more)) (member first d more) (member first e (put name d more))) above
    ∙ ap (member first e) (put_at_end more name d h.1)

chained-none : (done : Members) → chained done no_members ≡ done
chained-none no_members = refl
chained-none (member name d more) = ap (member name d) (chained-none more)

chained-chained : (done : Members) (name : List ℕ) (d : Data) (ms : Members) → chained (chained done (member name d no_members)) ms ≡ chained done (member name d ms)
chained-chained no_members name d ms = refl
chained-chained (member first e more) name d ms = ap (member first e) (chained-chained more name d ms)

precedes_one : (done : Members) (name : List ℕ) (d : Data) (ms : Members) → Precedes done (member name d ms) → Precedes done (member name d no_members)
precedes_one no_members name d ms h = tt
precedes_one (member first e more) name d ms h = ((h.0.0, tt), precedes_one more name d ms h.1)

precedes_more : (done : Members) (name : List ℕ) (d : Data) (ms : Members) → Precedes done (member name d ms) → IsLeast name ms
    → Precedes (chained done (member name d no_members)) ms
precedes_more no_members name d ms h least = (least, tt)
precedes_more (member first e more) name d ms h least = (h.0.1, precedes_more more name d ms h.1 least)

put_all-chained : (ms done : Members) → Ascends ms → Precedes done ms → put_all ms done ≡ chained done ms
put_all-chained no_members done h k = sym (chained-none done)
put_all-chained (member name d ms) done h k =
    ap (put_all ms) (put_at_end done name d (precedes_one done name d ms k))
    ∙ put_all-chained ms (chained done (member name d no_members)) h.1 (precedes_more done name d ms k h.0)
    ∙ chained-chained done name d ms

less_is : (o : Ordering) → is_lt o ≡ true → o ≡ Less
less_is Less h = refl
less_is Equal h = cc
less_is Greater h = cc

least_before : (name other : List ℕ) (ms : Members) → text_cmp name other ≡ Less → IsLeast other ms → IsLeast name ms
least_before name other no_members h k = tt
least_before name other (member third d ms) h k = (nat_list_cmp_total.trans name other third h k.0, least_before name other ms h k.1)

least_from : (name : List ℕ) (ms : Members) → is_before name ms ≡ true → Ascends ms → IsLeast name ms
least_from name no_members h k = tt
least_from name (member other d ms) h k =
    let first = less_is (text_cmp name other) h in
    (first, least_before name other ms first k.0)

ascends : (s : SchemaTable) (keys : List (List ℕ)) (at : List PathStep) (rows : Rows) (ms : Members) → AreMembers s keys at rows ms → Ascends ms
ascends s keys at rows ms no_member = tt
ascends s keys at rows ms (child name d part later rest other named one before more) =
    on (ascends s keys at later rest more)
  where
    on : Ascends rest → IsLeast name rest × Ascends rest
    on h = (least_from name rest before h, h)

-- put one after another they are themselves
pub put_in_order : (s : SchemaTable) (keys : List (List ℕ)) (at : List PathStep) (rows : Rows) (ms : Members) → AreMembers s keys at rows ms → put_all ms no_members ≡ ms
put_in_order s keys at rows ms h = put_all-chained ms no_members (ascends s keys at rows ms h) tt
