use Rattle.std.proofs.Common.{◌≡◌, List, sym, ◌∙◌, ap}
use Rattle.std.specs.Prelude.{Some}
use Rattle.std.specs.List.{position}
use Rattle.orc_device.specs.Listings.{is_listed_kind}
use Rattle.orc_device.specs.declared.kind.OpKind.{OpKind}
use Rattle.orc_device.specs.declared.kind.When.{When}
use Rattle.orc_node.proofs.Listed.{none_when, none_left, some_when, some_left}
use Rattle.orc_node.proofs.listing.take_listed.Goals as goal

abbrev pub lent : goal.After-remove → Type 0
lent c = position (is_listed_kind c.args.kind) c.args.listed.now.items ≡ Some c.in-Some.place

found : (c : goal.After-remove) → lent c
found c = ap (λ (xs : List (OpKind × When)). position (is_listed_kind c.args.kind) xs) (sym c.as_slice.ensures.value) ∙ sym c.place_of.ensures ∙ c.in-Some.is

pub returns-in-Some-clause-when : goal.returns-in-Some-clause-when
returns-in-Some-clause-when c =
    ap (λ (x : OpKind × When). Some x.1) c.remove.ensures.value ∙ sym (some_when c.args.kind c.args.listed.now.items c.in-Some.place c.remove.result (found c))

pub returns-in-Some-clause-left : goal.returns-in-Some-clause-left
returns-in-Some-clause-left c =
    c.remove.ensures.by_index.2 ∙ sym (some_left c.args.kind c.args.listed.now.items c.in-Some.place c.remove.result (found c))

pub returns-in-None-clause-when : goal.returns-in-None-clause-when
returns-in-None-clause-when c =
    sym (none_when c.args.kind c.args.listed.now.items
    (ap (λ (xs : List (OpKind × When)). position (is_listed_kind c.args.kind) xs) (sym c.as_slice.ensures.value) ∙ sym c.place_of.ensures ∙ c.in-None.is))

pub returns-in-None-clause-left : goal.returns-in-None-clause-left
returns-in-None-clause-left c =
    sym (none_left c.args.kind c.args.listed.now.items
    (ap (λ (xs : List (OpKind × When)). position (is_listed_kind c.args.kind) xs) (sym c.as_slice.ensures.value) ∙ sym c.place_of.ensures ∙ c.in-None.is))
