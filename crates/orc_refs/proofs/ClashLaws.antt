-- Where services clash, and with whom.
use Rattle.std.proofs.Common.{◌≡◌, ◌≢◌, ◌⊎◌, inl, inr, ⊎_elim, ℕ, Bool, true, false, cond, not, ◌&&◌, ◌||◌, List, [], ◌∷◌, ◌++◌, Some, None, refl, sym, ap, subst, ◌∙◌, is_some}
use Rattle.std.specs.declared.option.Option.{Option}
use Rattle.std.specs.declared.cmp.Ordering.{Ordering}
use Rattle.std.specs.declared.cmp.Ordering.TheVariants.{Less, Equal, Greater}
use Rattle.std.specs.Ordering.{is_lt, ordering_reverse}
use Rattle.std.specs.Cmp.{first_so, second_so, tied_itself}
use Rattle.std.specs.Cmp.Lexicographic.{bytes_decides, nat_list_cmp_total}
use Rattle.std.specs.FinMap.{get}
use Rattle.std.proofs.lemmas.Bool.{false≢true, both_ways, cond-true, cond-false, or_left, or_right}
use Rattle.std.proofs.lemmas.Option.{none-some, same_Some}
use Rattle.orc_path.specs.Steps.{PathStep}
use Rattle.orc_path.specs.Order.{path_cmp, text_cmp}
use Rattle.orc_path.specs.Configurations.{Config}
use Rattle.orc_path.specs.declared.item.Item.{Item}
use Rattle.orc_tree.proofs.Pieces.{lt_is}
use Rattle.orc_change.specs.Differences.{has_item}
use Rattle.orc_change.proofs.Exact.{has_item_is, has_itself}
use Rattle.orc_refs.specs.Ids.{is_id, holds_id, comes_before, are_rising}
use Rattle.orc_refs.specs.Stores.{Store, IsStore, ids_at, written_by}
use Rattle.orc_refs.specs.Moves.{put_at, is_moved, are_distinct, writes_after}
use Rattle.orc_refs.specs.Clashes.{are_unequal, HasRival, AreUnrivalled, ClashesAt}
use Rattle.orc_refs.specs.inside.Settling.{staying, ids_after, first_brought, all_bring}
use Rattle.orc_refs.specs.inside.Rivals.{lesser, lesser_rival, least_brought, first_id, least_staying, least_rival, rival_of}
use Rattle.orc_refs.specs.declared.moves.Move.{Move}
use Rattle.orc_refs.proofs.IdsLaws.{same_id, rising-filter, holds_id-filter, both}
use Rattle.orc_refs.proofs.PathLaws.{distinct_rest, moved_none, written_settled}
use Rattle.orc_refs.proofs.StoreLaws.{after}

abbrev pub Writes : Type 0
Writes = List ℕ → List PathStep → Option Item

-- Unequal items

unequal_none : (o : Option Item) → are_unequal o None ≡ false
unequal_none None = refl
unequal_none (Some item) = refl

unequal_same : (o : Option Item) → are_unequal o o ≡ false
unequal_same None = refl
unequal_same (Some item) = ap not (has_itself item)

off : (b : Bool) → not b ≡ true → b ≡ false
off true h = absurd (false≢true h)
off false h = refl

-- what isn't this item isn't it the other way round either
turned_item : (a b : Item) → has_item (Some a) b ≡ false → has_item (Some b) a ≡ false
turned_item a b h = on (has_item (Some b) a) refl
  where
    on : (t : Bool) → has_item (Some b) a ≡ t → has_item (Some b) a ≡ false
    on false k = k
    on true k = absurd (both_ways (has_item (Some a) b) h (ap (λ (o : Option Item). has_item o b) (sym (has_item_is (Some b) a k)) ∙ has_itself b))

-- an unequal item isn't there
unequal_here : (item : Item) (here : Option Item) → are_unequal (Some item) here ≡ true → has_item here item ≡ false
unequal_here item None h = refl
unequal_here item (Some other) h = turned_item item other (off (has_item (Some item) other) h)

here_unequal : (item : Item) (here : Option Item) → is_some here ≡ true → has_item here item ≡ false → are_unequal (Some item) here ≡ true
here_unequal item None some h = absurd (false≢true some)
here_unequal item (Some other) some h = ap not (turned_item other item h)

-- None has a rival

-- where each service writes this or nothing none has a rival
unrivalled_where : (w : Writes) (p : List PathStep) (o : Option Item) → ((id : List ℕ) → (w id p ≡ None) ⊎ (w id p ≡ o)) → (ms : List Move) → AreUnrivalled w p ms
unrivalled_where w p o each [] = tt
unrivalled_where w p o each (m ∷ ms) =
    ((λ (rival : HasRival w p m.service). false≢true (sym (never m.service rival.0) ∙ rival.1)), unrivalled_where w p o each ms)
  where
    with_other : (a b : List ℕ) → (w b p ≡ None) ⊎ (w b p ≡ o) → w a p ≡ o → are_unequal (w a p) (w b p) ≡ false
    with_other a b (inl none) here = ap (are_unequal (w a p)) none ∙ unequal_none (w a p)
    with_other a b (inr same) here = ap (are_unequal (w a p)) same ∙ ap (λ (x : Option Item). are_unequal x o) here ∙ unequal_same o

    never : (a b : List ℕ) → are_unequal (w a p) (w b p) ≡ false
    never a b = ⊎_elim (λ (none : w a p ≡ None). ap (λ (x : Option Item). are_unequal x (w b p)) none) (λ (same : w a p ≡ o). with_other a b (each b) same) (each a)

-- nor where those that move write nothing
unrivalled_none : (w : Writes) (p : List PathStep) (ms : List Move) → ((id : List ℕ) → is_moved ms id ≡ true → w id p ≡ None) → AreUnrivalled w p ms
unrivalled_none w p [] none = tt
unrivalled_none w p (m ∷ ms) none = (
  (λ (rival : HasRival w p m.service). false≢true (ap (λ (x : Option Item). are_unequal x (w rival.0 p)) (sym (none m.service (or_left _ _ ((bytes_decides m.service m.service).1 refl)))) ∙ rival.1)),
  unrivalled_none w p ms (λ id h. none id (or_right (is_id m.service id) _ h)),
)

writes_same : (ms : List Move) (f g : Writes) (id : List ℕ) (p : List PathStep) → f id p ≡ g id p → writes_after ms f id p ≡ writes_after ms g id p
writes_same [] f g id p e = e
writes_same (m ∷ ms) f g id p e = ap (cond (is_id m.service id) (put_at m.new p)) (writes_same ms f g id p e)

-- where all that write a path agree, each writes what is to stand there or nothing
agreed : (s : Store) (base : Config) (ms : List Move) (q : List PathStep) → are_distinct ms ≡ true → all_bring ms q (after s base ms q) ≡ true
    → (id : List ℕ) → (writes_after ms (written_by s) id q ≡ None) ⊎ (writes_after ms (written_by s) id q ≡ after s base ms q)
agreed s base ms q distinct agree id = on (holds_id id (ids_after ms q (ids_at s q))) is
  where
    is : cond (holds_id id (ids_after ms q (ids_at s q))) (after s base ms q) None ≡ writes_after ms (written_by s) id q
    is =
        written_settled ms id q (ids_at s q) (get s.tree q) (get base q) distinct agree
        ∙ writes_same ms (λ i r. cond (holds_id i (ids_at s q)) (get s.tree q) None) (written_by s) id q refl

    on : (t : Bool) → cond t (after s base ms q) None ≡ writes_after ms (written_by s) id q
        → (writes_after ms (written_by s) id q ≡ None) ⊎ (writes_after ms (written_by s) id q ≡ after s base ms q)
    on true e = inr (sym e)
    on false e = inl (sym e)

-- The least of ids

-- the id found isn't greater than this one
abbrev AtMost : Option (List ℕ) → List ℕ → Type 0
AtMost None id = ⊥
AtMost (Some least) id = text_cmp least id ≢ Greater

less≢greater : (a b : List ℕ) → text_cmp a b ≡ Less → text_cmp a b ≢ Greater
less≢greater a b l g = (let not_so : ⊥ = cc in not_so)

equal≢greater : (a b : List ℕ) → text_cmp a b ≡ Equal → text_cmp a b ≢ Greater
equal≢greater a b e g = (let not_so : ⊥ = cc in not_so)

itself : (id : List ℕ) → text_cmp id id ≢ Greater
itself id = equal≢greater id id (tied_itself nat_list_cmp_total id)

not_less : (a b : List ℕ) → is_lt (text_cmp b a) ≡ false → text_cmp a b ≢ Greater
not_less a b h g = both_ways (is_lt (text_cmp b a)) h (ap is_lt (nat_list_cmp_total.antisymm b a ∙ ap ordering_reverse g))

lesser_here : (l : Option (List ℕ)) (id : List ℕ) → AtMost (lesser l id) id
lesser_here None id = itself id
lesser_here (Some least) id = on (is_lt (text_cmp id least)) refl
  where
    on : (t : Bool) → is_lt (text_cmp id least) ≡ t → AtMost (cond t (Some id) (Some least)) id
    on true e = itself id
    on false e = not_less least id e

lesser_keeps : (l : Option (List ℕ)) (id x : List ℕ) → AtMost l x → AtMost (lesser l id) x
lesser_keeps None id x h = absurd h
lesser_keeps (Some least) id x h = on (is_lt (text_cmp id least)) refl
  where
    below : text_cmp id least ≡ Less → (o : Ordering) → text_cmp least x ≡ o → text_cmp id x ≢ Greater
    below l Less e = less≢greater id x (nat_list_cmp_total.trans id least x l e)
    below l Equal e = less≢greater id x (ap (text_cmp id) (sym (same_id least x e)) ∙ l)
    below l Greater e = absurd (h e)

    on : (t : Bool) → is_lt (text_cmp id least) ≡ t → AtMost (cond t (Some id) (Some least)) x
    on true e = below (lt_is (text_cmp id least) e) (text_cmp least x) refl
    on false e = h

rival_keeps : (o : Option Item) (item : Item) (l : Option (List ℕ)) (id x : List ℕ) → AtMost l x → AtMost (lesser_rival o item l id) x
rival_keeps None item l id x h = h
rival_keeps (Some other) item l id x h = on (has_item (Some item) other)
  where
    on : (t : Bool) → AtMost (cond t l (lesser l id)) x
    on true = h
    on false = lesser_keeps l id x h

rival_here : (o : Option Item) (item : Item) (l : Option (List ℕ)) (id : List ℕ) → are_unequal (Some item) o ≡ true → AtMost (lesser_rival o item l id) id
rival_here None item l id h = absurd (false≢true h)
rival_here (Some other) item l id h = subst (λ t. AtMost (cond t l (lesser l id)) id) (sym (off (has_item (Some item) other) h)) (lesser_here l id)

brought_keeps : (ms : List Move) (p : List PathStep) (item : Item) (l : Option (List ℕ)) (x : List ℕ) → AtMost l x → AtMost (least_brought ms p item l) x
brought_keeps [] p item l x h = h
brought_keeps (m ∷ ms) p item l x h = brought_keeps ms p item (lesser_rival (put_at m.new p) item l m.service) x (rival_keeps (put_at m.new p) item l m.service x h)

-- the least is at most each that a move brings another item for
brought_all : (ms : List Move) (p : List PathStep) (item : Item) (l : Option (List ℕ)) (live : Writes) (id : List ℕ) → is_moved ms id ≡ true
    → are_unequal (Some item) (writes_after ms live id p) ≡ true → AtMost (least_brought ms p item l) id
brought_all [] p item l live id h u = absurd (false≢true h)
brought_all (m ∷ ms) p item l live id h u =
    by (λ g v. brought_all ms p item (lesser_rival (put_at m.new p) item l m.service) live id g v) (is_id m.service id) refl h u
  where
    next : Option (List ℕ)
    next = lesser_rival (put_at m.new p) item l m.service

    by : (is_moved ms id ≡ true → are_unequal (Some item) (writes_after ms live id p) ≡ true → AtMost (least_brought ms p item next) id) → (t : Bool) → is_id m.service id ≡ t
        → (t || is_moved ms id) ≡ true → are_unequal (Some item) (cond t (put_at m.new p) (writes_after ms live id p)) ≡ true → AtMost (least_brought ms p item next) id
    by rest true e g v = brought_keeps ms p item next id (subst (AtMost next) ((bytes_decides m.service id).0 e) (rival_here (put_at m.new p) item l m.service v))
    by rest false e g v = rest g v

pub before_holds : (x id : List ℕ) (xs : List (List ℕ)) → comes_before x xs ≡ true → holds_id id xs ≡ true → text_cmp x id ≡ Less
before_holds x id [] b h = absurd (false≢true h)
before_holds x id (y ∷ ys) b h = on (λ g. before_holds x id ys (second_so _ _ b) g) (is_id y id) refl h
  where
    on : (holds_id id ys ≡ true → text_cmp x id ≡ Less) → (t : Bool) → is_id y id ≡ t → (t || holds_id id ys) ≡ true → text_cmp x id ≡ Less
    on rest true e g = subst (λ (z : List ℕ). text_cmp x z ≡ Less) ((bytes_decides y id).0 e) (lt_is (text_cmp x y) (first_so _ _ b))
    on rest false e g = rest g

-- the first of ids in order is the least
first_least : (xs : List (List ℕ)) (id : List ℕ) → are_rising xs ≡ true → holds_id id xs ≡ true → AtMost (first_id xs) id
first_least [] id r h = absurd (false≢true h)
first_least (x ∷ xs) id r h = on (is_id x id) refl h
  where
    on : (t : Bool) → is_id x id ≡ t → (t || holds_id id xs) ≡ true → text_cmp x id ≢ Greater
    on true e g = subst (λ (z : List ℕ). text_cmp x z ≢ Greater) ((bytes_decides x id).0 e) (itself x)
    on false e g = less≢greater x id (before_holds x id xs (first_so _ _ r) g)

staying_all : (ms : List Move) (ids : List (List ℕ)) (here : Option Item) (item : Item) (id : List ℕ) → are_rising ids ≡ true → is_moved ms id ≡ false
    → are_unequal (Some item) (cond (holds_id id ids) here None) ≡ true → AtMost (least_staying ms ids here item) id
staying_all ms ids here item id rising free u = on (holds_id id ids) refl u
  where
    on : (t : Bool) → holds_id id ids ≡ t → are_unequal (Some item) (cond t here None) ≡ true → AtMost (least_staying ms ids here item) id
    on false e v = absurd (false≢true v)
    on true e v =
        subst (λ t. AtMost (cond t None (first_id (staying ms ids))) id) (sym (unequal_here item here v))
        (first_least (staying ms ids) id (rising-filter (λ x. not (is_moved ms x)) ids rising) (holds_id-filter (λ x. not (is_moved ms x)) id ids ∙ both _ _ (ap not free) e))

-- Where the least is from

lesser_from : (l : Option (List ℕ)) (id r : List ℕ) → lesser l id ≡ Some r → (l ≡ Some r) ⊎ (id ≡ r)
lesser_from None id r h = inr (same_Some _ _ h)
lesser_from (Some least) id r h = on (is_lt (text_cmp id least)) h
  where
    on : (t : Bool) → cond t (Some id) (Some least) ≡ Some r → (◌≡◌ {A = Option (List ℕ)} (Some least) (Some r)) ⊎ (id ≡ r)
    on true g = inr (same_Some _ _ g)
    on false g = inl g

rival_from : (o : Option Item) (item : Item) (l : Option (List ℕ)) (id r : List ℕ) → lesser_rival o item l id ≡ Some r → (l ≡ Some r) ⊎ ((id ≡ r) × (are_unequal (Some item) o ≡ true))
rival_from None item l id r h = inl h
rival_from (Some other) item l id r h = on (has_item (Some item) other) refl h
  where
    on : (t : Bool) → has_item (Some item) other ≡ t → cond t l (lesser l id) ≡ Some r → (l ≡ Some r) ⊎ ((id ≡ r) × (not (has_item (Some item) other) ≡ true))
    on true e g = inl g
    on false e g = ⊎_elim (λ (k : l ≡ Some r). inl k) (λ (k : id ≡ r). inr (k, ap not e)) (lesser_from l id r g)

brought_from : (ms : List Move) (p : List PathStep) (item : Item) (l : Option (List ℕ)) (live : Writes) (r : List ℕ) → are_distinct ms ≡ true → least_brought ms p item l ≡ Some r
    → (l ≡ Some r) ⊎ ((is_moved ms r ≡ true) × (are_unequal (Some item) (writes_after ms live r p) ≡ true))
brought_from [] p item l live r d h = inl h
brought_from (m ∷ ms) p item l live r d h =
    ⊎_elim from_here later (brought_from ms p item (lesser_rival (put_at m.new p) item l m.service) live r (distinct_rest m ms d).1 h)
  where
    from_here : lesser_rival (put_at m.new p) item l m.service ≡ Some r → (l ≡ Some r) ⊎ ((is_moved (m ∷ ms) r ≡ true) × (are_unequal (Some item) (writes_after (m ∷ ms) live r p) ≡ true))
    from_here k = ⊎_elim
        (λ (e : l ≡ Some r). inl e)
        (λ (e : (m.service ≡ r) × (are_unequal (Some item) (put_at m.new p) ≡ true)).
        let same : is_id m.service r ≡ true = (bytes_decides m.service r).1 e.0 in
        inr (or_left _ _ same, ap (are_unequal (Some item)) (cond-true _ _ _ same) ∙ e.1))
        (rival_from (put_at m.new p) item l m.service r k)

    later : (is_moved ms r ≡ true) × (are_unequal (Some item) (writes_after ms live r p) ≡ true) → (l ≡ Some r) ⊎ ((is_moved (m ∷ ms) r ≡ true) × (are_unequal (Some item) (writes_after (m ∷ ms) live r p) ≡ true))
    later e = on (is_id m.service r) refl
      where
        on : (t : Bool) → is_id m.service r ≡ t → (l ≡ Some r) ⊎ ((is_moved (m ∷ ms) r ≡ true) × (are_unequal (Some item) (writes_after (m ∷ ms) live r p) ≡ true))
        on true k = absurd (both_ways (is_moved ms r) (subst (λ (x : List ℕ). is_moved ms x ≡ false) ((bytes_decides m.service r).0 k) (distinct_rest m ms d).0) e.0)
        on false k = inr (or_right (is_id m.service r) _ e.0, ap (are_unequal (Some item)) (cond-false _ _ _ k) ∙ e.1)

first_in : (xs : List (List ℕ)) (r : List ℕ) → first_id xs ≡ Some r → holds_id r xs ≡ true
first_in [] r h = absurd (none-some r h)
first_in (x ∷ xs) r h = or_left _ _ ((bytes_decides x r).1 (same_Some _ _ h))

staying_from : (ms : List Move) (ids : List (List ℕ)) (here : Option Item) (item : Item) (r : List ℕ) → least_staying ms ids here item ≡ Some r
    → (has_item here item ≡ false) × ((is_moved ms r ≡ false) × (holds_id r ids ≡ true))
staying_from ms ids here item r h = on (has_item here item) refl h
  where
    on : (t : Bool) → has_item here item ≡ t → ◌≡◌ {A = Option (List ℕ)} (cond t None (first_id (staying ms ids))) (Some r) → (has_item here item ≡ false) × ((is_moved ms r ≡ false) × (holds_id r ids ≡ true))
    on true e g = absurd (none-some r g)
    on false e g =
        let is : (not (is_moved ms r) && holds_id r ids) ≡ true = sym (holds_id-filter (λ x. not (is_moved ms x)) r ids) ∙ first_in (staying ms ids) r g in
        (e, (off (is_moved ms r) (first_so _ _ is), second_so _ _ is))

-- The first move that brings an item

record IsFirst (ms : List Move) (p : List PathStep) (item : Item) : Type 0 where
  front : List Move
  mover : Move
  back : List Move
  parts : ms ≡ front ++ mover ∷ back
  none : (live : Writes) (id : List ℕ) → is_moved front id ≡ true → writes_after (front ++ mover ∷ back) live id p ≡ None
  brings : put_at mover.new p ≡ Some item

first_split : (ms : List Move) (p : List PathStep) (item : Item) → first_brought ms p ≡ Some item → IsFirst ms p item
first_split [] p item h = absurd (none-some item h)
first_split (m ∷ ms) p item h = by (λ g. first_split ms p item g) (put_at m.new p) refl h
  where
    by : (first_brought ms p ≡ Some item → IsFirst ms p item) → (o : Option Item) → put_at m.new p ≡ o → elim o [ None ↦ first_brought ms p | Some x ↦ Some x ] ≡ Some item → IsFirst (m ∷ ms) p item
    by rest (Some x) e g = record { front = []; mover = m; back = ms; parts = refl; none = λ live id k. absurd (false≢true k); brings = e ∙ g }
    by rest None e g = further (rest g)
      where
        further : IsFirst ms p item → IsFirst (m ∷ ms) p item
        further r = record {
          front = m ∷ r.front;
          mover = r.mover;
          back = r.back;
          parts = ap (λ (l : List Move). m ∷ l) r.parts;
          none = λ live id k. none_of live id (is_id m.service id) k;
          brings = r.brings;
        }
          where
            none_of : (live : Writes) (id : List ℕ) (t : Bool) → (t || is_moved r.front id) ≡ true → cond t (put_at m.new p) (writes_after (r.front ++ r.mover ∷ r.back) live id p) ≡ None
            none_of live id true k = e
            none_of live id false k = r.none live id k

moved_here : (fs : List Move) (m : Move) (back : List Move) → is_moved (fs ++ m ∷ back) m.service ≡ true
moved_here [] m back = or_left _ _ ((bytes_decides m.service m.service).1 refl)
moved_here (f ∷ fs) m back = or_right (is_id f.service m.service) _ (moved_here fs m back)

mover_writes : (fs : List Move) (m : Move) (back : List Move) (live : Writes) (p : List PathStep) → are_distinct (fs ++ m ∷ back) ≡ true
    → writes_after (fs ++ m ∷ back) live m.service p ≡ put_at m.new p
mover_writes [] m back live p d = cond-true _ _ _ ((bytes_decides m.service m.service).1 refl)
mover_writes (f ∷ fs) m back live p d = on (mover_writes fs m back live p (distinct_rest f (fs ++ m ∷ back) d).1) (is_id f.service m.service) refl
  where
    on : writes_after (fs ++ m ∷ back) live m.service p ≡ put_at m.new p → (t : Bool) → is_id f.service m.service ≡ t
        → cond (is_id f.service m.service) (put_at f.new p) (writes_after (fs ++ m ∷ back) live m.service p) ≡ put_at m.new p
    on rest true e =
        absurd (both_ways (is_moved (fs ++ m ∷ back) m.service)
        (subst (λ (x : List ℕ). is_moved (fs ++ m ∷ back) x ≡ false) ((bytes_decides f.service m.service).0 e) (distinct_rest f (fs ++ m ∷ back) d).0) (moved_here fs m back))
    on rest false e = cond-false _ _ _ e ∙ rest

-- The clash

pub clash_is : (s : Store) (base : Config) (ms : List Move) (p : List PathStep) (other : List ℕ) → IsStore s → are_distinct ms ≡ true
    → rival_of ms p (ids_at s p) (get s.tree p) ≡ Some other → ((q : List PathStep) → path_cmp q p ≡ Less → all_bring ms q (after s base ms q) ≡ true)
    → ClashesAt (writes_after ms (written_by s)) ms p other
clash_is s base ms p other is distinct rival before = on (first_brought ms p) refl rival
  where
    on : (o : Option Item) → first_brought ms p ≡ o → least_rival ms p (ids_at s p) (get s.tree p) o ≡ Some other → ClashesAt (writes_after ms (written_by s)) ms p other
    on None e h = absurd (none-some other h)
    on (Some item) e h = found (first_split ms p item e)
      where
        stays : (id : List ℕ) → is_moved ms id ≡ false → writes_after ms (written_by s) id p ≡ written_by s id p
        stays id free = moved_none ms (written_by s) id p free

        bad_other : are_unequal (Some item) (writes_after ms (written_by s) other p) ≡ true
        bad_other = ⊎_elim
            (λ (k : least_staying ms (ids_at s p) (get s.tree p) item ≡ Some other).
            let from = staying_from ms (ids_at s p) (get s.tree p) item other k in
            let some : ids_at s p ≢ [] = λ nothing. false≢true (sym (ap (holds_id other) nothing) ∙ from.1.1) in
            ap (are_unequal (Some item)) (stays other from.1.0 ∙ cond-true _ _ _ from.1.1) ∙ here_unequal item (get s.tree p) (is.covered p some) from.0)
            (λ (k : (is_moved ms other ≡ true) × (are_unequal (Some item) (writes_after ms (written_by s) other p) ≡ true)). k.1)
            (brought_from ms p item (least_staying ms (ids_at s p) (get s.tree p) item) (written_by s) other distinct h)

        least : (id : List ℕ) → are_unequal (Some item) (writes_after ms (written_by s) id p) ≡ true → text_cmp other id ≢ Greater
        least id u = subst (λ (o : Option (List ℕ)). AtMost o id) h (by (is_moved ms id) refl)
          where
            by : (t : Bool) → is_moved ms id ≡ t → AtMost (least_brought ms p item (least_staying ms (ids_at s p) (get s.tree p) item)) id
            by true k = brought_all ms p item (least_staying ms (ids_at s p) (get s.tree p) item) (written_by s) id k u
            by false k =
                brought_keeps ms p item (least_staying ms (ids_at s p) (get s.tree p) item) id
                (staying_all ms (ids_at s p) (get s.tree p) item id (is.rising p) k (ap (are_unequal (Some item)) (sym (stays id k)) ∙ u))

        found : IsFirst ms p item → ClashesAt (writes_after ms (written_by s)) ms p other
        found first = record {
          front = first.front;
          mover = first.mover;
          back = first.back;
          parts = first.parts;
          first = unrivalled_none (writes_after ms (written_by s)) p first.front (λ id k. ap (λ (l : List Move). writes_after l (written_by s) id p) first.parts ∙ first.none (written_by s) id k);
          unequal = ap (λ (x : Option Item). are_unequal x (writes_after ms (written_by s) other p)) mover_is ∙ bad_other;
          least = λ id u. least id (ap (λ (x : Option Item). are_unequal x (writes_after ms (written_by s) id p)) (sym mover_is) ∙ u);
          before = λ q less. unrivalled_where (writes_after ms (written_by s)) q (after s base ms q) (agreed s base ms q distinct (before q less)) ms;
        }
          where
            mover_is : writes_after ms (written_by s) first.mover.service p ≡ Some item
            mover_is =
                ap (λ (l : List Move). writes_after l (written_by s) first.mover.service p) first.parts
                ∙ mover_writes first.front first.mover first.back (written_by s) p (subst (λ (l : List Move). are_distinct l ≡ true) first.parts distinct)
                ∙ first.brings
