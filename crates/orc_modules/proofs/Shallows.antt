-- Groupings of a block that are known to bring nothing.
use Rattle.std.proofs.Common.{◌≡◌, refl, sym, ◌∙◌, ap, subst, ℕ, suc, ◌≤◌, Bool, true, false, List, [], ◌∷◌, if◌then◌else◌}
use Rattle.std.specs.Prelude.{◌&&◌, ◌||◌, not, Option, Some, None, Result, Ok, Err, OnOk, is_some, codes, cond, nat_le, option_map, option_and_then}
use Rattle.std.specs.List.{list_any, list_all, find, position, before_first, after_first}
use Rattle.std.specs.Option.{option_map_or, option_or}
use Rattle.std.specs.Cmp.Lexicographic.{bytes_decides}
use Rattle.std.proofs.lemmas.Bool.{false≢true, le-leb}
use Rattle.std.proofs.lemmas.Option.{none-some, same_Some}
use Rattle.orc_value.specs.Canon.{same_text}
use Rattle.orc_yang.specs.declared.statement.Stmt.{Stmt}
use Rattle.orc_types.specs.Paths.{is_colon}
use Rattle.orc_types.specs.Statements.{subs, argument}
use Rattle.orc_modules.specs.declared.parts.Part.{Part}
use Rattle.orc_modules.specs.declared.parts.Part.TheVariants.{Node as node, Uses as uses, Nothing as nothing}
use Rattle.orc_modules.specs.Bare.{brings_in, brings_at, may_bring}
use Rattle.orc_modules.specs.Children.{block_part, grouping}
use Rattle.orc_modules.specs.Scopes.{Found, in_block_of, in_scope, behind_prefix, imported, is_own, outermost, module_around, meaning, plain_name}
use Rattle.orc_modules.specs.Statements.{defines, sub_text}
use Rattle.orc_modules.specs.inside.Beside.{beside, beside_brings, is_near}
use Rattle.orc_modules.specs.inside.Shallow.{AreShallow, is_at_most, is_shallow_use, is_shallow_part}
use Rattle.orc_modules.proofs.Barren.{first_of_and, rest_of_and, deep_too}

not_true : (b : Bool) → not b ≡ true → b ≡ false
not_true true h = sym h
not_true false h = refl

none_of : {X : Type 0} (o : Option X) → is_some o ≡ false → o ≡ None
none_of None h = refl
none_of (Some x) h = absurd (false≢true (sym h))

-- a definition of a block
abbrev at_block : Stmt → List Stmt → Stmt → Found
at_block s above d = record { above = s ∷ above; here = d }

-- the grouping that a `uses` of g names, where g has none of this name and its prefix is no other module's
names-beside : (modules above : List Stmt) (here g t h : Stmt) → is_near (sub_text (codes "prefix") (outermost here above)) (argument t) ≡ true
    → find (defines (codes "grouping") (plain_name (argument t))) (subs g) ≡ None → find (defines (codes "grouping") (plain_name (argument t))) (subs here) ≡ Some h
    → grouping modules (g ∷ here ∷ above) t ≡ Some (record { above = here ∷ above; here = h })
names-beside modules above here g t h near own is = on (is_some (position is_colon (argument t))) near own is
  where
    scoped : (q : List ℕ) → find (defines (codes "grouping") q) (subs g) ≡ None → find (defines (codes "grouping") q) (subs here) ≡ Some h
        → in_scope (codes "grouping") q (g ∷ here ∷ above) ≡ Some (at_block here above h)
    scoped q own is = ap (λ o. option_or (option_map (at_block g (here ∷ above)) o) (in_scope (codes "grouping") q (here ∷ above))) own
        ∙ ap (λ o. option_or (option_map (at_block here above) o) (in_scope (codes "grouping") q above)) is

    on : (b : Bool) → option_map_or (same_text (sub_text (codes "prefix") (outermost here above))) (if b then Some (before_first is_colon (argument t)) else None) true ≡ true
        → find (defines (codes "grouping") (if b then after_first is_colon (argument t) else argument t)) (subs g) ≡ None
        → find (defines (codes "grouping") (if b then after_first is_colon (argument t) else argument t)) (subs here) ≡ Some h
        → (if b then option_and_then (behind_prefix modules (codes "grouping") (before_first is_colon (argument t)) (after_first is_colon (argument t)) (g ∷ here ∷ above)) (module_around (g ∷ here ∷ above))
        else in_scope (codes "grouping") (argument t) (g ∷ here ∷ above)) ≡ Some (at_block here above h)
    on true near own is = ap (λ b. if b then in_scope (codes "grouping") (after_first is_colon (argument t)) (g ∷ here ∷ above)
        else option_and_then (λ other. in_block_of (codes "grouping") (after_first is_colon (argument t)) other []) (imported modules (before_first is_colon (argument t)) (outermost here above))) near
        ∙ scoped (after_first is_colon (argument t)) own is
    on false near own is = scoped (argument t) own is

module _ (here : Stmt) (depths : List ℕ → Option ℕ) (known : AreShallow here depths) (g : Stmt) (own : List ℕ → Option Stmt)
    (owns : (q : List ℕ) → own q ≡ find (defines (codes "grouping") q) (subs g)) (n : ℕ) (modules : List Stmt) where
  -- a grouping of the block, of which it is known
  beside-bare : (t : Stmt) (d : ℕ) (o : Option Stmt) → find (defines (codes "grouping") (plain_name (argument t))) (subs here) ≡ o
      → option_map_or (λ h. may_bring d modules (h ∷ here ∷ []) h) o true ≡ false → nat_le d n ≡ true
      → is_near (sub_text (codes "prefix") here) (argument t) ≡ true → find (defines (codes "grouping") (plain_name (argument t))) (subs g) ≡ None
      → option_map_or (brings_in (may_bring n modules)) (grouping modules (g ∷ here ∷ []) t) true ≡ false
  beside-bare t d None is bare le near none = absurd (false≢true (sym bare))
  beside-bare t d (Some h) is bare le near none = ap (λ o. option_map_or (brings_in (may_bring n modules)) o true) (names-beside modules [] here g t h near none is)
      ∙ deep_too modules d n (h ∷ here ∷ []) h le bare

  use-bare : (t : Stmt) → is_shallow_use (sub_text (codes "prefix") here) own depths n t ≡ true → option_map_or (brings_in (may_bring n modules)) (grouping modules (g ∷ here ∷ []) t) true ≡ false
  use-bare t is =
      let name : List ℕ = plain_name (argument t) in
      let one : Bool = is_near (sub_text (codes "prefix") here) (argument t) in
      let two : Bool = not (is_some (own name)) in
      let both : (one && two) ≡ true = first_of_and (one && two) (is_at_most n (depths name)) is in
      let none : find (defines (codes "grouping") name) (subs g) ≡ None = sym (owns name) ∙ none_of (own name) (not_true (is_some (own name)) (rest_of_and one two both)) in
      on (depths name) refl (first_of_and one two both) none (rest_of_and (one && two) (is_at_most n (depths name)) is)
    where
      on : (o : Option ℕ) → depths (plain_name (argument t)) ≡ o → is_near (sub_text (codes "prefix") here) (argument t) ≡ true
          → find (defines (codes "grouping") (plain_name (argument t))) (subs g) ≡ None
          → is_at_most n o ≡ true → option_map_or (brings_in (may_bring n modules)) (grouping modules (g ∷ here ∷ []) t) true ≡ false
      on None at near none le = absurd (false≢true le)
      on (Some d) at near none le = beside-bare t d (find (defines (codes "grouping") (plain_name (argument t))) (subs here)) refl (known (plain_name (argument t)) d at modules) le near none

  part-bare : (t : Stmt) (p : Part) → is_shallow_part (sub_text (codes "prefix") here) own depths n t p ≡ true → brings_at (may_bring n modules) modules (g ∷ here ∷ []) t p ≡ false
  part-bare t node is = absurd (false≢true is)
  part-bare t uses is = use-bare t is
  part-bare t nothing is = refl

  all-bare : (ss : List Stmt) → list_all (λ t. is_shallow_part (sub_text (codes "prefix") here) own depths n t (block_part t)) ss ≡ true
      → list_any (λ t. brings_at (may_bring n modules) modules (g ∷ here ∷ []) t (block_part t)) ss ≡ false
  all-bare [] is = refl
  all-bare (t ∷ ts) is =
      let one : Bool = is_shallow_part (sub_text (codes "prefix") here) own depths n t (block_part t) in
      let rest : Bool = list_all (λ u. is_shallow_part (sub_text (codes "prefix") here) own depths n u (block_part u)) ts in
      ap (λ b. b || list_any (λ u. brings_at (may_bring n modules) modules (g ∷ here ∷ []) u (block_part u)) ts) (part-bare t (block_part t) (first_of_and one rest is))
      ∙ all-bare ts (rest_of_and one rest is)

-- one grouping more of which it is known
pub known-more : (here g : Stmt) (old new : List ℕ → Option ℕ) (own : List ℕ → Option Stmt) (name : List ℕ) (n m : ℕ) → AreShallow here old
    → find (defines (codes "grouping") name) (subs here) ≡ Some g
    → ((q : List ℕ) → own q ≡ find (defines (codes "grouping") q) (subs g))
    → list_all (λ t. is_shallow_part (sub_text (codes "prefix") here) own old n t (block_part t)) (subs g) ≡ true → m ≡ suc n
    → ((q : List ℕ) → new q ≡ cond (same_text name q) (Some m) (old q)) → AreShallow here new
known-more here g old new own name n m known named owns all more puts = λ q d is modules. by q d is modules (same_text name q) refl
  where
    by : (q : List ℕ) (d : ℕ) → new q ≡ Some d → (modules : List Stmt) (b : Bool) → same_text name q ≡ b → beside_brings d modules (here ∷ []) q ≡ false
    by q d is modules false other = known q d (sym (puts q ∙ ap (λ b. cond b (Some m) (old q)) other) ∙ is) modules
    by q d is modules true same =
        let named_so : name ≡ q = (bytes_decides name q).0 same in
        let deep : m ≡ d = same_Some m d (sym (puts q ∙ ap (λ b. cond b (Some m) (old q)) same) ∙ is) in
        let there : find (defines (codes "grouping") q) (subs here) ≡ Some g = sym (ap (λ x. find (defines (codes "grouping") x) (subs here)) named_so) ∙ named in
        let depth : d ≡ suc n = sym deep ∙ more in
        ap (λ o. option_map_or (λ h. may_bring d modules (h ∷ here ∷ []) h) o true) there
        ∙ ap (λ k. may_bring k modules (g ∷ here ∷ []) g) depth
        ∙ all-bare here old known g own owns n modules (subs g) all

-- what follows of a clause at Ok
pub on_ok : {X E : Type 0} (P Q : Type 0) → (P → Q) → (r : Result X E) → OnOk r P → OnOk r Q
on_ok P Q follows (Ok x) h = follows h
on_ok P Q follows (Err e) h = h

-- What a `uses` names is the first of its name in its block.
module _ (name : List ℕ) where
  in_block-beside : (s : Stmt) (above : List Stmt) (g : Found) (o : Option Stmt) → find (defines (codes "grouping") name) (subs s) ≡ o
      → option_map (at_block s above) o ≡ Some g → beside g.above name ≡ Some g.here
  in_block-beside s above g None at is = absurd (none-some g is)
  in_block-beside s above g (Some d) at is = subst (λ f. beside f.above name ≡ Some f.here) (same_Some (at_block s above d) g is) at

  or_else : (o p : Option Found) (g : Found) → option_or o p ≡ Some g → (o ≡ Some g → beside g.above name ≡ Some g.here) → (p ≡ Some g → beside g.above name ≡ Some g.here)
      → beside g.above name ≡ Some g.here
  or_else None p g is first later = later is
  or_else (Some f) p g is first later = first is

  in_scope-beside : (above : List Stmt) (g : Found) → in_scope (codes "grouping") name above ≡ Some g → beside g.above name ≡ Some g.here
  in_scope-beside [] g is = absurd (none-some g is)
  in_scope-beside (s ∷ above) g is = or_else (in_block_of (codes "grouping") name s above) (in_scope (codes "grouping") name above) g is
      (in_block-beside s above g (find (defines (codes "grouping") name) (subs s)) refl) (in_scope-beside above g)

  imported-beside : (g : Found) (o : Option Stmt) → option_and_then (λ other. in_block_of (codes "grouping") name other []) o ≡ Some g → beside g.above name ≡ Some g.here
  imported-beside g None is = absurd (none-some g is)
  imported-beside g (Some other) is = in_block-beside other [] g (find (defines (codes "grouping") name) (subs other)) refl is

  prefixed-beside : (modules above : List Stmt) (prefix : List ℕ) (m : Stmt) (g : Found) → behind_prefix modules (codes "grouping") prefix name above m ≡ Some g → beside g.above name ≡ Some g.here
  prefixed-beside modules above prefix m g is = on (is_own prefix m) is
    where
      on : (b : Bool) → (if b then in_scope (codes "grouping") name above else option_and_then (λ other. in_block_of (codes "grouping") name other []) (imported modules prefix m)) ≡ Some g
          → beside g.above name ≡ Some g.here
      on true at = in_scope-beside above g at
      on false at = imported-beside g (imported modules prefix m) at

  around-beside : (modules above : List Stmt) (prefix : List ℕ) (o : Option Stmt) (g : Found) → option_and_then (behind_prefix modules (codes "grouping") prefix name above) o ≡ Some g → beside g.above name ≡ Some g.here
  around-beside modules above prefix None g is = absurd (none-some g is)
  around-beside modules above prefix (Some m) g is = prefixed-beside modules above prefix m g is

named-beside : (modules above : List Stmt) (text : List ℕ) (g : Found) → meaning modules (codes "grouping") text above ≡ Some g → beside g.above (plain_name text) ≡ Some g.here
named-beside modules above text g is = on (is_some (position is_colon text)) is
  where
    on : (b : Bool) → (if b then option_and_then (behind_prefix modules (codes "grouping") (before_first is_colon text) (after_first is_colon text) above) (module_around above)
        else in_scope (codes "grouping") text above) ≡ Some g → beside g.above (if b then after_first is_colon text else text) ≡ Some g.here
    on true at = around-beside (after_first is_colon text) modules above (before_first is_colon text) (module_around above) g at
    on false at = in_scope-beside text above g at

-- where it is known of the name, it is known of what is named
pub shallow-named : (n : ℕ) (modules above : List Stmt) (s : Stmt) (g : Found) → grouping modules above s ≡ Some g → beside_brings n modules g.above (plain_name (argument s)) ≡ false
    → may_bring n modules (g.here ∷ g.above) g.here ≡ false
shallow-named n modules above s g names bare = sym (ap (λ o. option_map_or (λ h. may_bring n modules (h ∷ g.above) h) o true) (named-beside modules above (argument s) g names)) ∙ bare

-- what is known through fewer groupings is known through more
pub beside-deeper : (modules above : List Stmt) (name : List ℕ) (d n : ℕ) → d ≤ n → beside_brings d modules above name ≡ false → beside_brings n modules above name ≡ false
beside-deeper modules above name d n le = on (beside above name)
  where
    on : (o : Option Stmt) → option_map_or (λ h. may_bring d modules (h ∷ above) h) o true ≡ false → option_map_or (λ h. may_bring n modules (h ∷ above) h) o true ≡ false
    on None h = h
    on (Some g) h = deep_too modules d n (g ∷ above) g (le-leb d n le) h

-- a `uses` whose grouping brings nothing
pub bare-named : (n : ℕ) (modules above : List Stmt) (s : Stmt) (g : Found) → grouping modules above s ≡ Some g → may_bring n modules (g.here ∷ g.above) g.here ≡ false
    → option_map_or (brings_in (may_bring n modules)) (grouping modules above s) false ≡ false
bare-named n modules above s g names bare = ap (λ o. option_map_or (brings_in (may_bring n modules)) o false) names ∙ bare
