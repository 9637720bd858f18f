-- The fault of a template is the first of all its faults, and these are in order.
use Rattle.std.proofs.Common.{◌≡◌, ℕ, ◌+◌, ◌<◌, ◌≤◌, Bool, true, false, cond, List, [], ◌∷◌, ◌++◌, Option, Some, None, codes, refl, sym, ap, ◌∙◌, subst, arith}
use Rattle.std.specs.Option.{option_or}
use Rattle.serde_json.specs.Data.{Data}
use Rattle.orc_path.specs.Steps.{PathStep}
use Rattle.orc_template.specs.Blocks.{Blocks, no_block, block, block_count, blocks_inside, text_of_member}
use Rattle.orc_template.specs.Templates.{Site, is_block, block_node, block_resolves, node_fault, block_fault, blocks_fault, is_template}
use Rattle.orc_template.specs.LeastFaults.{fault_block, fault_rule, is_less_fault, member_faults, expression_faults, inner_faults, own_faults, faults_of_blocks, AreNotLess, IsLeastFault, HasLeastFault, LeastFaultIsNamed}
use Rattle.orc_template.specs.declared.fault.TemplateFault.{TemplateFault}
use Rattle.orc_template.specs.declared.fault.TemplateFault.TheVariants.{BadMember, BadExpr}

-- The first -----------------------------------------------------------------------------------------------------------

abbrev head : List TemplateFault → Option TemplateFault
head [] = None
head (f ∷ fs) = Some f

head_append : (xs ys : List TemplateFault) → head (xs ++ ys) ≡ option_or (head xs) (head ys)
head_append [] ys = refl
head_append (x ∷ xs) ys = refl

module _ (place : Site) (n : ℕ) (d : Data) (one : Site → Option TemplateFault) (all : Site → List TemplateFault) (same : (at : Site) → one at ≡ head (all at)) where
  node_head : (node : Option (List PathStep)) → node_fault place n d one node ≡ head (expression_faults place n d node ++ inner_faults place all node)
  node_head None = refl
  node_head (Some node) = on (block_resolves (record place { node = node }) d)
    where
      on : (t : Bool) → cond t (one (record place { node = node })) (Some (BadExpr n)) ≡ head (cond t [] (BadExpr n ∷ []) ++ all (record place { node = node }))
      on true = same (record place { node = node })
      on false = refl

  block_head : block_fault place n d one ≡ head (own_faults place n d ++ inner_faults place all (block_node place (text_of_member (codes "for") d)))
  block_head = on (is_block d)
    where
      node : Option (List PathStep)
      node = block_node place (text_of_member (codes "for") d)

      on : (t : Bool) → cond t (node_fault place n d one node) (Some (BadMember n)) ≡ head ((cond t [] (BadMember n ∷ []) ++ expression_faults place n d node) ++ inner_faults place all node)
      on true = node_head node
      on false = refl

blocks_head : (blocks : Blocks) (place : Site) (n : ℕ) → blocks_fault place n blocks ≡ head (faults_of_blocks place n blocks)
blocks_head no_block place n = refl
blocks_head (block d inner later) place n =
    let here = block_head place n d (λ at. blocks_fault at (n + 1) inner) (λ at. faults_of_blocks at (n + 1) inner) (λ at. blocks_head inner at (n + 1)) in
    ap (λ x. option_or x (blocks_fault place (n + 1 + block_count inner) later)) here
    ∙ ap (option_or (head (own_faults place n d ++ inner_faults place (λ at. faults_of_blocks at (n + 1) inner) (block_node place (text_of_member (codes "for") d)))))
    (blocks_head later place (n + 1 + block_count inner))
    ∙ sym (head_append (own_faults place n d ++ inner_faults place (λ at. faults_of_blocks at (n + 1) inner) (block_node place (text_of_member (codes "for") d)))
    (faults_of_blocks place (n + 1 + block_count inner) later))

-- In order ------------------------------------------------------------------------------------------------------------

-- faults of blocks from a number on, up to another
abbrev Between : ℕ → ℕ → List TemplateFault → Type 0
Between first end [] = Unit {0}
Between first end (f ∷ fs) = (first ≤ fault_block f) × (fault_block f < end) × Between first end fs

between_append : (first end : ℕ) (xs ys : List TemplateFault) → Between first end xs → Between first end ys → Between first end (xs ++ ys)
between_append first end [] ys h k = k
between_append first end (x ∷ xs) ys h k = (h.0, h.1, between_append first end xs ys h.2 k)

member_between : (first end n : ℕ) (d : Data) → first ≤ n → n < end → Between first end (member_faults n d)
member_between first end n d from to = on (is_block d)
  where
    on : (t : Bool) → Between first end (cond t [] (BadMember n ∷ []))
    on true = tt
    on false = (from, to, tt)

expression_between : (first end : ℕ) (place : Site) (n : ℕ) (d : Data) (node : Option (List PathStep)) → first ≤ n → n < end → Between first end (expression_faults place n d node)
expression_between first end place n d None from to = (from, to, tt)
expression_between first end place n d (Some node) from to = on (block_resolves (record place { node = node }) d)
  where
    on : (t : Bool) → Between first end (cond t [] (BadExpr n ∷ []))
    on true = tt
    on false = (from, to, tt)

own_between : (first end : ℕ) (place : Site) (n : ℕ) (d : Data) → first ≤ n → n < end → Between first end (own_faults place n d)
own_between first end place n d from to =
    between_append first end (member_faults n d) (expression_faults place n d (block_node place (text_of_member (codes "for") d)))
    (member_between first end n d from to) (expression_between first end place n d (block_node place (text_of_member (codes "for") d)) from to)

inner_between : (first end : ℕ) (place : Site) (inside : Site → List TemplateFault) → ((at : Site) → Between first end (inside at)) → (node : Option (List PathStep)) → Between first end (inner_faults place inside node)
inner_between first end place inside h None = tt
inner_between first end place inside h (Some node) = h (record place { node = node })

blocks_between : (first end : ℕ) (blocks : Blocks) (place : Site) (n : ℕ) → first ≤ n → n + block_count blocks ≤ end → Between first end (faults_of_blocks place n blocks)
blocks_between first end no_block place n from to = tt
blocks_between first end (block d inner later) place n from to =
    between_append first end (own_faults place n d ++ inner_faults place (λ at. faults_of_blocks at (n + 1) inner) (block_node place (text_of_member (codes "for") d)))
    (faults_of_blocks place (n + 1 + block_count inner) later)
    (between_append first end (own_faults place n d) (inner_faults place (λ at. faults_of_blocks at (n + 1) inner) (block_node place (text_of_member (codes "for") d)))
    (own_between first end place n d from (omega (arith, to)))
    (inner_between first end place (λ at. faults_of_blocks at (n + 1) inner) (λ at. blocks_between first end inner at (n + 1) (omega (arith, from)) (omega (arith, to))) (block_node place (text_of_member (codes "for") d))))
    (blocks_between first end later place (n + 1 + block_count inner) (omega (arith, from)) (omega (arith, to)))

-- a fault of a later block isn't before one of an earlier block
later_block : (f x : TemplateFault) → fault_block f < fault_block x → is_less_fault x f ≡ false
later_block f x h = grind arith

later_rule : (f x : TemplateFault) → fault_block f ≡ fault_block x → fault_rule f ≤ fault_rule x → is_less_fault x f ≡ false
later_rule f x h k = grind arith

-- the first comes before all others
abbrev Leads : List TemplateFault → Type 0
Leads [] = Unit {0}
Leads (f ∷ fs) = AreNotLess f (f ∷ fs)

not_less_append : (f : TemplateFault) (xs ys : List TemplateFault) → AreNotLess f xs → AreNotLess f ys → AreNotLess f (xs ++ ys)
not_less_append f [] ys h k = k
not_less_append f (x ∷ xs) ys h k = (h.0, not_less_append f xs ys h.1 k)

later_blocks : (f : TemplateFault) (first end : ℕ) (ys : List TemplateFault) → fault_block f < first → Between first end ys → AreNotLess f ys
later_blocks f first end [] below h = tt
later_blocks f first end (y ∷ ys) below h = (later_block f y (omega (arith, h.0)), later_blocks f first end ys below h.2)

leads_append : (first middle end : ℕ) (xs ys : List TemplateFault) → Between first middle xs → Between middle end ys → Leads xs → Leads ys → Leads (xs ++ ys)
leads_append first middle end [] ys b c h k = k
leads_append first middle end (x ∷ xs) ys b c h k = not_less_append x (x ∷ xs) ys h (later_blocks x middle end ys b.1 c)

own_leads : (place : Site) (n : ℕ) (d : Data) → Leads (own_faults place n d)
own_leads place n d = on (is_block d) (block_node place (text_of_member (codes "for") d))
  where
    expressions : (members : Bool) (t : Bool) → Leads (cond members [] (BadMember n ∷ []) ++ cond t [] (BadExpr n ∷ []))
    expressions true true = tt
    expressions true false = (later_rule (BadExpr n) (BadExpr n) refl (omega arith), tt)
    expressions false true = (later_rule (BadMember n) (BadMember n) refl (omega arith), tt)
    expressions false false = (later_rule (BadMember n) (BadMember n) refl (omega arith), (later_rule (BadMember n) (BadExpr n) refl (omega arith), tt))

    on : (members : Bool) (node : Option (List PathStep)) → Leads (cond members [] (BadMember n ∷ []) ++ expression_faults place n d node)
    on members None = expressions members false
    on members (Some node) = expressions members (block_resolves (record place { node = node }) d)

inner_leads : (place : Site) (inside : Site → List TemplateFault) → ((at : Site) → Leads (inside at)) → (node : Option (List PathStep)) → Leads (inner_faults place inside node)
inner_leads place inside h None = tt
inner_leads place inside h (Some node) = h (record place { node = node })

blocks_lead : (blocks : Blocks) (place : Site) (n : ℕ) → Leads (faults_of_blocks place n blocks)
blocks_lead no_block place n = tt
blocks_lead (block d inner later) place n =
    leads_append n behind (behind + block_count later) (own_faults place n d ++ inside) (faults_of_blocks place behind later)
    (between_append n behind (own_faults place n d) inside (own_between n behind place n d (omega arith) (omega arith))
    (inner_between n behind place (λ at. faults_of_blocks at (n + 1) inner) (λ at. blocks_between n behind inner at (n + 1) (omega arith) (omega arith)) node))
    (blocks_between behind (behind + block_count later) later place behind (omega arith) (omega arith))
    (leads_append n (n + 1) behind (own_faults place n d) inside (own_between n (n + 1) place n d (omega arith) (omega arith))
    (inner_between (n + 1) behind place (λ at. faults_of_blocks at (n + 1) inner) (λ at. blocks_between (n + 1) behind inner at (n + 1) (omega arith) (omega arith)) node)
    (own_leads place n d) (inner_leads place (λ at. faults_of_blocks at (n + 1) inner) (λ at. blocks_lead inner at (n + 1)) node))
    (blocks_lead later place behind)
  where
    behind : ℕ
    behind = n + 1 + block_count inner

    node : Option (List PathStep)
    node = block_node place (text_of_member (codes "for") d)

    inside : List TemplateFault
    inside = inner_faults place (λ at. faults_of_blocks at (n + 1) inner) node

-- The least -----------------------------------------------------------------------------------------------------------

least_of : (all : List TemplateFault) (found : Option TemplateFault) → found ≡ head all → Leads all → HasLeastFault all found
least_of [] found is leads = record {
  some = λ fault h. let never : ⊥ = cc in absurd never;
  none = λ h. refl;
}
least_of (f ∷ fs) found is leads = record {
  some = λ fault h.
      let same : f ≡ fault = cc in
      subst (IsLeastFault (f ∷ fs)) same (record { front = []; back = fs; among = refl; least = leads });
  none = λ h. let never : ⊥ = cc in absurd never;
}

pub least_named : LeastFaultIsNamed
least_named place d = on (is_template d)
  where
    on : (t : Bool) → HasLeastFault (cond t (faults_of_blocks place 1 (blocks_inside d)) (BadMember 0 ∷ [])) (cond t (blocks_fault place 1 (blocks_inside d)) (Some (BadMember 0)))
    on true = least_of (faults_of_blocks place 1 (blocks_inside d)) (blocks_fault place 1 (blocks_inside d)) (blocks_head (blocks_inside d) place 1) (blocks_lead (blocks_inside d) place 1)
    on false = least_of (BadMember 0 ∷ []) (Some (BadMember 0)) refl (later_rule (BadMember 0) (BadMember 0) refl (omega arith), tt)
