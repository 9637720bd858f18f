-- The fault of a template is of its members or of its expressions.
use Rattle.std.proofs.Common.{◌≡◌, ℕ, ◌+◌, Bool, true, false, cond, List, codes, Option, Some, None, Err, is_some, refl, subst}
use Rattle.serde_json.specs.Data.{Data}
use Rattle.orc_path.specs.Steps.{PathStep}
use Rattle.orc_json.specs.Readings.{IsJson}
use Rattle.orc_template.specs.Blocks.{Blocks, no_block, block, block_count, blocks_inside, text_of_member}
use Rattle.orc_template.specs.Templates.{Site, is_block, block_resolves, block_node, node_fault, block_fault, blocks_fault, is_template, template_fault, ReadsTemplate}
use Rattle.std.specs.Option.{option_or}
use Rattle.orc_template.specs.declared.fault.TemplateFault.{TemplateFault}
use Rattle.orc_template.specs.declared.fault.TemplateFault.TheVariants.{NotJson, BadMember, BadExpr, Memory}

abbrev IsOwn : Option TemplateFault → Type 0
IsOwn None = Unit {0}
IsOwn (Some NotJson) = ⊥
IsOwn (Some (BadMember n)) = Unit {0}
IsOwn (Some (BadExpr n)) = Unit {0}
IsOwn (Some Memory) = Unit {0}

or_own : (one other : Option TemplateFault) → IsOwn one → IsOwn other → IsOwn (option_or one other)
or_own None other h k = k
or_own (Some f) other h k = h

either_own : (test : Bool) (one other : Option TemplateFault) → IsOwn one → IsOwn other → IsOwn (cond test one other)
either_own true one other h k = h
either_own false one other h k = k

node_own : (place : Site) (n : ℕ) (d : Data) (inside : Site → Option TemplateFault) → ((p : Site) → IsOwn (inside p)) → (node : Option (List PathStep)) → IsOwn (node_fault place n d inside node)
node_own place n d inside own None = tt
node_own place n d inside own (Some node) =
    either_own (block_resolves (record place { node = node }) d) (inside (record place { node = node })) (Some (BadExpr n)) (own (record place { node = node })) tt

blocks_own : (place : Site) (n : ℕ) (blocks : Blocks) → IsOwn (blocks_fault place n blocks)
blocks_own place n no_block = tt
blocks_own place n (block d inner later) =
    or_own (block_fault place n d (λ inside. blocks_fault inside (n + 1) inner)) (blocks_fault place (n + 1 + block_count inner) later)
    (either_own (is_block d) (node_fault place n d (λ inside. blocks_fault inside (n + 1) inner) (block_node place (text_of_member (codes "for") d))) (Some (BadMember n))
    (node_own place n d (λ inside. blocks_fault inside (n + 1) inner) (λ inside. blocks_own inside (n + 1) inner) (block_node place (text_of_member (codes "for") d))) tt)
    (blocks_own place (n + 1 + block_count inner) later)

template_own : (place : Site) (d : Data) → IsOwn (template_fault place d)
template_own place d = either_own (is_template d) (blocks_fault place 1 (blocks_inside d)) (Some (BadMember 0)) (blocks_own place 1 (blocks_inside d)) tt

pub fault_reads : (place : Site) (bytes : List ℕ) (d : Data) (f : TemplateFault) → IsJson bytes d → template_fault place d ≡ Some f → ReadsTemplate place bytes (Err f)
fault_reads place bytes d NotJson json is = absurd (subst IsOwn is (template_own place d))
fault_reads place bytes d (BadMember n) json is = (d, json, is)
fault_reads place bytes d (BadExpr n) json is = (d, json, is)
fault_reads place bytes d Memory json is = tt

-- the first of two
pub first_is : (one other : Option TemplateFault) → is_some one ≡ true → one ≡ option_or one other
first_is None other h = let never : ⊥ = cc in absurd never
first_is (Some f) other h = refl

pub first_none : (one other : Option TemplateFault) → is_some one ≡ false → option_or one other ≡ other
first_none None other h = refl
first_none (Some f) other h = let never : ⊥ = cc in absurd never
