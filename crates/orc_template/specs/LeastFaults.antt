-- All faults of a JSON value as a template, and that the one that is named is the least.
use Rattle.std.specs.Prelude.{◌≡◌, ℕ, ◌+◌, ◌==◌, nat_lt, Bool, false, ◌&&◌, ◌||◌, List, [], ◌∷◌, ◌++◌, codes, Option, if◌then◌else◌}
use Rattle.std.specs.declared.option.Option.TheVariants.{None, Some}
use Rattle.serde_json.specs.Data.{Data}
use Rattle.orc_path.specs.Steps.{PathStep}
use Rattle.orc_template.specs.Blocks.{Blocks, no_block, block, block_count, blocks_inside, text_of_member}
use Rattle.orc_template.specs.Templates.{Site, is_block, block_node, block_resolves, is_template, template_fault}
use Rattle.orc_template.specs.declared.fault.TemplateFault.{TemplateFault}
use Rattle.orc_template.specs.declared.fault.TemplateFault.TheVariants.{NotJson, BadMember, BadExpr, Memory}

-- Faults are ordered by their block, and those of one block by their rule: 1 NotJson, 2 BadMember, 3 BadExpr.
abbrev pub fault_block : TemplateFault → ℕ
fault_block NotJson = 0
fault_block (BadMember block_number) = block_number
fault_block (BadExpr block_number) = block_number
fault_block Memory = 0

abbrev pub fault_rule : TemplateFault → ℕ
fault_rule NotJson = 1
fault_rule (BadMember block_number) = 2
fault_rule (BadExpr block_number) = 3
fault_rule Memory = 4

abbrev pub is_less_fault : TemplateFault → TemplateFault → Bool
is_less_fault one other =
    nat_lt (fault_block one) (fault_block other)
    || ((fault_block one == fault_block other) && nat_lt (fault_rule one) (fault_rule other))

-- a block's members are at fault, or not
abbrev pub member_faults : ℕ → Data → List TemplateFault
member_faults block_number json = if is_block json then [] else BadMember block_number ∷ []

-- its expressions are, or not: the text of its `for` leads to no node, or what the block says at the node doesn't
-- resolve
abbrev pub expression_faults : Site → ℕ → Data → Option (List PathStep) → List TemplateFault
expression_faults place block_number json None = BadExpr block_number ∷ []
expression_faults place block_number json (Some node) =
    if block_resolves (record place { node = node }) json then [] else BadExpr block_number ∷ []

-- the faults of the blocks inside, where there is a node at which they are done
abbrev pub inner_faults : Site → (Site → List TemplateFault) → Option (List PathStep) → List TemplateFault
inner_faults place inside None = []
inner_faults place inside (Some node) = inside (record place { node = node })

abbrev pub own_faults : Site → ℕ → Data → List TemplateFault
own_faults place block_number json =
    member_faults block_number json
    ++ expression_faults place block_number json (block_node place (text_of_member (codes "for") json))

-- all faults of blocks, numbered in the order of the text from `first` on, also of those after one at fault
abbrev pub faults_of_blocks : Site → ℕ → Blocks → List TemplateFault
faults_of_blocks place first no_block = []
faults_of_blocks place first (block json inner later) =
    (own_faults place first json
    ++ inner_faults place (λ at. faults_of_blocks at (first + 1) inner)
    (block_node place (text_of_member (codes "for") json)))
    ++ faults_of_blocks place (first + 1 + block_count inner) later

abbrev pub faults_of_template : Site → Data → List TemplateFault
faults_of_template place json =
    if is_template json then faults_of_blocks place 1 (blocks_inside json) else BadMember 0 ∷ []

-- no fault of the list is less than this one
abbrev pub AreNotLess : TemplateFault → List TemplateFault → Type 0
AreNotLess fault [] = Unit {0}
AreNotLess fault (other ∷ later) = (is_less_fault other fault ≡ false) × AreNotLess fault later

-- a fault is one of these, and none is less
pub record IsLeastFault (all : List TemplateFault) (fault : TemplateFault) : Type 0 where
  pub front : List TemplateFault
  pub back : List TemplateFault
  pub among : all ≡ front ++ fault ∷ back
  pub least : AreNotLess fault all

-- there is a least fault wherever there is any
pub record HasLeastFault (all : List TemplateFault) (found : Option TemplateFault) : Type 0 where
  pub some : (fault : TemplateFault) → found ≡ Some fault → IsLeastFault all fault
  pub none : found ≡ None → all ≡ []

-- The fault that a text is refused with is the least of all its faults as a template: that of the least block, and of
-- the least rule there. A text that has no fault is not refused.
abbrev pub LeastFaultIsNamed : Type 0
LeastFaultIsNamed =
    (place : Site) (json : Data) → HasLeastFault (faults_of_template place json) (template_fault place json)
