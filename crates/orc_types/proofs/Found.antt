-- A fault at one statement is the first of the block.
use Rattle.std.proofs.Common.{◌≡◌, ℕ, ◌+◌, ◌<◌, List, [], ◌∷◌, ◌++◌, length, get_or, Option, Err, take, drop, sym, ap, ◌∙◌}
use Rattle.std.specs.Option.{option_or}
use Rattle.std.proofs.lemmas.List.{drop_more}
use Rattle.orc_yang.specs.declared.statement.Stmt.{Stmt}
use Rattle.orc_types.specs.declared.fault.TypeFault.{TypeFault}
use Rattle.orc_types.specs.declared.fault.TypeFault.TheVariants.{Unsupported, Unknown, Duplicate, BadArgument, Memory}
use Rattle.orc_types.specs.declared.types.Base.{Base}
use Rattle.orc_types.specs.declared.types.EnumName.{EnumName}
use Rattle.orc_types.specs.Types.{fault_at, first_fault}
use Rattle.orc_types.specs.inside.Meeting.{Meets, Finds}

first_of_all : (due rest whole : Option TypeFault) (enums : List EnumName) (fault : TypeFault) → option_or due rest ≡ whole → Meets due (Err fault) → Finds whole enums (Err fault)
first_of_all due rest whole enums (Unsupported k) is met = sym is ∙ ap (λ (d : Option TypeFault). option_or d rest) met
first_of_all due rest whole enums (Unknown n) is met = sym is ∙ ap (λ (d : Option TypeFault). option_or d rest) met
first_of_all due rest whole enums (Duplicate n) is met = sym is ∙ ap (λ (d : Option TypeFault). option_or d rest) met
first_of_all due rest whole enums (BadArgument k) is met = sym is ∙ ap (λ (d : Option TypeFault). option_or d rest) met
first_of_all due rest whole enums Memory is met = met

pub found_here : (base : Base) (ss : List Stmt) (at : ℕ) (s : Stmt) (enums : List EnumName) (fault : TypeFault) → at < length ss → get_or ss at s ≡ s
    → first_fault base (take at ss) (drop at ss) ≡ first_fault base [] ss → Meets (fault_at base (take at ss) s) (Err fault) → Finds (first_fault base [] ss) enums (Err fault)
found_here base ss at s enums fault below is left met =
    first_of_all (fault_at base (take at ss) s) (first_fault base (take at ss ++ s ∷ []) (drop (at + 1) ss)) (first_fault base [] ss) enums fault
    (sym (ap (first_fault base (take at ss)) (drop_more ss at s below ∙ ap (λ (x : Stmt). x ∷ drop (at + 1) ss) is)) ∙ left) met
