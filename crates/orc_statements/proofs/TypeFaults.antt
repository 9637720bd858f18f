-- The faults of a `type` as those of a schema.
use Rattle.std.proofs.Common.{◌≡◌, refl, sym, ◌∙◌, ap}
use Rattle.std.specs.Prelude.{Option, Some, None, Result, Ok, Err, option_map}
use Rattle.orc_yang.specs.declared.statement.Stmt.{Stmt}
use Rattle.orc_types.specs.declared.types.LeafType.{LeafType}
use Rattle.orc_types.specs.declared.types.Base.{Base}
use Rattle.orc_types.specs.declared.fault.TypeFault.{TypeFault}
use Rattle.orc_types.specs.declared.fault.TypeFault.TheVariants.{Unsupported, Unknown, Duplicate, BadArgument, Memory}
use Rattle.orc_types.specs.Types.{type_of, type_fault, fault_or, GivesType}
use Rattle.orc_statements.specs.Faults.{of_type_fault}
use Rattle.orc_statements.specs.Meeting.{Meets}

abbrev fault_in : Result LeafType TypeFault → Option TypeFault
fault_in (Ok t) = None
fault_in (Err f) = Some f

fault_back : (o : Option TypeFault) (t : LeafType) → fault_in (fault_or o t) ≡ o
fault_back None t = refl
fault_back (Some f) t = refl

pub fault_is : (base : Base) (s : Stmt) → fault_in (type_of base s) ≡ type_fault base s
unfolding type_of
fault_is base s = fault_back (type_fault base s) _

pub no_fault : (base : Base) (s : Stmt) (t : LeafType) → GivesType (type_of base s) (Ok t) → option_map of_type_fault (type_fault base s) ≡ None
no_fault base s t h = ap (option_map of_type_fault) (sym (fault_is base s) ∙ ap fault_in h)

told : (base : Base) (s : Stmt) (f : TypeFault) → type_of base s ≡ Err f → type_fault base s ≡ Some f
told base s f h = sym (fault_is base s) ∙ ap fault_in h

pub same_fault : (base : Base) (s : Stmt) (f : TypeFault) → GivesType (type_of base s) (Err f) → Meets (option_map of_type_fault (type_fault base s)) (Err (of_type_fault f))
same_fault base s (Unsupported keyword) h = ap (option_map of_type_fault) (told base s (Unsupported keyword) h)
same_fault base s (Unknown name) h = ap (option_map of_type_fault) (told base s (Unknown name) h)
same_fault base s (Duplicate name) h = ap (option_map of_type_fault) (told base s (Duplicate name) h)
same_fault base s (BadArgument keyword) h = ap (option_map of_type_fault) (told base s (BadArgument keyword) h)
same_fault base s Memory h = h
