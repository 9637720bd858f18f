-- The built-in types: RFC 7950 section 4.2.4.
use Rattle.std.specs.Prelude.{ℕ, pos, negsuc, Bool, ◌||◌, List, [], ◌∷◌, Option, Some, None, codes, if◌then◌else◌}
use Rattle.orc_value.specs.Canon.{same_text}
use Rattle.orc_types.specs.declared.types.LeafType.TheVariants.{Int, Str, Bool as Boolean, Empty}
use Rattle.orc_types.specs.declared.types.Base.{Base}
use Rattle.orc_types.specs.declared.types.Base.TheVariants.{Known, Decimal64, Enumeration, Leafref}
use Rattle.orc_types.specs.Ranges.{Range}

-- the numbers of an integer type
abbrev pub integer_range : List ℕ → Option Range
integer_range name = if same_text name (codes "int8") then Some (negsuc 0x7F, pos 0x7F)
    else (if same_text name (codes "int16") then Some (negsuc 0x7FFF, pos 0x7FFF)
    else (if same_text name (codes "int32") then Some (negsuc 0x7FFF_FFFF, pos 0x7FFF_FFFF)
    else (if same_text name (codes "int64") then Some (negsuc 0x7FFF_FFFF_FFFF_FFFF, pos 0x7FFF_FFFF_FFFF_FFFF)
    else (if same_text name (codes "uint8") then Some (pos 0, pos 0xFF)
    else (if same_text name (codes "uint16") then Some (pos 0, pos 0xFFFF)
    else (if same_text name (codes "uint32") then Some (pos 0, pos 0xFFFF_FFFF)
    else (if same_text name (codes "uint64") then Some (pos 0, pos 0xFFFF_FFFF_FFFF_FFFF)
    else None)))))))

-- JSON has the numbers of int64 and uint64 in strings (RFC 7951 section 6.1)
abbrev pub is_quoted : List ℕ → Bool
is_quoted name = same_text name (codes "int64") || same_text name (codes "uint64")

-- the other types of this profile
abbrev pub other_type : List ℕ → Option Base
other_type name = if same_text name (codes "string") then Some (Known (Str ((0, 0xFFFF_FFFF_FFFF_FFFF) ∷ [])))
    else (if same_text name (codes "boolean") then Some (Known Boolean)
    else (if same_text name (codes "empty") then Some (Known Empty)
    else (if same_text name (codes "decimal64") then Some Decimal64
    else (if same_text name (codes "enumeration") then Some Enumeration
    else (if same_text name (codes "leafref") then Some Leafref
    else None)))))

abbrev pub integer_type : List ℕ → Range → Base
integer_type name range = Known (Int (record { ranges = range ∷ []; quoted = is_quoted name }))

abbrev pub built_in_or : List ℕ → Option Range → Option Base
built_in_or name (Some range) = Some (integer_type name range)
built_in_or name None = other_type name

-- the built-in type of a name, where this profile has it
unfoldable pub built_in : List ℕ → Option Base
built_in name = built_in_or name (integer_range name)

-- a name of RFC 7950, also of a type that this profile leaves out: no typedef may have it
abbrev pub is_left_out : List ℕ → Bool
is_left_out name = same_text name (codes "binary")
    || (same_text name (codes "bits")
    || (same_text name (codes "identityref")
    || (same_text name (codes "instance-identifier")
    || same_text name (codes "union"))))
