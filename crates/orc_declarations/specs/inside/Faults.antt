-- What faults of statements, of modules and of templates are.
use Rattle.orc_decls.specs.declared.rule.Rule.TheVariants as rule
use Rattle.orc_yang.specs.declared.fault.YangFault.{YangFault}
use Rattle.orc_yang.specs.declared.fault.YangFault.TheVariants as yang
use Rattle.orc_statements.specs.declared.fault.SchemaFault.{SchemaFault}
use Rattle.orc_statements.specs.declared.fault.SchemaFault.TheVariants as schema
use Rattle.orc_template.specs.declared.fault.TemplateFault.{TemplateFault}
use Rattle.orc_template.specs.declared.fault.TemplateFault.TheVariants as template
use Rattle.orc_lines.specs.declared.detail.Detail.{Detail}
use Rattle.orc_lines.specs.declared.detail.Detail.TheVariants as detail
use Rattle.orc_lines.specs.declared.detail.BuildPlace.{BuildPlace}
use Rattle.orc_lines.specs.declared.fault.LineFault.{LineFault}
use Rattle.orc_lines.specs.declared.fault.LineFault.TheVariants.{Breaks, Memory}

-- what the reader of a block makes of a fault in its statements
abbrev pub of_yang : YangFault → Detail → LineFault
of_yang yang.Memory said = Memory
of_yang (yang.NotUtf8 at) said = Breaks rule.Yang said
of_yang (yang.BadToken at) said = Breaks rule.Yang said
of_yang (yang.BadEscape at) said = Breaks rule.Yang said
of_yang (yang.OpenString at) said = Breaks rule.Yang said
of_yang (yang.OpenBlock at) said = Breaks rule.Yang said
of_yang (yang.Depth at) said = Breaks rule.Yang said

-- a fault in the modules that a line names, with where their build stood
abbrev pub schema_said : SchemaFault → BuildPlace → LineFault
schema_said fault place = Breaks rule.Schema (detail.Schema (record { fault = fault; place = place }))

-- what the reader of a line makes of a fault in the modules that it names
abbrev pub of_schema : SchemaFault → BuildPlace → LineFault
of_schema schema.Memory place = Memory
of_schema (schema.Unsupported keyword) place = schema_said (schema.Unsupported keyword) place
of_schema (schema.Unknown name) place = schema_said (schema.Unknown name) place
of_schema (schema.Duplicate name) place = schema_said (schema.Duplicate name) place
of_schema (schema.BadArgument keyword) place = schema_said (schema.BadArgument keyword) place
of_schema (schema.NoKey list) place = schema_said (schema.NoKey list) place
of_schema (schema.Loop name) place = schema_said (schema.Loop name) place

-- what the reader of a line makes of a fault in its template
abbrev pub of_template : TemplateFault → Detail → LineFault
of_template template.Memory said = Memory
of_template template.NotJson said = Breaks rule.Template said
of_template (template.BadMember block) said = Breaks rule.Template said
of_template (template.BadExpr block) said = Breaks rule.Template said
