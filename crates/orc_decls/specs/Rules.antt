-- The words for the rules of a bundle's lines.
use Rattle.std.specs.Prelude.{ℕ, List, codes}
use Rattle.orc_decls.specs.declared.rule.Rule.{Rule}
use Rattle.orc_decls.specs.declared.rule.Rule.TheVariants.{Size, Utf8, Header, Line, Path, Value, Unknown, Duplicate, Yang, Schema, Template, Json, Opening}

-- the word for a rule, as a printed fault has it
abbrev pub rule_word : Rule → List ℕ
rule_word Size = codes "size"
rule_word Utf8 = codes "utf8"
rule_word Header = codes "header"
rule_word Line = codes "line"
rule_word Path = codes "path"
rule_word Value = codes "value"
rule_word Unknown = codes "unknown"
rule_word Duplicate = codes "duplicate"
rule_word Yang = codes "yang"
rule_word Schema = codes "schema"
rule_word Template = codes "template"
rule_word Json = codes "json"
rule_word Opening = codes "opening"
