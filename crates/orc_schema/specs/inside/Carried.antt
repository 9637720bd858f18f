-- What the code carries along, as definitions have it.
use Rattle.orc_modules.specs.Stack.{stack}
use Rattle.orc_schema.specs.declared.drafting.Where as declared
use Rattle.orc_schema.specs.Drafts as drafts

abbrev pub where_of : declared.Where → drafts.Where
where_of w = record { above = stack w.above.now; owner = w.owner.now; names = w.names.now; keys = w.keys.now }
