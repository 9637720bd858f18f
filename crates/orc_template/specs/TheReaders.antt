-- The readers of texts.
use Rattle.orc_template.specs.Readers.{Readers}
use Rattle.orc_template.specs.inside.Machine.{the_readers as byte_readers}

-- Readers of all texts that have any, known by its laws alone: they give the expression, and the condition, of each
-- text that has one, and no others do but for ones that give the same.
unfoldable pub the_readers : Readers
the_readers = byte_readers
