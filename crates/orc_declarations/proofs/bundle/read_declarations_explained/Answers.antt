use Rattle.std.proofs.Common.{sym, subst}
use Rattle.std.specs.List.{All}
use Rattle.orc_schema_nodes.specs.Sound.{IsSound}
use Rattle.orc_declarations.specs.declared.bundle.Bundle.{Bundle}
use Rattle.orc_declarations.proofs.Bundles.{bundle_given, refused, script_begins}
use Rattle.orc_declarations.proofs.bundle.read_declarations_explained.Goals as goal

pub returns-in-Err-clause-gives : goal.returns-in-Err-clause-gives
returns-in-Err-clause-gives c =
    refused c.args.bytes.now c.in_ok-declared.declared c.read_declared.new.declared c.in-Err.fault c.in_ok-declared.ensures.nothing c.in-Err.ensures.answer

pub returns-in-Ok-bundle_at-clause-gives : goal.returns-in-Ok-bundle_at-clause-gives
returns-in-Ok-bundle_at-clause-gives c =
    bundle_given c.args.bytes.now c.in_ok-declared.declared c.read_declared.new.declared c.in-Ok.front c.in_ok-declared.ensures.nothing c.in-Ok.ensures.answer
    c.in-Ok-bundle_at.bundle c.in-Ok-bundle_at.ensures.bundle

pub returns-in-Ok-bundle_at-clause-sound : goal.returns-in-Ok-bundle_at-clause-sound
returns-in-Ok-bundle_at-clause-sound c =
    subst (λ (b : Bundle). All IsSound b.decls.schemas) (sym c.in-Ok-bundle_at.ensures.bundle) c.in-Ok.ensures.lawful.sound

pub returns-in-Ok-bundle_at-clause-script : goal.returns-in-Ok-bundle_at-clause-script
returns-in-Ok-bundle_at-clause-script c =
    script_begins c.args.bytes.now c.in_ok-declared.declared c.read_declared.new.declared c.in-Ok.front c.in_ok-declared.ensures.nothing c.in-Ok.ensures.answer
    c.in-Ok-bundle_at.bundle c.in-Ok-bundle_at.ensures.bundle c.in-Ok.ensures.within
