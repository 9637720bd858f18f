-- What every event keeps is carried on, where a journal reads what was written.
use Rattle.std.proofs.Common.{◌≡◌, ◌⊎◌, inl, inr, Option, refl, sym, ◌∙◌}
use Rattle.std.specs.Prelude.{is_some}
use Rattle.orc_rules.specs.Events.{DoesAnyway, Steps}
use Rattle.orc_rules.specs.Journals.{IsReadBack}
use Rattle.orc_rules.specs.Worlds.{Setting, World as Seen}
use Rattle.orc_rules.specs.declared.event.Event.{Event}
use Rattle.orc_runs.specs.Laws.{RunsAreCarried}
use Rattle.orc_scene.specs.Stands.{IsCarried}

module _ {D : Type 0} (here : Setting D) where
  -- the disk reports what it holds after an event where it did so before, and nowhere else
  tells_any : (old : Seen D) (meant : Event) (new : Seen D) → DoesAnyway old meant new → is_some (here.disk.content new.journal.disk) ≡ is_some (here.disk.content old.journal.disk)
  tells_any old meant new (DoesAnyway.ticks seconds) = refl
  tells_any old meant new (DoesAnyway.restarts device) = refl
  tells_any old meant new (DoesAnyway.answers_down call front down) = refl

  tells_same : (old : Seen D) (meant : Event) (seen : Option Event) (new : Seen D) → Steps here old meant seen new → is_some (here.disk.content new.journal.disk) ≡ is_some (here.disk.content old.journal.disk)
  tells_same old meant seen new (Steps.done hub row next _ up does appends same) = appends.outlives.tells
  tells_same old meant seen new (Steps.cut hub row next _ up does appends same) = appends.outlives.tells
  tells_same old meant seen new (Steps.failed hub row next _ up does appends same) = appends.outlives.tells
  tells_same old meant seen new (Steps.full hub row next len _ up does appends same) = appends.outlives.tells
  tells_same old meant seen new (Steps.anyway _ does) = tells_any old meant new does
  tells_same old meant seen new (Steps.unopened _ down recovers closed same) = closed.outlives.tells
  tells_same old meant seen new (Steps.recovers _ down recovers opens same) = opens.outlives.tells

  -- what a journal read after an event it read before it
  pub reads_back : (old : Seen D) (meant : Event) (seen : Option Event) (new : Seen D) → Steps here old meant seen new
      → IsReadBack here.disk here.decls.text here.limit here.granted new.journal.disk → IsReadBack here.disk here.decls.text here.limit here.granted old.journal.disk
  reads_back old meant seen new comes (inl granted) = inl granted
  reads_back old meant seen new comes (inr told) = inr (sym (tells_same old meant seen new comes) ∙ told)

  -- an event carries on what is kept
  pub carried_on : RunsAreCarried here → (old new : Seen D) (meant : Event) (seen : Option Event) → IsCarried here old → Steps here old meant seen new → IsCarried here new
  carried_on law old new meant seen kept comes = λ back. law.events old new meant seen (kept (reads_back old meant seen new comes back)) comes
