-- What was printed of the turns with which a run ended.
use Rattle.std.proofs.Common.{[], ◌≡◌, ℕ, List, ◌∷◌, ◌++◌, refl, sym, subst, ◌∙◌, append-nil, arith}
use Rattle.orc_decls.specs.declared.declarations.Decls.{Decls}
use Rattle.orc_rules.specs.Events.{Turn}
use Rattle.orc_scene.specs.Courses.{PrintsMost, PrintsTold}
use Rattle.orc_scene.specs.declared.stop.WorldStop.{WorldStop}
use Rattle.orc_scene.specs.declared.stop.WorldStop.TheVariants as stop

-- all of it
pub all_told : {D : Type 0} (decls : Decls) (why : WorldStop) (before after : List ℕ) (turns : List (Turn D)) → PrintsTold decls before after turns → PrintsMost decls why before after turns
all_told decls stop.Memory before after turns told = (turns, [], sym (append-nil turns), omega arith, told)
all_told decls stop.JournalFault before after turns told = told
all_told decls (stop.Full len) before after turns told = told
all_told decls (stop.Foreign at) before after turns told = told
all_told decls stop.NotJournal before after turns told = told
all_told decls (stop.Damaged at) before after turns told = told

-- what is said in the one turn isn't printed, since memory ran out
pub last_untold : {D : Type 0} (decls : Decls) (why : WorldStop) (before after : List ℕ) (turn : Turn D) → why ≡ stop.Memory → after ≡ before → PrintsMost decls why before after (turn ∷ [])
last_untold decls why before after turn wanting same =
    subst (λ (w : WorldStop). PrintsMost decls w before after (turn ∷ [])) (sym wanting) ([], turn ∷ [], refl, omega arith, same ∙ sym (append-nil before))
