-- What is written, and the expansion, with what was read.
use Rattle.std.proofs.Common.{◌≡◌, ℕ, List, ◌++◌, Result, Ok, Err, refl, sym, ap, subst, ◌∙◌}
use Rattle.orc_path.specs.Configurations.{Config}
use Rattle.orc_call.specs.declared.call.Put.{Put}
use Rattle.orc_expr.specs.declared.read.Read.{Read}
use Rattle.orc_template.specs.Expansions.{Expanding, Failed, device_parts, AnswersExpansion, AnswersWriting}
use Rattle.orc_template.specs.Said.{parts_result}
use Rattle.orc_template.specs.inside.Expanding.{Expands, FindsExpansion, FindsWriting, AddsReads}
use Rattle.orc_template.specs.declared.expansion.Expansion.{Expansion}
use Rattle.orc_template.specs.declared.fault.ExpandFault.{ExpandFault}
use Rattle.orc_template.specs.declared.fault.ExpandFault.TheVariants as fault

-- the answer of the blocks is what is written
pub writes_done : (due : Result Expanding Failed) (new : Expanding) (trees : List Config) → trees ≡ new.written → due ≡ Ok new → FindsWriting due new.reads (Ok trees)
writes_done due new trees are is = subst (λ (ws : List Config). due ≡ Ok (record { written = ws; reads = new.reads })) (sym are) is

pub writes_failed : (due : Result Expanding Failed) (new : Expanding) (f : ExpandFault) → Expands due new (Err f) → FindsWriting due new.reads (Err f)
writes_failed due new (fault.At n rule) h = h
writes_failed due new fault.Memory h = tt

-- what is written is an expansion
pub gathers : (due : Result Expanding Failed) (reads : List Read) (trees : List Config) (parts : List (ℕ × List Put)) → FindsWriting due reads (Ok trees) → parts ≡ device_parts 0 trees
    → FindsExpansion due reads (Ok parts)
gathers due reads trees parts is are = (record { written = trees; reads = reads }, is, are, refl)

pub gathers_none : (due : Result Expanding Failed) (reads : List Read) (f : ExpandFault) → FindsWriting due reads (Err f) → FindsExpansion due reads (Err f)
gathers_none due reads (fault.At n rule) h = h
gathers_none due reads fault.Memory h = tt

pub adds_none : {T : Type 0} (answer : Result T ExpandFault) (old read new : List Read) (r : Result T ExpandFault) → r ≡ Err fault.Memory → new ≡ old → AddsReads answer old read new r
adds_none answer old read new r is h = subst (AddsReads answer old read new) (sym is) h

-- the reads come after those that were there
pub adds_expansion : (due : Result Expanding Failed) (old read new : List Read) (answer result : Result Expansion ExpandFault)
    → FindsExpansion due read (parts_result answer) → AddsReads answer old read new result → AnswersExpansion due old new (parts_result result)
adds_expansion due old read new answer (Ok x) finds adds =
    let f : FindsExpansion due read (Ok x.parts) = subst (λ (r : Result Expansion ExpandFault). FindsExpansion due read (parts_result r)) adds.0 finds in
    (f.0, f.1, f.2, adds.1 ∙ ap (λ (rs : List Read). old ++ rs) f.3)
adds_expansion due old read new answer (Err (fault.At n rule)) finds adds =
    (read, subst (λ (r : Result Expansion ExpandFault). FindsExpansion due read (parts_result r)) adds.0 finds, adds.1)
adds_expansion due old read new answer (Err fault.Memory) finds adds = adds

pub adds_writing : (due : Result Expanding Failed) (old read new : List Read) (answer result : Result (List Config) ExpandFault)
    → FindsWriting due read answer → AddsReads answer old read new result → AnswersWriting due old new result
adds_writing due old read new answer (Ok trees) finds adds =
    (record { written = trees; reads = read }, subst (FindsWriting due read) adds.0 finds, refl, adds.1)
adds_writing due old read new answer (Err (fault.At n rule)) finds adds = (read, subst (FindsWriting due read) adds.0 finds, adds.1)
adds_writing due old read new answer (Err fault.Memory) finds adds = adds
