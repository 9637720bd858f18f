-- One thing after another, as the code does them: what stands afterwards, and what is handed on.
use Rattle.std.proofs.Common.{◌≡◌, ℕ, ◌++◌, List, Option, Some, Result, Ok, Err, slice_set, sym, ap, ◌∙◌}
use Rattle.std.specs.Prelude.{IsErrAnd}
use Rattle.std.proofs.lemmas.Result.{err_from_is_err_and}
use Rattle.orc_path.specs.Configurations.{Config}
use Rattle.orc_expr.specs.declared.read.Read.{Read}
use Rattle.orc_template.specs.Values.{Done, done, then_done, one_found, one_text, Does, GivesValue}
use Rattle.orc_template.specs.Writing.{Ended, go_on, with_done, Writes}
use Rattle.orc_template.specs.Expansions.{Expanding, Failed, fails, go_further, put_written}
use Rattle.orc_template.specs.inside.Expanding.{Stops, Expands, numbered}
use Rattle.orc_template.specs.declared.writing.Writing.{Writing}
use Rattle.orc_template.specs.declared.fault.Halt.{Halt}
use Rattle.orc_template.specs.declared.fault.Halt.TheVariants as halt
use Rattle.orc_template.specs.declared.fault.ExpandFault.{ExpandFault}
use Rattle.orc_template.specs.declared.fault.ExpandFault.TheVariants as fault

-- Strings, values and keys
module _ {X Y : Type 0} (first : Done X) (more : X → List Read → Done Y) (reads : List Read) where
  pub does_ok : (x : X) → Does first reads (Ok x) → then_done first more ≡ more x reads
  does_ok x h = ap (λ (d : Done X). then_done d more) h

  pub does_err : (h : Halt) → Does first reads (Err h) → Does (then_done first more) reads (Err h)
  does_err (halt.Rule rule) h = ap (λ (d : Done X). then_done d more) h
  does_err halt.Memory h = tt

  pub does_on : (r : Result Y Halt) (h : Halt) → IsErrAnd r (λ y. y ≡ h) → Does first reads (Err h) → Does (then_done first more) reads r
  does_on r h is does =
      let p = err_from_is_err_and r is in
      rw (p.1, p.2) (does_err h does)

-- an answer of what is left is one of the whole that equals it
pub does_so : {X : Type 0} (left whole : Done X) (reads : List Read) (r : Result X Halt) → left ≡ whole → Does left reads r → Does whole reads r
does_so left whole reads (Ok x) is h = sym is ∙ h
does_so left whole reads (Err (halt.Rule rule)) is h = sym is ∙ h
does_so left whole reads (Err halt.Memory) is h = tt

-- what was given, where nothing is read
pub does_value : {X : Type 0} (value : Result X ℕ) (reads : List Read) (r : Result X Halt) → GivesValue value r → Does (done value reads) reads r
does_value value reads (Ok x) h = ap (λ v. done v reads) h
does_value value reads (Err (halt.Rule rule)) h = ap (λ v. done v reads) h
does_value value reads (Err halt.Memory) h = tt

-- a value of what was done before
pub does_then_value : {X Y : Type 0} (first : Done X) (give : X → Result Y ℕ) (reads : List Read) (x : X) (r : Result Y Halt) → Does first reads (Ok x)
    → GivesValue (give x) r → Does (then_done first (λ y. done (give y))) reads r
does_then_value first give reads x r before h =
    does_so (done (give x) reads) (then_done first (λ y. done (give y))) reads r (sym (does_ok first (λ y. done (give y)) reads x before)) (does_value (give x) reads r h)

-- the one text of a look
pub does_one : (found : Option (List (List ℕ))) (read old new : List Read) (texts : List (List ℕ)) (r : Result (List ℕ) Halt) → found ≡ Some texts → new ≡ old ++ read
    → GivesValue (one_found (Some texts)) r → Does (one_text found read old) new r
does_one found read old new texts r found_is is h =
    does_so (done (one_found (Some texts)) new) (one_text found read old) new r
    (ap (λ o. done (one_found o) new) (sym found_is) ∙ ap (λ xs. done (one_found found) xs) is) (does_value (one_found (Some texts)) new r h)

-- Items
-- an answer of what is left to write is one of the whole that equals it
pub writes_so : (left whole : Result Writing Ended) (new : Writing) (r : Result (Unit {0}) Halt) → left ≡ whole → Writes left new r → Writes whole new r
writes_so left whole new (Ok x) is h = sym is ∙ h
writes_so left whole new (Err (halt.Rule rule)) is h = sym is ∙ h
writes_so left whole new (Err halt.Memory) is h = tt

module _ {X : Type 0} (first : Done X) (tree : Config) (more : X → Writing → Result Writing Ended) where
  pub with_does : (x : X) (reads : List Read) → Does first reads (Ok x) → with_done first tree more ≡ more x (record { tree = tree; reads = record { reads = reads } })
  with_does x reads h = ap (λ (d : Done X). with_done d tree more) h

  pub with_fails : (h : Halt) (new : Writing) → Does first new.reads.reads (Err h) → Writes (with_done first tree more) new (Err h)
  with_fails (halt.Rule rule) new h = ap (λ (d : Done X). with_done d tree more) h
  with_fails halt.Memory new h = tt

  pub with_on : (r : Result (Unit {0}) Halt) (h : Halt) (new : Writing) → IsErrAnd r (λ y. y ≡ h) → Does first new.reads.reads (Err h) → Writes (with_done first tree more) new r
  with_on r h new is does =
      let p = err_from_is_err_and r is in
      rw (p.1, p.2) (with_fails h new does)

  pub with_then : (x : X) (reads : List Read) (new : Writing) (r : Result (Unit {0}) Halt) → Does first reads (Ok x)
      → Writes (more x (record { tree = tree; reads = record { reads = reads } })) new r → Writes (with_done first tree more) new r
  with_then x reads new r before h =
      writes_so (more x (record { tree = tree; reads = record { reads = reads } })) (with_done first tree more) new r (sym (with_does x reads before)) h

module _ (first : Result Writing Ended) (more : Writing → Result Writing Ended) (new : Writing) where
  pub wrote : (x : Unit {0}) → Writes first new (Ok x) → go_on first more ≡ more new
  wrote x h = ap (λ r. go_on r more) h

  pub stops_writing : (h : Halt) → Writes first new (Err h) → Writes (go_on first more) new (Err h)
  stops_writing (halt.Rule rule) h = ap (λ r. go_on r more) h
  stops_writing halt.Memory h = tt

  pub stops_on : (r : Result (Unit {0}) Halt) (h : Halt) → IsErrAnd r (λ y. y ≡ h) → Writes first new (Err h) → Writes (go_on first more) new r
  stops_on r h is writes =
      let p = err_from_is_err_and r is in
      rw (p.1, p.2) (stops_writing h writes)

  -- what is left of a whole
  pub wrote_more : (whole : Result Writing Ended) (x : Unit {0}) → go_on first more ≡ whole → Writes first new (Ok x) → more new ≡ whole
  wrote_more whole x is h = sym (wrote x h) ∙ is

  pub stops_whole : (whole : Result Writing Ended) (r : Result (Unit {0}) Halt) (h : Halt) → go_on first more ≡ whole → IsErrAnd r (λ y. y ≡ h) → Writes first new (Err h) → Writes whole new r
  stops_whole whole r h is err writes = writes_so (go_on first more) whole new r is (stops_on r h err writes)

-- items are written in the place of a device
pub put_so : (n : ℕ) (written : List Config) (due : Result Writing Ended) (new : Writing) (r : Result (Unit {0}) Halt) → Writes due new r
    → Stops (put_written n written due) (record { written = slice_set written n new.tree; reads = new.reads.reads }) r
put_so n written due new (Ok x) h = ap (put_written n written) h
put_so n written due new (Err (halt.Rule rule)) h = ap (put_written n written) h
put_so n written due new (Err halt.Memory) h = tt

-- Blocks
pub expands_so : (left whole : Result Expanding Failed) (new : Expanding) (r : Result (Unit {0}) ExpandFault) → left ≡ whole → Expands left new r → Expands whole new r
expands_so left whole new (Ok x) is h = sym is ∙ h
expands_so left whole new (Err (fault.At number rule)) is h = sym is ∙ h
expands_so left whole new (Err fault.Memory) is h = tt

module _ (first : Result Expanding Failed) (more : Expanding → Result Expanding Failed) (new : Expanding) where
  pub expanded_ok : (x : Unit {0}) → Expands first new (Ok x) → go_further first more ≡ more new
  expanded_ok x h = ap (λ r. go_further r more) h

  pub expands_err : (f : ExpandFault) → Expands first new (Err f) → Expands (go_further first more) new (Err f)
  expands_err (fault.At number rule) h = ap (λ r. go_further r more) h
  expands_err fault.Memory h = tt

  pub expands_on : (r : Result (Unit {0}) ExpandFault) (f : ExpandFault) → IsErrAnd r (λ y. y ≡ f) → Expands first new (Err f) → Expands (go_further first more) new r
  expands_on r f is expands =
      let p = err_from_is_err_and r is in
      rw (p.1, p.2) (expands_err f expands)

  pub expanded_more : (whole : Result Expanding Failed) (x : Unit {0}) → go_further first more ≡ whole → Expands first new (Ok x) → more new ≡ whole
  expanded_more whole x is h = sym (expanded_ok x h) ∙ is

  pub expands_whole : (whole : Result Expanding Failed) (r : Result (Unit {0}) ExpandFault) (f : ExpandFault) → go_further first more ≡ whole → IsErrAnd r (λ y. y ≡ f) → Expands first new (Err f)
      → Expands whole new r
  expands_whole whole r f is err expands = expands_so (go_further first more) whole new r is (expands_on r f err expands)

-- what a block's target did, with the block's number
pub fails_so : (n : ℕ) (due : Result Expanding Ended) (new : Expanding) (r : Result (Unit {0}) Halt) → Stops due new r → Expands (fails n due) new (numbered n r)
fails_so n due new (Ok x) h = ap (fails n) h
fails_so n due new (Err (halt.Rule rule)) h = ap (fails n) h
fails_so n due new (Err halt.Memory) h = tt
