-- A block at a node: its condition, its target and the blocks inside.
use Rattle.std.proofs.Common.{◌≡◌, ℕ, ◌+◌, Bool, true, List, Result, Ok, Err, refl, sym, ap, subst, ◌∙◌, arith}
use Rattle.std.specs.Prelude.{IsErrAnd}
use Rattle.serde_json.specs.Data.{Data}
use Rattle.orc_path.specs.Steps.{PathStep}
use Rattle.orc_expr.specs.declared.read.Read.{Read}
use Rattle.orc_template.specs.Values.{Done, Does}
use Rattle.orc_template.specs.Blocks.{Blocks, blocks_inside}
use Rattle.orc_template.specs.Expansions.{Expanding, Failed, Ground, scene_at, fails, go_further, when_done, target_done, met_by, node_expanded, blocks_expanded}
use Rattle.orc_template.specs.Writing.{Ended}
use Rattle.orc_template.specs.inside.Expanding.{Stops, Expands, numbered, Judges, inner, node_in}
use Rattle.std.proofs.lemmas.Result.{err_from_is_err_and}
use Rattle.orc_template.proofs.Handed.{expands_so, expands_on, fails_so}
use Rattle.orc_template.specs.declared.fault.Halt.{Halt}
use Rattle.orc_template.specs.declared.fault.Halt.TheVariants as halt
use Rattle.orc_template.specs.declared.fault.ExpandFault.{ExpandFault}
use Rattle.orc_template.specs.declared.fault.ExpandFault.TheVariants as fault

module _ (g : Ground) (n : ℕ) (d : Data) (inside : List PathStep → Expanding → Result Expanding Failed) (here : List PathStep) (e : Expanding) (reads : List Read) where
  abbrev behind : Expanding
  behind = record { written = e.written; reads = reads }

  abbrev node_by : Done Bool → Result Expanding Failed
  node_by w = met_by g n d inside here w.value (record { written = e.written; reads = w.reads })

  -- the condition was looked at
  pub when_told : (holds : Bool) → Judges n (when_done (scene_at g here) d e.reads) reads (Ok holds) → node_expanded g n d inside here e ≡ met_by g n d inside here (Ok holds) behind
  when_told holds h = ap node_by h

  when_err : (f : ExpandFault) → Judges n (when_done (scene_at g here) d e.reads) reads (Err f) → Expands (node_expanded g n d inside here e) behind (Err f)
  when_err (fault.At number rule) h =
      subst (λ (k : ℕ). node_expanded g n d inside here e ≡ Err (record { block = k; rule = rule; reads = reads })) (sym h.0) (ap node_by h.1)
  when_err fault.Memory h = tt

  pub when_fails : (r : Result (Unit {0}) ExpandFault) (f : ExpandFault) → IsErrAnd r (λ y. y ≡ f) → Judges n (when_done (scene_at g here) d e.reads) reads (Err f)
      → Expands (node_expanded g n d inside here e) behind r
  when_fails r f err h =
      let p = err_from_is_err_and r err in
      rw (p.1, p.2) (when_err f h)

-- the answer with the block's number
pub judges : (n : ℕ) (due : Done Bool) (new : List Read) (r : Result Bool Halt) (told : Result Bool ExpandFault) → Does due new r → told ≡ numbered n r → Judges n due new told
judges n due new r told h is = subst (Judges n due new) (sym is) (on r h)
  where
    on : (r : Result Bool Halt) → Does due new r → Judges n due new (numbered n r)
    on (Ok x) h = h
    on (Err (halt.Rule rule)) h = (refl, h)
    on (Err halt.Memory) h = tt

pub target_told : (n : ℕ) (due : Result Expanding Ended) (new : Expanding) (r : Result (Unit {0}) Halt) (told : Result (Unit {0}) ExpandFault) → Stops due new r → told ≡ numbered n r → Expands (fails n due) new told
target_told n due new r told h is = subst (Expands (fails n due) new) (sym is) (fails_so n due new r h)

module _ (g : Ground) (n : ℕ) (d : Data) (here : List PathStep) (e next : Expanding) (is : node_in g n d here e ≡ met_by g n d (inner g n d) here (Ok true) next) (done_with new : Expanding) where
  pub node_stops : (r : Result (Unit {0}) ExpandFault) (f : ExpandFault) → IsErrAnd r (λ y. y ≡ f) → Expands (fails n (target_done g here d next)) done_with (Err f) → Expands (node_in g n d here e) done_with r
  node_stops r f err h =
      expands_so (met_by g n d (inner g n d) here (Ok true) next) (node_in g n d here e) done_with r (sym is)
      (expands_on (fails n (target_done g here d next)) (inner g n d here) done_with r f err h)

  pub node_ends : (m : ℕ) (blocks : Blocks) (r : Result (Unit {0}) ExpandFault) → Expands (fails n (target_done g here d next)) done_with (Ok tt) → m ≡ n + 1 + 0 → blocks ≡ blocks_inside d
      → Expands (blocks_expanded g here m blocks done_with) new r → Expands (node_in g n d here e) new r
  node_ends m blocks r target number are h =
      let at : m ≡ n + 1 = omega arith in
      expands_so (blocks_expanded g here m blocks done_with) (node_in g n d here e) new r
      (ap (λ k. blocks_expanded g here k blocks done_with) at ∙ ap (λ b. blocks_expanded g here (n + 1) b done_with) are ∙ sym (is ∙ ap (λ x. go_further x (inner g n d here)) target)) h
