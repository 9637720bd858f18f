-- Blocks that are numbered from further on do the same, and their fault is numbered so much further on.
use Rattle.std.proofs.Common.{◌≡◌, ℕ, ◌+◌, ◌<◌, Bool, true, false, List, [], ◌∷◌, ◌++◌, Option, Some, None, Result, Ok, Err, codes, length, take, get_or, refl, sym, ap, subst, ◌∙◌, arith}
use Rattle.std.proofs.lemmas.List.{take_more}
use Rattle.std.specs.Option.{option_and_then}
use Rattle.serde_json.specs.Data.{Data}
use Rattle.serde_json.specs.View.{view, items_view}
use Rattle.serde_json.specs.declared.value.Value.{Value}
use Rattle.orc_path.specs.Steps.{PathStep}
use Rattle.orc_expr.specs.Expressions.{Expression}
use Rattle.orc_expr.specs.Looks.{nodes_of}
use Rattle.orc_template.specs.Writing.{Ended}
use Rattle.orc_template.specs.Blocks.{Blocks, no_block, block, blocks_of, blocks_inside, block_count, text_of_member}
use Rattle.orc_template.specs.Expansions.{Expanding, Failed, Ground, fails, go_further, target_done, met_by, node_expanded, nodes_expanded, found_expanded, each_expanded, block_expanded, blocks_expanded}
use Rattle.orc_template.specs.inside.Expanding.{Expands, IsBehind, inner, block_in}
use Rattle.orc_template.specs.declared.fault.ExpandFault.{ExpandFault}
use Rattle.orc_template.specs.declared.fault.ExpandFault.TheVariants as fault

-- a fault is numbered so much further on
abbrev pub moved : ℕ → Result Expanding Failed → Result Expanding Failed
moved k (Ok e) = Ok e
moved k (Err failed) = Err (record { block = failed.block + k; rule = failed.rule; reads = failed.reads })

go_moved : (k : ℕ) (first : Result Expanding Failed) (one other : Expanding → Result Expanding Failed) → ((e : Expanding) → other e ≡ moved k (one e))
    → go_further (moved k first) other ≡ moved k (go_further first one)
go_moved k (Ok e) one other h = h e
go_moved k (Err failed) one other h = refl

fails_moved : (k n : ℕ) (due : Result Expanding Ended) → fails (n + k) due ≡ moved k (fails n due)
fails_moved k n (Ok e) = refl
fails_moved k n (Err ended) = refl

module _ (g : Ground) (k n : ℕ) (d : Data) (one other : List PathStep → Expanding → Result Expanding Failed) (same : (here : List PathStep) (e : Expanding) → other here e ≡ moved k (one here e)) where
  met_moved : (here : List PathStep) (holds : Result Bool ℕ) (e : Expanding) → met_by g (n + k) d other here holds e ≡ moved k (met_by g n d one here holds e)
  met_moved here (Ok true) e =
      ap (λ r. go_further r (other here)) (fails_moved k n (target_done g here d e)) ∙ go_moved k (fails n (target_done g here d e)) (one here) (other here) (same here)
  met_moved here (Ok false) e = refl
  met_moved here (Err rule) e = refl

  node_moved : (here : List PathStep) (e : Expanding) → node_expanded g (n + k) d other here e ≡ moved k (node_expanded g n d one here e)
  node_moved here e = met_moved here _ _

  nodes_moved : (nodes : List (List PathStep)) (e : Expanding) → nodes_expanded g (n + k) d other nodes e ≡ moved k (nodes_expanded g n d one nodes e)
  nodes_moved [] e = refl
  nodes_moved (node ∷ more) e =
      ap (λ r. go_further r (nodes_expanded g (n + k) d other more)) (node_moved node e)
      ∙ go_moved k (node_expanded g n d one node e) (nodes_expanded g n d one more) (nodes_expanded g (n + k) d other more) (nodes_moved more)

  found_moved : (found : Option (List (List PathStep))) (e : Expanding) → found_expanded g (n + k) d other found e ≡ moved k (found_expanded g n d one found e)
  found_moved None e = refl
  found_moved (Some nodes) e = nodes_moved nodes e

  each_moved : (here : List PathStep) (each : Option Expression) (e : Expanding) → each_expanded g here (n + k) d other each e ≡ moved k (each_expanded g here n d one each e)
  each_moved here None e = node_moved here e
  each_moved here (Some each) e = found_moved (nodes_of each here g.view).found _

  one_moved : (here : List PathStep) (e : Expanding) → block_expanded g here (n + k) d other e ≡ moved k (block_expanded g here n d one e)
  one_moved here e = each_moved here (option_and_then g.readers.expression (text_of_member (codes "for") d)) e

blocks_moved : (g : Ground) (k : ℕ) (blocks : Blocks) (n : ℕ) (here : List PathStep) (e : Expanding) → blocks_expanded g here (n + k) blocks e ≡ moved k (blocks_expanded g here n blocks e)
blocks_moved g k no_block n here e = refl
blocks_moved g k (block d inner later) n here e =
    ap (λ r. go_further r (blocks_expanded g here (n + k + 1 + block_count inner) later))
    (one_moved g k n d (λ node. blocks_expanded g node (n + 1) inner) (λ node. blocks_expanded g node (n + k + 1) inner)
    (λ node e. ap (λ m. blocks_expanded g node m inner e) next ∙ blocks_moved g k inner (n + 1) node e) here e)
    ∙ go_moved k (block_expanded g here n d (λ node. blocks_expanded g node (n + 1) inner) e) (blocks_expanded g here (n + 1 + block_count inner) later)
    (blocks_expanded g here (n + k + 1 + block_count inner) later)
    (λ e. ap (λ m. blocks_expanded g here m later e) (further (block_count inner)) ∙ blocks_moved g k later (n + 1 + block_count inner) here e)
  where
    next : n + k + 1 ≡ n + 1 + k
    next = omega arith

    further : (m : ℕ) → n + k + 1 + m ≡ n + 1 + m + k
    further m = omega arith

-- one block, with those inside it
pub block_moved : (g : Ground) (k n : ℕ) (d : Data) (here : List PathStep) (e : Expanding) → block_in g here (n + k) d e ≡ moved k (block_in g here n d e)
block_moved g k n d here e =
    one_moved g k n d (inner g n d) (inner g (n + k) d)
    (λ node e. ap (λ m. blocks_expanded g node m (blocks_inside d) e) next ∙ blocks_moved g k (blocks_inside d) (n + 1) node e) here e
  where
    next : n + k + 1 ≡ n + 1 + k
    next = omega arith

-- a block that stands after so many others, by its answer under the first of their numbers
pub behind_so : (k : ℕ) (due : Result Expanding Failed) (new : Expanding) (answer r : Result (Unit {0}) ExpandFault) → Expands due new answer → IsBehind k answer r → Expands (moved k due) new r
behind_so k due new answer (Ok x) h is = ap (moved k) (subst (Expands due new) is h)
behind_so k due new answer (Err (fault.At number rule)) h is =
    let failed : due ≡ Err (record { block = is.0; rule = rule; reads = new.reads }) = subst (Expands due new) is.1 h in
    ap (moved k) failed ∙ ap (λ (m : ℕ). Err (record { block = m; rule = rule; reads = new.reads })) (sym is.2)
behind_so k due new answer (Err fault.Memory) h is = tt

pub block_behind : (g : Ground) (k n : ℕ) (d : Data) (here : List PathStep) (e new : Expanding) (answer r : Result (Unit {0}) ExpandFault) → Expands (block_in g here n d e) new answer → IsBehind k answer r
    → Expands (block_in g here (n + k) d e) new r
block_behind g k n d here e new answer r h is =
    subst (λ (due : Result Expanding Failed). Expands due new r) (sym (block_moved g k n d here e)) (behind_so k (block_in g here n d e) new answer r h is)

-- how many blocks the first of some JSON values are
abbrev pub front_count : List Value → ℕ → ℕ
front_count values at = block_count (blocks_of (items_view (take at values)))

count_push : (values : List Value) (value : Value) → block_count (blocks_of (items_view (values ++ value ∷ []))) ≡ block_count (blocks_of (items_view values)) + 1 + block_count (blocks_inside (view value))
count_push [] value = omega arith
count_push (first ∷ later) value = let rest = count_push later value in omega (arith, rest)

pub count_more : (values : List Value) (at : ℕ) (value d : Value) → at < length values → value ≡ get_or values at d → front_count values (at + 1) ≡ front_count values at + 1 + block_count (blocks_inside (view value))
count_more values at value d lt is =
    ap (λ (vs : List Value). block_count (blocks_of (items_view vs))) (take_more values at d lt ∙ ap (λ (v : Value). take at values ++ v ∷ []) (sym is)) ∙ count_push (take at values) value
