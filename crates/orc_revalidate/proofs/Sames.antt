-- Names: those of a path, and the line of the schema that has them.
use Rattle.std.proofs.Common.{◌≡◌, ℕ, inl, inr, Bool, true, false, cond, List, [], ◌∷◌, ◌++◌, Some, None, refl, sym, ap, ◌∙◌, is_some}
use Rattle.std.specs.declared.option.Option.{Option}
use Rattle.std.specs.Prelude.{option_map, option_and_then, if◌then◌else◌}
use Rattle.std.specs.List.{find, AllByRecursion}
use Rattle.std.specs.Cmp.Lexicographic.{bytes_decides, pointwise_decides}
use Rattle.std.proofs.lemmas.Bool.{false≢true}
use Rattle.std.proofs.lemmas.List.{map-append}
use Rattle.std.proofs.lemmas.Option.{same_Some}
use Rattle.orc_path.specs.Steps.{PathStep}
use Rattle.orc_value.specs.Canon.{same_text}
use Rattle.orc_schema_nodes.specs.Names.{same_names}
use Rattle.orc_schema_nodes.specs.Schemas.{SchemaTable, Ascends, path_names, is_line_at, node_at}
use Rattle.orc_schema_nodes.specs.declared.line.SchemaLine.{SchemaLine}
use Rattle.orc_schema_nodes.specs.declared.line.Target.{Target}
use Rattle.orc_schema_nodes.proofs.Ordered.{sorted_alone}
use Rattle.orc_check.specs.Validity.{behind, goes_down, plain_steps, reached, target_in}
use Rattle.orc_revalidate.specs.inside.Looked.{line_at}
use Rattle.orc_revalidate.proofs.Members.{In}
use Rattle.orc_revalidate.proofs.Rowed.{Path}

abbrev pub Names : Type 0
Names = List (List ℕ)

pub names_are : (a b : Names) → same_names a b ≡ true → a ≡ b
names_are a b h = (pointwise_decides bytes_decides a b).0 h

pub names_same : (a b : Names) → a ≡ b → same_names a b ≡ true
names_same a b e = (pointwise_decides bytes_decides a b).1 e

-- ---- what comes after the names of a path

pub behind_own : (path : Path) (more : Names) → behind path (path_names path ++ more) ≡ Some more
behind_own [] more = refl
behind_own (step ∷ path) more =
    ap (λ b. if b then behind path (path_names path ++ more) else None) ((bytes_decides step.node step.node).1 refl) ∙ behind_own path more

pub behind_is : (path : Path) (names later : Names) → behind path names ≡ Some later → path_names path ++ later ≡ names
behind_is [] names later h = sym (same_Some names later h)
behind_is (step ∷ path) [] later h = absurd (false≢true (ap is_some h))
behind_is (step ∷ path) (name ∷ names) later h = on (same_text step.node name) refl (behind_is path names later) h
  where
    on : (b : Bool) → same_text step.node name ≡ b → (behind path names ≡ Some later → path_names path ++ later ≡ names)
        → (if b then behind path names else None) ≡ Some later → path_names (step ∷ path) ++ later ≡ name ∷ names
    on false e go h = absurd (false≢true (ap is_some h))
    on true e go h = ap (λ (n : List ℕ). n ∷ (path_names path ++ later)) ((bytes_decides step.node name).0 e) ∙ ap (λ (ns : Names). name ∷ ns) (go h)

plain_names : (names : Names) → path_names (plain_steps names) ≡ names
plain_names [] = refl
plain_names (name ∷ names) = ap (λ (ns : Names). name ∷ ns) (plain_names names)

-- a node that is reached from a place: the place with steps without keys after it, one at least
pub record IsReached (s : SchemaTable) (place : Path) (names : Names) (own : Path) : Type 0 where
  pub later : Names
  pub at : behind place names ≡ Some later
  pub down : goes_down s (path_names place) later ≡ true
  pub is : own ≡ place ++ plain_steps later

pub is_reached : (s : SchemaTable) (place : Path) (names : Names) (own : Path) → reached s place names ≡ Some own → IsReached s place names own
is_reached s place names own h = on (behind place names) refl h
  where
    by : (later : Names) (b : Bool) → behind place names ≡ Some later → goes_down s (path_names place) later ≡ b
        → (if b then Some (place ++ plain_steps later) else None) ≡ Some own → IsReached s place names own
    by later false is down h = absurd (false≢true (ap is_some h))
    by later true is down h = record { later = later; at = is; down = down; is = sym (same_Some (place ++ plain_steps later) own h) }

    on : (o : Option Names) → behind place names ≡ o
        → option_and_then (λ later. if goes_down s (path_names place) later then Some (place ++ plain_steps later) else None) o ≡ Some own
        → IsReached s place names own
    on None is h = absurd (false≢true (ap is_some h))
    on (Some later) is h = by later (goes_down s (path_names place) later) is refl h

pub reached_names : (s : SchemaTable) (place : Path) (names : Names) (own : Path) → IsReached s place names own → path_names own ≡ names
reached_names s place names own r =
    ap path_names r.is ∙ map-append (λ (t : PathStep). t.node) place (plain_steps r.later)
    ∙ ap (λ (ns : Names). path_names place ++ ns) (plain_names r.later) ∙ behind_is place names r.later r.at

-- ---- the lines of a schema

found_among : (names : Names) (lines : List SchemaLine) (line : SchemaLine) → find (is_line_at names) lines ≡ Some line → In lines line
found_among names [] line h = absurd (false≢true (ap is_some h))
found_among names (x ∷ lines) line h = on (is_line_at names x) h (found_among names lines line)
  where
    on : (b : Bool) → cond b (Some x) (find (is_line_at names) lines) ≡ Some line → (find (is_line_at names) lines ≡ Some line → In lines line) → In (x ∷ lines) line
    on true e later = inl (same_Some x line e)
    on false e later = inr (later e)

pub line_among : (s : SchemaTable) (path : Path) (line : SchemaLine) → line_at s path ≡ Some line → In s.lines line
line_among s path line h = found_among (path_names path) s.lines line h

-- a line is the one of its names
only_line : (names : Names) (lines : List SchemaLine) (line found : SchemaLine) → AllByRecursion (λ x. is_line_at names x ≡ true → x ≡ found) lines
    → In lines line → is_line_at names line ≡ true → line ≡ found
only_line names [] line found all h is = absurd h
only_line names (x ∷ lines) line found all (inl e) is = sym e ∙ all.0 (ap (is_line_at names) e ∙ is)
only_line names (x ∷ lines) line found all (inr h) is = only_line names lines line found all.1 h is

finds : (names : Names) (lines : List SchemaLine) (line : SchemaLine) → In lines line → is_line_at names line ≡ true → is_some (find (is_line_at names) lines) ≡ true
finds names [] line h is = absurd h
finds names (x ∷ lines) line h is = on (is_line_at names x) refl h (λ later. finds names lines line later is)
  where
    on : (b : Bool) → is_line_at names x ≡ b → In (x ∷ lines) line → (In lines line → is_some (find (is_line_at names) lines) ≡ true)
        → is_some (cond b (Some x) (find (is_line_at names) lines)) ≡ true
    on true e h later = refl
    on false e (inl same) later = absurd (false≢true (sym e ∙ ap (is_line_at names) same ∙ is))
    on false e (inr there) later = later there

pub line_found : (s : SchemaTable) (path : Path) (line : SchemaLine) → Ascends s.lines → In s.lines line → path_names path ≡ line.names → line_at s path ≡ Some line
line_found s path line ascends h same = on (line_at s path) refl (finds (path_names path) s.lines line h is)
  where
    is : is_line_at (path_names path) line ≡ true
    is = names_same line.names (path_names path) (sym same)

    on : (o : Option SchemaLine) → line_at s path ≡ o → is_some o ≡ true → o ≡ Some line
    on None e some = absurd (false≢true some)
    on (Some found) e some =
        ap Some (sym (only_line (path_names path) s.lines line found (sorted_alone (λ (l : SchemaLine). l.names) (path_names path) s.lines ascends found e) h is))

-- the target of a node at names is that of a line
pub record IsTargetOf (s : SchemaTable) (target : Target) : Type 0 where
  pub line : SchemaLine
  pub among : In s.lines line
  pub leads : target_in line.node ≡ Some target

pub target_line : (s : SchemaTable) (names : Names) (target : Target) → option_and_then target_in (node_at s names) ≡ Some target → IsTargetOf s target
target_line s names target h = on (find (is_line_at names) s.lines) refl h
  where
    on : (o : Option SchemaLine) → find (is_line_at names) s.lines ≡ o → option_and_then target_in (option_map (λ l. l.node) o) ≡ Some target → IsTargetOf s target
    on None is h = absurd (false≢true (ap is_some h))
    on (Some line) is h = record { line = line; among = found_among names s.lines line is; leads = h }
