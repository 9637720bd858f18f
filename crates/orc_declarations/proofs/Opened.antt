-- Where the declarations end, and what is lawful there.
use Rattle.std.proofs.Common.{◌≡◌, ◌+◌, ℕ, suc, Bool, true, cond, List, [], ◌∷◌, ◌++◌, drop, length, Option, Some, None, Result, Ok, Err, refl, ap, sym, ◌∙◌, subst, arith, if◌then◌else◌}
use Rattle.std.specs.List.{All, IsDistinct, list_all}
use Rattle.std.specs.Option.{is_none}
use Rattle.std.specs.Result.{IsErrAnd}
use Rattle.std.proofs.lemmas.Result.{err_from_is_err_and}
use Rattle.std.proofs.lemmas.Bool.{and_parts, false≢true}
use Rattle.std.proofs.lemmas.List.{drop-drop}
use Rattle.std.proofs.lemmas.List.Sums.{AllPass-from_list_all}
use Rattle.orc_check.specs.Validity.{Breach, broken_of}
use Rattle.orc_decls.specs.Calls.{is_lawful_name}
use Rattle.orc_decls.specs.Declarations.{AreDecls, accepts_base}
use Rattle.orc_decls.specs.Devices.{is_same_text, names_of}
use Rattle.orc_decls.specs.Openings.{opening_data}
use Rattle.orc_decls.specs.declared.declarations.Device.{Device}
use Rattle.orc_lines.specs.declared.fault.ExplainedFault.{ExplainedFault}
use Rattle.orc_lines.specs.declared.fault.ExplainedFault.TheVariants.{At, Memory}
use Rattle.orc_decls.specs.declared.rule.Rule.{Rule}
use Rattle.orc_decls.specs.declared.rule.Rule.TheVariants as rule
use Rattle.orc_decls.proofs.Declared.{names-lawful}
use Rattle.orc_declarations.specs.Declarations.{Front, declarations_of, is_script, opened, declared_at, is_opening}
use Rattle.orc_lines.specs.Lawful.{decls_with, AreDeclared}
use Rattle.orc_lines.specs.Rules.{on_line}
use Rattle.orc_lines.specs.Lines.{lines_of}
use Rattle.orc_lines.specs.declared.declared.Declared.{Declared}
use Rattle.orc_declarations.specs.declared.read.Behind.{Behind}
use Rattle.orc_declarations.specs.Answers.{Declares, IsOpened}
use Rattle.orc_lines.specs.Answers.{Takes, explained_at, plain_fault}
use Rattle.orc_lines.specs.declared.fault.LineFault.{LineFault}
use Rattle.orc_lines.specs.declared.fault.LineFault.TheVariants as broken
use Rattle.orc_lines.proofs.Rules.{err}

-- what the opening asks

-- the names of declared devices are lawful
pub lawful_names : (d : Declared) → AreDeclared d → All (λ name. is_lawful_name name ≡ true) d.names
lawful_names d known =
    subst (λ (names : List (List ℕ)). All (λ name. is_lawful_name name ≡ true) names) (sym known.named)
    (AllPass-from_list_all is_lawful_name (names_of d.devices) (names-lawful d.schemas d.devices known.devices))

-- where the declarations end

abbrev fault_at : ℕ → Rule → Result Front (ℕ × Rule)
fault_at line rule = Err (line, rule)

abbrev front_at : Front → Result Front (ℕ × Rule)
front_at front = Ok front

abbrev at_fault : ExplainedFault → Result Behind ExplainedFault
at_fault fault = Err fault

abbrev opens_not : ExplainedFault → Result (Unit {0}) ExplainedFault
opens_not fault = Err fault

is_opened : (n : ℕ) (front : Front) → is_opening front.declared ≡ true → opened n front ≡ Ok front
is_opened n front h = ap (λ (b : Bool). cond b (front_at front) (fault_at n rule.Opening)) h

-- the opening is at fault, and so is the line where the declarations end
opening_fault : (answer : Result Front (ℕ × Rule)) (n : ℕ) (front : Front) (fault : ExplainedFault) → answer ≡ opened n front
    → IsOpened front.declared n (opens_not fault) → Declares answer front.declared (at_fault fault)
opening_fault answer n front Memory is h = tt
opening_fault answer n front (At line broken detail) is h =
    is ∙ ap (λ (b : Bool). cond b (front_at front) (fault_at n rule.Opening)) h.0
    ∙ ap (λ (l : ℕ). fault_at l rule.Opening) (sym h.1) ∙ ap (λ (r : Rule). fault_at line r) (sym h.2)

-- a fault of the opening is handed on
handed_on : (r : Result Behind ExplainedFault) (answer : Result Front (ℕ × Rule)) (n : ℕ) (front : Front) (fault : ExplainedFault)
    → IsErrAnd r (λ y. y ≡ fault) → answer ≡ opened n front → IsOpened front.declared n (opens_not fault) → Declares answer front.declared r
handed_on r answer n front fault handed is h =
    let p = err_from_is_err_and r handed in
    let same : r ≡ at_fault fault = p.1 ∙ ap at_fault p.2 in
    subst (λ (x : Result Behind ExplainedFault). Declares answer front.declared x) (sym same) (opening_fault answer n front fault is h)

-- the opening is looked at, in the line of this number
abbrev Ends : Result Front (ℕ × Rule) → ℕ → Front → Type 0
Ends answer n front = answer ≡ opened n front

-- a line more, which is no fault
pub goes_on : (d e : Declared) (at n : ℕ) (line : List ℕ) (later lines : List (List ℕ)) → lines ≡ line ∷ later → declared_at d at line later ≡ Ok e
    → (b : Bool) → is_script e.section ≡ b → declarations_of d at n lines
    ≡ cond b (opened (n + 1) (record { declared = e; size = at; at = at + length line; number = n + 1; later = later })) (declarations_of e (at + length line) (n + 1) later)
goes_on d e at n line later lines first takes b is =
    ap (declarations_of d at n) first
    ∙ ap (λ (r : Result Declared Rule). on_line (n + 1) r (λ x.
    if is_script x.section
    then opened (n + 1) (record { declared = x; size = at; at = at + length line; number = n + 1; later = later })
    else declarations_of x (at + length line) (n + 1) later)) takes
    ∙ ap (λ (t : Bool). cond t (opened (n + 1) (record { declared = e; size = at; at = at + length line; number = n + 1; later = later }))
    (declarations_of e (at + length line) (n + 1) later)) is

-- a line that is at fault, with what in particular is at fault in it

-- a fault of equal line and rule is answered as well
same_fault : (answer : Result Front (ℕ × Rule)) (new : Declared) (x y : ExplainedFault) → plain_fault y ≡ plain_fault x
    → Declares answer new (at_fault x) → Declares answer new (at_fault y)
same_fault answer new x Memory same h = tt
same_fault answer new Memory (At l r detail) same h = absurd (let none : ⊥ = cc in none)
same_fault answer new (At l r detail) (At own other said) same h =
    let lines : own ≡ l = cc in
    let rules : other ≡ r = cc in
    h ∙ ap (λ (n : ℕ). fault_at n r) (sym lines) ∙ ap (λ (it : Rule). fault_at own it) (sym rules)

pub line_fault : (answer : Result Front (ℕ × Rule)) (d new : Declared) (at n : ℕ) (line : List ℕ) (later lines : List (List ℕ)) (fault : LineFault)
    → answer ≡ declarations_of d at n lines → lines ≡ line ∷ later → Takes (declared_at d at line later) new (err (Unit {0}) LineFault fault)
    → (x : ExplainedFault) → plain_fault x ≡ plain_fault (explained_at (n + 1) fault) → Declares answer new (at_fault x)
line_fault answer d new at n line later lines fault so_far first takes x same = same_fault answer new (explained_at (n + 1) fault) x same (on fault takes) where
  on : (f : LineFault) → Takes (declared_at d at line later) new (err (Unit {0}) LineFault f) → Declares answer new (at_fault (explained_at (n + 1) f))
  on broken.Memory h = tt
  on (broken.Breaks r detail) h =
      so_far ∙ ap (declarations_of d at n) first
      ∙ ap (λ (made : Result Declared Rule). on_line (n + 1) made (λ x.
      if is_script x.section
      then opened (n + 1) (record { declared = x; size = at; at = at + length line; number = n + 1; later = later })
      else declarations_of x (at + length line) (n + 1) later)) h

drop_front : (front later : List ℕ) → drop (length front) (front ++ later) ≡ later
drop_front [] later = refl
drop_front (b ∷ bs) later = drop_front bs later

-- the bytes after a line are those from its end on
pub later_bytes : (bytes rest line later : List ℕ) (at : ℕ) → rest ≡ drop at bytes → rest ≡ line ++ later → later ≡ drop (at + length line) bytes
later_bytes bytes rest line later at is parts =
    sym (drop_front line later) ∙ ap (drop (length line)) (sym parts ∙ is) ∙ drop-drop (length line) at bytes

-- after the line `script`
module _ (answer : Result Front (ℕ × Rule)) (d e : Declared) (at n : ℕ) (line : List ℕ) (later lines : List (List ℕ))
    (so_far : answer ≡ declarations_of d at n lines) (first : lines ≡ line ∷ later) (takes : declared_at d at line later ≡ Ok e)
    (here : is_script e.section ≡ true) where
  abbrev pub behind_script : Front
  behind_script = record { declared = e; size = at; at = at + length line; number = n + 1; later = later }

  ends_script : Ends answer (n + 1) behind_script
  ends_script = so_far ∙ goes_on d e at n line later lines first takes true here

  pub script_opens : is_opening e ≡ true → answer ≡ Ok behind_script
  script_opens h = ends_script ∙ is_opened (n + 1) behind_script h

  pub script_faults : (r : Result Behind ExplainedFault) (fault : ExplainedFault) → IsErrAnd r (λ y. y ≡ fault) → IsOpened e (n + 1) (opens_not fault) → Declares answer e r
  script_faults r fault handed h = handed_on r answer (n + 1) behind_script fault handed ends_script h

-- after the last line, where no line `script` came
module _ (answer : Result Front (ℕ × Rule)) (d : Declared) (at n size : ℕ) (rest : List ℕ)
    (so_far : answer ≡ declarations_of d at n (lines_of rest)) (none : length rest ≡ 0) (all : at + length rest ≡ size) where
  abbrev pub behind_text : Front
  behind_text = record { declared = d; size = size; at = at; number = n; later = lines_of rest }

  ends_text : Ends answer (n + 1) behind_text
  ends_text = on rest so_far none all where
    on : (bytes : List ℕ) → answer ≡ declarations_of d at n (lines_of bytes) → length bytes ≡ 0 → at + length bytes ≡ size
        → Ends answer (n + 1) (record { declared = d; size = size; at = at; number = n; later = lines_of bytes })
    on [] is none same =
        let last : at ≡ size = omega arith in
        is ∙ ap (λ (k : ℕ). opened (n + 1) (record { declared = d; size = k; at = at; number = n; later = [] })) last
    on (b ∷ bs) is none same = absurd (omega arith)

  pub text_opens : is_opening d ≡ true → answer ≡ Ok behind_text
  text_opens h = ends_text ∙ is_opened (n + 1) behind_text h

  pub text_faults : (r : Result Behind ExplainedFault) (fault : ExplainedFault) → IsErrAnd r (λ y. y ≡ fault) → IsOpened d (n + 1) (opens_not fault) → Declares answer d r
  text_faults r fault handed h = handed_on r answer (n + 1) behind_text fault handed ends_text h

-- what is lawful there

none_broken : (o : Option Breach) → is_none o ≡ true → o ≡ None
none_broken None h = refl
none_broken (Some b) h = absurd (false≢true h)

names_size : (ds : List Device) → length (names_of ds) ≡ length ds
names_size [] = refl
names_size (d ∷ ds) = ap suc (names_size ds)

pub lawful_decls : (d : Declared) (text : List ℕ) (names : List (List ℕ)) → AreDeclared d → is_opening d ≡ true → names ≡ d.names
    → IsDistinct is_same_text d.names → AreDecls (record (decls_with text d) { names = names })
lawful_decls d text names known opens same distinct =
    let parts = and_parts (is_none (broken_of d.data_schema (opening_data d.names d.data))) (list_all (accepts_base d.schemas) d.devices) opens in
    subst (λ (ns : List (List ℕ)). AreDecls (record (decls_with text d) { names = ns })) (sym same) (record {
      named = known.named;
      plain = known.plain;
      devices = known.devices;
      few = (let one = ap length known.named in let two = names_size d.devices in let three = known.few in omega arith);
      distinct = distinct;
      items = known.items;
      served = known.served;
      services = known.services;
      apart = known.apart;
      table = refl;
      valid = none_broken (broken_of d.data_schema (opening_data d.names d.data)) parts.0;
      accepted = parts.1;
    })
