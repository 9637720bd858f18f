-- What the text of a block is read as.
use Rattle.std.proofs.Common.{◌≡◌, ℕ, Bool, true, false, not, ◌&&◌, ◌||◌, cond, List, Option, Some, None, Result, Ok, Err, is_some, refl, ap, sym, subst, ◌∙◌}
use Rattle.std.specs.Option.{is_none, option_map_or}
use Rattle.std.specs.Str.{is_utf8}
use Rattle.serde_json.specs.Data.{Data, null}
use Rattle.orc_path.specs.Steps.{PathStep}
use Rattle.orc_schema_nodes.specs.Schemas.{SchemaTable, shape_at}
use Rattle.orc_json.specs.Readings.{IsJson}
use Rattle.orc_template.proofs.Texts.{value_is, value_is_none}
use Rattle.orc_template.specs.Said.{template_json}
use Rattle.orc_template.specs.Templates.{ReadsTemplate, Site, template_fault}
use Rattle.orc_template.specs.TheReaders.{the_readers}
use Rattle.orc_template.specs.declared.fault.TemplateFault.{TemplateFault}
use Rattle.orc_template.specs.declared.fault.TemplateFault.TheVariants as template
use Rattle.orc_decls.specs.declared.rule.Rule.{Rule}
use Rattle.orc_decls.specs.declared.rule.Rule.TheVariants as rule
use Rattle.std.specs.Result.{IsErrAnd}
use Rattle.std.proofs.lemmas.Result.{err_from_is_err_and}
use Rattle.orc_lines.specs.Answers.{ReadsLine, Takes}
use Rattle.orc_lines.specs.Names.{is_among}
use Rattle.orc_lines.specs.declared.declared.Declared.{Declared}
use Rattle.orc_lines.specs.declared.detail.Detail.{Detail}
use Rattle.orc_lines.specs.declared.fault.LineFault.{LineFault}
use Rattle.orc_lines.specs.declared.fault.LineFault.TheVariants.{Breaks, Memory}
use Rattle.orc_lines.proofs.Rules.{err, no_ok, passed, same_ok, so}
use Rattle.orc_declarations.specs.Declarations.{is_listed_already, is_template_of, list_template, may_be_served, with_template}
use Rattle.orc_declarations.specs.inside.Faults.{of_template}
use Rattle.orc_declarations.specs.inside.Templates.{template_of}

module _ (s : SchemaTable) (list : List PathStep) (text : List ℕ) where
  abbrev place : Site
  place = record { readers = the_readers; shapes = shape_at s; node = list }

  -- a value is a template without fault
  holds : Option Data → Bool
  holds o = is_some o && is_none (template_fault place (option_map_or (λ (d : Data). d) o null))

  judged : Bool → Result (List ℕ) Rule
  judged b = cond (not b) (Err rule.Template) (Ok text)

  is_of : (d : Data) (o : Option TemplateFault) → IsJson text d → template_fault place d ≡ o → is_template_of s list text ≡ is_none o
  unfolding holds
  is_of d o is fault = ap holds (value_is text d is) ∙ ap (λ (f : Option TemplateFault). is_none f) fault

  refused : (d : Data) (fault : TemplateFault) → IsJson text d → template_fault place d ≡ Some fault → template_of s list text ≡ Err rule.Template
  unfolding is_utf8 judged
  refused d fault is at = ap judged (is_of d (Some fault) is at)

  -- a text that is read as a template
  pub template_read : (read : List ℕ) → read ≡ text → ReadsTemplate place text (Ok (template_json read)) → template_of s list text ≡ Ok read
  unfolding judged
  template_read read same good = ap judged (is_of (template_json read) None good.0 good.1) ∙ ap (λ (t : List ℕ). Ok t) (sym same)

  -- a text that is refused as a template
  pub template_refused : (fault : TemplateFault) (said : Detail) → ReadsTemplate place text (Err fault)
      → ReadsLine (template_of s list text) (Err (of_template fault said))
  unfolding is_utf8 judged holds
  template_refused template.Memory said h = tt
  template_refused template.NotJson said h = ap (λ (o : Option Data). judged (holds o)) (value_is_none text h)
  template_refused (template.BadMember block) said h = refused h.0 (template.BadMember block) h.1 h.2
  template_refused (template.BadExpr block) said h = refused h.0 (template.BadExpr block) h.1 h.2

-- what is known of one that was read
pub template_holds : (s : SchemaTable) (list : List PathStep) (text read : List ℕ) → template_of s list text ≡ Ok read → is_template_of s list read ≡ true
template_holds s list text read h =
    let parts = passed (not (is_template_of s list text)) rule.Template (Ok text) read h in
    subst (λ (t : List ℕ). is_template_of s list t ≡ true) (same_ok text read parts.1) (so (is_template_of s list text) parts.0)

-- what a list gets where its text is none

module _ (d : Declared) (name : List ℕ) (n : ℕ) (list : List PathStep) (text : List ℕ) where
  abbrev stages : Bool → Bool → Bool → Bool → Result Declared Rule
  stages may among listed good =
      cond (not may) (Err rule.Path) (cond (among || listed) (Err rule.Duplicate) (cond (not good) (Err rule.Template)
      (Ok (with_template d n name (record { list = list; template = text })))))

  broken_by : (broken : Rule) → may_be_served d list ≡ true → is_among d.templates name ≡ false → is_listed_already d list ≡ false
      → template_of d.data_schema list text ≡ Err broken → list_template d name n list text ≡ Err broken
  broken_by broken may new other h = on (is_template_of d.data_schema list text) refl h where
    on : (t : Bool) → is_template_of d.data_schema list text ≡ t → cond (not t) (err (List ℕ) Rule rule.Template) (Ok text) ≡ Err broken
        → list_template d name n list text ≡ Err broken
    on true is h = absurd (no_ok broken text (sym h))
    on false is h =
        let same : rule.Template ≡ broken = cc in
        ap (λ (b : Bool). stages b (is_among d.templates name) (is_listed_already d list) (is_template_of d.data_schema list text)) may
        ∙ ap (λ (b : Bool). stages true b (is_listed_already d list) (is_template_of d.data_schema list text)) new
        ∙ ap (λ (b : Bool). stages true false b (is_template_of d.data_schema list text)) other
        ∙ ap (stages true false false) is ∙ ap (err Declared Rule) same

  fault_of : (fault : LineFault) (e : Declared) → may_be_served d list ≡ true → is_among d.templates name ≡ false → is_listed_already d list ≡ false
      → ReadsLine (template_of d.data_schema list text) (Err fault) → Takes (list_template d name n list text) e (err (Unit {0}) LineFault fault)
  fault_of Memory e may new other h = tt
  fault_of (Breaks broken said) e may new other h = broken_by broken may new other h

  pub template_missed : (r : Result (Unit {0}) LineFault) (fault : LineFault) (e : Declared) → IsErrAnd r (λ y. y ≡ fault) → may_be_served d list ≡ true
      → is_among d.templates name ≡ false → is_listed_already d list ≡ false → ReadsLine (template_of d.data_schema list text) (Err fault)
      → Takes (list_template d name n list text) e r
  template_missed r fault e handed may new other h =
      let p = err_from_is_err_and r handed in
      let same : r ≡ err (Unit {0}) LineFault fault = p.1 ∙ ap (err (Unit {0}) LineFault) p.2 in
      subst (λ (x : Result (Unit {0}) LineFault). Takes (list_template d name n list text) e x) (sym same) (fault_of fault e may new other h)
