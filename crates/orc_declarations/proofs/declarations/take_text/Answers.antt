use Rattle.std.proofs.Common.{ap, sym, subst, ◌∙◌, Result}
use Rattle.orc_decls.specs.declared.rule.Rule.{Rule}
use Rattle.orc_declarations.specs.Declarations.{bare_declaration, declaration}
use Rattle.orc_lines.specs.Lines.{lines_of}
use Rattle.orc_lines.specs.Answers.{Takes}
use Rattle.orc_lines.specs.declared.declared.Declared.{Declared}
use Rattle.orc_lines.specs.declared.keyword.Keyword.{Keyword}
use Rattle.orc_declarations.proofs.DeclarationWords.{no_words, not_header, some_words}
use Rattle.orc_declarations.proofs.declarations.take_text.Goals as goal

pub returns-in-Some-clause-takes : goal.returns-in-Some-clause-takes
returns-in-Some-clause-takes c =
    let d = c.args.declared.now in
    let later = lines_of c.args.later.now in
    subst (λ (r : Result Declared Rule). Takes r c.take_words.new.declared c.take_words.result)
    (sym (some_words d c.args.text.now later c.in-Some.word.now c.in-Some.rest.now (not_header d.section (sym c.eq.ensures ∙ c.if-eq.false)) c.in-Some.ensures
    ∙ ap (λ (k : Keyword). declaration k d c.in-Some.rest.now later) (sym c.keyword_of.ensures)))
    c.take_words.ensures.takes

pub returns-in-None-clause-takes : goal.returns-in-None-clause-takes
returns-in-None-clause-takes c =
    let d = c.args.declared.now in
    subst (λ (r : Result Declared Rule). Takes r c.take_word.new.declared c.take_word.result)
    (sym (no_words d c.args.text.now (lines_of c.args.later.now) (not_header d.section (sym c.eq.ensures ∙ c.if-eq.false)) c.in-None.ensures
    ∙ ap (λ (k : Keyword). bare_declaration k d) (sym c.keyword_of-in-None.ensures)))
    c.take_word.ensures.takes
