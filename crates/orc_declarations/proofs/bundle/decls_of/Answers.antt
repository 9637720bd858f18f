use Rattle.std.proofs.Common.{◌≡◌, refl, sym, subst, ◌∙◌}
use Rattle.orc_decls.specs.Declarations.{AreDecls}
use Rattle.orc_lines.specs.Lawful.{decls_with}
use Rattle.orc_declarations.proofs.Bundles.{with_parts}
use Rattle.orc_declarations.proofs.Opened.{lawful_decls}
use Rattle.orc_declarations.proofs.bundle.decls_of.Goals as goal

pub returns-clause-decls : goal.returns-clause-decls
returns-clause-decls c =
    let made : c.into_decls.result ≡ record (decls_with c.in_ok-text.text c.args.declared) { schemas = c.in_ok-table.table.schemas; table = c.in_ok-table.table } = c.into_decls.ensures in
    made ∙ with_parts c.args.declared c.args.text.now c.in_ok-text.text c.in_ok-table.table c.in_ok-text.ensures c.in_ok-table.ensures.table

pub returns-clause-lawful : goal.returns-clause-lawful
returns-clause-lawful c = λ opens.
    let made : c.into_decls.result ≡ record (decls_with c.in_ok-text.text c.args.declared) { schemas = c.in_ok-table.table.schemas; table = c.in_ok-table.table } = c.into_decls.ensures in
    subst AreDecls (sym (made ∙ with_parts c.args.declared c.args.text.now c.in_ok-text.text c.in_ok-table.table c.in_ok-text.ensures c.in_ok-table.ensures.table))
    (lawful_decls c.args.declared c.args.text.now c.args.declared.names c.requires opens refl c.in_ok-table.ensures.distinct)
