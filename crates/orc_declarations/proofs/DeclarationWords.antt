-- A line of declarations by its words.
use Rattle.std.proofs.Common.{◌≡◌, ℕ, Bool, false, cond, List, Option, Some, None, refl, ap, sym, ◌∙◌}
use Rattle.std.proofs.lemmas.Bool.{false≢true}
use denote.Enum.Bare.{sameb}
use Rattle.orc_declarations.specs.Declarations.{after_header, after_text, bare_declaration, declaration, declaration_words, is_header}
use Rattle.orc_lines.specs.Keywords.{keyword_of}
use Rattle.orc_lines.specs.Words.{cut_at}
use Rattle.orc_lines.specs.contracts.declared.Section.{the_type}
use Rattle.orc_lines.specs.declared.declared.Declared.{Declared}
use Rattle.orc_lines.specs.declared.declared.Section.{Section}
use Rattle.orc_lines.specs.declared.declared.Section.TheVariants as section

pub not_header : (s : Section) → sameb the_type s section.Header ≡ false → is_header s ≡ false
not_header section.Header h = absurd (false≢true (sym h))
not_header section.Declarations h = refl
not_header section.Script h = refl

behind_header : (d : Declared) (text : List ℕ) (later : List (List ℕ)) (o : Option (List ℕ × List ℕ)) → is_header d.section ≡ false
    → cut_at 32 text ≡ o → after_text d text later ≡ declaration_words d text later o
unfolding after_text
behind_header d text later o before cut =
    ap (λ (b : Bool). cond b (after_header d text) (declaration_words d text later (cut_at 32 text))) before
    ∙ ap (declaration_words d text later) cut

pub some_words : (d : Declared) (text : List ℕ) (later : List (List ℕ)) (word rest : List ℕ) → is_header d.section ≡ false
    → cut_at 32 text ≡ Some (word, rest) → after_text d text later ≡ declaration (keyword_of word) d rest later
some_words d text later word rest before cut = behind_header d text later (Some (word, rest)) before cut

pub no_words : (d : Declared) (text : List ℕ) (later : List (List ℕ)) → is_header d.section ≡ false
    → cut_at 32 text ≡ None → after_text d text later ≡ bare_declaration (keyword_of text) d
no_words d text later before cut = behind_header d text later None before cut
