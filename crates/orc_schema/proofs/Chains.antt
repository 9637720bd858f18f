-- One step along a chain of leafrefs.
use Rattle.std.proofs.Common.{◌≡◌, ◌∙◌, ap, List, ℕ, suc, Bool, false}
use Rattle.std.specs.Prelude.{Option, Some, ◌||◌, option_and_then}
use Rattle.std.specs.Option.{option_map_or}
use Rattle.orc_value.specs.declared.kind.Kind.{Kind}
use Rattle.orc_schema.specs.declared.draft.Draft.{Draft}
use Rattle.orc_statements.specs.declared.reference.Reference.{Reference}
use Rattle.orc_schema.specs.Links.{Lookup, reference_at, led_to, next, leads_to, own_kind, end_kind, value_type, has_names}

module _ (n m : ℕ) (is : n ≡ suc m) (look : Lookup) (d : Draft) where
  module _ (names : List (List ℕ)) where
    abbrev on_from : Option Draft → Bool
    on_from o = option_map_or (λ e. has_names names e || leads_to m look names e) o false

    opened : leads_to n look names d ≡ on_from (next look d)
    opened = ap (λ k. leads_to k look names d) is

    pub leads_on : (e : Draft) → next look d ≡ Some e → has_names names e ≡ false → leads_to n look names d ≡ leads_to m look names e
    leads_on e leads other = opened ∙ ap on_from leads ∙ ap (λ b. b || leads_to m look names e) other

  abbrev ends_from : Option Reference → Option Kind
  ends_from o = option_map_or (λ r. option_and_then (end_kind m look) (led_to look d r)) o (own_kind (value_type d.node))

  ends : end_kind n look d ≡ ends_from (reference_at d)
  ends = ap (λ k. end_kind k look d) is

  pub ends_on : (r : Reference) (e : Draft) → reference_at d ≡ Some r → led_to look d r ≡ Some e → end_kind n look d ≡ end_kind m look e
  ends_on r e at leads = ends ∙ ap ends_from at ∙ ap (option_and_then (end_kind m look)) leads
