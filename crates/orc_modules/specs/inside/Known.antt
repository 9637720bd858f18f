-- Groupings of one block of which it is known that they bring nothing.
use Rattle.std.specs.Prelude.{◌≡◌, ℕ, Bool, false, ◌&&◌, List, nat_le}
use Rattle.std.specs.List.{list_any}
use Rattle.orc_value.specs.Canon.{same_text}
use Rattle.orc_yang.specs.declared.statement.Stmt.{Stmt}
use Rattle.orc_modules.specs.declared.bare.Known.{Known}
use Rattle.orc_modules.specs.inside.Beside.{beside_brings}

-- none of those that are known may bring anything
abbrev pub AreBare : List Stmt → List Stmt → List Known → Type 0
AreBare modules above ks = list_any (λ k. beside_brings k.depth modules above k.name.now) ks ≡ false

-- it is known of this one, through groupings fewer than n deep
abbrev pub is_known : ℕ → List ℕ → Known → Bool
is_known n name k = nat_le k.depth n && same_text k.name.now name
