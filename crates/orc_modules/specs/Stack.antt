-- The statements around a place, as the code holds them.
use Rattle.std.specs.Prelude.{List, [], ◌∷◌}
use Rattle.orc_yang.specs.declared.statement.Stmt.{Stmt}
use Rattle.orc_modules.specs.declared.scope.Above.{Above, Top, Module, Under', Indexed'}
use Rattle.orc_modules.specs.declared.scope.Found as declared
use Rattle.orc_modules.specs.declared.place.Modules as carried
use Rattle.orc_modules.specs.declared.place.Place as declared_place
use Rattle.orc_modules.specs.Scopes as scopes
use Rattle.orc_modules.specs.Statements as statements

-- the statements around, the innermost first
abbrev pub stack : Above → List Stmt
stack Top = []
stack (Module s) = s.now ∷ []
stack (Under' s p above) = s.now ∷ stack above
stack (Indexed' b p above) = b.now ∷ stack above

-- a definition as the code finds it
abbrev pub found : declared.Found → scopes.Found
found f = record { above = stack f.above; here = f.here.now }

-- the modules as the code carries them
abbrev pub modules_of : carried.Modules → scopes.Modules
modules_of ms = record { all = ms.all.now; most = ms.most }

-- a place as the code holds it
abbrev pub place : declared_place.Place → statements.Place
place p = record { above = stack p.above.now; before = p.before.now; here = p.here.now }
