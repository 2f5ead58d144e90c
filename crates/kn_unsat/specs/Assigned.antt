-- What is assigned while a line is checked.
use Rattle.std.specs.Prelude.{◌≡◌, ℕ, Bool, List}
use Rattle.std.specs.Prelude.{nat_eq}
use Rattle.std.specs.HashMap.{HashMap, get}
use Rattle.kn_cnf.specs.declared.clauses.Lit.{Lit}
use Rattle.kn_cnf.specs.Units.{valued}

-- the map has the value of each variable that is assigned
abbrev pub Assigns : {S : Type 0} → HashMap ℕ Bool S → List Lit → Type 0
Assigns m ls = (q : ℕ) → get nat_eq m q ≡ valued ls q
