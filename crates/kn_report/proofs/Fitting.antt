-- Which columns have the form of a dstate.
use Rattle.std.proofs.Common.{◌≡◌, ℕ, ◌<◌, true, List, [], ◌∷◌, length}
use Rattle.std.specs.Prelude.{nat_lt, nat_eq}
use Rattle.std.specs.List.{AllByRecursion}
use Rattle.std.proofs.lemmas.Bool.{and_parts, ltb-true}
use Rattle.kn_report.specs.Forms.{rises_from, is_column, all_columns, are_columns}

all_some : (states : ℕ) (cs : List (List ℕ)) → all_columns states cs ≡ true → AllByRecursion (λ (c : List ℕ). 0 < length c) cs
all_some states [] e = tt
all_some states (c ∷ cs) e =
    let parts = and_parts (is_column states c) (all_columns states cs) e in
    (ltb-true 0 (length c) (and_parts (nat_lt 0 (length c)) (rises_from 0 states c) parts.0).0, all_some states cs parts.1)

-- no column of a dstate is empty
pub columns_some : (states nodes : ℕ) (cs : List (List ℕ)) → are_columns states nodes cs ≡ true → AllByRecursion (λ (c : List ℕ). 0 < length c) cs
columns_some states nodes cs e = all_some states cs (and_parts (nat_eq (length cs) nodes) (all_columns states cs) e).1
