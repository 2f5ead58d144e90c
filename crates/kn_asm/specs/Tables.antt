-- Tables of labels.
use Rattle.std.specs.Prelude.{ℕ, List, Option, Some, None, if◌then◌else◌, bytes_eq}

abbrev pub first_place : Option ℕ → Option ℕ → Option ℕ
first_place None other = other
first_place (Some place) other = Some place

abbrev pub place_at : List ℕ → List ℕ → ℕ → Option ℕ
place_at q name index = if bytes_eq q name then Some index else None

-- the place of a name where a label may stand
abbrev pub label_at : List ℕ → Option (List ℕ) → ℕ → Option ℕ
label_at q None index = None
label_at q (Some name) index = place_at q name index
