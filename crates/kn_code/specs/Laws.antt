-- What holds of the spellings of programs.
use Rattle.std.specs.Prelude.{◌≡◌, Ok}
use Rattle.kn_code.specs.Code.{Code, IsValid}
use Rattle.kn_code.specs.Rows.{spelling}
use Rattle.kn_code.specs.Decoding.{code_at}

-- a valid program is read from its spelling
abbrev pub ReadsBack : Type 0
ReadsBack = (code : Code) → IsValid code → code_at (spelling code) ≡ Ok code

-- no two valid programs have one spelling
abbrev pub OneSpelling : Type 0
OneSpelling = (p q : Code) → IsValid p → IsValid q → spelling p ≡ spelling q → p ≡ q
