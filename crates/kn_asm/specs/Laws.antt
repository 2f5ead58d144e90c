-- What holds of the texts of programs.
use Rattle.std.specs.Prelude.{◌≡◌, Ok}
use Rattle.kn_code.specs.Code.{Code, IsValid}
use Rattle.kn_asm.specs.Assembling.{assembled}
use Rattle.kn_asm.specs.Printing.{disassembled}

-- a valid program's text is assembled to that program
abbrev pub ReadsBack : Type 0
ReadsBack = (code : Code) → IsValid code → assembled (disassembled code) ≡ Ok code
