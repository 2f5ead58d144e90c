-- What a file gives, or its fault, and what `read` answers.
use Rattle.std.specs.Prelude.{◌≡◌, ℕ, nat_lt, if◌then◌else◌, List, length, Option, Some, None, Result, Ok, Err}
use Rattle.std.specs.Str.{is_utf8}
use Rattle.toml.specs.Data.{Members}
use Rattle.toml.specs.Parse.{parse_document}
use Rattle.kn_plan.specs.Files.{File}
use Rattle.kn_netfile.specs.declared.reading.FileFault.{FileFault}
use Rattle.kn_netfile.specs.declared.reading.FileFault.TheVariants as faults
use Rattle.kn_netfile.specs.Faults.{Fault, too_long, no_document, everywhere}
use Rattle.kn_netfile.specs.Tables.{file_fault, file_at}

-- the most bytes of a file
abbrev pub most_bytes : ℕ
most_bytes = 1048576

abbrev pub outcome : {A : Type 0} → Option Fault → A → Result A Fault
outcome None x = Ok x
outcome (Some f) x = Err f

-- what the tables of a file give, or their fault of the lowest number, the first one of these
unfoldable pub file_of_tables : Members → Result File Fault
file_of_tables ms = outcome (file_fault ms) (file_at ms)

abbrev pub file_of_document : Option Members → Result File Fault
file_of_document None = Err (record { number = no_document; place = everywhere })
file_of_document (Some ms) = file_of_tables ms

-- what bytes give as a network file, or their fault
unfoldable pub file_of : List ℕ → Result File Fault
file_of bytes =
    if nat_lt most_bytes (length bytes) then Err (record { number = too_long; place = everywhere })
    else if is_utf8 bytes then file_of_document (parse_document bytes)
    else Err (record { number = no_document; place = everywhere })

-- the fault is the one that the file has, or want of memory
abbrev pub IsFaultOf : Result File Fault → FileFault → Type 0
IsFaultOf r (faults.Refused number place) = r ≡ Err (record { number = number; place = place })
IsFaultOf r (faults.Memory e) = Unit {0}

-- the answer is what the file gives, or its fault, or want of memory
abbrev pub Answers : Result File Fault → Result File FileFault → Type 0
Answers r (Ok file) = r ≡ Ok file
Answers r (Err e) = IsFaultOf r e
