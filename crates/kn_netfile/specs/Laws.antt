-- What holds of the texts of networks.
use Rattle.std.specs.Prelude.{◌≡◌, ◌≤◌, length, Ok}
use Rattle.std.specs.List.{AllByRecursion}
use Rattle.kn_code.specs.Code.{IsValid}
use Rattle.kn_plan.specs.Files.{File, IsFile}
use Rattle.kn_netfile.specs.Reading.{file_of, most_bytes}
use Rattle.kn_netfile.specs.Printing.{file_text}

-- a network of valid programs is read from its text, where that is not too long
abbrev pub ReadsBack : Type 0
ReadsBack = (file : File) → IsFile file → AllByRecursion IsValid file.network.programs → length (file_text file) ≤ most_bytes → file_of (file_text file) ≡ Ok file
