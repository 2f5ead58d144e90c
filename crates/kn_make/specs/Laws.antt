-- What holds of the networks that are made.
use Rattle.std.specs.Prelude.{◌≡◌, ℕ, ◌+◌, ◌<◌, List, [], ◌∷◌, map, Ok}
use Rattle.std.specs.List.{AllByRecursion}
use Rattle.kn_code.specs.Code.{IsValid}
use Rattle.kn_asm.specs.Assembling.{assembled}
use Rattle.kn_plan.specs.Files.{IsFile}
use Rattle.kn_netfile.specs.Printing.{file_text}
use Rattle.kn_netfile.specs.Reading.{file_of}
use Rattle.kn_make.specs.Making.{chain_length, reading_count, made}
use Rattle.kn_make.specs.Texts.{sink_text, relay_text, source_text}

-- the numbers of the generator
abbrev pub number_count : ℕ
number_count = 36

-- the texts of the programs of a number's network
abbrev pub texts : ℕ → List (List ℕ)
texts n = sink_text (reading_count n + chain_length n + 1) ∷ relay_text ∷ source_text (reading_count n) ∷ []

-- each program is what its text is assembled to
abbrev pub AreAssembled : Type 0
AreAssembled = (n : ℕ) → n < number_count → map assembled (texts n) ≡ map Ok (made n).network.programs

-- each network is in range, and its programs are valid
abbrev pub AreValid : Type 0
AreValid = (n : ℕ) → n < number_count → IsFile (made n) × AllByRecursion IsValid (made n).network.programs

-- each network is read from its text
abbrev pub AreReadBack : Type 0
AreReadBack = (n : ℕ) → n < number_count → file_of (file_text (made n)) ≡ Ok (made n)
