-- The inputs of a circuit as bits of a network's inputs, and the words that they spell.
use Rattle.std.specs.Prelude.{◌≡◌, ℕ, zero, suc, ◌+◌, ◌-◌, ◌<◌, ◌≤◌, Bool, true, false, ◌&&◌, nat_eq, if◌then◌else◌, List, [], ◌∷◌, length, slice_get, slice_index_or, Some}
use Rattle.std.specs.List.{AllByRecursion}
use Rattle.kn_aig.specs.declared.gates.AigNode.{AigNode}
use Rattle.kn_aig.specs.declared.gates.AigNode.TheVariants as nodes
use Rattle.kn_aig.specs.Circuits.{inputs_of}
use Rattle.kn_term.specs.Terms.{Term, Valuation, Reads, listed}
use Rattle.kn_term.specs.Valuations.{precedes}
use Rattle.kn_blast.specs.declared.inputs.InputBits.{InputBits}
use Rattle.kn_blast.specs.Spelling.{weight}

-- the width that is listed for an input, or 0
abbrev pub width_of : List InputBits → ℕ → ℕ → ℕ
width_of [] n k = 0
width_of (e ∷ es) n k = if nat_eq e.node n && nat_eq e.index k then e.width else width_of es n k

-- how many bits the inputs have together
abbrev pub bits_of : List InputBits → ℕ
bits_of [] = 0
bits_of (e ∷ es) = e.width + bits_of es

-- an input comes before another one, in order of node and index
abbrev pub IsBefore : InputBits → InputBits → Type 0
IsBefore e f = precedes e.node e.index f.node f.index ≡ true

-- Inputs in order of node and index, each once, with 1 to 16 bits: the highest is the first bit that is not another's
-- before it, and the lowest is the last.
abbrev pub AreInputBits : ℕ → List InputBits → Type 0
AreInputBits first [] = Unit {0}
AreInputBits first (e ∷ es) = (1 ≤ e.width) × (e.width ≤ 16) × (e.lowest + 1 ≡ first + e.width) × AllByRecursion (IsBefore e) es × AreInputBits (first + e.width) es

-- the word of so many bits, of which the lowest is the one at a place, and higher ones stand before it
abbrev pub word_before : List Bool → ℕ → ℕ → ℕ
word_before bits lowest zero = 0
word_before bits lowest (suc width) = word_before bits lowest width + weight (slice_index_or bits (lowest - width) false) width

-- the words of all inputs
abbrev pub given_by : List Bool → List InputBits → Valuation
given_by bits [] = []
given_by bits (e ∷ es) = record { node = e.node; index = e.index; word = word_before bits e.lowest e.width } ∷ given_by bits es

-- a valuation gives each input the word that its bits spell, and 0 to all others
abbrev pub IsGivenBy : List Bool → List InputBits → Valuation → Type 0
IsGivenBy bits entries a = (n k : ℕ) → listed a n k ≡ listed (given_by bits entries) n k

-- each input that a term reads is listed at least as wide
abbrev pub Covers : List InputBits → Term → Type 0
Covers entries t = (n k width : ℕ) → Reads n k width t → width ≤ width_of entries n k

-- the first so many nodes behind the constant are the first inputs
abbrev pub BeginsWithInputs : List AigNode → ℕ → Type 0
BeginsWithInputs ns count = (place : ℕ) → place < count → slice_get ns (1 + place) ≡ Some (nodes.Input place)

-- the bits that are listed are the first inputs of a circuit
abbrev pub IsOpenIn : List InputBits → List AigNode → Type 0
IsOpenIn entries ns = BeginsWithInputs ns (bits_of entries)

-- a circuit without gates
abbrev pub HasOnlyInputs : List AigNode → Type 0
HasOnlyInputs ns = (length ns ≡ 1 + inputs_of ns) × BeginsWithInputs ns (inputs_of ns)

-- inputs with these words as widths, whose bits follow one another
abbrev pub laid_out : ℕ → Valuation → List InputBits
laid_out first [] = []
laid_out first (g ∷ gs) = record { node = g.node; index = g.index; width = g.word; lowest = first + g.word - 1 } ∷ laid_out (first + g.word) gs
