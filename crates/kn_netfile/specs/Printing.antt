-- The text of a network.
use Rattle.std.specs.Prelude.{ℕ, List, [], ◌∷◌, ◌++◌, slice_index_or, codes, decimal}
use Rattle.std.specs.List.{flat_map, zip}
use Rattle.hex.specs.Hex.{encode_lower}
use Rattle.kn_code.specs.Code.{Code}
use Rattle.kn_code.specs.Rows.{spelling}
use Rattle.kn_term.specs.Terms.{Given}
use Rattle.kn_plan.specs.Nets.{Plan, Link, Limits}
use Rattle.kn_plan.specs.Files.{File}

-- a key and its value, on a line
abbrev pub line_text : List ℕ → List ℕ → List ℕ
line_text key value = key ++ (codes " = " ++ (value ++ 10 ∷ []))

abbrev pub number_line : List ℕ → ℕ → List ℕ
number_line key n = line_text key (decimal n)

abbrev pub quoted : List ℕ → List ℕ
quoted s = 34 ∷ s ++ 34 ∷ []

-- an empty line, and the header of an element of an array of tables
abbrev pub header_text : List ℕ → List ℕ
header_text key = codes "\n[[" ++ (key ++ codes "]]\n")

abbrev pub more_numbers : List ℕ → List ℕ
more_numbers [] = codes "]"
more_numbers (n ∷ ns) = codes ", " ++ (decimal n ++ more_numbers ns)

abbrev pub numbers_text : List ℕ → List ℕ
numbers_text [] = codes "[]"
numbers_text (n ∷ ns) = codes "[" ++ (decimal n ++ more_numbers ns)

unfoldable pub limits_text : Limits → List ℕ
limits_text l =
    number_line (codes "version") 1
    ++ (number_line (codes "ticks") l.ticks
    ++ (number_line (codes "fuel") l.fuel
    ++ (number_line (codes "conflicts") l.conflicts
    ++ (number_line (codes "states") l.states
    ++ (number_line (codes "dstates") l.dstates ++ [])))))

-- a name and its program, by its bytecode alone
unfoldable pub program_text : List ℕ × Code → List ℕ
program_text p = header_text (codes "program") ++ (line_text (codes "name") (quoted p.0) ++ (line_text (codes "code") (quoted (encode_lower (spelling p.1))) ++ []))

-- a node, where the programs have these names
unfoldable pub node_text : List (List ℕ) → Plan → List ℕ
node_text names p =
    header_text (codes "node")
    ++ (line_text (codes "program") (quoted (slice_index_or names p.program []))
    ++ (number_line (codes "loss") p.loss
    ++ (number_line (codes "duplicate") p.duplicate
    ++ (line_text (codes "reboot") (numbers_text p.reboot) ++ []))))

unfoldable pub link_text : Link → List ℕ
link_text l = header_text (codes "link") ++ (number_line (codes "from") l.from ++ (number_line (codes "to") l.to ++ (number_line (codes "delay") l.delay ++ [])))

unfoldable pub input_text : Given → List ℕ
input_text g = header_text (codes "input") ++ (number_line (codes "node") g.node ++ (number_line (codes "index") g.index ++ (number_line (codes "value") g.word ++ [])))

-- the text of what a file gives: all limits, then each program, node, link and input with all its keys
unfoldable pub file_text : File → List ℕ
file_text f =
    limits_text f.network.limits
    ++ (flat_map program_text (zip f.names f.network.programs)
    ++ (flat_map (node_text f.names) f.network.nodes
    ++ (flat_map link_text f.network.links ++ flat_map input_text f.inputs)))
