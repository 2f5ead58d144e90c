-- The network that the generator makes of a number: chains of nodes in which readings go from the source to the sink.
use Rattle.std.specs.Prelude.{ℕ, ◌+◌, ◌-◌, ◌*◌, ◌/◌, ◌%◌, ◌==◌, if◌then◌else◌, List, [], ◌∷◌, map, codes}
use Rattle.std.specs.List.{range_with_len, flat_map}
use Rattle.kn_plan.specs.Nets.{Plan, Link, Network}
use Rattle.kn_plan.specs.Files.{File}
use Rattle.kn_make.specs.Programs.{sink, relay, source}

-- how many nodes a chain has: 2 to 4
abbrev pub chain_length : ℕ → ℕ
chain_length n = 2 + n % 3

-- how many readings each source sends: 1 to 6
abbrev pub reading_count : ℕ → ℕ
reading_count n = 1 + (n / 3) % 6

-- how many chains there are: 1 or 2
abbrev pub chain_count : ℕ → ℕ
chain_count n = 1 + (n / 18) % 2

-- the program by its number of the node at a place of a chain: the sink at the first, the source at the last, else the relay
abbrev pub program_at : ℕ → ℕ → ℕ
program_at length place = if place == 0 then 0 else if place + 1 == length then 2 else 1

-- a node, where chains have this length and follow one another; it may lose one packet
abbrev pub plan_of : ℕ → ℕ → Plan
plan_of length node = record { program = program_at length (node % length); loss = 1; duplicate = 0; reboot = [] }

-- the link of a node to the node before it, unless it is a chain's sink
abbrev pub links_from : ℕ → ℕ → List Link
links_from length node = if node % length == 0 then [] else record { from = node; to = node - 1; delay = 1 } ∷ []

-- so many chains of a length, whose sources send so many readings; the sinks look at what came once all of it is there
abbrev pub network_of : ℕ → ℕ → ℕ → Network
network_of length readings chains = record {
  programs = sink (readings + length + 1) ∷ relay ∷ source readings ∷ [];
  nodes = map (plan_of length) (range_with_len 0 (chains * length));
  links = flat_map (links_from length) (range_with_len 0 (chains * length));
  limits = record { ticks = readings + length + 2; fuel = 512; conflicts = 65536; states = 4096; dstates = 4096 };
}

-- the same with the names of the programs, and no inputs
abbrev pub made_of : ℕ → ℕ → ℕ → File
made_of length readings chains = record {
  network = network_of length readings chains;
  names = codes "sink" ∷ codes "relay" ∷ codes "source" ∷ [];
  inputs = [];
}

-- what the generator makes of a number, 0 to 35
unfoldable pub made : ℕ → File
made n = made_of (chain_length n) (reading_count n) (chain_count n)
