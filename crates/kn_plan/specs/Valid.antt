-- Which networks a file can give: the ranges of all numbers, and what names what.
use Rattle.std.specs.Prelude.{◌≡◌, ℕ, ◌<◌, ◌≤◌, List, [], ◌∷◌, length}
use Rattle.std.specs.List.{AllByRecursion}
use Rattle.kn_plan.specs.Nets.{Network, Plan, Link, Limits, links_of}

-- each number is below all that stand behind it
abbrev pub AreRising : List ℕ → Type 0
AreRising [] = Unit {0}
AreRising (t ∷ ts) = AllByRecursion (λ u. t < u) ts × AreRising ts

-- a node's program is one of so many; it loses and doubles at most 15 packets, and has at most 16 reboot ticks, rising
pub record IsPlan (programs : ℕ) (p : Plan) : Type 0 where
  pub names : p.program < programs
  pub loss : p.loss ≤ 15
  pub duplicate : p.duplicate ≤ 15
  pub reboots : length p.reboot ≤ 16
  pub ticks : AllByRecursion (λ t. t ≤ 4095) p.reboot
  pub rising : AreRising p.reboot

-- a link joins two different nodes of so many, and takes 1 to 65,535 ticks
pub record IsLink (nodes : ℕ) (l : Link) : Type 0 where
  pub from : l.from < nodes
  pub to : l.to < nodes
  pub differ : l.from ≡ l.to → ⊥
  pub least : 1 ≤ l.delay
  pub most : l.delay ≤ 65535

-- the limits of a network with so many nodes
pub record AreLimits (nodes : ℕ) (l : Limits) : Type 0 where
  pub ticks : l.ticks ≤ 4096
  pub some_fuel : 1 ≤ l.fuel
  pub fuel : l.fuel ≤ 4096
  pub some_conflicts : 1 ≤ l.conflicts
  pub conflicts : l.conflicts ≤ 1048576
  pub each_node : nodes ≤ l.states
  pub states : l.states ≤ 16384
  pub some_dstates : 1 ≤ l.dstates
  pub dstates : l.dstates ≤ 16384

-- 1 to 64 programs and nodes, at most 1,024 links and 16 from one node, all in range; each program is valid by its type
pub record IsNet (net : Network) : Type 0 where
  pub some_programs : 1 ≤ length net.programs
  pub programs : length net.programs ≤ 64
  pub some_nodes : 1 ≤ length net.nodes
  pub nodes : length net.nodes ≤ 64
  pub plans : AllByRecursion (IsPlan (length net.programs)) net.nodes
  pub links : length net.links ≤ 1024
  pub joins : AllByRecursion (IsLink (length net.nodes)) net.links
  pub fan : (n : ℕ) → length (links_of net n) ≤ 16
  pub limits : AreLimits (length net.nodes) net.limits
