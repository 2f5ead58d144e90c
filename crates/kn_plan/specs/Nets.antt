-- The network that is explored: its programs, nodes, links and limits, as a file gives them.
use Rattle.std.specs.Prelude.{ℕ, List, [], slice_index_or, filter, nat_eq}
use Rattle.kn_code.specs.Code.{Code, no_code}
use Rattle.kn_plan.specs.declared.net.Link.{Link as LinkFields}
use Rattle.kn_plan.specs.declared.net.Limits.{Limits as LimitsFields}

-- a node of the file: its program, how many packets it may lose and how many be given twice, and the ticks at which it may reboot
pub record Plan : Type 0 where
  pub program : ℕ
  pub loss : ℕ
  pub duplicate : ℕ
  pub reboot : List ℕ

-- a link from one node to another; a packet takes `delay` ticks, at least 1
abbrev pub Link : Type 0
Link = LinkFields

-- the number of ticks, of instructions in one event, of valuations to try, of states and of dstates
abbrev pub Limits : Type 0
Limits = LimitsFields

-- programs, nodes, links and limits; nodes name their programs by number
pub record Network : Type 0 where
  pub programs : List Code
  pub nodes : List Plan
  pub links : List Link
  pub limits : Limits

-- for a number past the list
abbrev pub no_plan : Plan
no_plan = record { program = 0; loss = 0; duplicate = 0; reboot = [] }

-- the plan of a node
abbrev pub plan_of : Network → ℕ → Plan
plan_of net n = slice_index_or net.nodes n no_plan

-- the program of a node
abbrev pub code_of : Network → ℕ → Code
code_of net n = slice_index_or net.programs (plan_of net n).program no_code

-- the links of a node, in the file's order
abbrev pub links_of : Network → ℕ → List Link
links_of net n = filter (λ (l : Link). nat_eq l.from n) net.links
