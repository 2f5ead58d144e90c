-- The key of a packet, by which packets stand in order and are found. What a packet is besides does not matter here.
use Rattle.std.specs.Prelude.{ℕ, Bool, true, nat_eq, List, Option, find}
use Rattle.kn_built.specs.Putting.{below_or, without_first}

-- when a packet arrives, who sent it, the sender's sequence number, and which copy it is
pub record Key : Type 0 where
  pub arrival : ℕ
  pub from : ℕ
  pub seq : ℕ
  pub copy : ℕ

-- by arrival, sender, sequence, copy: a does not come after b
abbrev pub key_le : Key → Key → Bool
key_le a b = below_or a.arrival b.arrival (below_or a.from b.from (below_or a.seq b.seq (below_or a.copy b.copy true)))

-- things that have keys
module _ {P : Type 0} (key : P → Key) where
  -- p does not come after q
  abbrev pub le_by : P → P → Bool
  le_by p q = key_le (key p) (key q)

  -- it arrives at a tick
  abbrev pub arrives_by : ℕ → P → Bool
  arrives_by tick p = nat_eq (key p).arrival tick

  -- the first that arrives at a tick
  abbrev pub first_by : ℕ → List P → Option P
  first_by tick q = find (arrives_by tick) q

  -- the others
  abbrev pub others_by : ℕ → List P → List P
  others_by tick q = without_first (arrives_by tick) q
