-- Small and far conditions, and limits that are passed or just kept, on small examples; each row says that a definition holds or that it does not.
use Rattle.std.specs.Prelude.{ℕ, List, [], ◌∷◌}
use Rattle.kn_word.specs.declared.Op.TheVariants as ops
use Rattle.kn_model.specs.Terms.{Word, Input, Apply}
use Rattle.kn_model.specs.Nets.{Network, Plan, Link}
use Rattle.kn_model.specs.Conditions.{Query, that, IsSmall, IsLive, IsFar}
use Rattle.kn_model.specs.Limits.{States, Dstates, IsOver, IsOverCopied}
use Rattle.kn_worked.specs.Networks.{is, is_not, plain, link, ifsend, idle}
use Rattle.kn_worked.specs.OneTick.{half}

-- that an input of 8 bits is not below 200
abbrev pub from_200 : Query
from_200 = that (is_not (Apply ops.Ult (Input 0 0 8) (Word 200)) ∷ [])

-- that an input of 8 bits is 0 and is not
abbrev pub never : Query
never = that (is (Input 0 0 8) ∷ is_not (Input 0 0 8) ∷ [])

-- 8 bits have 256 valuations
abbrev pub SmallAtBound : Type 0
SmallAtBound = IsSmall 256 from_200

-- 255 are too few
abbrev pub LargeBelowBound : Type 0
LargeBelowBound = IsSmall 255 from_200 → ⊥

-- 200 valuations come before the first that meets it
abbrev pub FarAtBound : Type 0
FarAtBound = IsFar 200 from_200

-- 201 do not
abbrev pub NearAboveBound : Type 0
NearAboveBound = IsFar 201 from_200 → ⊥

-- what can be met is live, also where it is small
abbrev pub PossibleIsLive : Type 0
PossibleIsLive = IsLive 256 from_200

-- what cannot be met and is not small is live
abbrev pub LargeIsLive : Type 0
LargeIsLive = IsLive 255 never

-- what cannot be met and is small is not
abbrev pub NeverIsNotLive : Type 0
NeverIsNotLive = IsLive 256 never → ⊥

-- a network of one tick with these limits of states and dstates
abbrev pub bounded : (states dstates : ℕ) → List Plan → List Link → Network
bounded states dstates nodes links = record {
  programs = half ∷ ifsend ∷ idle ∷ [];
  nodes = nodes;
  links = links;
  limits = record { ticks = 1; fuel = 512; conflicts = 65536; states = states; dstates = dstates };
}

-- one node that branches once
abbrev pub one_half : ℕ → Network
one_half states = bounded states 1 (plain 0 ∷ []) []

-- two such nodes
abbrev pub two_halves : ℕ → Network
two_halves dstates = bounded 4 dstates (plain 0 ∷ plain 0 ∷ []) []

-- a node that sends on one side of a branch, and the receiver
abbrev pub one_sends : ℕ → Network
one_sends dstates = bounded 4 dstates (plain 1 ∷ plain 2 ∷ []) (link 0 1 1 ∷ [])

-- two places of one node
abbrev pub PlacesOver : Type 0
PlacesOver = IsOver (one_half 1) 0 States

-- two prefixes of one event
abbrev pub PrefixesOver : Type 0
PrefixesOver = IsOverCopied (one_half 1) 0 States

-- two are not more than two: neither as places nor as prefixes
abbrev pub PlacesKept : Type 0
PlacesKept = IsOver (one_half 2) 0 States → ⊥

-- four scenarios are copied
abbrev pub CopiesOver : Type 0
CopiesOver = IsOverCopied (two_halves 3) 0 Dstates

-- four are not more than four
abbrev pub CopiesKept : Type 0
CopiesKept = IsOverCopied (two_halves 4) 0 Dstates → ⊥

-- they sent the same, so they are one dstate
abbrev pub RecordsKept : Type 0
RecordsKept = IsOver (two_halves 1) 0 Dstates → ⊥

-- a packet that was sent on one side makes two
abbrev pub RecordsOver : Type 0
RecordsOver = IsOver (one_sends 1) 0 Dstates
