-- Where the tables of links have no fault, each gives a link, and there are at most 16 from one node.
use Rattle.std.proofs.Common.{◌≡◌, ℕ, suc, ◌<◌, ◌≤◌, ◌+◌, ◌-◌, Bool, true, false, eqb, cond, List, [], ◌∷◌, ◌++◌, length, codes, None, refl, arith, length-append}
use Rattle.std.specs.List.{AllByRecursion, filter}
use Rattle.std.proofs.lemmas.Bool.{leb-false, eqb-true, eqb-false}
use Rattle.std.proofs.lemmas.List.{append_assoc, append-nil}
use Rattle.std.proofs.lemmas.List.Elements.{filter-append}
use Rattle.toml.specs.Data.{Members}
use Rattle.kn_plan.specs.Nets.{Link}
use Rattle.kn_plan.specs.Valid.{IsLink}
use Rattle.kn_netfile.specs.Faults.{fault_if, item_place, key_place, wrong_link}
use Rattle.kn_netfile.specs.Keys.{unknown_fault, number_fault}
use Rattle.kn_netfile.specs.Tables.{at_key, node_number, link_keys, link_at, is_past_fan, link_fault, links_fault, links_of}
use Rattle.kn_netfile.proofs.ValidKeys.{both_none, not_wrong, needed_within}

-- the links from a node
abbrev from_node : ℕ → List Link → List Link
from_node n ls = filter (λ (l : Link). eqb l.from n) ls

-- what holds of a link's table that has no fault, after these links
record IsFine (nodes : ℕ) (before : List Link) (l : Link) : Type 0 where
  link : IsLink nodes l
  room : length (from_node l.from before) < 16

link_valid : (nodes : ℕ) (before : List Link) (place : List ℕ) (ms : Members) → 1 ≤ nodes → link_fault nodes before place ms ≡ None → IsFine nodes before (link_at nodes ms)
link_valid nodes before place ms some e =
    let (a, one) = both_none (unknown_fault link_keys place ms) _ e in
    let (b, two) = both_none (number_fault true wrong_link (key_place place (codes "from")) (node_number nodes (codes "from") ms)) _ one in
    let (c, three) = both_none (fault_if (is_past_fan before (link_at nodes ms)) wrong_link (key_place place (codes "from"))) _ two in
    let (d, four) = both_none (number_fault true wrong_link (key_place place (codes "to")) (node_number nodes (codes "to") ms)) _ three in
    let (f, g) = both_none (fault_if (eqb (link_at nodes ms).from (link_at nodes ms).to) wrong_link (key_place place (codes "to"))) _ four in
    let from = needed_within 0 (nodes - 1) wrong_link (key_place place (codes "from")) 0 (at_key (codes "from") ms) b in
    let to = needed_within 0 (nodes - 1) wrong_link (key_place place (codes "to")) 0 (at_key (codes "to") ms) d in
    let delay = needed_within 1 65535 wrong_link (key_place place (codes "delay")) 1 (at_key (codes "delay") ms) g in
    record {
      link = record {
        from = omega (arith, from.most);
        to = omega (arith, to.most);
        differ = eqb-false (link_at nodes ms).from (link_at nodes ms).to (not_wrong _ wrong_link (key_place place (codes "to")) f);
        least = delay.least;
        most = delay.most;
      };
      room = leb-false 16 _ (not_wrong (is_past_fan before (link_at nodes ms)) wrong_link (key_place place (codes "from")) c);
    }

-- a table and those behind it
links_split : (nodes index : ℕ) (before : List Link) (ms : Members) (rest : List Members) → 1 ≤ nodes → links_fault nodes index before (ms ∷ rest) ≡ None
    → IsFine nodes before (link_at nodes ms) × (links_fault nodes (suc index) (before ++ link_at nodes ms ∷ []) rest ≡ None)
links_split nodes index before ms rest some e =
    let (a, b) = both_none (link_fault nodes before (item_place (codes "link") index) ms) _ e in
    (link_valid nodes before (item_place (codes "link") index) ms some a, b)

pub links_valid : (nodes index : ℕ) (before : List Link) (tables : List Members) → 1 ≤ nodes → links_fault nodes index before tables ≡ None
    → AllByRecursion (IsLink nodes) (links_of nodes tables)
links_valid nodes index before [] some e = tt
links_valid nodes index before (ms ∷ rest) some e =
    let (a, b) = links_split nodes index before ms rest some e in (a.link, links_valid nodes (suc index) (before ++ link_at nodes ms ∷ []) rest some b)

-- one link more
room_after : (n : ℕ) (before : List Link) (l : Link) → length (from_node l.from before) < 16 → length (from_node n before) ≤ 16 → length (from_node n (before ++ l ∷ [])) ≤ 16
room_after n before l room few = rw (filter-append, length-append) (go (eqb l.from n) refl)
  where
    go : (b : Bool) → eqb l.from n ≡ b → length (from_node n before) + length (cond b (l ∷ []) []) ≤ 16
    go true e = let h = rw (eqb-true l.from n e) at room in omega arith
    go false e = omega arith

pub fan_valid : (nodes index : ℕ) (before : List Link) (tables : List Members) → 1 ≤ nodes → links_fault nodes index before tables ≡ None
    → (n : ℕ) → length (from_node n before) ≤ 16 → length (from_node n (before ++ links_of nodes tables)) ≤ 16
fan_valid nodes index before [] some e n few = rw append-nil few
fan_valid nodes index before (ms ∷ rest) some e n few =
    let (a, b) = links_split nodes index before ms rest some e in
    let h = fan_valid nodes (suc index) (before ++ link_at nodes ms ∷ []) rest some b n (room_after n before (link_at nodes ms) a.room few) in
    rw append_assoc at h
