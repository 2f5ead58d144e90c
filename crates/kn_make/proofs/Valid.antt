-- What the generator makes is in range.
use Rattle.std.proofs.Common.{◌≡◌, ℕ, zero, suc, ◌+◌, ◌-◌, ◌*◌, ◌%◌, ◌<◌, ◌≤◌, Bool, true, false, eqb, cond, List, [], ◌∷◌, ◌++◌, map, filter, length, codes, inl, lit≤, refl, subst, sym, arith}
use Rattle.std.specs.List.{range_with_len, flat_map, AllByRecursion}
use Rattle.std.proofs.lemmas.List.Sums.{length-filter, count_by-le-length}
use Rattle.std.proofs.lemmas.List.FromFn.{length-map-range_with_len}
use Rattle.std.proofs.Math.Nat.{zero-mod}
use Rattle.kn_code.specs.Code.{Code}
use Rattle.kn_term.specs.Terms.{Valuation}
use Rattle.kn_plan.specs.Nets.{Plan, Link}
use Rattle.kn_plan.specs.Valid.{IsPlan, IsLink, IsNet, AreLimits}
use Rattle.kn_plan.specs.Files.{IsFile, IsName}
use Rattle.kn_make.specs.Making.{program_at, plan_of, links_from, network_of, made_of}

-- there are three programs
program_below : (h place : ℕ) → program_at h place < 3
program_below h place = go (eqb place 0) (eqb (place + 1) h) where
  go : (a b : Bool) → cond a 0 (cond b 2 1) < 3
  go true b = omega arith
  go false true = omega arith
  go false false = omega arith

plans_in_range : (h a n : ℕ) → AllByRecursion (IsPlan 3) (map (plan_of h) (range_with_len a n))
plans_in_range h a zero = tt
plans_in_range h a (suc n) =
    (record { names = program_below h (a % h); loss = lit≤ tt; duplicate = lit≤ tt; reboots = lit≤ tt; ticks = tt; rising = tt }, plans_in_range h (a + 1) n)

-- a node that is no chain's first is not node 0
not_first : (h a : ℕ) → eqb (a % h) 0 ≡ false → 0 < a
not_first h zero e = absurd (let z : zero % h ≡ zero = zero-mod h in let both : eqb 0 0 ≡ false = subst (λ k. eqb k 0 ≡ false) z e in cc)
not_first h (suc a) e = omega arith

links_in_range : (h nodes a n : ℕ) → a + n ≤ nodes → AllByRecursion (IsLink nodes) (flat_map (links_from h) (range_with_len a n))
links_in_range h nodes a zero fit = tt
links_in_range h nodes a (suc n) fit = go (eqb (a % h) 0) refl (links_in_range h nodes (a + 1) n (omega (arith, fit))) where
  go : (b : Bool) → eqb (a % h) 0 ≡ b → AllByRecursion (IsLink nodes) (flat_map (links_from h) (range_with_len (a + 1) n)) → AllByRecursion (IsLink nodes) (cond b [] (record { from = a; to = a - 1; delay = 1 } ∷ []) ++ flat_map (links_from h) (range_with_len (a + 1) n))
  go true e rest = rest
  go false e rest =
      let some : 0 < a = not_first h a e in
      (record { from = omega (arith, fit); to = omega (arith, fit); differ = λ s. omega (arith, s, some); least = lit≤ tt; most = lit≤ tt }, rest)

-- at most one link from each node
few_links : (h a n : ℕ) → length (flat_map (links_from h) (range_with_len a n)) ≤ n
few_links h a zero = omega arith
few_links h a (suc n) = go (eqb (a % h) 0) (few_links h (a + 1) n) where
  go : (b : Bool) → length (flat_map (links_from h) (range_with_len (a + 1) n)) ≤ n → length (cond b [] (record { from = a; to = a - 1; delay = 1 } ∷ []) ++ flat_map (links_from h) (range_with_len (a + 1) n)) ≤ suc n
  go true less = omega (arith, less)
  go false less = omega (arith, less)

few_nodes : (h d : ℕ) → h ≤ 4 → d ≤ 2 → d * h ≤ 8
few_nodes h zero long chains = omega (arith, long)
few_nodes h (suc zero) long chains = omega (arith, long)
few_nodes h (suc (suc zero)) long chains = omega (arith, long)
few_nodes h (suc (suc (suc d))) long chains = absurd (omega (arith, chains))

some_nodes : (h d : ℕ) → 2 ≤ h → 1 ≤ d → 1 ≤ d * h
some_nodes h zero some one = absurd (omega (arith, one))
some_nodes h (suc d) some one = omega (arith, some)

fan_of : (ls : List Link) (n : ℕ) → length ls ≤ 16 → length (filter (λ (l : Link). eqb l.from n) ls) ≤ 16
fan_of ls n few = omega (arith, few, length-filter (λ (l : Link). eqb l.from n) ls, count_by-le-length (λ (l : Link). eqb l.from n) ls)

limits_in_range : (h w d : ℕ) → h ≤ 4 → w ≤ 6 → d ≤ 2 → AreLimits (d * h) (network_of h w d).limits
limits_in_range h w d long readings chains = record {
  ticks = omega (arith, long, readings);
  some_fuel = lit≤ tt;
  fuel = lit≤ tt;
  some_conflicts = lit≤ tt;
  conflicts = lit≤ tt;
  each_node = omega (arith, few_nodes h d long chains);
  states = lit≤ tt;
  some_dstates = lit≤ tt;
  dstates = lit≤ tt;
}

-- so many nodes and links, with the limits of a network that is made
net_in_range : (h w d : ℕ) (ps : List Code) → 2 ≤ h → h ≤ 4 → w ≤ 6 → 1 ≤ d → d ≤ 2 → length ps ≡ 3 → IsNet (record (network_of h w d) { programs = ps })
net_in_range h w d ps some long readings one chains three =
    let nodes : length (network_of h w d).nodes ≡ d * h = length-map-range_with_len (plan_of h) 0 (d * h) in
    let few : d * h ≤ 8 = few_nodes h d long chains in
    let links : length (network_of h w d).links ≤ d * h = few_links h 0 (d * h) in
    record {
      some_programs = omega (arith, three);
      programs = omega (arith, three);
      some_nodes = rw nodes (some_nodes h d some one);
      nodes = omega (arith, nodes, few);
      plans = rw three (plans_in_range h 0 (d * h));
      links = omega (arith, links, few);
      joins = rw nodes (links_in_range h (d * h) 0 (d * h) (omega arith));
      fan = λ n. fan_of (network_of h w d).links n (omega (arith, links, few));
      limits = rw nodes (limits_in_range h w d long readings chains);
    }

name_sink : IsName (codes "sink")
name_sink = record { some = lit≤ tt; most = lit≤ tt; bytes = (inl (lit≤ tt, lit≤ tt), (inl (lit≤ tt, lit≤ tt), (inl (lit≤ tt, lit≤ tt), (inl (lit≤ tt, lit≤ tt), tt)))) }

name_relay : IsName (codes "relay")
name_relay = record { some = lit≤ tt; most = lit≤ tt; bytes = (inl (lit≤ tt, lit≤ tt), (inl (lit≤ tt, lit≤ tt), (inl (lit≤ tt, lit≤ tt), (inl (lit≤ tt, lit≤ tt), (inl (lit≤ tt, lit≤ tt), tt))))) }

name_source : IsName (codes "source")
name_source = record { some = lit≤ tt; most = lit≤ tt; bytes = (inl (lit≤ tt, lit≤ tt), (inl (lit≤ tt, lit≤ tt), (inl (lit≤ tt, lit≤ tt), (inl (lit≤ tt, lit≤ tt), (inl (lit≤ tt, lit≤ tt), (inl (lit≤ tt, lit≤ tt), tt)))))) }

-- with three programs, their names and no inputs
file_in_range : (h w d : ℕ) (ps : List Code) → 2 ≤ h → h ≤ 4 → w ≤ 6 → 1 ≤ d → d ≤ 2 → length ps ≡ 3 → IsFile (record { network = record (network_of h w d) { programs = ps }; names = (made_of h w d).names; inputs = [] })
file_in_range h w d ps some long readings one chains three = record {
  network = net_in_range h w d ps some long readings one chains three;
  each = sym three;
  names = (name_sink, (name_relay, (name_source, tt)));
  different = ((λ e. cc, (λ e. cc, tt)), ((λ e. cc, tt), (tt, tt)));
  few = lit≤ tt;
  inputs = tt;
  order = tt;
}

-- the same of parts that are equal to these
pub parts_in_range : (h w d ticks : ℕ) (ps : List Code) (ns : List Plan) (ls : List Link) (names : List (List ℕ)) (inputs : Valuation) → 2 ≤ h → h ≤ 4 → w ≤ 6 → 1 ≤ d → d ≤ 2 → ticks ≡ w + h + 2 → length ps ≡ 3 → ns ≡ (network_of h w d).nodes → ls ≡ (network_of h w d).links → names ≡ (made_of h w d).names → inputs ≡ [] → IsFile (record { network = record { programs = ps; nodes = ns; links = ls; limits = record (network_of h w d).limits { ticks = ticks } }; names = names; inputs = inputs })
parts_in_range h w d ticks ps ns ls names inputs some long readings one chains same three nodes links named empty =
    rw (same, nodes, links, named, empty) (file_in_range h w d ps some long readings one chains three)

pub made_is_file : (h w d : ℕ) → 2 ≤ h → h ≤ 4 → w ≤ 6 → 1 ≤ d → d ≤ 2 → IsFile (made_of h w d)
made_is_file h w d some long readings one chains = file_in_range h w d (network_of h w d).programs some long readings one chains refl
