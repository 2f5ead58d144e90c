-- Where the tables of nodes have no fault, each gives a node's plan.
use Rattle.std.proofs.Common.{◌≡◌, ℕ, suc, ◌<◌, ◌≤◌, ℤ, pos, negsuc, true, ltb, leb, ◌&&◌, List, [], ◌∷◌, length, map, codes, Option, Some, None, inl, inr, arith}
use Rattle.std.specs.List.{AllByRecursion, list_all, position_or_len}
use Rattle.std.specs.Option.{is_some, unwrap_or}
use Rattle.std.specs.Prelude.{bytes_eq}
use Rattle.std.proofs.lemmas.Bool.{and_parts, leb-true, ltb-true, cases_Bool, not-false}
use Rattle.std.proofs.lemmas.List.{length-map}
use Rattle.toml.specs.Data.{Data, Members, as_array}
use Rattle.kn_plan.specs.Valid.{AreRising, IsPlan}
use Rattle.kn_netfile.specs.Faults.{item_place, key_place, no_program, wrong_plan}
use Rattle.kn_netfile.specs.Keys.{unknown_fault, text_fault, text_at, numbers_in, is_tick, tick_of, is_rising}
use Rattle.kn_netfile.specs.Tables.{at_key, may_have, place_of, node_keys, are_reboots, reboots_within, reboot_fault, ticks_or_none, reboots_at, node_fault, nodes_fault, plan_at, plans_of}
use Rattle.kn_netfile.proofs.ValidKeys.{both_none, not_wrong, optional_within, text_meets, all-weaker}

-- the place of a name is one of the places
place_below : (names : List (List ℕ)) (s : List ℕ) → is_some (place_of names s) ≡ true → unwrap_or (place_of names s) 0 < length names
place_below names s e = elim (cases_Bool (ltb (position_or_len (λ (name : List ℕ). bytes_eq name s) names) (length names))) [
  | inl y ↦ rw y (ltb-true _ _ y)
  | inr out ↦ absurd (let h = rw out at e in cc)
]

-- ---- ticks

ticks_valid : (ns : List ℤ) → list_all is_tick ns ≡ true → AllByRecursion (λ t. t ≤ 4095) (map tick_of ns)
ticks_valid [] e = tt
ticks_valid (pos n ∷ ns) e = let (a, b) = and_parts (leb n 4095) (list_all is_tick ns) e in (leb-true n 4095 a, ticks_valid ns b)
ticks_valid (negsuc n ∷ ns) e = absurd cc

rising_above : (t : ℕ) (ts : List ℕ) → is_rising (t ∷ ts) ≡ true → AllByRecursion (λ u. t < u) ts
rising_above t [] e = tt
rising_above t (u ∷ ts) e =
    let (a, b) = and_parts (ltb t u) (is_rising (u ∷ ts)) e in
    let h : t < u = ltb-true t u a in
    (h, all-weaker (λ v. u < v) (λ v. t < v) (λ v k. omega arith) ts (rising_above u ts b))

are_rising : (ts : List ℕ) → is_rising ts ≡ true → AreRising ts
are_rising [] e = tt
are_rising (t ∷ []) e = (tt, tt)
are_rising (t ∷ u ∷ ts) e = (rising_above t (u ∷ ts) e, are_rising (u ∷ ts) (and_parts (ltb t u) (is_rising (u ∷ ts)) e).1)

-- at most 16 ticks, rising
record AreReboots (ts : List ℕ) : Type 0 where
  few : length ts ≤ 16
  ticks : AllByRecursion (λ t. t ≤ 4095) ts
  rising : AreRising ts

reboots_valid : (place : List ℕ) (o : Option (List ℤ)) → reboots_within place o ≡ None → AreReboots (ticks_or_none o)
reboots_valid place None e = absurd cc
reboots_valid place (Some ns) e =
    let (a, b) = and_parts (leb (length ns) 16) (list_all is_tick ns && is_rising (map tick_of ns)) (not-false (are_reboots ns) (not_wrong _ wrong_plan place e)) in
    let (c, d) = and_parts (list_all is_tick ns) (is_rising (map tick_of ns)) b in
    record { few = rw length-map (leb-true (length ns) 16 a); ticks = ticks_valid ns c; rising = are_rising (map tick_of ns) d }

reboot_valid : (place : List ℕ) (o : Option Data) → reboot_fault place o ≡ None → AreReboots (reboots_at o)
reboot_valid place None e = record { few = omega arith; ticks = tt; rising = tt }
reboot_valid place (Some d) e = reboots_valid place (numbers_in (as_array d)) e

-- ---- nodes

node_valid : (names : List (List ℕ)) (place : List ℕ) (ms : Members) → node_fault names place ms ≡ None → IsPlan (length names) (plan_at names ms)
node_valid names place ms e =
    let (a, one) = both_none (unknown_fault node_keys place ms) _ e in
    let (b, two) = both_none (text_fault (λ s. is_some (place_of names s)) no_program (key_place place (codes "program")) (at_key (codes "program") ms)) _ one in
    let (c, three) = both_none (may_have wrong_plan place (codes "loss") 0 15 ms) _ two in
    let (d, f) = both_none (may_have wrong_plan place (codes "duplicate") 0 15 ms) _ three in
    let loss = optional_within 0 15 wrong_plan (key_place place (codes "loss")) 0 (at_key (codes "loss") ms) (record { least = omega arith; most = omega arith }) c in
    let duplicate = optional_within 0 15 wrong_plan (key_place place (codes "duplicate")) 0 (at_key (codes "duplicate") ms) (record { least = omega arith; most = omega arith }) d in
    let reboot = reboot_valid (key_place place (codes "reboot")) (at_key (codes "reboot") ms) f in
    record {
      names = place_below names (text_at (at_key (codes "program") ms)) (text_meets (λ s. is_some (place_of names s)) no_program (key_place place (codes "program")) (at_key (codes "program") ms) b);
      loss = loss.most;
      duplicate = duplicate.most;
      reboots = reboot.few;
      ticks = reboot.ticks;
      rising = reboot.rising;
    }

pub nodes_valid : (names : List (List ℕ)) (index : ℕ) (tables : List Members) → nodes_fault names index tables ≡ None → AllByRecursion (IsPlan (length names)) (plans_of names tables)
nodes_valid names index [] e = tt
nodes_valid names index (ms ∷ rest) e =
    let (a, b) = both_none (node_fault names (item_place (codes "node") index) ms) _ e in
    (node_valid names (item_place (codes "node") index) ms a, nodes_valid names (suc index) rest b)
