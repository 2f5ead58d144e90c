-- Where the tables of inputs have no fault, those whose word is not 0 are inputs, in order.
use Rattle.std.proofs.Common.{◌≡◌, ℕ, suc, ◌<◌, ◌≤◌, ◌-◌, Bool, true, false, ltb, cond, List, [], ◌∷◌, length, map, codes, Option, Some, None, refl, arith}
use Rattle.std.specs.List.{AllByRecursion, filter}
use Rattle.std.proofs.lemmas.Bool.{not-false, ltb-true}
use Rattle.std.proofs.lemmas.List.{length-map}
use Rattle.toml.specs.Data.{Members}
use Rattle.kn_term.specs.Terms.{Given}
use Rattle.kn_term.specs.Valuations.{Precedes, AreEntries}
use Rattle.kn_term.proofs.Entries.{precedes-trans}
use Rattle.kn_plan.specs.Files.{IsInput}
use Rattle.kn_netfile.specs.Faults.{fault_if, item_place, key_place, wrong_input}
use Rattle.kn_netfile.specs.Keys.{unknown_fault, number_fault}
use Rattle.kn_netfile.specs.Tables.{at_key, needs, node_number, input_keys, input_at, is_not_behind, input_fault, inputs_fault, inputs_of}
use Rattle.kn_netfile.proofs.ValidKeys.{both_none, not_wrong, needed_within, all-weaker}

-- an input whose word may be 0
record IsGiven (nodes : ℕ) (g : Given) : Type 0 where
  node : g.node < nodes
  index : g.index ≤ 65535
  word : g.word ≤ 65535

-- what holds of an input's table that has no fault, after the one before
record IsFine (nodes : ℕ) (before : Option Given) (g : Given) : Type 0 where
  given : IsGiven nodes g
  behind : is_not_behind before g ≡ false

input_valid : (nodes : ℕ) (before : Option Given) (place : List ℕ) (ms : Members) → 1 ≤ nodes → input_fault nodes before place ms ≡ None → IsFine nodes before (input_at nodes ms)
input_valid nodes before place ms some e =
    let (a, one) = both_none (unknown_fault input_keys place ms) _ e in
    let (b, two) = both_none (number_fault true wrong_input (key_place place (codes "node")) (node_number nodes (codes "node") ms)) _ one in
    let (c, three) = both_none (needs wrong_input place (codes "index") 0 65535 ms) _ two in
    let (d, f) = both_none (fault_if (is_not_behind before (input_at nodes ms)) wrong_input (key_place place (codes "index"))) _ three in
    let node = needed_within 0 (nodes - 1) wrong_input (key_place place (codes "node")) 0 (at_key (codes "node") ms) b in
    let index = needed_within 0 65535 wrong_input (key_place place (codes "index")) 0 (at_key (codes "index") ms) c in
    let word = needed_within 0 65535 wrong_input (key_place place (codes "value")) 0 (at_key (codes "value") ms) f in
    record {
      given = record { node = omega (arith, node.most); index = index.most; word = word.most };
      behind = not_wrong _ wrong_input (key_place place (codes "index")) d;
    }

-- a table and those behind it
inputs_split : (nodes index : ℕ) (before : Option Given) (ms : Members) (rest : List Members) → 1 ≤ nodes → inputs_fault nodes index before (ms ∷ rest) ≡ None
    → IsFine nodes before (input_at nodes ms) × (inputs_fault nodes (suc index) (Some (input_at nodes ms)) rest ≡ None)
inputs_split nodes index before ms rest some e =
    let (a, b) = both_none (input_fault nodes before (item_place (codes "input") index) ms) _ e in
    (input_valid nodes before (item_place (codes "input") index) ms some a, b)

each_given : (nodes index : ℕ) (before : Option Given) (tables : List Members) → 1 ≤ nodes → inputs_fault nodes index before tables ≡ None
    → AllByRecursion (IsGiven nodes) (map (input_at nodes) tables)
each_given nodes index before [] some e = tt
each_given nodes index before (ms ∷ rest) some e =
    let (a, b) = inputs_split nodes index before ms rest some e in (a.given, each_given nodes (suc index) (Some (input_at nodes ms)) rest some b)

precedes-trans-given : (g h k : Given) → Precedes g h → Precedes h k → Precedes g k
precedes-trans-given g h k p q = precedes-trans g.node g.index h.node h.index k.node k.index p q

-- all come behind the one before the tables
all_behind : (nodes index : ℕ) (before : Given) (tables : List Members) → 1 ≤ nodes → inputs_fault nodes index (Some before) tables ≡ None
    → AllByRecursion (Precedes before) (map (input_at nodes) tables)
all_behind nodes index before [] some e = tt
all_behind nodes index before (ms ∷ rest) some e =
    let (a, b) = inputs_split nodes index (Some before) ms rest some e in
    let first : Precedes before (input_at nodes ms) = not-false _ a.behind in (
      first,
      all-weaker (Precedes (input_at nodes ms)) (Precedes before) (λ k q. precedes-trans-given before (input_at nodes ms) k first q) (map (input_at nodes) rest)
          (all_behind nodes (suc index) (input_at nodes ms) rest some b),
    )

-- ---- those whose word is not 0

abbrev listed : List Given → List Given
listed gs = filter (λ (g : Given). ltb 0 g.word) gs

all-listed : (P : Given → Type 0) (gs : List Given) → AllByRecursion P gs → AllByRecursion P (listed gs)
all-listed P [] h = tt
all-listed P (g ∷ gs) h = go (ltb 0 g.word) (all-listed P gs h.1)
  where
    go : (b : Bool) → AllByRecursion P (listed gs) → AllByRecursion P (cond b (g ∷ listed gs) (listed gs))
    go true rest = (h.0, rest)
    go false rest = rest

few_listed : (gs : List Given) → length (listed gs) ≤ length gs
few_listed [] = omega arith
few_listed (g ∷ gs) = go (ltb 0 g.word) (few_listed gs)
  where
    go : (b : Bool) → length (listed gs) ≤ length gs → length (cond b (g ∷ listed gs) (listed gs)) ≤ suc (length gs)
    go true h = omega arith
    go false h = omega arith

are_inputs : (nodes : ℕ) (gs : List Given) → AllByRecursion (IsGiven nodes) gs → AllByRecursion (IsInput nodes) (listed gs)
are_inputs nodes [] h = tt
are_inputs nodes (g ∷ gs) h = go (ltb 0 g.word) refl (are_inputs nodes gs h.1)
  where
    go : (b : Bool) → ltb 0 g.word ≡ b → AllByRecursion (IsInput nodes) (listed gs) → AllByRecursion (IsInput nodes) (cond b (g ∷ listed gs) (listed gs))
    go true e rest = (record { node = h.0.node; index = h.0.index; some = omega (arith, ltb-true 0 g.word e); word = h.0.word }, rest)
    go false e rest = rest

pub inputs_valid : (nodes : ℕ) (tables : List Members) → 1 ≤ nodes → inputs_fault nodes 0 None tables ≡ None → AllByRecursion (IsInput nodes) (inputs_of nodes tables)
inputs_valid nodes tables some e = are_inputs nodes (map (input_at nodes) tables) (each_given nodes 0 None tables some e)

pub inputs_few : (nodes : ℕ) (tables : List Members) → length (inputs_of nodes tables) ≤ length tables
inputs_few nodes tables = omega (arith, few_listed (map (input_at nodes) tables), length-map tables (input_at nodes))

pub inputs_ordered : (nodes index : ℕ) (before : Option Given) (tables : List Members) → 1 ≤ nodes → inputs_fault nodes index before tables ≡ None → AreEntries (inputs_of nodes tables)
inputs_ordered nodes index before [] some e = tt
inputs_ordered nodes index before (ms ∷ rest) some e =
    let (a, b) = inputs_split nodes index before ms rest some e in
    let behind = all-listed (Precedes (input_at nodes ms)) (map (input_at nodes) rest) (all_behind nodes (suc index) (input_at nodes ms) rest some b) in
    go (input_at nodes ms) (ltb 0 (input_at nodes ms).word) refl behind (inputs_ordered nodes (suc index) (Some (input_at nodes ms)) rest some b)
  where
    go : (g : Given) (b : Bool) → ltb 0 g.word ≡ b → AllByRecursion (Precedes g) (inputs_of nodes rest) → AreEntries (inputs_of nodes rest) → AreEntries (cond b (g ∷ inputs_of nodes rest) (inputs_of nodes rest))
    go g true e behind more = (ltb-true 0 g.word e, behind, more)
    go g false e behind more = more
