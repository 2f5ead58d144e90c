-- The tables that the printed lines spell have no fault, and give what was printed.
use Rattle.std.proofs.Common.{◌≡◌, ◌≢◌, ℕ, zero, suc, ◌+◌, ◌-◌, ◌<◌, ◌≤◌, pos, Bool, true, false, eqb, leb, ltb, List, [], ◌∷◌, ◌++◌, length, length-append, map, filter, codes, slice_index_or, Option, Some, None, refl, sym, ap, subst, ◌∙◌, arith, append_assoc}
use Rattle.std.proofs.lemmas.Bool.{false_from_ne_true}
use Rattle.std.proofs.lemmas.List.{length-map}
use Rattle.std.proofs.lemmas.List.Elements.{filter-append}
use Rattle.std.proofs.lemmas.Bool.Decides.{nat_tests}
use Rattle.std.proofs.lemmas.Slice.Eq.{bytes_eq-Decides}
use Rattle.std.specs.Prelude.{bytes_eq}
use Rattle.std.specs.List.{list_all, position_or_len, AllByRecursion}
use Rattle.toml.specs.Data.{Members}
use Rattle.kn_code.specs.Code.{Code, IsValid}
use Rattle.kn_term.specs.Terms.{Given}
use Rattle.kn_term.specs.Valuations.{Precedes, AreEntries}
use Rattle.kn_plan.specs.Nets.{Plan, Link}
use Rattle.kn_plan.specs.Valid.{AreRising, IsPlan, IsLink}
use Rattle.kn_plan.specs.Files.{IsName, IsNameByte, AreDifferent, IsInput}
use Rattle.kn_netfile.specs.Keys.{all_tables, all_numbers, is_tick, tick_of, is_rising}
use Rattle.kn_netfile.specs.Tables.{is_name_byte, is_name, place_of, program_fault, programs_fault, programs_of, names_of, are_reboots, node_fault, nodes_fault, plan_at, plans_of, link_fault, links_fault, link_at, links_of, is_not_behind, input_fault, inputs_fault, input_at, inputs_of}
use Rattle.kn_netfile.specs.Faults.{item_place}
use Rattle.kn_netfile.proofs.Lines.{numbers}
use Rattle.kn_netfile.proofs.Defined.{tables, program_table, node_table, link_table, input_table}
use Rattle.kn_netfile.proofs.Spelled.{code_back}

-- ---- lists

pub tables_back : {A : Type 0} (f : A → Members) (xs : List A) → all_tables (tables f xs) ≡ Some (map f xs)
tables_back f [] = refl
tables_back f (x ∷ xs) = rw (tables_back f xs) refl

numbers_back : (ns : List ℕ) → all_numbers (numbers ns) ≡ Some (map (λ (n : ℕ). pos n) ns)
numbers_back [] = refl
numbers_back (n ∷ ns) = rw (numbers_back ns) refl

pub all_at : {A : Type 0} (P : A → Type 0) (xs : List A) (i : ℕ) (d : A) → AllByRecursion P xs → i < length xs → P (slice_index_or xs i d)
all_at P [] i d h below = absurd (omega (arith, below))
all_at P (x ∷ xs) zero d h below = h.0
all_at P (x ∷ xs) (suc i) d h below = all_at P xs i d h.1 (omega (arith, below))

filter_two : {A : Type 0} (test : A → Bool) (xs ys : List A) → length (filter test (xs ++ ys)) ≡ length (filter test xs) + length (filter test ys)
filter_two test xs ys = ap length (filter-append test xs ys) ∙ length-append (filter test xs) (filter test ys)

-- ---- names

is_byte : (c : ℕ) → IsNameByte c → is_name_byte c ≡ true
is_byte c h = grind (arith, nat_tests, h)

are_bytes : (s : List ℕ) → AllByRecursion IsNameByte s → list_all is_name_byte s ≡ true
are_bytes [] h = refl
are_bytes (c ∷ cs) h = rw (is_byte c h.0, are_bytes cs h.1) refl

pub name_bytes : (s : List ℕ) → IsName s → list_all is_name_byte s ≡ true
name_bytes s h = are_bytes s h.bytes

is_named : (s : List ℕ) → IsName s → is_name s ≡ true
is_named s h =
    let some : leb 1 (length s) ≡ true = grind (arith, nat_tests, h.some) in
    let most : leb (length s) 32 ≡ true = grind (arith, nat_tests, h.most) in
    rw (some, most, name_bytes s h) refl

-- no name is this one
abbrev pub IsNew : List (List ℕ) → List ℕ → Type 0
IsNew names s = AllByRecursion (λ n. n ≢ s) names

other_bytes : (s t : List ℕ) → s ≢ t → bytes_eq s t ≡ false
other_bytes s t h = false_from_ne_true (bytes_eq s t) (λ same. h ((bytes_eq-Decides s t).0 same))

new_place : (names : List (List ℕ)) (s : List ℕ) → IsNew names s → position_or_len (λ n. bytes_eq n s) names ≡ length names
new_place [] s h = refl
new_place (n ∷ ns) s h = rw (other_bytes n s h.0, new_place ns s h.1) (omega arith)

is_new : (names : List (List ℕ)) (s : List ℕ) → IsNew names s → place_of names s ≡ None
is_new names s h = let past : ltb (length names) (length names) ≡ false = grind (arith, nat_tests) in rw (new_place names s h, past) refl

found_place : (names : List (List ℕ)) (i : ℕ) → AreDifferent names → i < length names → position_or_len (λ n. bytes_eq n (slice_index_or names i [])) names ≡ i
found_place [] i h below = absurd (omega (arith, below))
found_place (n ∷ ns) zero h below = rw ((bytes_eq-Decides n n).1 refl) refl
found_place (n ∷ ns) (suc i) h below =
    let apart : bytes_eq n (slice_index_or ns i []) ≡ false = other_bytes n (slice_index_or ns i []) (all_at (λ y. n ≢ y) ns i [] h.0 (omega (arith, below))) in
    rw (apart, found_place ns i h.1 (omega (arith, below))) (omega arith)

found : (names : List (List ℕ)) (i : ℕ) → AreDifferent names → i < length names → place_of names (slice_index_or names i []) ≡ Some i
found names i h below = let within : ltb i (length names) ≡ true = grind (arith, nat_tests) in rw (found_place names i h below, within) refl

-- ---- programs

program_right : (place : List ℕ) (names : List (List ℕ)) (p : List ℕ × Code) → IsName p.0 → IsNew names p.0 → IsValid p.1 → program_fault place names (program_table p) ≡ None
program_right place names p named new valid = rw (is_named p.0 named, is_new names p.0 new, code_back p.1 valid) refl

pub record IsRight (p : List ℕ × Code) : Type 0 where
  pub named : IsName p.0
  pub valid : IsValid p.1

new_more : (names : List (List ℕ)) (x s : List ℕ) → IsNew names s → x ≢ s → IsNew (names ++ x ∷ []) s
new_more [] x s h differ = (differ, tt)
new_more (n ∷ ns) x s h differ = (h.0, new_more ns x s h.1 differ)

all_new_more : (names : List (List ℕ)) (x : List ℕ) (ps : List (List ℕ × Code)) → AllByRecursion (λ p. IsNew names p.0) ps → AllByRecursion (λ y. x ≢ y) (map (λ p. p.0) ps)
    → AllByRecursion (λ p. IsNew (names ++ x ∷ []) p.0) ps
all_new_more names x [] h d = tt
all_new_more names x (p ∷ ps) h d = (new_more names x p.0 h.0 d.0, all_new_more names x ps h.1 d.1)

pub programs_right : (ps : List (List ℕ × Code)) (index : ℕ) (names : List (List ℕ)) → AllByRecursion IsRight ps → AllByRecursion (λ p. IsNew names p.0) ps → AreDifferent (map (λ p. p.0) ps)
    → programs_fault index names (map program_table ps) ≡ None
programs_right [] index names h new differ = refl
programs_right (p ∷ ps) index names h new differ =
    rw (program_right (item_place (codes "program") index) names p h.0.named new.0 h.0.valid, programs_right ps (suc index) (names ++ p.0 ∷ []) h.1 (all_new_more names p.0 ps new.1 differ.0) differ.1) refl

pub programs_back : (ps : List (List ℕ × Code)) → AllByRecursion IsRight ps → programs_of (map program_table ps) ≡ map (λ p. p.1) ps
programs_back [] h = refl
programs_back (p ∷ ps) h = rw (code_back p.1 h.0.valid, programs_back ps h.1) refl

pub names_back : (ps : List (List ℕ × Code)) → names_of (map program_table ps) ≡ map (λ p. p.0) ps
names_back [] = refl
names_back (p ∷ ps) = rw (names_back ps) refl

-- ---- nodes

ticks_right : (ts : List ℕ) → AllByRecursion (λ t. t ≤ 4095) ts → list_all is_tick (map (λ (t : ℕ). pos t) ts) ≡ true
ticks_right [] h = refl
ticks_right (t ∷ ts) h = let fits : leb t 4095 ≡ true = grind (arith, nat_tests, h.0) in rw (fits, ticks_right ts h.1) refl

ticks_back : (ts : List ℕ) → map tick_of (map (λ (t : ℕ). pos t) ts) ≡ ts
ticks_back [] = refl
ticks_back (t ∷ ts) = rw (ticks_back ts) refl

rises : (ts : List ℕ) → AreRising ts → is_rising ts ≡ true
rises [] h = refl
rises (t ∷ []) h = refl
rises (t ∷ u ∷ ts) h = let below : ltb t u ≡ true = grind (arith, nat_tests, h.0.0) in rw (below, rises (u ∷ ts) h.1) refl

reboots_right : (ts : List ℕ) → length ts ≤ 16 → AllByRecursion (λ t. t ≤ 4095) ts → AreRising ts → are_reboots (map (λ (t : ℕ). pos t) ts) ≡ true
reboots_right ts few ticks rising =
    let fits : leb (length (map (λ (t : ℕ). pos t) ts)) 16 ≡ true = rw (length-map ts (λ (t : ℕ). pos t)) (grind (arith, nat_tests, few)) in
    rw (fits, ticks_right ts ticks, ticks_back ts, rises ts rising) refl

node_right : (place : List ℕ) (names : List (List ℕ)) (p : Plan) → AreDifferent names → IsPlan (length names) p → node_fault names place (node_table names p) ≡ None
node_right place names p differ h =
    let l : leb 0 p.loss ≡ true = grind (arith, nat_tests) in
    let m : leb p.loss 15 ≡ true = grind (arith, nat_tests, h.loss) in
    let k : leb 0 p.duplicate ≡ true = grind (arith, nat_tests) in
    let n : leb p.duplicate 15 ≡ true = grind (arith, nat_tests, h.duplicate) in
    rw (found names p.program differ h.names, l, m, k, n, numbers_back p.reboot, reboots_right p.reboot h.reboots h.ticks h.rising) refl

pub nodes_right : (ps : List Plan) (index : ℕ) (names : List (List ℕ)) → AreDifferent names → AllByRecursion (IsPlan (length names)) ps → nodes_fault names index (map (node_table names) ps) ≡ None
nodes_right [] index names differ h = refl
nodes_right (p ∷ ps) index names differ h = rw (node_right (item_place (codes "node") index) names p differ h.0, nodes_right ps (suc index) names differ h.1) refl

same_plan : (names : List (List ℕ)) (p : Plan) → AreDifferent names → IsPlan (length names) p → plan_at names (node_table names p) ≡ p
same_plan names p differ h =
    let l : leb 0 p.loss ≡ true = grind (arith, nat_tests) in
    let m : leb p.loss 15 ≡ true = grind (arith, nat_tests, h.loss) in
    let k : leb 0 p.duplicate ≡ true = grind (arith, nat_tests) in
    let n : leb p.duplicate 15 ≡ true = grind (arith, nat_tests, h.duplicate) in
    rw (found names p.program differ h.names, l, m, k, n, numbers_back p.reboot, ticks_back p.reboot) refl

pub plans_back : (ps : List Plan) (names : List (List ℕ)) → AreDifferent names → AllByRecursion (IsPlan (length names)) ps → plans_of names (map (node_table names) ps) ≡ ps
plans_back [] names differ h = refl
plans_back (p ∷ ps) names differ h = rw (same_plan names p differ h.0, plans_back ps names differ h.1) refl

-- ---- links

same_link : (nodes : ℕ) (l : Link) → IsLink nodes l → link_at nodes (link_table l) ≡ l
same_link nodes l h =
    let a : leb 0 l.from ≡ true = grind (arith, nat_tests) in
    let b : leb l.from (nodes - 1) ≡ true = grind (arith, nat_tests, h.from) in
    let c : leb 0 l.to ≡ true = grind (arith, nat_tests) in
    let d : leb l.to (nodes - 1) ≡ true = grind (arith, nat_tests, h.to) in
    let e : leb 1 l.delay ≡ true = grind (arith, nat_tests, h.least) in
    let f : leb l.delay 65535 ≡ true = grind (arith, nat_tests, h.most) in
    rw (a, b, c, d, e, f) refl

abbrev fan_from : ℕ → List Link → ℕ
fan_from n ls = length (filter (λ (m : Link). eqb m.from n) ls)

link_right : (place : List ℕ) (nodes : ℕ) (before : List Link) (l : Link) → IsLink nodes l → fan_from l.from before < 16 → link_fault nodes before place (link_table l) ≡ None
link_right place nodes before l h few =
    let a : leb 0 l.from ≡ true = grind (arith, nat_tests) in
    let b : leb l.from (nodes - 1) ≡ true = grind (arith, nat_tests, h.from) in
    let c : leb 0 l.to ≡ true = grind (arith, nat_tests) in
    let d : leb l.to (nodes - 1) ≡ true = grind (arith, nat_tests, h.to) in
    let e : leb 1 l.delay ≡ true = grind (arith, nat_tests, h.least) in
    let f : leb l.delay 65535 ≡ true = grind (arith, nat_tests, h.most) in
    let g : leb 16 (fan_from l.from before) ≡ false = grind (arith, nat_tests, few) in
    let i : eqb l.from l.to ≡ false = grind (arith, nat_tests, h.differ) in
    rw (a, b, c, d, e, f, g, i) refl

pub links_right : (ls : List Link) (nodes index : ℕ) (before : List Link) → AllByRecursion (IsLink nodes) ls → ((n : ℕ) → fan_from n (before ++ ls) ≤ 16) → links_fault nodes index before (map link_table ls) ≡ None
links_right [] nodes index before h fan = refl
links_right (l ∷ ls) nodes index before h fan =
    let own : eqb l.from l.from ≡ true = grind (arith, nat_tests) in
    let here : fan_from l.from (l ∷ ls) ≡ suc (fan_from l.from ls) = rw own refl in
    let few : fan_from l.from before < 16 = omega (arith, fan l.from, filter_two (λ (m : Link). eqb m.from l.from) before (l ∷ ls), here) in
    let more : (n : ℕ) → fan_from n ((before ++ l ∷ []) ++ ls) ≤ 16 = λ n. subst (λ (all : List Link). fan_from n all ≤ 16) (sym (append_assoc before (l ∷ []) ls)) (fan n) in
    rw (same_link nodes l h.0, link_right (item_place (codes "link") index) nodes before l h.0 few, links_right ls nodes (suc index) (before ++ l ∷ []) h.1 more) refl

pub links_back : (ls : List Link) (nodes : ℕ) → AllByRecursion (IsLink nodes) ls → links_of nodes (map link_table ls) ≡ ls
links_back [] nodes h = refl
links_back (l ∷ ls) nodes h = rw (same_link nodes l h.0, links_back ls nodes h.1) refl

-- ---- inputs

same_input : (nodes : ℕ) (g : Given) → IsInput nodes g → input_at nodes (input_table g) ≡ g
same_input nodes g h =
    let a : leb 0 g.node ≡ true = grind (arith, nat_tests) in
    let b : leb g.node (nodes - 1) ≡ true = grind (arith, nat_tests, h.node) in
    let c : leb 0 g.index ≡ true = grind (arith, nat_tests) in
    let d : leb g.index 65535 ≡ true = grind (arith, nat_tests, h.index) in
    let e : leb 0 g.word ≡ true = grind (arith, nat_tests) in
    let f : leb g.word 65535 ≡ true = grind (arith, nat_tests, h.word) in
    rw (a, b, c, d, e, f) refl

input_right : (place : List ℕ) (nodes : ℕ) (before : Option Given) (g : Given) → IsInput nodes g → is_not_behind before g ≡ false → input_fault nodes before place (input_table g) ≡ None
input_right place nodes before g h behind =
    let a : leb 0 g.node ≡ true = grind (arith, nat_tests) in
    let b : leb g.node (nodes - 1) ≡ true = grind (arith, nat_tests, h.node) in
    let c : leb 0 g.index ≡ true = grind (arith, nat_tests) in
    let d : leb g.index 65535 ≡ true = grind (arith, nat_tests, h.index) in
    let e : leb 0 g.word ≡ true = grind (arith, nat_tests) in
    let f : leb g.word 65535 ≡ true = grind (arith, nat_tests, h.word) in
    rw (a, b, c, d, e, f, behind) refl

-- all of them come behind the one before
abbrev pub AreBehind : Option Given → List Given → Type 0
AreBehind None gs = Unit {0}
AreBehind (Some g) gs = AllByRecursion (Precedes g) gs

is_behind : (before : Option Given) (g : Given) (gs : List Given) → AreBehind before (g ∷ gs) → is_not_behind before g ≡ false
is_behind None g gs h = refl
is_behind (Some f) g gs h = rw (h.0) refl

pub inputs_right : (gs : List Given) (nodes index : ℕ) (before : Option Given) → AllByRecursion (IsInput nodes) gs → AreEntries gs → AreBehind before gs → inputs_fault nodes index before (map input_table gs) ≡ None
inputs_right [] nodes index before h order behind = refl
inputs_right (g ∷ gs) nodes index before h order behind =
    rw (input_right (item_place (codes "input") index) nodes before g h.0 (is_behind before g gs behind), same_input nodes g h.0, inputs_right gs nodes (suc index) (Some g) h.1 order.2 order.1) refl

pub inputs_back : (gs : List Given) (nodes : ℕ) → AllByRecursion (IsInput nodes) gs → inputs_of nodes (map input_table gs) ≡ gs
inputs_back [] nodes h = refl
inputs_back (g ∷ gs) nodes h =
    let same = same_input nodes g h.0 in
    let some : ltb 0 g.word ≡ true = grind (arith, nat_tests, h.0.some) in
    let kept : ltb 0 (input_at nodes (input_table g)).word ≡ true = ap (λ (x : Given). ltb 0 x.word) same ∙ some in
    rw (kept, same, inputs_back gs nodes h.1) refl
