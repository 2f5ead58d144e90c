-- Steps of the walks over tables.
use Rattle.std.proofs.Common.{◌≡◌, ◌≢◌, ℕ, zero, suc, ℤ, ◌+◌, ◌<◌, ◌≤◌, Bool, true, false, max, set, nat_eq, nat_le, cond, List, [], ◌∷◌, ◌++◌, length, map, get_or, take, drop, drop-cons, add-one, Option, Some, None, option_map, refl, sym, subst, ap, ◌∙◌, append_assoc, length-append, codes, inl, inr, arith}
use Rattle.std.specs.Prelude.{min, position, bytes_eq, nat_lt, if◌then◌else◌}
use Rattle.std.proofs.lemmas.Bool.{cases_Bool}
use Rattle.std.proofs.lemmas.Bool.Decides.{nat_tests}
use Rattle.std.proofs.lemmas.List.{take_more, map-append, length-set, get_or-set_same, get_or-set_other}
use Rattle.std.proofs.lemmas.List.Elements.{filter-append}
use Rattle.std.specs.List.{cons_option, filter, AllByRecursion}
use Rattle.toml.specs.Data.{Members, get_member}
use Rattle.kn_code.specs.Code.{Code}
use Rattle.kn_term.specs.Terms.{Given, Valuation}
use Rattle.kn_term.specs.Valuations.{AreEntries, Precedes, with_word}
use Rattle.kn_plan.specs.Nets.{Link}
use Rattle.kn_netfile.proofs.ValidKeys.{lower_assoc}
use Rattle.kn_netfile.specs.Faults.{Fault, lower, located, item_place, top, wrong_version}
use Rattle.kn_netfile.specs.Keys.{unknown_fault, number_at, number_fault, tick_of}
use Rattle.kn_netfile.specs.Tables.{place_of, place_at, first_place, name_at, program_at, program_fault, programs_fault, programs_of, node_fault, nodes_fault, link_at, link_fault, links_fault, input_at, input_fault, inputs_fault, top_keys, node_count, limit_fault, array_fault, top_fault, limits_fault, links_of, is_past_fan, inputs_of}

-- ---- places of names

here : {A : Type 0} (p : A → Bool) (x : A) (xs : List A) → p x ≡ true → position p (x ∷ xs) ≡ Some 0
here p x xs e = rw e (grind (arith, nat_tests))

later : {A : Type 0} (p : A → Bool) (x : A) (xs : List A) → p x ≡ false → position p (x ∷ xs) ≡ option_map suc (position p xs)
later p x xs e = rw e (grind (arith, nat_tests))

one_further : (a : Option ℕ) (name q : List ℕ) (n : ℕ) → option_map suc (first_place a (place_at name q n)) ≡ first_place (option_map suc a) (place_at name q (suc n))
one_further (Some x) name q n = refl
one_further None name q n = elim (cases_Bool (bytes_eq name q)) [ inl y ↦ rw y refl | inr n ↦ rw n refl ]

last_place : (names : List (List ℕ)) (name q : List ℕ) → place_of (names ++ name ∷ []) q ≡ first_place (place_of names q) (place_at name q (length names))
last_place [] name q = elim (cases_Bool (bytes_eq name q)) [ inl y ↦ rw y refl | inr n ↦ rw n refl ]
last_place (x ∷ xs) name q =
    elim (cases_Bool (bytes_eq x q)) [
      | inl y ↦ rw (here (λ n. bytes_eq n q) x (xs ++ name ∷ []) y, here (λ n. bytes_eq n q) x xs y) refl
      | inr n ↦
          later (λ n. bytes_eq n q) x (xs ++ name ∷ []) n ∙ ap (option_map suc) (last_place xs name q) ∙ one_further (place_of xs q) name q (length xs) ∙ ap (λ o. first_place o (place_at name q (suc (length xs)))) (sym (later (λ n. bytes_eq n q) x xs n))
    ]

pub named : (new old : List ℕ → Option ℕ) (names all : List (List ℕ)) (name : List ℕ) (place : ℕ) → place ≡ length names → ((q : List ℕ) → new q ≡ first_place (old q) (place_at name q place)) → ((q : List ℕ) → old q ≡ place_of names q) → all ≡ names ++ name ∷ []
    → (q : List ℕ) → new q ≡ place_of all q
named new old names all name place is_place is_new is_old is_all q =
    is_new q ∙ ap (λ o. first_place o (place_at name q place)) (is_old q) ∙ ap (λ n. first_place (place_of names q) (place_at name q n)) is_place ∙ sym (last_place names name q) ∙ ap (λ l. place_of l q) (sym is_all)

-- ---- one table further

pub next_table : {T : Type 0} (view : T → Members) (ts : List T) (i : ℕ) (t : T) → i < length ts → t ≡ get_or ts i t → map view (drop i ts) ≡ view t ∷ map view (drop (i + 1) ts)
next_table view ts i t lt at = ap (map view) (drop-cons ts i t lt) ∙ rw (sym at) (ap (λ (k : ℕ). view t ∷ map view (drop k ts)) (sym (add-one i)))

pub next_fault : (held here next rest whole all : Option Fault) → next ≡ lower held here → whole ≡ lower here rest → lower held whole ≡ all → lower next rest ≡ all
next_fault held here next rest whole all is_next is_whole before = ap (λ o. lower o rest) is_next ∙ lower_assoc held here rest ∙ ap (lower held) (sym is_whole) ∙ before

pub programs_turn : (names new : List (List ℕ)) (index : ℕ) (name : List ℕ) (ms : Members) (seen rest : List Members) (held here next all : Option Fault) → seen ≡ ms ∷ rest → here ≡ program_fault (item_place (codes "program") index) names ms → next ≡ lower held here
    → name ≡ name_at ms → new ≡ names ++ name ∷ [] → lower held (programs_fault index names seen) ≡ all → lower next (programs_fault (index + 1) new rest) ≡ all
programs_turn names new index name ms seen rest held here next all is_seen is_here is_next is_name is_new before =
    next_fault held here next _ (programs_fault index names seen) all is_next
    (ap (programs_fault index names) is_seen ∙ ap (λ o. lower o (programs_fault (suc index) (names ++ name_at ms ∷ []) rest)) (sym is_here)
    ∙ ap (lower here) (ap (λ n. programs_fault (suc index) (names ++ n ∷ []) rest) (sym is_name) ∙ ap (λ l. programs_fault (suc index) l rest) (sym is_new) ∙ ap (λ k. programs_fault k new rest) (sym (add-one index))))
    before

pub programs_more : (old new : List Code) (program : Option Code) (ms : Members) (seen rest : List Members) (all : List Code) → seen ≡ ms ∷ rest → program ≡ program_at ms → ((more : List Code) → new ++ more ≡ old ++ cons_option program more) → old ++ programs_of seen ≡ all → new ++ programs_of rest ≡ all
programs_more old new program ms seen rest all is_seen is_program is_new before =
    is_new (programs_of rest) ∙ ap (λ o. old ++ cons_option o (programs_of rest)) is_program ∙ ap (λ l. old ++ programs_of l) (sym is_seen) ∙ before

pub mapped_more : {A : Type 0} (f : Members → A) (old new : List A) (x : A) (ms : Members) (seen rest : List Members) (all : List A) → seen ≡ ms ∷ rest → x ≡ f ms → new ≡ old ++ x ∷ [] → old ++ map f seen ≡ all → new ++ map f rest ≡ all
mapped_more f old new x ms seen rest all is_seen is_x is_new before =
    ap (λ l. l ++ map f rest) is_new ∙ append_assoc old (x ∷ []) (map f rest) ∙ ap (λ y. old ++ y ∷ map f rest) is_x ∙ ap (λ l. old ++ map f l) (sym is_seen) ∙ before

pub nodes_turn : (names : List (List ℕ)) (index : ℕ) (ms : Members) (seen rest : List Members) (held here next all : Option Fault) → seen ≡ ms ∷ rest → here ≡ node_fault names (item_place (codes "node") index) ms → next ≡ lower held here → lower held (nodes_fault names index seen) ≡ all
    → lower next (nodes_fault names (index + 1) rest) ≡ all
nodes_turn names index ms seen rest held here next all is_seen is_here is_next before =
    next_fault held here next _ (nodes_fault names index seen) all is_next
    (ap (nodes_fault names index) is_seen ∙ ap (λ o. lower o (nodes_fault names (suc index) rest)) (sym is_here) ∙ ap (λ k. lower here (nodes_fault names k rest)) (sym (add-one index)))
    before

pub links_turn : (nodes : ℕ) (before new : List Link) (index : ℕ) (ms : Members) (seen rest : List Members) (held here next all : Option Fault) → seen ≡ ms ∷ rest → here ≡ link_fault nodes before (item_place (codes "link") index) ms → next ≡ lower held here → new ≡ before ++ link_at nodes ms ∷ []
    → lower held (links_fault nodes index before seen) ≡ all → lower next (links_fault nodes (index + 1) new rest) ≡ all
links_turn nodes before new index ms seen rest held here next all is_seen is_here is_next is_new earlier =
    next_fault held here next _ (links_fault nodes index before seen) all is_next
    (ap (links_fault nodes index before) is_seen ∙ ap (λ o. lower o (links_fault nodes (suc index) (before ++ link_at nodes ms ∷ []) rest)) (sym is_here)
    ∙ ap (lower here) (ap (λ l. links_fault nodes (suc index) l rest) (sym is_new) ∙ ap (λ k. links_fault nodes k new rest) (sym (add-one index))))
    earlier

pub inputs_turn : (nodes : ℕ) (previous : Option Given) (index : ℕ) (ms : Members) (seen rest : List Members) (held here next all : Option Fault) → seen ≡ ms ∷ rest → here ≡ input_fault nodes previous (item_place (codes "input") index) ms → next ≡ lower held here
    → lower held (inputs_fault nodes index previous seen) ≡ all → lower next (inputs_fault nodes (index + 1) (Some (input_at nodes ms)) rest) ≡ all
inputs_turn nodes previous index ms seen rest held here next all is_seen is_here is_next earlier =
    next_fault held here next _ (inputs_fault nodes index previous seen) all is_next
    (ap (inputs_fault nodes index previous) is_seen ∙ ap (λ o. lower o (inputs_fault nodes (suc index) (Some (input_at nodes ms)) rest)) (sym is_here)
    ∙ ap (λ k. lower here (inputs_fault nodes k (Some (input_at nodes ms)) rest)) (sym (add-one index)))
    earlier

-- ---- the outermost table

flat : (u v a b c d e r : Option Fault) → lower (lower u v) (lower (lower a (lower b (lower c (lower d e)))) r) ≡ lower u (lower v (lower a (lower b (lower c (lower d (lower e r))))))
flat u v a b c d e r = simp lower_assoc

pub document_fault : (ms : Members) (nodes : ℕ) (programs_at nodes_at links_at inputs_at : Option ℕ) (version limits arrays joined result : Option Fault) → nodes ≡ node_count ms
    → located (codes "program") programs_at ≡ array_fault (codes "program") 1 64 ms → located (codes "node") nodes_at ≡ array_fault (codes "node") 1 64 ms → located (codes "link") links_at ≡ array_fault (codes "link") 0 1024 ms → located (codes "input") inputs_at ≡ array_fault (codes "input") 0 65536 ms
    → version ≡ lower (unknown_fault top_keys top ms) (number_fault true wrong_version (codes "version") (number_at 1 1 (get_member (codes "version") ms))) → limits ≡ limits_fault nodes ms
    → arrays ≡ lower (located (codes "program") programs_at) (lower (located (codes "node") nodes_at) (lower (located (codes "link") links_at) (located (codes "input") inputs_at))) → joined ≡ lower limits arrays → result ≡ lower version joined → result ≡ top_fault ms
document_fault ms nodes programs_at nodes_at links_at inputs_at version limits arrays joined result is_nodes is_program is_node is_link is_input is_version is_limits is_arrays is_joined is_result =
    let all : Option Fault = lower (array_fault (codes "program") 1 64 ms) (lower (array_fault (codes "node") 1 64 ms) (lower (array_fault (codes "link") 0 1024 ms) (array_fault (codes "input") 0 65536 ms))) in
    let same : arrays ≡ all = rw (is_arrays, is_program, is_node, is_link, is_input) refl in
    let head : Option Fault = unknown_fault top_keys top ms in
    let version_at : Option Fault = number_fault true wrong_version (codes "version") (number_at 1 1 (get_member (codes "version") ms)) in
    let below : joined ≡ lower (limits_fault (node_count ms) ms) all = is_joined ∙ ap (λ o. lower o arrays) (is_limits ∙ ap (λ n. limits_fault n ms) is_nodes) ∙ ap (lower (limits_fault (node_count ms) ms)) same in
    is_result ∙ ap (λ o. lower o joined) is_version ∙ ap (lower (lower head version_at)) below
    ∙ flat head version_at (limit_fault true (codes "ticks") 0 4096 ms) (limit_fault false (codes "fuel") 1 4096 ms) (limit_fault false (codes "conflicts") 1 1048576 ms) (limit_fault false (codes "states") (max 1 (node_count ms)) 16384 ms) (limit_fault false (codes "dstates") 1 16384 ms) all

-- ---- how many links each node has before

pub taken_links : {T : Type 0} (view : T → Members) (nodes : ℕ) (ts : List T) (i : ℕ) (t : T) → i < length ts → t ≡ get_or ts i t → links_of nodes (map view (take (i + 1) ts)) ≡ links_of nodes (map view (take i ts)) ++ link_at nodes (view t) ∷ []
taken_links view nodes ts i t lt at =
    ap (λ l. links_of nodes (map view l)) (take_more ts i t lt ∙ ap (λ x. take i ts ++ x ∷ []) (sym at)) ∙ ap (links_of nodes) (map-append view (take i ts) (t ∷ [])) ∙ map-append (link_at nodes) (map view (take i ts)) (view t ∷ [])

-- how many links come from a node
abbrev fan_of : List Link → ℕ → ℕ
fan_of links n = length (filter (λ (m : Link). nat_eq m.from n) links)

pub fan_is_full : (counts : List ℕ) (before : List Link) (l : Link) (from x : ℕ) → from ≡ l.from → x ≡ get_or counts from 0 → get_or counts from 0 ≡ fan_of before from → nat_le 16 x ≡ is_past_fan before l
fan_is_full counts before l from x is_from is_x is_count = ap (nat_le 16) (is_x ∙ is_count ∙ ap (fan_of before) is_from)

-- each count is that of the links of a node, of which there are no more than were gone over
pub record AreCounts (ns : List ℕ) (links : List Link) (index : ℕ) : Type 0 where
  pub counts : (n : ℕ) → n < length ns → get_or ns n 0 ≡ fan_of links n
  pub few : (n : ℕ) → n < length ns → get_or ns n 0 ≤ index

one_more : (before : List Link) (l : Link) (n : ℕ) → fan_of (before ++ l ∷ []) n ≡ fan_of before n + cond (nat_eq l.from n) 1 0
one_more before l n =
    ap length (filter-append (λ (m : Link). nat_eq m.from n) before (l ∷ [])) ∙ length-append (filter (λ (m : Link). nat_eq m.from n) before) (filter (λ (m : Link). nat_eq m.from n) (l ∷ []))
    ∙ elim (cases_Bool (nat_eq l.from n)) [ inl y ↦ rw y refl | inr o ↦ rw o refl ]

counted_at : (counts : List ℕ) (before : List Link) (l : Link) (from x index n : ℕ) → from ≡ l.from → from < length counts → x ≡ get_or counts from 0 → AreCounts counts before index → n < length counts
    → (get_or (set counts from (x + 1)) n 0 ≡ fan_of (before ++ l ∷ []) n) × (get_or (set counts from (x + 1)) n 0 ≤ index + 1)
counted_at counts before l from x index n is_from lt is_x known n_lt =
    let at_n = known.counts n n_lt in
    let few = known.few n n_lt in
    let more = one_more before l n in
    elim (cases_Bool (nat_eq l.from n)) [
      | inl y ↦
          let same : from ≡ n = grind (arith, nat_tests) in
          let one : fan_of (before ++ l ∷ []) n ≡ fan_of before n + 1 = rw y at more in
          let now : get_or (set counts from (x + 1)) n 0 ≡ x + 1 = rw (← same) (get_or-set_same counts from (x + 1) 0 lt) in
          let is_n : x ≡ get_or counts n 0 = is_x ∙ ap (λ k. get_or counts k 0) same in
          (omega arith, omega arith)
      | inr o ↦
          let other : n ≢ from = grind (arith, nat_tests) in
          let one : fan_of (before ++ l ∷ []) n ≡ fan_of before n + 0 = rw o at more in
          let now : get_or (set counts from (x + 1)) n 0 ≡ get_or counts n 0 = get_or-set_other counts from n (x + 1) 0 other in
          (omega arith, omega arith)
    ]

pub counted : (counts : List ℕ) (before all : List Link) (l : Link) (from x index : ℕ) → from ≡ l.from → from < length counts → x ≡ get_or counts from 0 → all ≡ before ++ l ∷ [] → AreCounts counts before index → AreCounts (set counts from (x + 1)) all (index + 1)
counted counts before all l from x index is_from lt is_x is_all known = record {
  counts = λ n n_lt. let h : n < length counts = simp length-set at n_lt in (counted_at counts before l from x index n is_from lt is_x known h).0 ∙ ap (λ ls. fan_of ls n) (sym is_all);
  few = λ n n_lt. let h : n < length counts = simp length-set at n_lt in (counted_at counts before l from x index n is_from lt is_x known h).1;
}

-- ---- what holds of all elements, at one of them

pub one_of : {A B C : Type 0} (P : C → Type 0) (g : B → C) (f : A → B) (xs : List A) (i : ℕ) (x : A) → AllByRecursion P (map g (map f xs)) → i < length xs → x ≡ get_or xs i x → P (g (f x))
one_of P g f [] i x all lt at = absurd (omega arith)
one_of P g f (y ∷ xs) zero x all lt at = rw at all.0
one_of P g f (y ∷ xs) (suc i) x all lt at = one_of P g f xs i x all.1 (omega arith) at

pub ticks_are : (ns : List ℤ) → AllByRecursion (λ t. t ≤ 4095) (map tick_of ns) → map (λ n. min (tick_of n) 4095) ns ≡ map tick_of ns
ticks_are [] all = refl
ticks_are (n ∷ ns) all = let same : min (tick_of n) 4095 ≡ tick_of n = omega (arith, all.0) in rw (same, ticks_are ns all.1) refl

-- ---- inputs

last_of : (P : Given → Type 0) (xs : Valuation) (g : Given) (ys : Valuation) → AllByRecursion P (xs ++ g ∷ ys) → P g
last_of P [] g ys all = all.0
last_of P (x ∷ xs) g ys all = last_of P xs g ys all.1

appended : (old : Valuation) (g : Given) (rest : Valuation) → AreEntries (old ++ g ∷ rest) → with_word g.node g.index g.word old ≡ old ++ g ∷ []
appended [] g rest order = let some : nat_eq g.word 0 ≡ false = grind (arith, nat_tests, order.0) in rw some refl
appended (h ∷ old) g rest order = rw (last_of (Precedes h) old g rest order.1) (ap (λ a. h ∷ a) (appended old g rest order.2))

pub inputs_turn_of : (nodes : ℕ) (old new : Valuation) (ms : Members) (seen rest : List Members) (all : Valuation) → seen ≡ ms ∷ rest → AreEntries all
    → new ≡ (if nat_lt 0 (input_at nodes ms).word then with_word (input_at nodes ms).node (input_at nodes ms).index (input_at nodes ms).word old else old) → old ++ inputs_of nodes seen ≡ all → new ++ inputs_of nodes rest ≡ all
inputs_turn_of nodes old new ms seen rest all is_seen order is_new before =
    let g : Given = input_at nodes ms in
    let whole : old ++ inputs_of nodes (ms ∷ rest) ≡ all = ap (λ l. old ++ inputs_of nodes l) (sym is_seen) ∙ before in
    elim (cases_Bool (nat_lt 0 g.word)) [
      | inl y ↦
          let kept : old ++ g ∷ inputs_of nodes rest ≡ all = rw y at whole in
          let put : new ≡ old ++ g ∷ [] = rw y at is_new ∙ appended old g (inputs_of nodes rest) (subst AreEntries (sym kept) order) in
          ap (λ l. l ++ inputs_of nodes rest) put ∙ append_assoc old (g ∷ []) (inputs_of nodes rest) ∙ kept
      | inr o ↦ let left : old ++ inputs_of nodes rest ≡ all = rw o at whole in let same : new ≡ old = rw o at is_new in ap (λ l. l ++ inputs_of nodes rest) same ∙ left
    ]
