-- The order of histories, and of those that share a beginning.
use Rattle.std.proofs.Common.{◌≡◌, ℕ, ◌+◌, ◌<◌, min, List, refl, ap, subst, sym, ◌∙◌, arith, Bool}
use Rattle.std.specs.declared.cmp.Ordering.{Ordering}
use Rattle.std.specs.declared.cmp.Ordering.TheVariants.{Less, Equal, Greater}
use Rattle.std.specs.Ordering.{nat_cmp, bool_cmp, ordering_then, ordering_reverse}
use Rattle.std.specs.Cmp.Lexicographic.{slice_cmp}
use Rattle.std.specs.Cmp.{IsTotalOrder, nat_cmp_total, bool_cmp_total}
use Rattle.std.proofs.lemmas.Cmp.{lists_total}
use Rattle.std.proofs.lemmas.Bool.Decides.{nat_tests}
use Rattle.kn_packet.specs.declared.packet.Event.{Event}
use Rattle.kn_packet.specs.declared.packet.Event.TheVariants as events
use Rattle.kn_packet.specs.Histories.{History, Done, AndRan, AndGot, followed, event_cmp, history_cmp}
use Rattle.kn_dstate.specs.declared.row.Entry.{Entry}
use Rattle.kn_dstate.specs.declared.row.Entry.TheVariants.{Ran, Got}
use Rattle.kn_dstate.specs.Histories.{Told, entry_count, entry_history}

pub then-assoc : (a b c : Ordering) → ordering_then (ordering_then a b) c ≡ ordering_then a (ordering_then b c)
then-assoc Less b c = refl
then-assoc Equal b c = refl
then-assoc Greater b c = refl

pub then-equal : (a : Ordering) → ordering_then a Equal ≡ a
then-equal Less = refl
then-equal Equal = refl
then-equal Greater = refl

-- the comparison of entries, after what was compared before them
pub ruleset orders = (then-assoc, then-equal)

itself : {K : Type 0} (R : K → K → Ordering) → IsTotalOrder R → (x : K) → R x x ≡ Equal
itself R o x = go (R x x) (o.antisymm x x)
  where
    go : (r : Ordering) → r ≡ ordering_reverse r → r ≡ Equal
    go Less e = absurd cc
    go Equal e = refl
    go Greater e = absurd cc

bits_same : (b : List Bool) → slice_cmp bool_cmp b b ≡ Equal
bits_same b = itself (slice_cmp bool_cmp) (lists_total bool_cmp_total) b

number_same : (n : ℕ) → nat_cmp n n ≡ Equal
number_same n = itself nat_cmp nat_cmp_total n

event_same : (e : Event) → event_cmp e e ≡ Equal
event_same events.Boot = refl
event_same events.Reboot = refl
event_same (events.Packet f s c) = rw (number_same f, number_same s, number_same c) refl
event_same (events.Timer n) = rw (number_same n) refl

-- a history is level with itself
pub history_same : (h : History) → history_cmp h h ≡ Equal
history_same Done = refl
history_same (AndRan e b r) = rw (event_same e, bits_same b, history_same r) refl
history_same (AndGot n s b q c r) = rw (number_same n, number_same q, number_same c, history_same s, bits_same b, history_same r) refl

pub followed-assoc : (h t u : History) → followed (followed h t) u ≡ followed h (followed t u)
followed-assoc Done t u = refl
followed-assoc (AndRan e b r) t u = ap (AndRan e b) (followed-assoc r t u)
followed-assoc (AndGot n s b q c r) t u = ap (AndGot n s b q c) (followed-assoc r t u)

pub followed-none : (h : History) → followed h Done ≡ h
followed-none Done = refl
followed-none (AndRan e b r) = ap (AndRan e b) (followed-none r)
followed-none (AndGot n s b q c r) = ap (AndGot n s b q c) (followed-none r)

-- what goes on from two histories that are as long is compared after them
pub cmp-followed : (h k t u : History) → entry_count h ≡ entry_count k → history_cmp (followed h t) (followed k u) ≡ ordering_then (history_cmp h k) (history_cmp t u)
cmp-followed Done Done t u e = refl
cmp-followed Done (AndRan e' b' r') t u e = absurd (omega arith)
cmp-followed Done (AndGot n' s' b' q' c' r') t u e = absurd (omega arith)
cmp-followed (AndRan e b r) Done t u is = absurd (omega arith)
cmp-followed (AndRan e b r) (AndRan e' b' r') t u is =
    let rest = cmp-followed r r' t u (omega arith) in
    rw rest (simp then-assoc)
cmp-followed (AndRan e b r) (AndGot n' s' b' q' c' r') t u is = refl
cmp-followed (AndGot n s b q c r) Done t u is = absurd (omega arith)
cmp-followed (AndGot n s b q c r) (AndRan e' b' r') t u is = refl
cmp-followed (AndGot n s b q c r) (AndGot n' s' b' q' c' r') t u is =
    let rest = cmp-followed r r' t u (omega arith) in
    rw rest (simp then-assoc)

pub count-followed : (h t : History) → entry_count (followed h t) ≡ entry_count h + entry_count t
count-followed Done t = omega arith
count-followed (AndRan e b r) t = omega (arith, count-followed r t)
count-followed (AndGot n s b q c r) t = omega (arith, count-followed r t)

pub count-entry : (ts : List Told) (x : Entry) → entry_count (entry_history ts x) ≡ 1
count-entry ts (Ran e b) = refl
count-entry ts (Got s c) = refl

-- a history without entries
pub count-none : (h : History) → entry_count h ≡ 0 → h ≡ Done
count-none Done e = refl
count-none (AndRan e b r) is = absurd (omega arith)
count-none (AndGot n s b q c r) is = absurd (omega arith)

lower : (x y : ℕ) → x < y → Less ≡ nat_cmp x y
lower x y h = grind (arith, nat_tests)

level : (x y : ℕ) → x ≡ y → Equal ≡ nat_cmp x y
level x y h = sym (ap (nat_cmp x) (sym h) ∙ number_same x)

higher : (x y : ℕ) → y < x → Greater ≡ nat_cmp x y
higher x y h = grind (arith, nat_tests)

-- of two ends one of which is empty the longer one comes later
pub cmp-ends : (t u : History) (shared first second : ℕ) → first ≡ shared + entry_count t → second ≡ shared + entry_count u → min first second ≡ shared → history_cmp t u ≡ nat_cmp first second
cmp-ends Done Done m x y e f least = level x y (omega arith)
cmp-ends Done (AndRan e' b' r') m x y e f least = lower x y (omega arith)
cmp-ends Done (AndGot n' s' b' q' c' r') m x y e f least = lower x y (omega arith)
cmp-ends (AndRan e' b' r') Done m x y e f least = higher x y (omega arith)
cmp-ends (AndGot n' s' b' q' c' r') Done m x y e f least = higher x y (omega arith)
cmp-ends (AndRan e' b' r') (AndRan e2 b2 r2) m x y e f least = absurd (omega arith)
cmp-ends (AndRan e' b' r') (AndGot n2 s2 b2 q2 c2 r2) m x y e f least = absurd (omega arith)
cmp-ends (AndGot n' s' b' q' c' r') (AndRan e2 b2 r2) m x y e f least = absurd (omega arith)
cmp-ends (AndGot n' s' b' q' c' r') (AndGot n2 s2 b2 q2 c2 r2) m x y e f least = absurd (omega arith)

-- the beginnings that are as long as the shorter one, and then the lengths
pub compared : (whole other left right : History) (first second shared : ℕ) (order : Ordering)
    → (rest : History) × (whole ≡ followed left rest) → (rest : History) × (other ≡ followed right rest)
    → entry_count left ≡ shared → entry_count right ≡ shared → shared ≡ min first second → first ≡ entry_count whole → second ≡ entry_count other → order ≡ history_cmp left right
    → ordering_then order (nat_cmp first second) ≡ history_cmp whole other
compared whole other left right first second shared order a b l r least x y is =
    let ends = cmp-ends a.0 b.0 shared first second (omega (arith, count-followed left a.0, ap entry_count a.1)) (omega (arith, count-followed right b.0, ap entry_count b.1)) (sym least) in
    rw (a.1, b.1, cmp-followed left right a.0 b.0 (l ∙ sym r), is, ends) refl

-- one entry further back
pub further : (ts : List Told) (a b h k : History) (x y : Entry) (order more : Ordering) (all : Ordering)
    → a ≡ followed h (entry_history ts x) → b ≡ followed k (entry_history ts y) → entry_count h ≡ entry_count k
    → more ≡ history_cmp (entry_history ts x) (entry_history ts y) → ordering_then (history_cmp a b) order ≡ all
    → ordering_then (history_cmp h k) (ordering_then more order) ≡ all
further ts a b h k x y order more all e f even is same =
    rw (is, ← then-assoc (history_cmp h k) (history_cmp (entry_history ts x) (entry_history ts y)) order, ← cmp-followed h k (entry_history ts x) (entry_history ts y) even, ← e, ← f) same

-- nothing is left to compare
pub nothing_left : (a b : History) (order all : Ordering) → a ≡ b → ordering_then (history_cmp a b) order ≡ all → order ≡ all
nothing_left a b order all e same = subst (λ (o : Ordering). ordering_then o order ≡ all) (ap (history_cmp a) (sym e) ∙ history_same a) same
