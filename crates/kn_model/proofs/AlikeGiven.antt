-- How a list of given paths is put together: side by side, and without a side that no inputs meet; and what alike states receive.
use Rattle.std.proofs.lemmas.List.Sums.{sum_by-cons}
use Rattle.std.proofs.Common.{◌≡◌, refl, ◌⊎◌, suc, ℕ, sum_by, subst, arith, Bool, List, [], ◌∷◌, ◌++◌, map, inl, inr, sym, ap, ◌∙◌, append_assoc}
use Rattle.std.specs.Prelude.{◌&&◌, Contains}
use Rattle.std.specs.List.{AllByRecursion}
use Rattle.kn_model.specs.Values.{Literal}
use Rattle.kn_model.specs.Terms.{Term, terms}
use Rattle.kn_model.specs.Packets.{Packet, put_in, put_all, packet_le}
use Rattle.kn_model.specs.Conditions.{Condition, holds, that, IsImpossible}
use Rattle.kn_model.specs.Rows.{Here, Way}
use Rattle.kn_model.specs.Paths.{Path, event_paths, ways, path_of, decided}
use Rattle.kn_model.specs.Alikes.{OneByOne, AlikePath, WaitsAlike, TermAlike, ConditionAlike, AlikeSend, AreGiven}
use Rattle.kn_model.specs.Laws.{AlikeReceived, GivenMeans, Apart, AreApart}
use Rattle.kn_model.proofs.Lists.{all-map, all-weaker}
use Rattle.kn_model.proofs.Parting.{paths_apart}
use Rattle.kn_model.proofs.EachWay.{kept_by, Kept, IsHere, all_ways}
use Rattle.kn_model.proofs.OneByOne.{pairs-put}
use Rattle.kn_model.proofs.AlikeRows.{set_queue, order_alike}
use Rattle.kn_model.proofs.AlikeTerms.{holds_join, joins, keeps_terms}

abbrev pub IsOut : Path Term → Type 0
IsOut q = IsImpossible (that q.state.own)

-- nothing is given of paths that no inputs meet, and given lists stand side by side
pub given_none : (qs : List (Path Term)) → AllByRecursion IsOut qs → AreGiven [] qs
given_none [] h = tt
given_none (q ∷ qs) h = (h.0, given_none qs h.1)

pub given_append : (ps qs us vs : List (Path Term)) → AreGiven ps qs → AreGiven us vs → AreGiven (ps ++ us) (qs ++ vs)
given_append [] [] us vs h i = i
given_append (p ∷ ps) [] us vs h i = absurd h
given_append [] (q ∷ qs) us vs h i = out us (given_append [] qs us vs h.1 i)
  where
    out : (us : List (Path Term)) → AreGiven us (qs ++ vs) → AreGiven us (q ∷ (qs ++ vs))
    out [] j = (h.0, j)
    out (u ∷ us) j = inr (h.0, j)
given_append (p ∷ ps) (q ∷ qs) us vs (inl h) i = inl (h.0, given_append ps qs us vs h.1 i)
given_append (p ∷ ps) (q ∷ qs) us vs (inr h) i = inr (h.0, given_append (p ∷ ps) qs us vs h.1 i)

-- where no inputs meet the condition of a way so far, they meet that of no path on
abbrev pub IsShut : Way Term → Type 0
IsShut w = IsImpossible (that (w.state.own ++ w.literals))

pub shut_kept : (here : Here Term) → Kept terms here IsShut
shut_kept here = kept_by terms here (λ bits literals trace own. IsImpossible (that (own ++ literals)))

pub shut_longer : (c d : Condition) → IsImpossible (that c) → IsImpossible (that (c ++ d))
shut_longer c d h a = holds_join a c d ∙ ap (λ (b : Bool). b && holds a d) (h a)

pub shut_decided : (b : Bool) (l : Literal Term) (w : Way Term) → IsShut w → IsShut (decided terms b l w)
shut_decided b l w h a = ap (holds a) (sym (append_assoc w.state.own w.literals (l ∷ []))) ∙ shut_longer (w.state.own ++ w.literals) (l ∷ []) h a

pub shut_ways : (here : Here Term) → IsHere here → (fuel : ℕ) (w : Way Term) → IsShut w → AreGiven [] (map (path_of terms) (ways terms here fuel w))
shut_ways here good fuel w h =
    given_none (map (path_of terms) (ways terms here fuel w))
    (all-map IsShut IsOut (path_of terms) (λ v i. i) (ways terms here fuel w) (all_ways terms here IsShut (shut_kept here) good shut_decided fuel w h))

-- packets that are received
queues : (ps qs : List (Packet Term)) (us vs : List (Packet Term)) → OneByOne AlikeSend ps qs → OneByOne (WaitsAlike TermAlike) us vs → OneByOne (WaitsAlike TermAlike) (put_all packet_le ps us) (put_all packet_le qs vs)
queues [] [] us vs h i = i
queues [] (q ∷ qs) us vs h i = absurd h
queues (p ∷ ps) [] us vs h i = absurd h
queues (p ∷ ps) (q ∷ qs) us vs h i =
    queues ps qs (put_in packet_le p us) (put_in packet_le q vs) h.1
    (pairs-put (WaitsAlike TermAlike) packet_le packet_le (λ a b c d x y. order_alike TermAlike ConditionAlike a b c d x y) p q us vs (record { key = h.0.key; payload = h.0.payload }) i)

pub alike_received : AlikeReceived
alike_received s t h = (
  λ ps qs i. set_queue terms terms TermAlike ConditionAlike ConditionAlike keeps_terms s t h (put_all packet_le ps s.queue) (put_all packet_le qs t.queue) (queues ps qs s.queue t.queue i h.queue),
  λ p q i. record {
    trace = h.trace;
    outcome = h.outcome;
    timers = h.timers;
    inputs = h.inputs;
    sent = h.sent;
    losses = h.losses;
    duplications = h.duplications;
    booted = h.booted;
    reboots = h.reboots;
    registers = h.registers;
    memory = h.memory;
    queue = h.queue;
    own = joins s.own t.own p.guard q.guard h.own i.guard;
  },
)

-- a member of a list is one of a longer list
contains_cons : {A : Type 0} (x y : A) (xs : List A) → Contains xs y → Contains (x ∷ xs) y
contains_cons x y xs c = let i = c.1 in (suc c.0, omega (arith, i), c.2)

abbrev IsOneOf : List (Path Term) → Path Term → Type 0
IsOneOf qs p = (q : Path Term) × Contains qs q × AlikePath p q

abbrev IsGivenOr : List (Path Term) → Path Term → Type 0
IsGivenOr ps q = ((p : Path Term) × Contains ps p × AlikePath p q) ⊎ IsOut q

one_more : (q : Path Term) (qs ps : List (Path Term)) → AllByRecursion (IsOneOf qs) ps → AllByRecursion (IsOneOf (q ∷ qs)) ps
one_more q qs ps h = all-weaker (IsOneOf qs) (IsOneOf (q ∷ qs)) (λ p c. (c.0, contains_cons q c.0 qs c.1, c.2)) ps h

more_given : (p : Path Term) (ps qs : List (Path Term)) → AllByRecursion (IsGivenOr ps) qs → AllByRecursion (IsGivenOr (p ∷ ps)) qs
more_given p ps qs h = all-weaker (IsGivenOr ps) (IsGivenOr (p ∷ ps)) one qs h
  where
    one : (q : Path Term) → IsGivenOr ps q → IsGivenOr (p ∷ ps) q
    one q (inl c) = inl (c.0, contains_cons p c.0 ps c.1, c.2)
    one q (inr c) = inr c

given_each : (ps qs : List (Path Term)) → AreGiven ps qs → AllByRecursion (IsOneOf qs) ps
given_each [] [] h = tt
given_each (p ∷ ps) [] h = absurd h
given_each [] (q ∷ qs) h = tt
given_each (p ∷ ps) (q ∷ qs) (inl h) = ((q, (0, omega arith, refl), h.0), one_more q qs ps (given_each ps qs h.1))
given_each (p ∷ ps) (q ∷ qs) (inr h) = one_more q qs (p ∷ ps) (given_each (p ∷ ps) qs h.1)

given_others : (ps qs : List (Path Term)) → AreGiven ps qs → AllByRecursion (IsGivenOr ps) qs
given_others [] [] h = tt
given_others (p ∷ ps) [] h = absurd h
given_others [] (q ∷ qs) h = (inr h.0, given_others [] qs h.1)
given_others (p ∷ ps) (q ∷ qs) (inl h) = (inl (p, (0, omega arith, refl), h.0), more_given p ps qs (given_others ps qs h.1))
given_others (p ∷ ps) (q ∷ qs) (inr h) = (inr h.0, given_others (p ∷ ps) qs h.1)

-- what is said of the bits of all paths holds of those of the given ones
abbrev bits_of : List (Path Term) → List (List Bool)
bits_of ps = map (λ (p : Path Term). p.bits) ps

given_bits : (P : List Bool → Type 0) (ps qs : List (Path Term)) → AreGiven ps qs → AllByRecursion P (bits_of qs) → AllByRecursion P (bits_of ps)
given_bits P [] [] h a = tt
given_bits P (p ∷ ps) [] h a = absurd h
given_bits P [] (q ∷ qs) h a = tt
given_bits P (p ∷ ps) (q ∷ qs) (inl h) a = (subst P (sym h.0.bits) a.0, given_bits P ps qs h.1 a.1)
given_bits P (p ∷ ps) (q ∷ qs) (inr h) a = given_bits P (p ∷ ps) qs h.1 a.1

given_apart : (ps qs : List (Path Term)) → AreGiven ps qs → AreApart (bits_of qs) → AreApart (bits_of ps)
given_apart [] [] h a = tt
given_apart (p ∷ ps) [] h a = absurd h
given_apart [] (q ∷ qs) h a = tt
given_apart (p ∷ ps) (q ∷ qs) (inl h) a = (subst (λ (b : List Bool). AllByRecursion (Apart b) (bits_of ps)) (sym h.0.bits) (given_bits (Apart q.bits) ps qs h.1 a.0), given_apart ps qs h.1 a.1)
given_apart (p ∷ ps) (q ∷ qs) (inr h) a = given_apart (p ∷ ps) qs h.1 a.1

pub given_means : GivenMeans
given_means net n tick e s ps good h =
    let qs = event_paths terms net n tick e s in
    (given_each ps qs h, given_apart ps qs h (paths_apart net n tick e s good), given_others ps qs h)

-- what is alike weighs the same, and what no inputs meet weighs nothing: the given paths weigh what all paths do
pub given_weighs : (f g : Path Term → ℕ) → ((p q : Path Term) → AlikePath p q → f p ≡ g q) → ((q : Path Term) → IsOut q → g q ≡ 0) → (ps qs : List (Path Term)) → AreGiven ps qs → sum_by f ps ≡ sum_by g qs
given_weighs f g same none [] [] h = refl
given_weighs f g same none (p ∷ ps) [] h = absurd h
given_weighs f g same none [] (q ∷ qs) h =
    let z = none q h.0 in
    let rest = given_weighs f g same none [] qs h.1 in
    omega (arith, z, rest, sum_by-cons g q qs)
given_weighs f g same none (p ∷ ps) (q ∷ qs) (inl h) =
    let one = same p q h.0 in
    let rest = given_weighs f g same none ps qs h.1 in
    omega (arith, one, rest, sum_by-cons f p ps, sum_by-cons g q qs)
given_weighs f g same none (p ∷ ps) (q ∷ qs) (inr h) =
    let z = none q h.0 in
    let rest = given_weighs f g same none (p ∷ ps) qs h.1 in
    omega (arith, z, rest, sum_by-cons g q qs)
