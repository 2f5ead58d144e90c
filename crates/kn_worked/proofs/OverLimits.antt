-- Limits of the worked networks that are passed, or just kept.
use Rattle.std.proofs.Common.{◌≡◌, ◌<◌, List, [], ◌∷◌, length, map, refl, sym, subst, ◌∙◌, arith}
use Rattle.std.specs.Prelude.{Contains}
use Rattle.std.specs.List.{AllByRecursion}
use Rattle.std.proofs.lemmas.List.{length-map}
use Rattle.kn_model.specs.Terms.{Term, Input, terms}
use Rattle.kn_model.specs.Histories.{Done, Stamp}
use Rattle.kn_model.specs.Scenarios.{Scenario, name_of, pre}
use Rattle.kn_model.specs.Conditions.{that, IsLive, AreDistinct}
use Rattle.kn_model.specs.Replays.{record_of, SameSet}
use Rattle.kn_model.specs.Limits.{AllLive, RecordsDiffer}
use Rattle.kn_worked.specs.Networks.{is, is_not, o}
use Rattle.kn_worked.specs.OneTick.{first_of}
use Rattle.kn_worked.specs.Limits.{two_halves, one_sends, CopiesOver, CopiesKept, RecordsKept, RecordsOver}
use Rattle.kn_model.proofs.Counting.{at_most}
use Rattle.kn_model.proofs.LeastInputs.{live_by}
use Rattle.kn_model.proofs.Implied.{all-contains}
use Rattle.kn_model.proofs.Lists.{all-map, itself, of_map}
use Rattle.kn_model.proofs.Rising.{names_distinct}

-- ---- copies

abbrev four : List (Scenario Term)
four = pre terms (two_halves 3) 0

four_distinct : AreDistinct (map name_of four)
four_distinct = names_distinct (map name_of four) ((refl, (refl, (refl, tt))), ((refl, (refl, tt)), ((refl, tt), (tt, tt))))

both_live : AllByRecursion (AllLive (two_halves 3)) four
both_live = ((one_0, (one_1, tt)), ((one_0, (zero_1, tt)), ((zero_0, (one_1, tt)), ((zero_0, (zero_1, tt)), tt))))
  where
    one_0 : IsLive 65536 (that (is (Input 0 0 1) ∷ []))
    one_0 = live_by 65536 (that (is (Input 0 0 1) ∷ [])) (first_of 0 ∷ []) refl

    one_1 : IsLive 65536 (that (is (Input 1 0 1) ∷ []))
    one_1 = live_by 65536 (that (is (Input 1 0 1) ∷ [])) (first_of 1 ∷ []) refl

    zero_0 : IsLive 65536 (that (is_not (Input 0 0 1) ∷ []))
    zero_0 = live_by 65536 (that (is_not (Input 0 0 1) ∷ [])) [] refl

    zero_1 : IsLive 65536 (that (is_not (Input 1 0 1) ∷ []))
    zero_1 = live_by 65536 (that (is_not (Input 1 0 1) ∷ [])) [] refl

pub copies_over : CopiesOver
copies_over = record { scenarios = four; many = omega arith; differ = four_distinct; members = itself four; live = both_live }

pub copies_kept : CopiesKept
copies_kept over =
    let all = pre terms (two_halves 4) 0 in
    let named = all-map (Contains all) (Contains (map name_of all)) name_of (λ s c. of_map name_of all s c) over.scenarios over.members in
    let few = at_most (map name_of all) (map name_of over.scenarios) named over.differ in
    let long = length-map over.scenarios name_of in
    let many = over.many in
    omega (arith, few, long, many)

-- ---- records

nothing_sent : AllByRecursion (λ (s : Scenario Term). record_of s.nodes ≡ []) (pre terms (two_halves 1) 0)
nothing_sent = (refl, (refl, (refl, (refl, tt))))

pub same_if_none : (xs ys : List Stamp) → xs ≡ [] → ys ≡ [] → SameSet xs ys
same_if_none xs ys e f = subst (SameSet xs) (e ∙ sym f) (λ x. (λ c. c, λ c. c))

pub records_kept : RecordsKept
records_kept over = go over.scenarios over.many over.differ over.members
  where
    go : (ss : List (Scenario Term)) → 1 < length ss → RecordsDiffer ss → AllByRecursion (Contains (pre terms (two_halves 1) 0)) ss → ⊥
    go [] h d c = omega (arith, h)
    go (s ∷ []) h d c = omega (arith, h)
    go (s ∷ (u ∷ ss)) h d c =
        d.0.0 (same_if_none (record_of s.nodes) (record_of u.nodes)
        (all-contains (λ (x : Scenario Term). record_of x.nodes ≡ []) (pre terms (two_halves 1) 0) s nothing_sent c.0)
        (all-contains (λ (x : Scenario Term). record_of x.nodes ≡ []) (pre terms (two_halves 1) 0) u nothing_sent c.1.0))

abbrev sent_one : Stamp
sent_one = record { node = 0; history = Done; bits = o ∷ []; seq = 0 }

pub records_over : RecordsOver
records_over = record {
  scenarios = pre terms (one_sends 1) 0;
  many = omega arith;
  differ = ((λ same. let c = (same sent_one).0 (0, omega arith, refl) in let none = c.1 in omega (arith, none), tt), (tt, tt));
  members = itself (pre terms (one_sends 1) 0);
  live = ((live_by 65536 (that (is (Input 0 0 1) ∷ [])) (first_of 0 ∷ []) refl, (live_by 65536 (that []) [] refl, tt)), ((live_by 65536 (that (is_not (Input 0 0 1) ∷ [])) [] refl, (live_by 65536 (that []) [] refl, tt)), tt));
}
