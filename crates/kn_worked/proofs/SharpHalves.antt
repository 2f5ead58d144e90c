-- Of two nodes that branch once, the report with one dstate is sharp, and the one with four is not.
use Rattle.std.proofs.Common.{◌≡◌, ℕ, zero, suc, ◌+◌, Bool, true, false, List, [], ◌∷◌, Some, refl, sym, ap, subst, ◌∙◌, arith}
use Rattle.std.specs.Prelude.{Contains, slice_get, slice_index_or}
use Rattle.kn_model.specs.Terms.{Term}
use Rattle.kn_model.specs.Histories.{History, Done, AndRan, AndGot}
use Rattle.kn_packet.specs.declared.packet.Event.TheVariants.{Boot}
use Rattle.kn_model.specs.Nodes.{Node, Running}
use Rattle.kn_model.specs.Scenarios.{Scenario}
use Rattle.kn_cond.specs.declared.standing.Standing.TheVariants.{Inputs}
use Rattle.kn_model.specs.Replays.{record_of}
use Rattle.kn_model.specs.Reports.{Report, StateLine, ends, IsLine, IsPick, Names, HistoryIs}
use Rattle.kn_worked.specs.OneTick.{halves}
use Rattle.kn_worked.specs.Reports.{half_lines, halves_told, SharpHalves, NotSharpHalves}
use Rattle.kn_model.proofs.Implied.{all-contains}
use Rattle.kn_worked.proofs.OverLimits.{same_if_none}
use Rattle.kn_worked.proofs.Pointing.{some_is, one_line, trace_is}

-- a node's history is its boot
abbrev HasBooted : Node Term → Type 0
HasBooted y = y.history ≡ AndRan Boot y.state.trace Done

-- two such nodes, which sent nothing
abbrev IsHalves : Scenario Term → Type 0
IsHalves s = ((n : ℕ) (y : Node Term) → slice_get s.nodes n ≡ Some y → HasBooted y) × (record_of s.nodes ≡ [])

both_booted : (x z : Node Term) → HasBooted x → HasBooted z → (n : ℕ) (y : Node Term) → slice_get (x ∷ z ∷ []) n ≡ Some y → HasBooted y
both_booted x z h k zero y e = subst HasBooted (some_is x y e) h
both_booted x z h k (suc zero) y e = subst HasBooted (some_is z y e) k
both_booted x z h k (suc (suc n)) y e = absurd cc

all_halves : (s : Scenario Term) → Contains (ends (halves 1)) s → IsHalves s
all_halves s m = all-contains IsHalves (ends (halves 1)) s ((both_booted _ _ refl refl, refl), ((both_booted _ _ refl refl, refl), ((both_booted _ _ refl refl, refl), ((both_booted _ _ refl refl, refl), tt)))) m

module _ (dstates : List (List (List ℕ))) where
  abbrev report : Report
  report = halves_told dstates

  history_is : (k : ℕ) (h : History) (l : StateLine) → HistoryIs (halves 1) report k h → IsLine report k l → h ≡ AndRan Boot l.trace Done
  history_is k h l is e =
      let there = is.1 in
      let booted : HasBooted is.0 = (all_halves there.scenario there.named.member).0 there.line.node is.0 there.there in
      sym is.2 ∙ (booted ∙ ap (λ (t : List Bool). AndRan Boot t Done) (sym (trace_is (halves 1) report k is.0 there) ∙ ap (λ (x : StateLine). x.trace) (one_line report k there.line l there.is e)))

  one_history : (k : ℕ) (h h' : History) → HistoryIs (halves 1) report k h → HistoryIs (halves 1) report k h' → h ≡ h'
  one_history k h h' is is' = history_is k h is.1.line is is.1.is ∙ sym (history_is k h' is.1.line is' is.1.is)

  nothing_sent : (p : List ℕ) (s : Scenario Term) → Names (halves 1) report p s → record_of s.nodes ≡ []
  nothing_sent p s n = (all_halves s n.member).1

-- the number of a line, by its node and trace
abbrev numbered : ℕ → List Bool → ℕ
numbered n [] = n
numbered n (false ∷ bits) = n + n
numbered n (true ∷ bits) = suc (n + n)

number_is : (k : ℕ) (l : StateLine) → slice_get half_lines k ≡ Some l → k ≡ numbered l.node l.trace
number_is zero l e = ap (λ (x : StateLine). numbered x.node x.trace) (some_is _ l e)
number_is (suc zero) l e = ap (λ (x : StateLine). numbered x.node x.trace) (some_is _ l e)
number_is (suc (suc zero)) l e = ap (λ (x : StateLine). numbered x.node x.trace) (some_is _ l e)
number_is (suc (suc (suc zero))) l e = ap (λ (x : StateLine). numbered x.node x.trace) (some_is _ l e)
number_is (suc (suc (suc (suc k)))) l e = absurd cc

-- lines of one node and one trace are one
same_line : (j k : ℕ) (x y : StateLine) → slice_get half_lines j ≡ Some x → slice_get half_lines k ≡ Some y → x.node ≡ y.node → x.trace ≡ y.trace → j ≡ k
same_line j k x y e f n t = number_is j x e ∙ (ap (λ (m : ℕ). numbered m x.trace) n ∙ (ap (numbered y.node) t ∙ sym (number_is k y f)))

bits_in : History → List Bool
bits_in Done = []
bits_in (AndRan e b r) = b
bits_in (AndGot n s b q c r) = b

abbrev one : List (List (List ℕ))
one = ((0 ∷ 1 ∷ []) ∷ (2 ∷ 3 ∷ []) ∷ []) ∷ []

first_alone : (d : ℕ) (p : List ℕ) → IsPick (halves_told one) d p → d ≡ 0
first_alone zero p is = refl
first_alone (suc d) p is = let e = is.1 in absurd cc

pub sharp_halves : SharpHalves
unfolding bits_in
sharp_halves = record {
  one_history = one_history one;
  differ = λ j k x y h e f n is is'. same_line j k x y e f n (ap bits_in (sym (history_is one j h x is e) ∙ history_is one k h y is' f));
  by_history = λ j k x y h h' e f n t less is is'. let same = same_line j k x y e f n t in absurd (omega (arith, less, same));
  one_record = λ d p p' s s' is is' m m'. same_if_none (record_of s.nodes) (record_of s'.nodes) (nothing_sent one p s m) (nothing_sent one p' s' m');
  records_differ = λ d e p p' s s' is is' m m' same. first_alone d p is ∙ sym (first_alone e p' is');
}

pub not_sharp_halves : NotSharpHalves
not_sharp_halves sharp =
    let same = sharp.records_differ 0 1 (0 ∷ 2 ∷ []) (0 ∷ 3 ∷ []) (member 0) (member 1) (_, refl, (0, omega arith, refl)) (_, refl, (0, omega arith, refl))
    (record { member = (0, omega arith, refl); shows = ((line 0, refl, refl, refl), ((line 2, refl, refl, refl), tt)) })
    (record { member = (1, omega arith, refl); shows = ((line 0, refl, refl, refl), ((line 3, refl, refl, refl), tt)) })
    (λ x. (λ c. c, λ c. c)) in
    omega (arith, same)
  where
    member : ℕ → Scenario Term
    member k = slice_index_or (ends (halves 1)) k (record { nodes = []; condition = [] })

    line : ℕ → StateLine
    line k = slice_index_or half_lines k (record { node = 0; trace = []; outcome = Running; standing = Inputs [] })
