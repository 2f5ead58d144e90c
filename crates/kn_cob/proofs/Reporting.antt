-- A report that is made scenario by scenario.
use Rattle.std.proofs.Common.{◌≡◌, ℕ, zero, suc, ◌+◌, ◌-◌, ◌*◌, ◌<◌, ◌≤◌, Bool, true, false, cond, List, [], ◌∷◌, ◌++◌, length, map, drop, Some, refl, sym, ap, subst, ◌∙◌, arith, append_assoc}
use Rattle.std.specs.Prelude.{flat_map, slice_get, Vec}
use Rattle.std.specs.declared.alloc.Global.{Global}
use Rattle.std.specs.List.{AllByRecursion}
use Rattle.std.proofs.lemmas.List.{append-nil, length-append, map-append}
use Rattle.std.proofs.lemmas.List.Concat.{flat_map-cons}
use Rattle.std.proofs.Math.Nat.{suc-mul}
use Rattle.kn_node.specs.Views.{ConfigView}
use Rattle.kn_model.specs.Nets.{Network}
use Rattle.kn_model.specs.Reports.{Report, StateLine, FailureLine, Reach, Cob, singles}
use Rattle.kn_model.specs.Conditions.{Condition, that}
use Rattle.kn_model.proofs.Lists.{all-weaker}
use Rattle.kn_solve.specs.declared.judge.Judged.{Judged}
use Rattle.kn_solve.specs.declared.judge.Judged.TheVariants as judged
use Rattle.kn_solve.specs.Formulas.{Asked}
use Rattle.kn_solve.specs.Verdicts.{IsJudged}
use Rattle.kn_report.specs.Views.{lists_of}
use Rattle.kn_machine.specs.Views.{own_of}
use Rattle.kn_cob.specs.Reports.{line_of, lines_from, numbers, dstates_from, is_failed, failed_from, joint_of, IsJoint, IsOfScenario, IsReportOf, reach_by, reached_at, AreFailuresOf}
use Rattle.kn_cob.proofs.Numbered.{some_one, none_some, length-lines_from}

-- ---- what is left from a place on

-- it begins with what stands there
from_next : {A : Type 0} (xs : List A) (i : ℕ) (x : A) → slice_get xs i ≡ Some x → drop i xs ≡ x ∷ drop (suc i) xs
from_next [] i x e = none_some x e
from_next (y ∷ xs) zero x e = ap (λ z. z ∷ xs) (some_one y x e)
from_next (y ∷ xs) (suc i) x e = from_next xs i x e

pub from_place : {A : Type 0} (xs : List A) (i : ℕ) (x : A) → slice_get xs i ≡ Some x → drop i xs ≡ x ∷ drop (i + 1) xs
from_place xs i x e = let next : suc i ≡ i + 1 = omega arith in from_next xs i x e ∙ ap (λ (j : ℕ). x ∷ drop j xs) next

pub more_numbers : (xs all : List ℕ) (n f k : ℕ) → k < n → xs ++ numbers (n - k) (f + k) ≡ all → (xs ++ ((f + k) ∷ [])) ++ numbers (n - (k + 1)) (f + (k + 1)) ≡ all
more_numbers xs all n f k less so_far =
    let fewer : n - k ≡ suc (n - (k + 1)) = omega (arith, less) in
    let next : (f + k) + 1 ≡ f + (k + 1) = omega arith in
    append_assoc xs ((f + k) ∷ []) (numbers (n - (k + 1)) (f + (k + 1)))
    ∙ ap (λ (j : ℕ). xs ++ ((f + k) ∷ numbers (n - (k + 1)) j)) (sym next)
    ∙ ap (λ (m : ℕ). xs ++ numbers m (f + k)) (sym fewer)
    ∙ so_far

pub more_singles : (xs all : List (List ℕ)) (n f k : ℕ) → k < n → xs ++ singles (n - k) (f + k) ≡ all → (xs ++ (((f + k) ∷ []) ∷ [])) ++ singles (n - (k + 1)) (f + (k + 1)) ≡ all
more_singles xs all n f k less so_far =
    let fewer : n - k ≡ suc (n - (k + 1)) = omega (arith, less) in
    let next : (f + k) + 1 ≡ f + (k + 1) = omega arith in
    append_assoc xs (((f + k) ∷ []) ∷ []) (singles (n - (k + 1)) (f + (k + 1)))
    ∙ ap (λ (j : ℕ). xs ++ (((f + k) ∷ []) ∷ singles (n - (k + 1)) j)) (sym next)
    ∙ ap (λ (m : ℕ). xs ++ singles m (f + k)) (sym fewer)
    ∙ so_far

-- one line more
pub more_lines : (ls all : List StateLine) (cs : List ConfigView) (n : ℕ) (c : ConfigView) → slice_get cs n ≡ Some c → ls ++ lines_from n (drop n cs) ≡ all → (ls ++ (line_of n c ∷ [])) ++ lines_from (n + 1) (drop (n + 1) cs) ≡ all
more_lines ls all cs n c at so_far =
    append_assoc ls (line_of n c ∷ []) (lines_from (n + 1) (drop (n + 1) cs))
    ∙ ap (λ (l : List ConfigView). ls ++ lines_from n l) (sym (from_place cs n c at))
    ∙ so_far

-- one node more among those that may have failed
failed_first : (i n : ℕ) (cs : List ConfigView) (c : ConfigView) → slice_get cs n ≡ Some c
    → failed_from (i + n) (lines_from n (drop n cs)) ≡ cond (is_failed (line_of n c).outcome) ((i + n) ∷ failed_from (i + (n + 1)) (lines_from (n + 1) (drop (n + 1) cs))) (failed_from (i + (n + 1)) (lines_from (n + 1) (drop (n + 1) cs)))
failed_first i n cs c at =
    let next : (i + n) + 1 ≡ i + (n + 1) = omega arith in
    let rest = lines_from (n + 1) (drop (n + 1) cs) in
    ap (λ (l : List ConfigView). failed_from (i + n) (lines_from n l)) (from_place cs n c at)
    ∙ ap (λ (j : ℕ). cond (is_failed (line_of n c).outcome) ((i + n) ∷ failed_from j rest) (failed_from j rest)) next

pub more_failed : (js all : List ℕ) (i n : ℕ) (cs : List ConfigView) (c : ConfigView) → slice_get cs n ≡ Some c → is_failed (line_of n c).outcome ≡ true
    → js ++ failed_from (i + n) (lines_from n (drop n cs)) ≡ all → (js ++ ((i + n) ∷ [])) ++ failed_from (i + (n + 1)) (lines_from (n + 1) (drop (n + 1) cs)) ≡ all
more_failed js all i n cs c at is so_far =
    let rest = failed_from (i + (n + 1)) (lines_from (n + 1) (drop (n + 1) cs)) in
    append_assoc js ((i + n) ∷ []) rest
    ∙ ap (λ (l : List ℕ). js ++ l) (ap (λ (b : Bool). cond b ((i + n) ∷ rest) rest) (sym is) ∙ sym (failed_first i n cs c at))
    ∙ so_far

pub same_failed : (js all : List ℕ) (i n : ℕ) (cs : List ConfigView) (c : ConfigView) → slice_get cs n ≡ Some c → is_failed (line_of n c).outcome ≡ false
    → js ++ failed_from (i + n) (lines_from n (drop n cs)) ≡ all → js ++ failed_from (i + (n + 1)) (lines_from (n + 1) (drop (n + 1) cs)) ≡ all
same_failed js all i n cs c at is so_far =
    let rest = failed_from (i + (n + 1)) (lines_from (n + 1) (drop (n + 1) cs)) in
    ap (λ (l : List ℕ). js ++ l) (ap (λ (b : Bool). cond b ((i + n) ∷ rest) rest) (sym is) ∙ sym (failed_first i n cs c at))
    ∙ so_far

-- one own condition more
pub more_joint : (c all : Condition) (cs : List ConfigView) (n : ℕ) (x : ConfigView) → slice_get cs n ≡ Some x → c ++ joint_of (drop n cs) ≡ all → (c ++ own_of x) ++ joint_of (drop (n + 1) cs) ≡ all
more_joint c all cs n x at so_far =
    append_assoc c (own_of x) (joint_of (drop (n + 1) cs))
    ∙ ap (λ (l : List ConfigView). c ++ joint_of l) (sym (from_place cs n x at))
    ∙ so_far

-- the same steps, by the values that they are taken with
pub columns_step : (xs xs' : List (Vec ℕ Global)) (v : Vec ℕ Global) (all : List (List ℕ)) (n f k : ℕ) → k < n → xs' ≡ xs ++ (v ∷ []) → v.items ≡ numbers 1 (f + k)
    → lists_of xs ++ singles (n - k) (f + k) ≡ all → lists_of xs' ++ singles (n - (k + 1)) (f + (k + 1)) ≡ all
columns_step xs xs' v all n f k less pushed is so_far =
    let rest = singles (n - (k + 1)) (f + (k + 1)) in
    ap (λ (l : List (Vec ℕ Global)). lists_of l ++ rest) pushed
    ∙ (ap (λ (l : List (List ℕ)). l ++ rest) (map-append (λ (column : Vec ℕ Global). column.items) xs (v ∷ []))
    ∙ (ap (λ (column : List ℕ). (lists_of xs ++ (column ∷ [])) ++ rest) is ∙ more_singles (lists_of xs) all n f k less so_far))

pub lines_step : (ls ls' all : List StateLine) (cs : List ConfigView) (n : ℕ) (c : ConfigView) (l : StateLine) → slice_get cs n ≡ Some c → l ≡ line_of n c → ls' ≡ ls ++ (l ∷ [])
    → ls ++ lines_from n (drop n cs) ≡ all → ls' ++ lines_from (n + 1) (drop (n + 1) cs) ≡ all
lines_step ls ls' all cs n c l at is pushed so_far =
    let rest = lines_from (n + 1) (drop (n + 1) cs) in
    ap (λ (x : List StateLine). x ++ rest) pushed ∙ (ap (λ (x : StateLine). (ls ++ (x ∷ [])) ++ rest) is ∙ more_lines ls all cs n c at so_far)

pub failed_step : (js js' all : List ℕ) (i n : ℕ) (cs : List ConfigView) (c : ConfigView) (b : Bool) → slice_get cs n ≡ Some c → b ≡ is_failed (line_of n c).outcome → b ≡ true → js' ≡ js ++ ((i + n) ∷ [])
    → js ++ failed_from (i + n) (lines_from n (drop n cs)) ≡ all → js' ++ failed_from (i + (n + 1)) (lines_from (n + 1) (drop (n + 1) cs)) ≡ all
failed_step js js' all i n cs c b at is yes_is pushed so_far =
    ap (λ (x : List ℕ). x ++ failed_from (i + (n + 1)) (lines_from (n + 1) (drop (n + 1) cs))) pushed ∙ more_failed js all i n cs c at (sym is ∙ yes_is) so_far

pub other_step : (js js' all : List ℕ) (i n : ℕ) (cs : List ConfigView) (c : ConfigView) (b : Bool) → slice_get cs n ≡ Some c → b ≡ is_failed (line_of n c).outcome → b ≡ false → js' ≡ js
    → js ++ failed_from (i + n) (lines_from n (drop n cs)) ≡ all → js' ++ failed_from (i + (n + 1)) (lines_from (n + 1) (drop (n + 1) cs)) ≡ all
other_step js js' all i n cs c b at is no_is same so_far =
    ap (λ (x : List ℕ). x ++ failed_from (i + (n + 1)) (lines_from (n + 1) (drop (n + 1) cs))) same ∙ same_failed js all i n cs c at (sym is ∙ no_is) so_far

pub joint_step : (a b : Asked) (own all : Condition) (cs : List ConfigView) (n : ℕ) (x : ConfigView) → slice_get cs n ≡ Some x → b ≡ record a { condition = a.condition ++ own } → own ≡ own_of x
    → a.condition ++ joint_of (drop n cs) ≡ all → b.condition ++ joint_of (drop (n + 1) cs) ≡ all
joint_step a b own all cs n x at added is so_far =
    let rest = joint_of (drop (n + 1) cs) in
    ap (λ (f : Asked). f.condition ++ rest) added ∙ (ap (λ (c : Condition). (a.condition ++ c) ++ rest) is ∙ more_joint a.condition all cs n x at so_far)

-- nothing is left behind all
pub none_left : {A : Type 0} (xs : List A) (n : ℕ) → length xs ≤ n → drop n xs ≡ []
none_left [] zero h = refl
none_left [] (suc n) h = refl
none_left (x ∷ xs) zero h = absurd (omega (arith, h))
none_left (x ∷ xs) (suc n) h = none_left xs n (omega (arith, h))

-- ---- the failure lines of a scenario

pub joint_by : (conflicts : ℕ) (c : Condition) (d : ℕ) (p : List ℕ) (j : Judged) → IsJudged conflicts (that c) j → IsJoint conflicts c d p (reach_by d p j)
joint_by conflicts c d p (judged.Met a) is = (refl, refl, is)
joint_by conflicts c d p judged.Never is = is
joint_by conflicts c d p (judged.Undecided leaves) is = is.1

abbrev number : FailureLine → ℕ
number w = w.state

numbers_again : (x : Reach) (js : List ℕ) → map number (map (reached_at x) js) ≡ js
numbers_again x [] = refl
numbers_again x (j ∷ js) = ap (λ (l : List ℕ). j ∷ l) (numbers_again x js)

all_reached : (P : Reach → Type 0) (x : Reach) → P x → (js : List ℕ) → AllByRecursion (λ (w : FailureLine). P w.reach) (map (reached_at x) js)
all_reached P x p [] = tt
all_reached P x p (j ∷ js) = (p, all_reached P x p js)

pub failures_are : (conflicts d i : ℕ) (cs : List ConfigView) (j : Judged) (p : List ℕ) (failed : List ℕ) → p ≡ numbers (length cs) i → failed ≡ failed_from i (lines_from 0 cs) → IsJudged conflicts (that (joint_of cs)) j
    → AreFailuresOf conflicts d i cs (map (reached_at (reach_by d p j)) failed)
failures_are conflicts d i cs j p failed same these is = record {
  states = numbers_again (reach_by d p j) failed ∙ these;
  reaches = all_reached (IsJoint conflicts (joint_of cs) d (numbers (length cs) i)) (reach_by d p j)
      (subst (λ (q : List ℕ). IsJoint conflicts (joint_of cs) d q (reach_by d p j)) same (joint_by conflicts (joint_of cs) d p j is)) failed;
}

pub no_failures : (conflicts d i : ℕ) (cs : List ConfigView) (failed : List ℕ) → failed ≡ failed_from i (lines_from 0 cs) → length failed ≡ 0 → AreFailuresOf conflicts d i cs []
no_failures conflicts d i cs [] these none = record { states = these; reaches = tt }
no_failures conflicts d i cs (j ∷ failed) these none = absurd (omega (arith, none))

-- ---- all scenarios

-- a number is one of so many from i on
pub record IsAmong (i count j : ℕ) : Type 0 where
  pub place : ℕ
  pub inside : place < count
  pub is : j ≡ i + place

failed_among : (i : ℕ) (lines : List StateLine) → AllByRecursion (IsAmong i (length lines)) (failed_from i lines)
failed_among i [] = tt
failed_among i (line ∷ lines) = go (is_failed line.outcome) (all-weaker (IsAmong (i + 1) (length lines)) (IsAmong i (suc (length lines))) further (failed_from (i + 1) lines) (failed_among (i + 1) lines))
  where
    further : (j : ℕ) → IsAmong (i + 1) (length lines) j → IsAmong i (suc (length lines)) j
    further j a = let inside = a.inside in let same = a.is in record { place = suc a.place; inside = omega (arith, inside); is = omega (arith, same) }

    go : (b : Bool) → AllByRecursion (IsAmong i (suc (length lines))) (failed_from (i + 1) lines) → AllByRecursion (IsAmong i (suc (length lines))) (cond b (i ∷ failed_from (i + 1) lines) (failed_from (i + 1) lines))
    go true rest = (record { place = 0; inside = omega arith; is = omega arith }, rest)
    go false rest = rest

of_place : (net : Network) (list : List (List ConfigView)) (d i : ℕ) (cs : List ConfigView) → slice_get list d ≡ Some cs → length cs ≡ length net.nodes → i ≡ d * length net.nodes
    → (ws : List FailureLine) → AllByRecursion (IsAmong i (length cs)) (map number ws) → AllByRecursion (λ (w : FailureLine). IsJoint net.limits.conflicts (joint_of cs) d (numbers (length cs) i) w.reach) ws → AllByRecursion (IsOfScenario net list) ws
of_place net list d i cs at long place [] a b = tt
of_place net list d i cs at long place (w ∷ ws) a b =
    let inside = a.0.inside in
    let first : AllByRecursion (IsOfScenario net list) ws = of_place net list d i cs at long place ws a.1 b.1 in (
      record {
        dstate = d;
        configs = cs;
        there = at;
        node = a.0.place;
        inside = omega (arith, inside, long);
        state = a.0.is ∙ ap (λ (j : ℕ). j + a.0.place) place;
        joint = subst (λ (j : ℕ). IsJoint net.limits.conflicts (joint_of cs) d (numbers (length net.nodes) j) w.reach) place
            (subst (λ (n : ℕ). IsJoint net.limits.conflicts (joint_of cs) d (numbers n i) w.reach) long b.0);
      },
      first,
    )

failed_append : (i : ℕ) (xs ys : List StateLine) → failed_from i (xs ++ ys) ≡ failed_from i xs ++ failed_from (i + length xs) ys
failed_append i [] ys = let same : i ≡ i + 0 = omega arith in ap (λ (j : ℕ). failed_from j ys) same
failed_append i (x ∷ xs) ys = go (is_failed x.outcome) (failed_append (i + 1) xs ys ∙ ap (λ (j : ℕ). failed_from (i + 1) xs ++ failed_from j ys) next)
  where
    next : (i + 1) + length xs ≡ i + suc (length xs)
    next = omega arith

    go : (b : Bool) → failed_from (i + 1) (xs ++ ys) ≡ failed_from (i + 1) xs ++ failed_from (i + suc (length xs)) ys
        → cond b (i ∷ failed_from (i + 1) (xs ++ ys)) (failed_from (i + 1) (xs ++ ys)) ≡ cond b (i ∷ failed_from (i + 1) xs) (failed_from (i + 1) xs) ++ failed_from (i + suc (length xs)) ys
    go true e = ap (λ (l : List ℕ). i ∷ l) e
    go false e = e

all_join : {A : Type 0} (P : A → Type 0) (xs ys : List A) → AllByRecursion P xs → AllByRecursion P ys → AllByRecursion P (xs ++ ys)
all_join P [] ys p q = q
all_join P (x ∷ xs) ys p q = (p.0, all_join P xs ys p.1 q)

-- What is listed of the scenarios before place d, and what is left to list.
pub record Listed (net : Network) (list : List (List ConfigView)) (d : ℕ) (states : List StateLine) (dstates : List (List (List ℕ))) (failures : List FailureLine) : Type 0 where
  pub place : length states ≡ d * length net.nodes
  pub states_are : states ++ flat_map (lines_from 0) (drop d list) ≡ flat_map (lines_from 0) list
  pub dstates_are : dstates ++ dstates_from (length net.nodes) (length states) (drop d list) ≡ dstates_from (length net.nodes) 0 list
  pub failures_are : map (λ (w : FailureLine). w.state) failures ++ failed_from (length states) (flat_map (lines_from 0) (drop d list)) ≡ failed_from 0 (flat_map (lines_from 0) list)
  pub reaches : AllByRecursion (IsOfScenario net list) failures

pub none_listed : (net : Network) (list : List (List ConfigView)) → Listed net list 0 [] [] []
none_listed net list = record { place = omega arith; states_are = refl; dstates_are = refl; failures_are = refl; reaches = tt }

pub listed_more : (net : Network) (list : List (List ConfigView)) (d : ℕ) (cs : List ConfigView) (states states' : List StateLine) (dstates dstates' : List (List (List ℕ))) (failures failures' ws : List FailureLine)
    → Listed net list d states dstates failures → slice_get list d ≡ Some cs → length cs ≡ length net.nodes
    → states' ≡ states ++ lines_from 0 cs → dstates' ≡ dstates ++ (singles (length net.nodes) (length states) ∷ []) → failures' ≡ failures ++ ws
    → AreFailuresOf net.limits.conflicts d (length states) cs ws → Listed net list (d + 1) states' dstates' failures'
listed_more net list d cs states states' dstates dstates' failures failures' ws so_far at long s-is d-is f-is w =
    let n = length net.nodes in
    let rest = drop (d + 1) list in
    let lines = lines_from 0 cs in
    let after = flat_map (lines_from 0) rest in
    let cut : drop d list ≡ cs ∷ rest = from_place list d cs at in
    let cut_lines : flat_map (lines_from 0) (drop d list) ≡ lines ++ after = ap (flat_map (lines_from 0)) cut ∙ flat_map-cons (lines_from 0) cs rest in
    let lines_long : length lines ≡ n = length-lines_from 0 cs ∙ long in
    let count : length states' ≡ length states + n = ap length s-is ∙ (length-append states lines ∙ ap (λ (k : ℕ). length states + k) lines_long) in
    let next : d + 1 ≡ suc d = omega arith in
    record {
      place = count ∙ (ap (λ (k : ℕ). k + n) so_far.place ∙ (sym (suc-mul d n) ∙ ap (λ (k : ℕ). k * n) (sym next)));
      states_are = ap (λ (l : List StateLine). l ++ after) s-is ∙ (append_assoc states lines after ∙ (ap (λ (l : List StateLine). states ++ l) (sym cut_lines) ∙ so_far.states_are));
      dstates_are = ap (λ (l : List (List (List ℕ))). l ++ dstates_from n (length states') rest) d-is
          ∙ (append_assoc dstates (singles n (length states) ∷ []) (dstates_from n (length states') rest)
          ∙ (ap (λ (k : ℕ). dstates ++ (singles n (length states) ∷ dstates_from n k rest)) count
          ∙ (ap (λ (l : List (List ConfigView)). dstates ++ dstates_from n (length states) l) (sym cut) ∙ so_far.dstates_are)));
      failures_are = ap (λ (l : List FailureLine). map number l ++ failed_from (length states') after) f-is
          ∙ (ap (λ (l : List ℕ). l ++ failed_from (length states') after) (map-append number failures ws)
          ∙ (append_assoc (map number failures) (map number ws) (failed_from (length states') after)
          ∙ (ap (λ (l : List ℕ). map number failures ++ (l ++ failed_from (length states') after)) w.states
          ∙ (ap (λ (k : ℕ). map number failures ++ (failed_from (length states) lines ++ failed_from k after)) (count ∙ ap (λ (k : ℕ). length states + k) (sym lines_long))
          ∙ (ap (λ (l : List ℕ). map number failures ++ l) (sym (failed_append (length states) lines after) ∙ ap (failed_from (length states)) (sym cut_lines))
          ∙ so_far.failures_are)))));
      reaches = subst (AllByRecursion (IsOfScenario net list)) (sym f-is)
          (all_join (IsOfScenario net list) failures ws so_far.reaches
          (of_place net list d (length states) cs at long so_far.place ws
          (subst (AllByRecursion (IsAmong (length states) (length cs))) (sym w.states)
          (subst (λ (k : ℕ). AllByRecursion (IsAmong (length states) k) (failed_from (length states) lines)) (length-lines_from 0 cs) (failed_among (length states) lines)))
          w.reaches));
    }

-- All scenarios are listed.
pub all_listed : (net : Network) (list : List (List ConfigView)) (d : ℕ) (states : List StateLine) (dstates : List (List (List ℕ))) (failures : List FailureLine) → Listed net list d states dstates failures → length list ≤ d
    → IsReportOf net list (record { mapping = Cob; ticks = net.limits.ticks; nodes = length net.nodes; states = states; dstates = dstates; failures = failures })
all_listed net list d states dstates failures h past =
    let none = none_left list d past in
    let states_are : states ≡ flat_map (lines_from 0) list = sym (append-nil states) ∙ (ap (λ (l : List (List ConfigView)). states ++ flat_map (lines_from 0) l) (sym none) ∙ h.states_are) in
    record {
      mapping = refl;
      ticks = refl;
      nodes = refl;
      states = states_are;
      dstates = sym (append-nil dstates) ∙ (ap (λ (l : List (List ConfigView)). dstates ++ dstates_from (length net.nodes) (length states) l) (sym none) ∙ h.dstates_are);
      failures = sym (append-nil (map number failures)) ∙ (ap (λ (l : List (List ConfigView)). map number failures ++ failed_from (length states) (flat_map (lines_from 0) l)) (sym none) ∙ (h.failures_are ∙ ap (failed_from 0) (sym states_are)));
      reaches = h.reaches;
    }

-- there is one dstate for each scenario
long_from : (nodes i : ℕ) (list : List (List ConfigView)) → length (dstates_from nodes i list) ≡ length list
long_from nodes i [] = refl
long_from nodes i (cs ∷ list) = ap suc (long_from nodes (i + nodes) list)

pub report_long : (net : Network) (list : List (List ConfigView)) (r : Report) → IsReportOf net list r → length r.dstates ≡ length list
report_long net list r is = ap length is.dstates ∙ long_from (length net.nodes) 0 list

-- the numbers that a report holds besides
pub report_made : (net : Network) (list : List (List ConfigView)) (d : ℕ) (states : List StateLine) (dstates : List (List (List ℕ))) (failures : List FailureLine) (ticks nodes : ℕ) → Listed net list d states dstates failures → length list ≤ d
    → ticks ≡ net.limits.ticks → nodes ≡ length net.nodes → IsReportOf net list (record { mapping = Cob; ticks = ticks; nodes = nodes; states = states; dstates = dstates; failures = failures })
report_made net list d states dstates failures ticks nodes h past t n =
    let whole = all_listed net list d states dstates failures h past in
    record { mapping = refl; ticks = t; nodes = n; states = whole.states; dstates = whole.dstates; failures = whole.failures; reaches = whole.reaches }
