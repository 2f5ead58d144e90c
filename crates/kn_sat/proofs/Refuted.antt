-- What the lines and the trail refute.
use Rattle.std.proofs.Common.{◌≡◌, ℕ, suc, ◌+◌, ◌-◌, ◌*◌, ◌<◌, ◌≤◌, Bool, true, false, List, [], ◌∷◌, ◌++◌, length, refl, ap, sym, subst, ◌∙◌, arith}
use Rattle.std.specs.Prelude.{Some, None, unwrap_or}
use Rattle.std.specs.declared.option.Option.{Option}
use Rattle.std.proofs.Math.Nat.{suc-mul}
use Rattle.kn_cnf.specs.declared.clauses.Lit.{Lit}
use Rattle.kn_cnf.specs.Encoding.{bits_from}
use Rattle.kn_cnf.specs.Formulas.{Step, AreBelow}
use Rattle.kn_cnf.specs.Units.{valued, IsDecided}
use Rattle.kn_sat.specs.declared.trail.Assigned.{Assigned}
use Rattle.kn_sat.specs.declared.trail.Reason.TheVariants as reasons
use Rattle.kn_sat.specs.Trails.{latest, bit, IsTrail, IsGrown, count_open}
use Rattle.kn_sat.specs.Propagating.{AreCalm, AreAssigned, IsConflict, Stands}
use Rattle.kn_sat.specs.Order.{number, spelled, Extends, AreRefuted}
use Rattle.kn_cnf.specs.Truth.{AreNeverMet}
use Rattle.kn_cnf.proofs.Sound.{never_met}
use Rattle.kn_sat.specs.declared.searching.Found.{Found}
use Rattle.kn_sat.specs.declared.searching.Found.TheVariants as found
use Rattle.kn_sat.specs.Answers.{Answers, OnClosed}
use Rattle.kn_sat.proofs.Numbers.{rank_le, length-bits_from}
use Rattle.kn_sat.proofs.Positions.{not_before}
use Rattle.kn_sat.proofs.Closes.{lines_of, lines_met}
use Rattle.kn_sat.proofs.Complete.{meets}
use Rattle.kn_sat.proofs.Counts.{count_less}
use Rattle.kn_sat.proofs.Trails.{onto_more, trail_more, valued_kept, clause_kept}

-- nothing before the trail extends to values that meet the clauses
pub refuted : (n : ℕ) (cs : List (List Lit)) (lines : List Step) (es : List Assigned) → Stands n cs lines es → AreRefuted n cs (spelled n (latest es))
refuted n cs lines es stands bits long low extends =
    let first = not_before extends.0 (cs ++ lines_of lines) n (lines_met extends.0 cs lines stands.good extends.2) es stands.trail in
    omega (arith, first, low, ap number extends.1)

pub refuted_lower : (n : ℕ) (cs : List (List Lit)) (k m : ℕ) → k ≤ m → AreRefuted n cs m → AreRefuted n cs k
refuted_lower n cs k m le r bits long low = r bits long (omega (arith, le, low))

-- the values of a trail where no clause is false or unit are the least model
pub model : (n vars : ℕ) (cs : List (List Lit)) (lines : List Step) (es : List Assigned) (bits : List Bool) → AreBelow vars cs → IsDecided n (record { vars = vars; clauses = cs }) → Stands n cs lines es → AreCalm cs es → AreAssigned n (latest es) → bits ≡ bits_from (bit (latest es)) 0 n
    → (length bits ≡ n) × Extends n cs bits × AreRefuted n cs (number bits)
model n vars cs lines es bits below decided stands calm assigned are = (
  ap length are ∙ length-bits_from (bit (latest es)) 0 n,
  (bit (latest es), sym are, meets n vars cs es below decided calm assigned),
  subst (AreRefuted n cs) (ap number (sym are)) (refuted n cs lines es stands),
)

-- a trail that grew stands, and comes no earlier
pub stands_grown : (n vars : ℕ) (cs : List (List Lit)) (lines : List Step) (old new : List Assigned) → Stands n cs lines old → IsGrown cs vars old new → Stands n cs lines new
stands_grown n vars cs lines old new stands grown = record { good = stands.good; trail = grown.trail (lines_of lines) n stands.trail }

higher : (n : ℕ) (ls ms : List Lit) → ((q : ℕ) (b : Bool) → valued ls q ≡ Some b → valued ms q ≡ Some b) → spelled n ls ≤ spelled n ms
higher n ls ms keeps = rank_le (bit ls) (bit ms) 0 n (λ q low high is. go q (valued ls q) refl is)
  where
    go : (q : ℕ) (o : Option Bool) → valued ls q ≡ o → unwrap_or o false ≡ true → bit ms q ≡ true
    go q None at is = absurd cc
    go q (Some b) at is = ap (λ p. unwrap_or p false) (keeps q b at) ∙ is

pub spelled_grown : (n vars : ℕ) (cs : List (List Lit)) (old new : List Assigned) → IsGrown cs vars old new → spelled n (latest old) ≤ spelled n (latest new)
spelled_grown n vars cs old new grown = higher n (latest old) (latest new) grown.kept

-- a decision more
module _ (n vars : ℕ) (cs : List (List Lit)) (lines : List Step) (old new : List Assigned) (q : ℕ) (low : q < n) (inside : q < vars) (opens : valued (latest old) q ≡ None) (before : AreAssigned q (latest old))
    (is : new ≡ old ++ record { literal = record { var = q; neg = true }; reason = reasons.Decision } ∷ []) where
  literals : latest new ≡ record { var = q; neg = true } ∷ latest old
  literals = ap latest is ∙ onto_more [] old (record { literal = record { var = q; neg = true }; reason = reasons.Decision })

  pub stands_decided : Stands n cs lines old → Stands n cs lines new
  stands_decided stands = record {
    good = stands.good;
    trail = subst (IsTrail (cs ++ lines_of lines) n []) (sym is) (trail_more (cs ++ lines_of lines) n [] old (record { literal = record { var = q; neg = true }; reason = reasons.Decision }) stands.trail
        (record { neg = refl; input = low; opens = opens; before = before }));
  }

  pub spelled_decided : spelled n (latest old) ≤ spelled n (latest new)
  spelled_decided = higher n (latest old) (latest new) (λ p b was. ap (λ (ls : List Lit). valued ls p) literals ∙ valued_kept (latest old) (record { var = q; neg = true }) p b opens was)

  pub assigned_decided : AreAssigned q (latest new)
  assigned_decided i below = let at = before i below in (at.0, ap (λ (ls : List Lit). valued ls i) literals ∙ valued_kept (latest old) (record { var = q; neg = true }) i at.0 opens at.1)

  pub count_decided : count_open vars (latest new) < count_open vars (latest old)
  count_decided = omega (arith, ap (count_open vars) literals, count_less vars (latest old) (record { var = q; neg = true }) inside opens)

-- a conflict more is less to do, wherever the trail then is
pub spent_less : (budget leaves vars x y : ℕ) → leaves < budget → x ≤ vars → (budget - (leaves + 1)) * (vars + 1) + x < (budget - leaves) * (vars + 1) + y
spent_less budget leaves vars x y left small =
    let e : budget - leaves ≡ suc (budget - (leaves + 1)) = omega (arith, left) in
    omega (arith, ap (λ k. k * (vars + 1)) e, suc-mul (budget - (leaves + 1)) (vars + 1), small)

-- a false clause keeps its number behind the lines
pub conflict_later : (cs ds : List (List Lit)) (es : List Assigned) (h : ℕ) → IsConflict cs es h → IsConflict (cs ++ ds) es h
conflict_later cs ds es h at = (at.0, clause_kept cs ds h at.0 at.1, at.2)

-- a log that checks leaves no model
pub answers_never : (n : ℕ) (cs : List (List Lit)) (budget : ℕ) (f : Found) → Answers n cs budget f → OnClosed (λ _. AreNeverMet cs) f
answers_never n cs budget (found.Model bits) a = tt
answers_never n cs budget (found.Closed log) a = never_met cs log a
answers_never n cs budget (found.Spent count) a = tt
