-- The literals of alike paths are alike one by one, and so are their prefixes.
use Rattle.std.proofs.Common.{◌≡◌, ℕ, zero, suc, ◌<◌, get_or, Bool, List, [], ◌∷◌, ◌++◌, take, length, Option, Some, None, refl, sym, subst, ◌∙◌, arith}
use Rattle.std.specs.Prelude.{Contains}
use Rattle.kn_model.specs.Terms.{Term, terms}
use Rattle.kn_packet.specs.declared.packet.Event.{Event}
use Rattle.kn_model.specs.Due.{due}
use Rattle.kn_model.specs.Conditions.{Condition, that, IsLive}
use Rattle.kn_model.specs.Paths.{Path, path_of, event_paths, event_ways, paths_of, here_at, first_way, begun}
use Rattle.kn_model.specs.Limits.{IsPrefix}
use Rattle.kn_model.specs.Alikes.{OneByOne, TermAlike, ConditionAlike}
use Rattle.kn_model.specs.Laws.{AlikePrefixes}
use Rattle.kn_model.proofs.OneByOne.{pairs-append, pairs-take, pairs-map}
use Rattle.kn_model.proofs.AlikeRows.{Keeps, WayAlike, LiteralAlike, due_alike, all_ways_alike}
use Rattle.kn_model.proofs.AlikeTerms.{keeps_terms, condition_self, joins, literal_alike}
use Rattle.kn_model.proofs.AlikeStandings.{small}

-- literals one by one
abbrev Each : Condition → Condition → Type 0
Each c d = OneByOne (LiteralAlike TermAlike ConditionAlike) c d

told : (c d : Condition) → Each c d → ConditionAlike c d
told [] [] h = condition_self []
told [] (m ∷ d) h = absurd h
told (l ∷ c) [] h = absurd h
told (l ∷ c) (m ∷ d) h =
    let one : ConditionAlike (l ∷ []) (m ∷ []) = subst (λ (b : Bool). ConditionAlike (l ∷ []) (record { value = m.value; truth = b } ∷ [])) h.0.1 (literal_alike l.value m.value l.truth h.0.0) in
    joins (l ∷ []) (m ∷ []) c d one (told c d h.1)

keeps_each : Keeps terms terms TermAlike ConditionAlike Each
keeps_each = record {
  word = keeps_terms.word;
  input = keeps_terms.input;
  apply = keeps_terms.apply;
  choice = keeps_terms.choice;
  nothing = tt;
  literal = λ x x' b r. ((r, refl), tt);
  join = λ c c' d d' h i. pairs-append (LiteralAlike TermAlike ConditionAlike) c c' d d' h i;
  told = told;
  joined = λ c c' d d' h i. joins c c' d d' h (told d d' i);
  sides = λ x x' b r. refl;
}

pub live_alike : (conflicts : ℕ) (c d : Condition) → ConditionAlike c d → IsLive conflicts (that c) → IsLive conflicts (that d)
live_alike conflicts c d h live none few = live (λ a. h.holds a ∙ none a) (small c d h conflicts few)

record PathEach (p q : Path Term) : Type 0 where
  pub bits : p.bits ≡ q.bits
  pub literals : Each p.literals q.literals

partner : (ps qs : List (Path Term)) → OneByOne PathEach ps qs → (p : Path Term) → Contains ps p → (q : Path Term) × Contains qs q × PathEach p q
partner ps qs h p c = go ps qs h c.0 c.1 c.2
  where
    go : (ps qs : List (Path Term)) → OneByOne PathEach ps qs → (i : ℕ) → i < length ps → get_or ps i p ≡ p → (q : Path Term) × Contains qs q × PathEach p q
    go [] [] h i inside e = absurd (omega (arith, inside))
    go [] (y ∷ qs) h i inside e = absurd h
    go (x ∷ ps) [] h i inside e = absurd h
    go (x ∷ ps) (y ∷ qs) h zero inside e = (y, (0, omega arith, refl), subst (λ (z : Path Term). PathEach z y) e h.0)
    go (x ∷ ps) (y ∷ qs) h (suc i) inside e = let r = go ps qs h.1 i (omega (arith, inside)) e in let k = r.1.1 in (r.0, (suc r.1.0, omega (arith, k), r.1.2), r.2)

pub alike_prefixes : AlikePrefixes
alike_prefixes net n tick s t h = (live_alike net.limits.conflicts s.own t.own h.own, λ bits p. subst (λ (o : Option Event). IsPrefix net.limits.conflicts t (paths_of terms net n tick t o) bits) (due_alike TermAlike ConditionAlike net.limits.ticks tick s t h) (go bits (due net.limits.ticks tick s) p))
  where
    go : (bits : List Bool) (o : Option Event) → IsPrefix net.limits.conflicts s (paths_of terms net n tick s o) bits → IsPrefix net.limits.conflicts t (paths_of terms net n tick t o) bits
    go bits None p = let c = p.member in absurd (omega (arith, c.1))
    go bits (Some e) p =
        let all : OneByOne PathEach (event_paths terms net n tick e s) (event_paths terms net n tick e t) =
        pairs-map (WayAlike TermAlike ConditionAlike Each) PathEach (path_of terms) (path_of terms) (λ w w' i. record { bits = i.bits; literals = i.literals })
        (event_ways terms (here_at terms net n tick e s) e (first_way terms (begun terms tick e s))) (event_ways terms (here_at terms net n tick e t) e (first_way terms (begun terms tick e t)))
        (all_ways_alike terms terms TermAlike ConditionAlike Each keeps_each net n tick e s t h) in
        let other = partner (event_paths terms net n tick e s) (event_paths terms net n tick e t) all p.path p.member in
        let many = length bits in
        record {
          path = other.0;
          member = other.1;
          rest = p.rest;
          begins = sym other.2.bits ∙ p.begins;
          live = live_alike net.limits.conflicts (s.own ++ take many p.path.literals) (t.own ++ take many other.0.literals)
              (joins s.own t.own (take many p.path.literals) (take many other.0.literals) h.own (told (take many p.path.literals) (take many other.0.literals) (pairs-take (LiteralAlike TermAlike ConditionAlike) many p.path.literals other.0.literals other.2.literals))) p.live;
        }
