-- An event that has too many paths has more live prefixes of paths than the network's limit of states.
use Rattle.std.proofs.Common.{◌≡◌, ℕ, zero, suc, ◌<◌, ◌⊎◌, inl, inr, Bool, true, false, List, [], ◌∷◌, ◌++◌, length, map, take, get_or, refl, sym, ap, subst, ◌∙◌, append-nil, length-append, arith}
use Rattle.std.specs.Prelude.{Contains}
use Rattle.std.specs.List.{AllByRecursion}
use Rattle.kn_packet.specs.declared.packet.Event.{Event}
use Rattle.kn_term.specs.Terms.{Term}
use Rattle.kn_cond.specs.Literals.{Literal}
use Rattle.kn_cond.specs.Conditions.{Condition, Query, that, IsLive, StandsFor}
use Rattle.kn_cond.specs.declared.standing.Standing.{Standing}
use Rattle.kn_cond.specs.declared.standing.Standing.TheVariants.{Inputs, Open}
use Rattle.kn_node.specs.Views.{ConfigView}
use Rattle.kn_model.specs.Terms.{terms}
use Rattle.kn_model.specs.Nodes.{State}
use Rattle.kn_model.specs.Nets.{Network}
use Rattle.kn_model.specs.Rows.{Way}
use Rattle.kn_model.specs.Paths.{Path, event_paths, event_ways, here_at, first_way, begun, path_of, paths, paths_of, decided}
use Rattle.kn_model.specs.Limits.{IsPrefix, Begins, NoneBegins}
use Rattle.kn_model.specs.Alikes.{AlikePath}
use Rattle.kn_model.specs.Laws.{IsNet, Apart, AreApart}
use Rattle.kn_model.proofs.Lists.{all-map, all-weaker}
use Rattle.kn_model.proofs.EachWay.{kept_by, all_event_ways}
use Rattle.kn_model.proofs.Sending.{is_here}
use Rattle.kn_model.proofs.Beginning.{Adds, paths_add}
use Rattle.kn_model.proofs.AlikeGiven.{given_means}
use Rattle.kn_model.proofs.AlikePrefixes.{live_alike}
use Rattle.kn_machine.specs.Views.{state_of, own_of}
use Rattle.kn_machine.specs.Paths.{PathView, path_seen}
use Rattle.kn_step.specs.Given.{IsKept, AreKept}
use Rattle.kn_step.specs.Answers.{paths_from}
use Rattle.kn_step.specs.Laws.{OverMeans, bits_of}

-- what is known of inputs that meet a condition shows that it is live
known_live : (conflicts : ℕ) (q : Query) (x : Standing) → StandsFor conflicts q x → IsLive conflicts q
known_live conflicts q (Inputs a) least never small =
    let wrong : true ≡ false = sym (ap q.meets least.is ∙ least.meet.1) ∙ never a in
    absurd cc
known_live conflicts q (Open leaves) far never small = far.1.large small

-- a path of an event has a bit for each literal
abbrev IsEven : Path Term → Type 0
IsEven p = length p.bits ≡ length p.literals

abbrev IsEvenWay : Way Term → Type 0
IsEvenWay w = length w.bits ≡ length w.literals

even_decided : (b : Bool) (l : Literal Term) (w : Way Term) → IsEvenWay w → IsEvenWay (decided terms b l w)
even_decided b l w h = let i = length-append w.bits (b ∷ []) in let j = length-append w.literals (l ∷ []) in omega (arith, h, i, j)

paths_even : (net : Network) (n t : ℕ) (e : Event) (s : State Term) → IsNet net → AllByRecursion IsEven (event_paths terms net n t e s)
paths_even net n t e s good =
    let here = here_at terms net n t e s in
    all-map IsEvenWay IsEven (path_of terms) (λ w h. h)
    (event_ways terms here e (first_way terms (begun terms t e s)))
    (all_event_ways terms here IsEvenWay (kept_by terms here (λ bits literals trace own. length bits ≡ length literals)) (is_here net n t e s good) even_decided e (first_way terms (begun terms t e s)) refl)

all_member : {A : Type 0} (P : A → Type 0) (xs : List A) (x : A) → AllByRecursion P xs → Contains xs x → P x
all_member {A} P xs x h c = go xs h c.0 c.1 c.2
  where
    go : (xs : List A) → AllByRecursion P xs → (i : ℕ) → i < length xs → get_or xs i x ≡ x → P x
    go [] h i inside e = absurd (omega (arith, inside))
    go (y ∷ xs) h zero inside e = subst P e h.0
    go (y ∷ xs) h (suc i) inside e = go xs h.1 i (omega (arith, inside)) e

take_all : {A : Type 0} (xs : List A) (n : ℕ) → n ≡ length xs → take n xs ≡ xs
take_all [] zero e = refl
take_all [] (suc n) e = refl
take_all (x ∷ xs) zero e = absurd cc
take_all {A} (x ∷ xs) (suc n) e = ap (λ (ys : List A). x ∷ ys) (take_all xs n (omega (arith, e)))

-- bits that differ at a place that both have do not begin one another
apart_longer : (xs rest : List Bool) → Apart xs (xs ++ rest) → ⊥
apart_longer [] rest h = h
apart_longer (false ∷ xs) rest h = apart_longer xs rest h
apart_longer (true ∷ xs) rest h = apart_longer xs rest h

longer_apart : (xs rest : List Bool) → Apart (xs ++ rest) xs → ⊥
longer_apart [] [] h = h
longer_apart [] (b ∷ rest) h = h
longer_apart (false ∷ xs) rest h = longer_apart xs rest h
longer_apart (true ∷ xs) rest h = longer_apart xs rest h

apart_begins : (xs ys : List Bool) → Apart xs ys → (Begins xs ys ⊎ Begins ys xs) → ⊥
apart_begins xs ys h (inl b) = apart_longer xs b.0 (subst (Apart xs) b.1 h)
apart_begins xs ys h (inr b) = longer_apart ys b.0 (subst (λ (zs : List Bool). Apart zs ys) b.1 h)

none_begins : (xss : List (List Bool)) → AreApart xss → NoneBegins xss
none_begins [] h = tt
none_begins (xs ∷ xss) h = (all-weaker (Apart xs) (λ ys. (Begins xs ys ⊎ Begins ys xs) → ⊥) (apart_begins xs) xss h.0, none_begins xss h.1)

-- those in front
all_front : {A : Type 0} (P : A → Type 0) (xs ys : List A) → AllByRecursion P (xs ++ ys) → AllByRecursion P xs
all_front P [] ys h = tt
all_front P (x ∷ xs) ys h = (h.0, all_front P xs ys h.1)

apart_front : (ps : List PathView) (more : List (Path Term)) → AreApart (map (λ (p : Path Term). p.bits) (map path_seen ps ++ more)) → AreApart (bits_of ps)
apart_front [] more h = tt
apart_front (p ∷ ps) more h = (each p ps h.0, apart_front ps more h.1)
  where
    each : (p : PathView) (qs : List PathView) → AllByRecursion (Apart p.bits) (map (λ (q : Path Term). q.bits) (map path_seen qs ++ more)) → AllByRecursion (Apart p.bits) (bits_of qs)
    each p [] i = tt
    each p (q ∷ qs) i = (i.0, each p qs i.1)

length_map : {A B : Type 0} (f : A → B) (xs : List A) → length (map f xs) ≡ length xs
length_map f [] = refl
length_map f (x ∷ xs) = ap suc (length_map f xs)

abbrev IsOneOf : List (Path Term) → Path Term → Type 0
IsOneOf qs p = (q : Path Term) × Contains qs q × AlikePath p q

-- what is given and kept is a live path
one_prefix : (net : Network) (tick : ℕ) (c : ConfigView) (e : Event) (p : PathView) → IsNet net → IsKept net.limits.conflicts c.node c.history p → IsOneOf (paths_from net tick e c) (path_seen p)
    → IsPrefix net.limits.conflicts (state_of c) (paths_from net tick e c) p.bits
one_prefix net tick c e p good kept one =
    let q = one.0 in
    let qs = paths_from net tick e c in
    let same : p.bits ≡ q.bits = one.2.bits in
    let even : length q.bits ≡ length q.literals = all_member IsEven qs q (paths_even net c.node tick e (state_of c) good) one.1 in
    let own : q.state.own ≡ own_of c ++ q.literals = all_member (Adds (own_of c)) qs q (paths_add terms net c.node tick e (state_of c)) one.1 in
    let all : take (length p.bits) q.literals ≡ q.literals = take_all q.literals (length p.bits) (ap (λ (bs : List Bool). length bs) same ∙ even) in
    let live : IsLive net.limits.conflicts (that q.state.own) = live_alike net.limits.conflicts (own_of p.config) q.state.own one.2.state.own (known_live net.limits.conflicts (that (own_of p.config)) p.config.standing kept.standing) in
    record {
      path = q;
      member = one.1;
      rest = [];
      begins = sym same ∙ sym (append-nil p.bits);
      live = subst (λ (ls : Condition). IsLive net.limits.conflicts (that (own_of c ++ ls))) (sym all) (subst (λ (d : Condition). IsLive net.limits.conflicts (that d)) own live);
    }

all_prefixes : (net : Network) (tick : ℕ) (c : ConfigView) (e : Event) (ps : List PathView) → IsNet net → AreKept net.limits.conflicts c.node c.history ps → AllByRecursion (IsOneOf (paths_from net tick e c)) (map path_seen ps)
    → AllByRecursion (IsPrefix net.limits.conflicts (state_of c) (paths_from net tick e c)) (bits_of ps)
all_prefixes net tick c e [] good kept each = tt
all_prefixes net tick c e (p ∷ ps) good kept each = (one_prefix net tick c e p good kept.0 each.0, all_prefixes net tick c e ps good kept.1 each.1)

pub over_means : OverMeans
over_means net tick c e ps good many =
    let qs = paths_from net tick e c in
    let means = given_means net c.node tick e (state_of c) (map path_seen ps ++ many.given.0) good many.given.1 in
    let same : qs ≡ paths terms net c.node tick (state_of c) = ap (paths_of terms net c.node tick (state_of c)) (sym many.due) in (
      subst (λ (n : ℕ). net.limits.states < n) (sym (length_map (λ (p : PathView). p.bits) ps)) many.many,
      none_begins (bits_of ps) (apart_front ps many.given.0 means.1),
      subst (λ (us : List (Path Term)). AllByRecursion (IsPrefix net.limits.conflicts (state_of c) us) (bits_of ps)) same
          (all_prefixes net tick c e ps good many.kept (all_front (IsOneOf qs) (map path_seen ps) many.given.0 means.0)),
    )
