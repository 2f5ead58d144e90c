-- Given paths, put together as ways are run.
use Rattle.std.proofs.Common.{◌≡◌, ℕ, List, [], ◌∷◌, ◌++◌, map, refl, sym, ap, subst, append_assoc, append-nil, inl, inr}
use Rattle.std.proofs.lemmas.List.{map-append}
use Rattle.kn_term.specs.Terms.{Term}
use Rattle.kn_cond.specs.Conditions.{Condition, that, IsImpossible, StandsFor}
use Rattle.kn_cond.specs.declared.standing.Standing.{Standing}
use Rattle.kn_model.specs.Terms.{terms}
use Rattle.kn_model.specs.Rows.{Way}
use Rattle.kn_model.specs.Paths.{Path, path_of}
use Rattle.kn_model.specs.Alikes.{AlikePath, AreGiven}
use Rattle.kn_model.proofs.Lists.{all-append}
use Rattle.kn_model.proofs.AlikeGiven.{given_append}
use Rattle.kn_machine.specs.Views.{own_of}
use Rattle.kn_machine.specs.Ways.{WayView, known_of, AreStamped}
use Rattle.kn_machine.specs.Paths.{PathView, path_seen}
use Rattle.kn_step.specs.Given.{Leads, AreGivenSoFar, IsKept, AreKept}
use Rattle.std.specs.Prelude.{⊤, Result, OnOk}
use Rattle.kn_model.specs.Nets.{Network}
use Rattle.kn_step.specs.Turns.{IsSound, IsStretch, OnTooMany, UnlessMemory}
use Rattle.kn_machine.specs.declared.spot.Spot.{Spot}
use Rattle.kn_step.specs.declared.run.Stretch.{Stretch}
use Rattle.kn_step.specs.declared.run.RunStop.{RunStop}
use Rattle.kn_step.specs.declared.run.RunStop.TheVariants as stops
use Rattle.kn_step.proofs.Turning.{so_far_append}

-- one path more is given
pub give_one : (olds news : List PathView) (p : PathView) (w : Way Term) (before qs : List (Path Term)) → news ≡ olds ++ p ∷ [] → AlikePath (path_seen p) (path_of terms w) → AreGiven (map path_seen olds) before → Leads (path_of terms w ∷ []) qs
    → AreGiven (map path_seen news) (before ++ qs)
give_one olds news p w before qs e alike h leads =
    subst (λ (ps : List PathView). AreGiven (map path_seen ps) (before ++ qs)) (sym e)
    (subst (λ (us : List (Path Term)). AreGiven us (before ++ qs)) (sym (map-append path_seen olds (p ∷ [])))
    (given_append (map path_seen olds) before (path_seen p ∷ []) qs h (leads (path_seen p ∷ []) (inl (alike, tt)))))

-- and kept
pub keep_one : (conflicts node history : ℕ) (olds news : List PathView) (p : PathView) → news ≡ olds ++ p ∷ [] → IsKept conflicts node history p → AreKept conflicts node history olds → AreKept conflicts node history news
keep_one conflicts node history olds news p e one h =
    subst (AreKept conflicts node history) (sym e) (all-append (IsKept conflicts node history) olds (p ∷ []) h (one, tt))

pub kept_path : (conflicts node history : ℕ) (w : WayView) (p : PathView) → p.config.node ≡ node → p.config.history ≡ history → own_of p.config ≡ known_of w → p.config.standing ≡ w.standing → p.sends ≡ w.sends → IsSound conflicts w → AreStamped node history w.sends
    → IsKept conflicts node history p
kept_path conflicts node history w p n h own standing sends sound stamps = record {
  of_node = n;
  of_history = h;
  standing = subst (λ (s : Standing). StandsFor conflicts (that (own_of p.config)) s) (sym standing) (subst (λ (c : Condition). StandsFor conflicts (that c) w.standing) (sym own) sound);
  stamps = subst (AreStamped node history) (sym sends) stamps;
}

-- what is given of two lists, one behind the other, is given of each
record IsInTwo (us xs ys : List (Path Term)) : Type 0 where
  front : List (Path Term)
  back : List (Path Term)
  whole : us ≡ front ++ back
  of_first : AreGiven front xs
  of_second : AreGiven back ys

left_out : (ps : List (Path Term)) (x : Path Term) (xs : List (Path Term)) → IsImpossible (that x.state.own) → AreGiven ps xs → AreGiven ps (x ∷ xs)
left_out [] x xs h i = (h, i)
left_out (p ∷ ps) x xs h i = inr (h, i)

in_two : (us xs ys : List (Path Term)) → AreGiven us (xs ++ ys) → IsInTwo us xs ys
in_two us [] ys h = record { front = []; back = us; whole = refl; of_first = tt; of_second = h }
in_two [] (x ∷ xs) ys h =
    let r = in_two [] xs ys h.1 in
    record { front = r.front; back = r.back; whole = r.whole; of_first = left_out r.front x xs h.0 r.of_first; of_second = r.of_second }
in_two (u ∷ us) (x ∷ xs) ys (inl h) =
    let r = in_two us xs ys h.1 in
    record { front = u ∷ r.front; back = r.back; whole = ap (λ (ps : List (Path Term)). u ∷ ps) r.whole; of_first = inl (h.0, r.of_first); of_second = r.of_second }
in_two (u ∷ us) (x ∷ xs) ys (inr h) =
    let r = in_two (u ∷ us) xs ys h.1 in
    record { front = r.front; back = r.back; whole = r.whole; of_first = left_out r.front x xs h.0 r.of_first; of_second = r.of_second }

-- what leads on leads on behind others
pub leads_behind : (before xs qs us : List (Path Term)) → Leads xs qs → AreGiven us (before ++ xs) → AreGiven us (before ++ qs)
leads_behind before xs qs us l h =
    let r = in_two us before xs h in
    subst (λ (ps : List (Path Term)). AreGiven ps (before ++ qs)) (sym r.whole) (given_append r.front before r.back qs r.of_first (l r.back r.of_second))

pub so_far_behind : (before xs qs us : List (Path Term)) → Leads xs qs → AreGivenSoFar us (before ++ xs) → AreGivenSoFar us (before ++ qs)
so_far_behind before xs qs us l h = (h.0, leads_behind before xs qs (us ++ h.0) l h.1)

-- both sides of a decision, one behind the other
pub give_both : (before first second ys qs us : List (Path Term)) → Leads ys second → Leads (first ++ second) qs → AreGiven us ((before ++ first) ++ ys) → AreGiven us (before ++ qs)
give_both before first second ys qs us l leads h =
    leads_behind before (first ++ second) qs us leads
    (subst (AreGiven us) (append_assoc before first second) (leads_behind (before ++ first) ys second us l h))

pub so_far_both : (before first second ys qs us : List (Path Term)) → Leads ys second → Leads (first ++ second) qs → AreGivenSoFar us ((before ++ first) ++ ys) → AreGivenSoFar us (before ++ qs)
so_far_both before first second ys qs us l leads h = (h.0, give_both before first second ys qs (us ++ h.0) l leads h.1)

-- too many on the first side
pub so_far_first : (before first second xs qs us : List (Path Term)) → Leads xs first → Leads (first ++ second) qs → AreGivenSoFar us (before ++ xs) → AreGivenSoFar us (before ++ qs)
so_far_first before first second xs qs us l leads h =
    so_far_behind before (first ++ second) qs us leads
    (subst (AreGivenSoFar us) (append_assoc before first second) (so_far_append us (before ++ first) second (so_far_behind before xs first us l h)))

-- what follows in each case
pub on_ok : {P Q : Type 0} → (r : Result ⊤ RunStop) → (P → Q) → OnOk r P → OnOk r Q
on_ok (Result.Ok x) f p = f p
on_ok (Result.Err e) f p = p

pub on_many : {P Q : Type 0} → (r : Result ⊤ RunStop) → (P → Q) → OnTooMany r P → OnTooMany r Q
on_many (Result.Ok x) f p = p
on_many (Result.Err stops.TooMany) f p = f p
on_many (Result.Err (stops.Memory e)) f p = p

pub many_unless : {P Q : Type 0} → (r : Result ⊤ RunStop) → (P → Q) → UnlessMemory r P → OnTooMany r Q
many_unless (Result.Ok x) f p = tt
many_unless (Result.Err stops.TooMany) f p = f p
many_unless (Result.Err (stops.Memory e)) f p = tt

-- what is given is given so far
pub so_far_whole : (ps qs : List (Path Term)) → AreGiven ps qs → AreGivenSoFar ps qs
so_far_whole ps qs h = ([], subst (λ (us : List (Path Term)). AreGiven us qs) (sym (append-nil ps)) h)

-- what comes of a way, by what it is
pub stretch_is : (net : Network) (spot : Spot) (fuel : ℕ) (v w : WayView) (r s : Stretch) → r ≡ s → IsStretch net spot fuel v w r → IsStretch net spot fuel v w s
stretch_is net spot fuel v w r s e h = subst (IsStretch net spot fuel v w) e h
