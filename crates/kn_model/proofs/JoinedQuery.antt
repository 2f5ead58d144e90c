-- Columns of one alternative each ask the same of the inputs as one condition that joins them all.
use Rattle.std.proofs.Common.{◌≡◌, Bool, true, false, List, [], ◌∷◌, ◌++◌, map, flat_map, refl, sym, ap, ◌∙◌, append_assoc}
use Rattle.std.specs.Prelude.{◌&&◌, ◌||◌}
use Rattle.std.proofs.lemmas.List.{append-nil}
use Rattle.std.proofs.Math.Path.{fun_ext}
use Rattle.kn_model.specs.Terms.{Valuation}
use Rattle.kn_model.specs.Conditions.{Condition, Read, Query, holds, columns_hold, reads_in, reads_of, widest, that, that_with}
use Rattle.kn_model.proofs.Under.{holds-append}

-- each condition as a column of one alternative
abbrev pub alone : List Condition → List (List Condition)
alone ds = map (λ (d : Condition). d ∷ []) ds

-- the conditions, one behind another
abbrev pub all_of : List Condition → Condition
all_of ds = flat_map (λ (d : Condition). d) ds

pub reads_append : (c d : Condition) → reads_of (c ++ d) ≡ reads_of c ++ reads_of d
reads_append [] d = refl
reads_append (l ∷ c) d = ap (λ (rs : List Read). reads_in l.value ++ rs) (reads_append c d) ∙ sym (append_assoc (reads_in l.value) (reads_of c) (reads_of d))

alone_reads : (ds : List Condition) → flat_map (λ (cs : List Condition). flat_map reads_of cs) (alone ds) ≡ reads_of (all_of ds)
alone_reads [] = refl
alone_reads (d ∷ ds) =
    ap (λ (rs : List Read). rs ++ flat_map (λ (cs : List Condition). flat_map reads_of cs) (alone ds)) (append-nil (reads_of d))
    ∙ (ap (λ (rs : List Read). reads_of d ++ rs) (alone_reads ds) ∙ sym (reads_append d (all_of ds)))

or_false : (x : Bool) → (x || false) ≡ x
or_false true = refl
or_false false = refl

alone_hold : (a : Valuation) (ds : List Condition) → columns_hold a (alone ds) ≡ holds a (all_of ds)
alone_hold a [] = refl
alone_hold a (d ∷ ds) =
    ap (λ (x : Bool). x && columns_hold a (alone ds)) (or_false (holds a d)) ∙ (ap (λ (x : Bool). holds a d && x) (alone_hold a ds) ∙ sym (holds-append a d (all_of ds)))

pub joined_query : (c : Condition) (ds : List Condition) → that_with c (alone ds) ≡ that (c ++ all_of ds)
joined_query c ds =
    let asked : Query = that_with c (alone ds) in
    ap (λ (rs : List Read). record asked { reads = widest rs }) (ap (λ (rs : List Read). reads_of c ++ rs) (alone_reads ds) ∙ sym (reads_append c (all_of ds)))
    ∙ ap (λ (m : Valuation → Bool). record { reads = widest (reads_of (c ++ all_of ds)); meets = m })
    (fun_ext (λ (a : Valuation). ap (λ (x : Bool). holds a c && x) (alone_hold a ds) ∙ sym (holds-append a c (all_of ds))))
