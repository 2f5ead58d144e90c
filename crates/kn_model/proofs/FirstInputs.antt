-- The least words for what a condition reads are the first of all inputs that meet it.
use Rattle.std.proofs.Common.{◌≡◌, inl, inr, ℕ, ◌^◌, ◌%◌, ◌<◌, Bool, true, false, cond, List, [], ◌∷◌, map, refl, sym, ap, subst, ◌∙◌, arith}
use Rattle.std.specs.Prelude.{nat_eq}
use Rattle.std.specs.List.{AllByRecursion}
use Rattle.std.specs.declared.cmp.Ordering.{Ordering}
use Rattle.std.specs.declared.cmp.Ordering.TheVariants.{Less, Equal, Greater}
use Rattle.std.proofs.Math.Nat.{mod-lt, mod-le, mod-eq_of_lt}
use Rattle.std.proofs.lemmas.Nat.{pow_pos}
use Rattle.std.proofs.lemmas.Bool.{eqb-false}
use Rattle.kn_term.specs.Valuations.{AreEntries, Precedes}
use Rattle.kn_model.specs.Terms.{Given, Valuation, listed, input_word}
use Rattle.kn_model.specs.Conditions.{Read, holds, reads_of, read_cmp, widest, that, AreWords, listing, valuation_of, MeetsWith, ComesBefore}
use Rattle.kn_model.specs.Laws.{LeastIsFirst}
use Rattle.kn_model.proofs.LeastInputs.{Under, under_on, Above, Sorted, Place, place, sorted_widest, before_true}
use Rattle.kn_model.proofs.AlikeStandings.{Covers, widest_has, first_less, first_same, listed_same, other_place, place_other, listed_other, listed_above, covered_above, cut_wider, Agree, holds_agrees}

-- ---- the words of reads are entries in order

behind : (g : Given) (rs : List Read) → Above g.node g.index rs → (ws : List ℕ) → AllByRecursion (Precedes g) (valuation_of rs ws)
behind g [] a ws = tt
behind g (r ∷ rs) a [] = tt
behind g (r ∷ rs) a (w ∷ ws) = go (nat_eq w 0) (behind g rs a.1 ws)
  where
    go : (b : Bool) → AllByRecursion (Precedes g) (valuation_of rs ws) → AllByRecursion (Precedes g) (cond b (valuation_of rs ws) (record { node = r.node; index = r.index; word = w } ∷ valuation_of rs ws))
    go true h = h
    go false h = (before_true g.node g.index r.node r.index a.0, h)

are_entries : (rs : List Read) → Sorted rs → (ws : List ℕ) → AreEntries (valuation_of rs ws)
are_entries [] s ws = tt
are_entries (r ∷ rs) s [] = tt
are_entries (r ∷ rs) s (w ∷ ws) = go (nat_eq w 0) refl (are_entries rs s.1 ws)
  where
    go : (b : Bool) → nat_eq w 0 ≡ b → AreEntries (valuation_of rs ws) → AreEntries (cond b (valuation_of rs ws) (record { node = r.node; index = r.index; word = w } ∷ valuation_of rs ws))
    go true e h = h
    go false e h = let ne = eqb-false w 0 e in (omega (arith, ne), behind (record { node = r.node; index = r.index; word = w }) rs s.0 ws, h)

-- ---- the words that inputs give to reads

abbrev pub word_for : Valuation → Read → ℕ
word_for b r = input_word b r.node r.index r.width

abbrev pub words_for : Valuation → List Read → List ℕ
words_for b rs = map (word_for b) rs

pub words_fit : (b : Valuation) (rs : List Read) → AreWords rs (words_for b rs)
words_fit b [] = tt
words_fit b (r ∷ rs) = (mod-lt (listed b r.node r.index) (pow_pos r.width), words_fit b rs)

-- they are the same words for each read that the list covers
words_same : (b : Valuation) (rs : List Read) → Sorted rs → (q : Read) → Covers rs q → word_for (valuation_of rs (words_for b rs)) q ≡ word_for b q
words_same b [] s q c = absurd c
words_same b (r ∷ rs) s q (inl c) =
    let node = sym c.0.0 in
    let index = sym c.0.1 in
    let low : listed (valuation_of rs (words_for b rs)) q.node q.index ≡ 0 =
    subst (λ n. listed (valuation_of rs (words_for b rs)) n q.index ≡ 0) node (subst (λ n. listed (valuation_of rs (words_for b rs)) r.node n ≡ 0) index (listed_above r rs s.0 (words_for b rs))) in
    ap (λ (w : ℕ). w % 2 ^ q.width) (listed_same r (word_for b r) (valuation_of rs (words_for b rs)) q.node q.index node index low)
    ∙ (cut_wider (listed b r.node r.index) q.width r.width c.1
    ∙ ap (λ (w : ℕ). w % 2 ^ q.width) (ap (λ n. listed b n r.index) node ∙ ap (λ n. listed b q.node n) index))
words_same b (r ∷ rs) s q (inr c) =
    ap (λ (w : ℕ). w % 2 ^ q.width) (listed_other r (word_for b r) (valuation_of rs (words_for b rs)) q.node q.index (other_place r q.node q.index (covered_above r rs s.0 q c)))
    ∙ words_same b rs s.1 q c

pub all_same : (b : Valuation) (rs qs : List Read) → Sorted rs → AllByRecursion (Covers rs) qs → Agree (valuation_of rs (words_for b rs)) b qs
all_same b rs [] s h = tt
all_same b rs (q ∷ qs) s h = (words_same b rs s q h.0, all_same b rs qs s h.1)

-- ---- what comes before as inputs comes before as words

-- at each of these reads that comes before this place, the same word
abbrev SameUntil : (n k : ℕ) → (b a : Valuation) → List Read → Type 0
SameUntil n k b a rs = AllByRecursion (λ (s : Read). Under s.node s.index n k → listed b s.node s.index ≡ listed a s.node s.index) rs

same_behind : (n k : ℕ) (b a : Valuation) (r : Read) (w : ℕ) (rs : List Read) → Above r.node r.index rs → SameUntil n k b (listing r w a) rs → SameUntil n k b a rs
same_behind n k b a r w [] u h = tt
same_behind n k b a r w (s ∷ rs) u h =
    (λ under. h.0 under ∙ listed_other r w a s.node s.index (other_place r s.node s.index u.0), same_behind n k b a r w rs u.1 h.1)

same_all : (n k : ℕ) (b a : Valuation) → ((m j : ℕ) → Under m j n k → listed b m j ≡ listed a m j) → (rs : List Read) → SameUntil n k b a rs
same_all n k b a f [] = tt
same_all n k b a f (r ∷ rs) = (f r.node r.index, same_all n k b a f rs)

-- below all reads nothing is listed
none_below : (n k : ℕ) (rs : List Read) → Above n k rs → (ws : List ℕ) → listed (valuation_of rs ws) n k ≡ 0
none_below n k rs a ws = listed_above (record { node = n; index = k; width = 0 }) rs a ws

words_before : (rs : List Read) → Sorted rs → (ws : List ℕ) → AreWords rs ws → (b : Valuation) (n k : ℕ) → listed b n k < listed (valuation_of rs ws) n k → SameUntil n k b (valuation_of rs ws) rs → ComesBefore (words_for b rs) ws
words_before [] s ws m b n k less h = absurd (omega (arith, less))
words_before (r ∷ rs) s [] m b n k less h = absurd m
words_before (r ∷ rs) s (w ∷ ws) m b n k less h = go (read_cmp r q) (place r q) (words_before rs s.1 ws m.1 b n k)
  where
    q : Read
    q = record { node = n; index = k; width = 0 }

    rest : Valuation
    rest = valuation_of rs ws

    own : listed (listing r w rest) r.node r.index ≡ w
    own = listed_same r w rest r.node r.index refl refl (listed_above r rs s.0 ws)

    go : (o : Ordering) → Place o r q → (listed b n k < listed rest n k → SameUntil n k b rest rs → ComesBefore (words_for b rs) ws) → ComesBefore (words_for b (r ∷ rs)) (w ∷ ws)
    go Less u ih =
        let same : word_for b r ≡ w = ap (λ (v : ℕ). v % 2 ^ r.width) (h.0 u ∙ own) ∙ mod-eq_of_lt m.0 in
        let lower : listed b n k < listed rest n k = subst (λ (v : ℕ). listed b n k < v) (listed_other r w rest n k (other_place r n k u)) less in
        first_same (word_for b r) w (words_for b rs) ws same (ih lower (same_behind n k b rest r w rs s.0 h.1))
    go Equal e ih =
        let lower : listed b r.node r.index < w =
        subst (λ (v : ℕ). listed b r.node r.index < v) own (subst (λ j. listed b r.node j < listed (listing r w rest) r.node j) (sym e.1) (subst (λ m. listed b m k < listed (listing r w rest) m k) (sym e.0) less)) in
        let cut = mod-le (listed b r.node r.index) (2 ^ r.width) in
        first_less (word_for b r) w (words_for b rs) ws (omega (arith, lower, cut))
    go Greater u ih =
        let above : Above n k rs = higher rs s.0 in
        let none : listed (listing r w rest) n k ≡ 0 = listed_other r w rest n k (place_other r n k u) ∙ none_below n k rs above ws in
        absurd (omega (arith, less, none))
      where
        higher : (ss : List Read) → Above r.node r.index ss → Above n k ss
        higher [] a = tt
        higher (s ∷ ss) a = (under_on n k r.node r.index s.node s.index u a.0, higher ss a.1)

pub least_is_first : LeastIsFirst
least_is_first c a least = record {
  entries = subst AreEntries (sym least.is) (are_entries rs sorted least.given_words);
  has = ap (λ (b : Valuation). holds b c) least.is ∙ least.meet.1;
  first = λ b before meets.
      let met : MeetsWith (that c) (words_for b rs) = (words_fit b rs, holds_agrees (valuation_of rs (words_for b rs)) b c (all_same b rs (reads_of c) sorted (widest_has (reads_of c))) ∙ meets) in
      let lower : listed b before.node before.index < listed (valuation_of rs least.given_words) before.node before.index = subst (λ (v : Valuation). listed b before.node before.index < listed v before.node before.index) least.is before.lower in
      let same : SameUntil before.node before.index b (valuation_of rs least.given_words) rs =
      same_all before.node before.index b (valuation_of rs least.given_words)
      (λ m j under. before.same m j (before_true m j before.node before.index under) ∙ ap (λ (v : Valuation). listed v m j) least.is) rs in
      least.least (words_for b rs) met (words_before rs sorted least.given_words least.meet.0 b before.node before.index lower same);
}
  where
    rs : List Read
    rs = widest (reads_of c)

    sorted : Sorted rs
    sorted = sorted_widest (reads_of c)
