-- The least inputs of parts that share none, joined, are the least of all.
use Rattle.std.proofs.Common.{◌≡◌, ℕ, ◌^◌, ◌%◌, ◌<◌, ◌≤◌, Bool, true, false, List, [], ◌∷◌, ◌++◌, refl, sym, ap, subst, ◌∙◌, inl, inr, arith}
use Rattle.std.specs.Prelude.{◌&&◌, ◌⊎◌, nat_eq, if◌then◌else◌}
use Rattle.std.specs.List.{AllByRecursion}
use Rattle.std.specs.declared.cmp.Ordering.{Ordering}
use Rattle.std.specs.declared.cmp.Ordering.TheVariants.{Less, Equal, Greater}
use Rattle.std.proofs.lemmas.Bool.{cases_lt, eqb-true}
use Rattle.std.proofs.Math.Nat.{mod-mod, mod-eq_of_lt}
use Rattle.std.proofs.Math.Pow.{pow_mono}
use Rattle.kn_built.proofs.Deciding.{both_true}
use Rattle.kn_term.specs.Terms.{Term, Word, Input, Apply, Choice, Valuation, Reads, listed, WordsByInputs}
use Rattle.kn_term.specs.Valuations.{precedes, AreEntries, OneList}
use Rattle.kn_cond.specs.Literals.{Literal, word_holds}
use Rattle.kn_cond.specs.Conditions.{Condition, Read, Query, read_cmp, put_before, put_read, reads_in, reads_of, widest, literal_holds, holds, valuation_of, IsLeast, that}
use Rattle.kn_solve.specs.Orders.{word_at}
use Rattle.kn_solve.specs.Asking.{AreRising, width_at}
use Rattle.kn_solve.specs.Parts.{AreAmong, IsSplit, ReadsOnly, AllRead, IsLaidOver, PartsJoin, PartNever}
use Rattle.kn_solve.proofs.Splitting.{words_by, words_by_are, word_at_by, listed_word, valuation_entries, cut_words, cut_are_words, cut_word_at}
use Rattle.kn_solve.proofs.Widest.{greatest, greatest_append, widest_greatest, widest_rising, rising_width}
use Rattle.kn_solve.proofs.Opening.{read_widest, cut_shorter}
use Rattle.kn_solve.proofs.Staying.{fits_at, differ, is_read, before_by, Rests, AsksMore, formula_rests, without_columns}
use Rattle.kn_solve.proofs.Answering.{contained}
use Rattle.kn_solve.proofs.Members.{each_member, all_among, all_split}

-- ---- what a condition reads

pub condition_width : (c : Condition) (n k : ℕ) → width_at (that c).reads n k ≡ greatest (reads_of c) n k
condition_width c n k = rising_width (widest (reads_of c)) n k (widest_rising (reads_of c)) ∙ widest_greatest (reads_of c) n k

-- no literal reads an input wider than the condition, and where none reads it wider than a bound, the condition does not
abbrev ReadWithin : ℕ → ℕ → ℕ → Condition → Type 0
ReadWithin n k bound c = AllByRecursion (λ (l : Literal Term). greatest (reads_in l.value) n k ≤ bound) c

all_within : (c : Condition) (n k bound : ℕ) → greatest (reads_of c) n k ≤ bound → ReadWithin n k bound c
all_within [] n k bound h = tt
all_within (l ∷ c) n k bound h =
    let both = greatest_append (reads_in l.value) (reads_of c) n k in
    (omega (arith, h, both), all_within c n k bound (omega (arith, h, both)))

within_all : (c : Condition) (n k bound : ℕ) → ReadWithin n k bound c → greatest (reads_of c) n k ≤ bound
within_all [] n k bound all = omega arith
within_all (l ∷ c) n k bound all = omega (arith, greatest_append (reads_in l.value) (reads_of c) n k, all.0, within_all c n k bound all.1)

among_wider : (part whole : Condition) (n k : ℕ) → AreAmong part whole → width_at (that part).reads n k ≤ width_at (that whole).reads n k
among_wider part whole n k among =
    omega (arith, condition_width part n k, condition_width whole n k, within_all part n k (greatest (reads_of whole) n k) (all_among (λ (l : Literal Term). greatest (reads_in l.value) n k ≤ greatest (reads_of whole) n k) part whole among (all_within whole n k (greatest (reads_of whole) n k) (omega arith))))

-- ---- which literals hold

abbrev Hold : Valuation → Condition → Type 0
Hold a c = AllByRecursion (λ (l : Literal Term). literal_holds a l ≡ true) c

each_holds : (a : Valuation) (c : Condition) → holds a c ≡ true → Hold a c
each_holds a [] e = tt
each_holds a (l ∷ c) e = let s = both_true (literal_holds a l) (holds a c) e in (s.0, each_holds a c s.1)

all_hold : (a : Valuation) (c : Condition) → Hold a c → holds a c ≡ true
all_hold a [] all = refl
all_hold a (l ∷ c) all = rw (all.0, all_hold a c all.1) refl

pub part_more : (part whole : Condition) → AreAmong part whole → AsksMore (that part) (that whole)
part_more part whole among = record {
  meets = λ a e. all_hold a part (all_among (λ (l : Literal Term). literal_holds a l ≡ true) part whole among (each_holds a whole e));
  wider = λ n k. among_wider part whole n k among;
}

pub condition_rests : WordsByInputs → (c : Condition) → Rests (that c)
condition_rests words c = subst Rests (without_columns c) (formula_rests words (record { condition = c; columns = [] }))

-- a literal holds alike under valuations that agree on what it reads
literal_same : WordsByInputs → (l : Literal Term) (x y : Valuation) → ((n k width : ℕ) → Reads n k width l.value → listed x n k % 2 ^ width ≡ listed y n k % 2 ^ width) → literal_holds x l ≡ literal_holds y l
literal_same words l x y same = ap (λ (w : ℕ). word_holds (record { value = w; truth = l.truth })) (words l.value x y same)

-- ---- which inputs are read

is_read_append : (rs ss : List Read) (n k : ℕ) → is_read (rs ++ ss) n k ≡ true → (is_read rs n k ≡ true) ⊎ (is_read ss n k ≡ true)
is_read_append [] ss n k e = inr e
is_read_append (r ∷ rs) ss n k e = go (nat_eq r.node n && nat_eq r.index k) (is_read_append rs ss n k) e where
  go : (b : Bool) → (is_read (rs ++ ss) n k ≡ true → (is_read rs n k ≡ true) ⊎ (is_read ss n k ≡ true)) → (if b then true else is_read (rs ++ ss) n k) ≡ true → ((if b then true else is_read rs n k) ≡ true) ⊎ (is_read ss n k ≡ true)
  go true more e = inl refl
  go false more e = more e

own_read : (m j n k width : ℕ) → is_read (record { node = m; index = j; width = width } ∷ []) n k ≡ true → (n ≡ m) × (k ≡ j)
own_read m j n k width e = go (nat_eq m n && nat_eq j k) refl e where
  go : (b : Bool) → (nat_eq m n && nat_eq j k) ≡ b → (if b then true else false) ≡ true → (n ≡ m) × (k ≡ j)
  go true own e = let s = both_true (nat_eq m n) (nat_eq j k) own in (sym (eqb-true m n s.0), sym (eqb-true j k s.1))
  go false own e = absurd cc

-- an input that is read is read with some width
some_width : (t : Term) (n k : ℕ) → is_read (reads_in t) n k ≡ true → (width : ℕ) × Reads n k width t
some_width (Word w) n k e = absurd cc
some_width (Input m j width) n k e = let s = own_read m j n k width e in (width, (s.0, s.1, refl))
some_width (Apply op x y) n k e = elim (is_read_append (reads_in x) (reads_in y) n k e) [
  | inl h ↦ let found = some_width x n k h in (found.0, inl found.1)
  | inr h ↦ let found = some_width y n k h in (found.0, inr found.1)
]
some_width (Choice c x y) n k e = elim (is_read_append (reads_in c) (reads_in x ++ reads_in y) n k e) [
  | inl h ↦ let found = some_width c n k h in (found.0, inl found.1)
  | inr more ↦ elim (is_read_append (reads_in x) (reads_in y) n k more) [
    | inl h ↦ let found = some_width x n k h in (found.0, inr (inl found.1))
    | inr h ↦ let found = some_width y n k h in (found.0, inr (inr found.1))
  ]
]

same_place : (r s : Read) → read_cmp r s ≡ Equal → (r.node ≡ s.node) × (r.index ≡ s.index)
same_place r s e = grind arith

abbrev here : Read → ℕ → ℕ → Bool
here r n k = nat_eq r.node n && nat_eq r.index k

put_is_read : (r : Read) (rs : List Read) (n k : ℕ) → is_read (put_read r rs) n k ≡ true → is_read (r ∷ rs) n k ≡ true
put_is_read r [] n k e = e
put_is_read r (s ∷ ss) n k e = go (put_is_read r ss n k) (read_cmp r s) e where
  swap : (b d x : Bool) → (if d then true else (if b then true else x)) ≡ (if b then true else (if d then true else x))
  swap true true x = refl
  swap true false x = refl
  swap false true x = refl
  swap false false x = refl

  behind : (b x y : Bool) → (x ≡ true → y ≡ true) → (if b then true else x) ≡ true → (if b then true else y) ≡ true
  behind true x y f e = refl
  behind false x y f e = f e

  any : (b x : Bool) → x ≡ true → (if b then true else x) ≡ true
  any true x e = refl
  any false x e = e

  go : (is_read (put_read r ss) n k ≡ true → is_read (r ∷ ss) n k ≡ true) → (o : Ordering) → is_read (put_before o r s ss (put_read r ss)) n k ≡ true → is_read (r ∷ s ∷ ss) n k ≡ true
  go more Less e = e
  go more Equal e = any (here r n k) (is_read (s ∷ ss) n k) e
  go more Greater e = sym (swap (here r n k) (here s n k) (is_read ss n k)) ∙ behind (here s n k) (is_read (put_read r ss) n k) (is_read (r ∷ ss) n k) more e

widest_is_read : (rs : List Read) (n k : ℕ) → is_read (widest rs) n k ≡ true → is_read rs n k ≡ true
widest_is_read [] n k e = e
widest_is_read (r ∷ rs) n k e = go (widest_is_read rs n k) (here r n k) (put_is_read r (widest rs) n k e) where
  go : (is_read (widest rs) n k ≡ true → is_read rs n k ≡ true) → (b : Bool) → (if b then true else is_read (widest rs) n k) ≡ true → (if b then true else is_read rs n k) ≡ true
  go more true e = refl
  go more false e = more e

some_reads : (among : ℕ → ℕ → Bool) (c : Condition) (n k : ℕ) → AllRead among true c → is_read (reads_of c) n k ≡ true → among n k ≡ true
some_reads among [] n k all e = absurd cc
some_reads among (l ∷ c) n k all e = elim (is_read_append (reads_in l.value) (reads_of c) n k e) [
  | inl h ↦ let found = some_width l.value n k h in all.0 n k found.0 found.1
  | inr h ↦ some_reads among c n k all.1 h
]

-- ---- questions

-- the words of least inputs fit into a width that is no lower
least_fits : (q : Query) (a : Valuation) (n k width : ℕ) → AreRising q.reads → IsLeast q a → width_at q.reads n k ≤ width → listed a n k % 2 ^ width ≡ listed a n k
least_fits q a n k width rising least wide =
    let given : listed a n k ≡ word_at q.reads least.given_words n k = ap (λ (v : Valuation). listed v n k) least.is ∙ listed_word q.reads least.given_words n k rising in
    elim (cases_lt 0 (word_at q.reads least.given_words n k)) [
      | inl h ↦
          let fits : listed a n k < 2 ^ width_at q.reads n k = subst (λ (x : ℕ). x < 2 ^ width_at q.reads n k) (sym given) (fits_at q.reads least.given_words n k least.meet.0 h) in
          let power : 2 ^ width_at q.reads n k ≤ 2 ^ width = pow_mono wide in
          mod-eq_of_lt (omega (arith, fits, power))
      | inr h ↦
          let none : listed a n k ≡ 0 = omega (arith, given, h) in
          ap (λ (x : ℕ). x % 2 ^ width) none ∙ (zero_mod (2 ^ width) ∙ sym none)
    ]
  where
    zero_mod : (m : ℕ) → 0 % m ≡ 0
    zero_mod m = omega arith

-- the words for some inputs, and others for all others
abbrev mixed_words : (ℕ → ℕ → Bool) → Valuation → Valuation → ℕ → ℕ → ℕ
mixed_words among b a n k = if among n k then listed b n k else listed a n k

either : (b : Bool) (x y : ℕ) → b ≡ true → (if b then x else y) ≡ x
either b x y e = rw e refl

neither : (b : Bool) (x y : ℕ) → b ≡ false → (if b then x else y) ≡ y
neither b x y e = rw e refl

module _ (law : OneList) (q t p : Query) (q_rising : AreRising q.reads) (t_rising : AreRising t.reads) (p_rising : AreRising p.reads) (rests : Rests t) (more : AsksMore t p) (wider : (n k : ℕ) → width_at q.reads n k ≤ width_at p.reads n k)
    (among : ℕ → ℕ → Bool) (touches : (n k : ℕ) → is_read t.reads n k ≡ true → among n k ≡ true) (a b v : Valuation) (least : IsLeast q a) (first : IsLeast t b) (entries : AreEntries v) (laid : IsLaidOver among b a v) (meets : p.meets v ≡ true)
    (mixed : (u w : Valuation) → p.meets u ≡ true → ((n k width : ℕ) → width ≤ width_at q.reads n k → listed w n k % 2 ^ width ≡ mixed_words among a u n k % 2 ^ width) → q.meets w ≡ true) where
  kept : (n k : ℕ) → word_at p.reads (cut_words v p.reads) n k ≡ listed v n k
  kept n k =
      cut_word_at v p.reads n k ∙ (ap (λ (x : ℕ). x % 2 ^ width_at p.reads n k) (laid n k) ∙ (go (among n k) ∙ sym (laid n k)))
    where
      go : (m : Bool) → (if m then listed b n k else listed a n k) % 2 ^ width_at p.reads n k ≡ (if m then listed b n k else listed a n k)
      go true = least_fits t b n k (width_at p.reads n k) t_rising first (more.wider n k)
      go false = least_fits q a n k (width_at p.reads n k) q_rising least (wider n k)

  of_first : (n k : ℕ) → listed b n k ≡ word_at t.reads first.given_words n k
  of_first n k = ap (λ (x : Valuation). listed x n k) first.is ∙ listed_word t.reads first.given_words n k t_rising

  of_least : (n k : ℕ) → listed a n k ≡ word_at q.reads least.given_words n k
  of_least n k = ap (λ (x : Valuation). listed x n k) least.is ∙ listed_word q.reads least.given_words n k q_rising

  -- inputs that are lower at an input of the part
  part_lower : (u : Valuation) (n k : ℕ) → p.meets u ≡ true → among n k ≡ true → listed u n k < listed v n k → ((m j : ℕ) → precedes m j n k ≡ true → listed u m j ≡ listed v m j) → ⊥
  part_lower u n k met e lower same =
      let cut : t.meets (valuation_of t.reads (cut_words u t.reads)) ≡ t.meets u = rests (valuation_of t.reads (cut_words u t.reads)) u (λ m j.
      ap (λ (w : ℕ). w % 2 ^ width_at t.reads m j) (listed_word t.reads (cut_words u t.reads) m j t_rising ∙ cut_word_at u t.reads m j) ∙ mod-mod (listed u m j) (2 ^ width_at t.reads m j)) in
      let here : listed v n k ≡ word_at t.reads first.given_words n k = laid n k ∙ (either (among n k) (listed b n k) (listed a n k) e ∙ of_first n k) in
      first.least (cut_words u t.reads) (cut_are_words u t.reads, cut ∙ more.meets u met)
      (before_by (listed u) n k t.reads first.given_words t_rising first.meet.0 (omega (arith, lower, here)) (λ m j one earlier.
      same m j earlier ∙ (laid m j ∙ (either (among m j) (listed b m j) (listed a m j) (touches m j one) ∙ of_first m j))))

  -- inputs that are lower at another one
  other_lower : (u : Valuation) (n k : ℕ) → p.meets u ≡ true → among n k ≡ false → listed u n k < listed v n k → ((m j : ℕ) → precedes m j n k ≡ true → listed u m j ≡ listed v m j) → ⊥
  other_lower u n k met e lower same =
      let f = mixed_words among a u in
      let ws = words_by f q.reads in
      let agree : (m j width : ℕ) → width ≤ width_at q.reads m j → listed (valuation_of q.reads ws) m j % 2 ^ width ≡ f m j % 2 ^ width = λ m j width h.
      ap (λ (w : ℕ). w % 2 ^ width) (listed_word q.reads ws m j q_rising ∙ word_at_by f q.reads m j) ∙ cut_shorter (f m j) width (width_at q.reads m j) h in
      let here : listed v n k ≡ word_at q.reads least.given_words n k = laid n k ∙ (neither (among n k) (listed b n k) (listed a n k) e ∙ of_least n k) in
      let own : f n k ≡ listed u n k = neither (among n k) (listed a n k) (listed u n k) e in
      least.least ws (words_by_are f q.reads, mixed u (valuation_of q.reads ws) met agree)
      (before_by f n k q.reads least.given_words q_rising least.meet.0 (omega (arith, lower, here, own)) (λ m j one earlier. go m j (among m j) refl earlier))
    where
      go : (m j : ℕ) (x : Bool) → among m j ≡ x → precedes m j n k ≡ true → mixed_words among a u m j ≡ word_at q.reads least.given_words m j
      go m j true own earlier = either (among m j) (listed a m j) (listed u m j) own ∙ of_least m j
      go m j false own earlier = neither (among m j) (listed a m j) (listed u m j) own ∙ (same m j earlier ∙ (laid m j ∙ (neither (among m j) (listed b m j) (listed a m j) own ∙ of_least m j)))

  joined : IsLeast p v
  joined =
      let is : v ≡ valuation_of p.reads (cut_words v p.reads) =
      law v (valuation_of p.reads (cut_words v p.reads)) entries (valuation_entries p.reads (cut_words v p.reads) p_rising) (λ n k. sym (listed_word p.reads (cut_words v p.reads) n k p_rising ∙ kept n k)) in
      record {
        given_words = cut_words v p.reads;
        is = is;
        meet = (cut_are_words v p.reads, ap p.meets (sym is) ∙ meets);
        least = λ vs met before.
            let d = differ p.reads vs (cut_words v p.reads) p_rising met.0 (cut_are_words v p.reads) before in
            let u = valuation_of p.reads vs in
            let spelled : (n k : ℕ) → listed u n k ≡ word_at p.reads vs n k = λ n k. listed_word p.reads vs n k p_rising in
            let lower : listed u d.node d.index < listed v d.node d.index = omega (arith, d.lower, spelled d.node d.index, kept d.node d.index) in
            let same : (m j : ℕ) → precedes m j d.node d.index ≡ true → listed u m j ≡ listed v m j = λ m j earlier. spelled m j ∙ (d.same m j earlier ∙ kept m j) in
            go u d.node d.index met.1 lower same (among d.node d.index) refl;
      }
    where
      go : (u : Valuation) (n k : ℕ) → p.meets u ≡ true → listed u n k < listed v n k → ((m j : ℕ) → precedes m j n k ≡ true → listed u m j ≡ listed v m j) → (x : Bool) → among n k ≡ x → ⊥
      go u n k met lower same true e = part_lower u n k met e lower same
      go u n k met lower same false e = other_lower u n k met e lower same

-- ---- conditions

module _ (words : WordsByInputs) (whole earlier part rest : Condition) (among : ℕ → ℕ → Bool) (split : IsSplit whole earlier part rest) (touched : AllRead among true part) (apart : AllRead among false rest) where
  abbrev Holds : Valuation → Literal Term → Type 0
  Holds a l = literal_holds a l ≡ true

  -- a valuation that agrees with one on the part, and with another on the rest
  hold_of_both : (a b v : Valuation) → Hold b part → Hold a rest → IsLaidOver among b a v → Hold v whole
  hold_of_both a b v one other laid =
      all_split (Holds v) whole earlier part rest split
      (go true b part touched one (λ n k e. laid n k ∙ either (among n k) (listed b n k) (listed a n k) e))
      (go false a rest apart other (λ n k e. laid n k ∙ neither (among n k) (listed b n k) (listed a n k) e))
    where
      go : (x : Bool) (u : Valuation) (c : Condition) → AllRead among x c → Hold u c → ((n k : ℕ) → among n k ≡ x → listed v n k ≡ listed u n k) → Hold v c
      go x u [] read held same = tt
      go x u (l ∷ c) read held same =
          (literal_same words l v u (λ n k width reads. ap (λ (w : ℕ). w % 2 ^ width) (same n k (read.0 n k width reads))) ∙ held.0, go x u c read.1 held.1 same)

  -- each literal of the earlier ones that is met by one valuation on the part and by another on the rest is met by the mix
  earlier_mixed : (a u w : Valuation) → Hold a earlier → Hold u whole → ((n k width : ℕ) → width ≤ width_at (that earlier).reads n k → listed w n k % 2 ^ width ≡ mixed_words among a u n k % 2 ^ width) → Hold w earlier
  earlier_mixed a u w held met agree =
      each_member (Holds w) earlier (λ l h.
      let own : Holds a l = contained (Holds a) earlier l held h in
      let other : Holds u l = contained (Holds u) whole l met (split.earlier_in l h) in
      let read : (n k width : ℕ) → Reads n k width l.value → width ≤ width_at (that earlier).reads n k = λ n k width reads.
      omega (arith, condition_width earlier n k, read_widest l.value n k width reads, contained (λ (x : Literal Term). greatest (reads_in x.value) n k ≤ greatest (reads_of earlier) n k) earlier l (all_within earlier n k (greatest (reads_of earlier) n k) (omega arith)) h) in
      elim (split.each l (split.earlier_in l h)) [
        | inl in_part ↦
            let reads_part : ReadsOnly among true l.value = contained (λ (x : Literal Term). ReadsOnly among true x.value) part l touched in_part in
            literal_same words l w a (λ n k width reads. agree n k width (read n k width reads) ∙ ap (λ (x : ℕ). x % 2 ^ width) (either (among n k) (listed a n k) (listed u n k) (reads_part n k width reads))) ∙ own
        | inr in_rest ↦
            let reads_rest : ReadsOnly among false l.value = contained (λ (x : Literal Term). ReadsOnly among false x.value) rest l apart in_rest in
            literal_same words l w u (λ n k width reads. agree n k width (read n k width reads) ∙ ap (λ (x : ℕ). x % 2 ^ width) (neither (among n k) (listed a n k) (listed u n k) (reads_rest n k width reads))) ∙ other
      ])

  joined_least : OneList → (a b v : Valuation) → IsLeast (that earlier) a → IsLeast (that part) b → AreEntries v → IsLaidOver among b a v → IsLeast (that whole) v
  joined_least law a b v least first entries laid =
      let held : Hold a earlier = each_holds a earlier (ap (that earlier).meets least.is ∙ least.meet.1) in
      let met : Hold b part = each_holds b part (ap (that part).meets first.is ∙ first.meet.1) in
      joined law (that earlier) (that part) (that whole) (widest_rising (reads_of earlier)) (widest_rising (reads_of part)) (widest_rising (reads_of whole)) (condition_rests words part) (part_more part whole split.part_in) (λ n k. among_wider earlier whole n k split.earlier_in)
      among (λ n k e. some_reads among part n k touched (widest_is_read (reads_of part) n k e)) a b v least first entries laid
      (all_hold v whole (hold_of_both a b v met (all_among (Holds a) rest earlier split.rest_in held) laid))
      (λ u w e agree. all_hold w earlier (earlier_mixed a u w held (each_holds u whole e) agree))

pub parts_join : OneList → WordsByInputs → PartsJoin
parts_join law words whole earlier part rest among a b v split touched apart least first entries laid = joined_least words whole earlier part rest among split touched apart law a b v least first entries laid

pub part_never : PartNever
part_never whole part among never a = go ((that whole).meets a) refl where
  go : (x : Bool) → (that whole).meets a ≡ x → x ≡ false
  go false e = refl
  go true e = let wrong : true ≡ false = sym ((part_more part whole among).meets a e) ∙ never a in absurd cc
