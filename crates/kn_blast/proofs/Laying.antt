-- Inputs laid out in a circuit: their bits, widths and words.
use Rattle.std.proofs.Common.{◌≡◌, ℕ, zero, suc, ◌+◌, ◌-◌, ◌*◌, ◌<◌, ◌≤◌, ◌%◌, ◌^◌, Bool, true, false, cond, ◌&&◌, List, [], ◌∷◌, ◌++◌, length, drop, get_or, Some, refl, ap, sym, subst, ◌∙◌, arith, inl, inr, length-append}
use Rattle.std.specs.Prelude.{None, slice_get, slice_index_or, nat_eq, nat_lt, min}
use Rattle.std.specs.List.{AllByRecursion}
use Rattle.std.proofs.lemmas.Bool.{and_parts, eqb-true, eq-eqb, cases_lt}
use Rattle.std.proofs.lemmas.Option.{slice_get-get_or, slice_get_within, get_or_from_slice_get}
use Rattle.std.proofs.Math.Nat.{pow-suc}
use Rattle.std.proofs.Math.Pow.{pow-add}
use Rattle.std.proofs.lemmas.Nat.{mod-mul-add}
use Rattle.std.proofs.lemmas.List.{append_assoc, append-nil, drop_more}
use Rattle.kn_aig.proofs.Values.{value_at}
use Rattle.kn_built.proofs.Sorted.{All-each}
use Rattle.kn_aig.specs.declared.gates.AigNode.{AigNode}
use Rattle.kn_aig.specs.declared.gates.AigNode.TheVariants as nodes
use Rattle.kn_aig.specs.Circuits.{node_of, inputs_of, input_count, Fits, IsCircuit}
use Rattle.kn_aig.proofs.Longer.{inputs_of-append}
use Rattle.kn_term.specs.Terms.{Given, Valuation, listed}
use Rattle.kn_term.specs.Valuations.{precedes, Precedes, AreEntries}
use Rattle.kn_term.proofs.Entries.{absent}
use Rattle.kn_blast.specs.declared.inputs.InputBits.{InputBits}
use Rattle.kn_blast.proofs.Numbers.{has_is}
use Rattle.kn_blast.specs.Spelling.{weight, Has}
use Rattle.kn_blast.specs.Inputs.{width_of, bits_of, IsBefore, AreInputBits, word_before, given_by, BeginsWithInputs, HasOnlyInputs, laid_out}

get_front : (xs ys : List AigNode) (k : ℕ) → k < length xs → slice_get (xs ++ ys) k ≡ slice_get xs k
get_front [] ys k h = absurd (omega (arith, h))
get_front (x ∷ xs) ys zero h = refl
get_front (x ∷ xs) ys (suc k) h = get_front xs ys k (omega (arith, h))

get_last : (xs : List AigNode) (y : AigNode) (k : ℕ) → k ≡ length xs → slice_get (xs ++ y ∷ []) k ≡ Some y
get_last xs y k e = ap (slice_get (xs ++ y ∷ [])) e ∙ go xs where
  go : (xs : List AigNode) → slice_get (xs ++ y ∷ []) (length xs) ≡ Some y
  go [] = refl
  go (x ∷ xs) = go xs

-- a circuit without inputs has the constant alone
pub only_none : (ns : List AigNode) → IsCircuit ns → inputs_of ns ≡ 0 → HasOnlyInputs ns
only_none [] is none = absurd (omega (arith, slice_get_within [] 0 nodes.Constant is.0))
only_none (x ∷ []) is none = (omega (arith, none), λ place h. absurd (omega (arith, h, none)))
only_none (x ∷ y ∷ ns) is none = absurd (second y refl (is.1 1 y refl)) where
  second : (z : AigNode) → y ≡ z → Fits (x ∷ y ∷ ns) 1 z → ⊥
  second nodes.Constant e f = let wrong : 1 ≡ 0 = f in absurd (omega (arith, wrong))
  second (nodes.Input i) e f = let one : input_count y ≡ 1 = ap input_count e in absurd (omega (arith, none, one))
  second (nodes.And a b) e f = absurd (omega (arith, f.0, f.1, f.2))

-- one more input
pub only_more : (old new : List AigNode) → HasOnlyInputs old → new ≡ old ++ nodes.Input (inputs_of old) ∷ [] → HasOnlyInputs new × (inputs_of new ≡ inputs_of old + 1)
only_more old new only is =
    let count : inputs_of new ≡ inputs_of old + 1 = ap inputs_of is ∙ (inputs_of-append old (nodes.Input (inputs_of old) ∷ []) ∙ omega arith) in
    let long : length new ≡ length old + 1 = ap length is ∙ (length-append old (nodes.Input (inputs_of old) ∷ []) ∙ omega arith) in (
      (
        omega (arith, count, long, only.0),
        λ place h. ap (λ (ns : List AigNode). slice_get ns (1 + place)) is ∙ elim (cases_lt place (inputs_of old)) [
          | inl before ↦ get_front old (nodes.Input (inputs_of old) ∷ []) (1 + place) (omega (arith, before, only.0)) ∙ only.1 place before
          | inr past ↦
              let here : place ≡ inputs_of old = omega (arith, h, past, count) in
              get_last old (nodes.Input (inputs_of old)) (1 + place) (omega (arith, here, only.0)) ∙ ap (λ (i : ℕ). Some (nodes.Input i)) (sym here)
        ],
      ),
      count,
    )

-- the inputs of a circuit that grew
pub begins_longer : (old new more : List AigNode) (count : ℕ) → new ≡ old ++ more → BeginsWithInputs old count → BeginsWithInputs new count
begins_longer old new more count e all place h =
    ap (λ (ns : List AigNode). slice_get ns (1 + place)) e ∙ (get_front old more (1 + place) (slice_get_within old (1 + place) (nodes.Input place) (all place h)) ∙ all place h)

-- the edge of an input
pub input_has : (ns : List AigNode) (count i : ℕ) → BeginsWithInputs ns count → i < count → Has ns (record { node = 1 + i; inverted = false }) (λ bits. slice_index_or bits i false)
input_has ns count i all h =
    let is : slice_get ns (1 + i) ≡ Some (nodes.Input i) = all i h in
    let within : 1 + i < length ns = slice_get_within ns (1 + i) (nodes.Input i) is in
    record {
      stands = within;
      value = λ bits. value_at bits ns (1 + i) nodes.Constant within ∙ ap (node_of bits _) (get_or_from_slice_get ns (1 + i) (nodes.Input i) nodes.Constant is);
    }

-- the widths that are laid out
pub width_laid : (a : Valuation) (first n k : ℕ) → width_of (laid_out first a) n k ≡ listed a n k
width_laid [] first n k = refl
width_laid (g ∷ a) first n k = ap (λ (rest : ℕ). cond (nat_eq g.node n && nat_eq g.index k) g.word rest) (width_laid a (first + g.word) n k)

All-laid : (e : InputBits) (g : Given) (a : Valuation) (first : ℕ) → e.node ≡ g.node → e.index ≡ g.index → AllByRecursion (Precedes g) a → AllByRecursion (IsBefore e) (laid_out first a)
All-laid e g [] first p q h = tt
All-laid e g (f ∷ a) first p q h = (rw (p, q) h.0, All-laid e g a (first + f.word) p q h.1)

listed_head : (g : Given) (a : Valuation) → listed (g ∷ a) g.node g.index ≡ g.word
listed_head g a = rw (eq-eqb g.node g.node refl, eq-eqb g.index g.index refl) refl

narrow_rest : (g : Given) (a : Valuation) → AreEntries (g ∷ a) → ((n k : ℕ) → listed (g ∷ a) n k ≤ 16) → (n k : ℕ) → listed a n k ≤ 16
narrow_rest g a h narrow n k = go (nat_eq g.node n && nat_eq g.index k) refl where
  go : (b : Bool) → (nat_eq g.node n && nat_eq g.index k) ≡ b → listed a n k ≤ 16
  go true e =
      let s = and_parts (nat_eq g.node n) (nat_eq g.index k) e in
      let moved : (x : Given) → Precedes g x → precedes n k x.node x.index ≡ true = λ x p. rw (← eqb-true g.node n s.0, ← eqb-true g.index k s.1) p in
      omega (arith, absent n k a (All-each (Precedes g) (λ (x : Given). precedes n k x.node x.index ≡ true) moved a h.1))
  go false e = subst (λ (v : ℕ). v ≤ 16) (ap (λ (b : Bool). cond b g.word (listed a n k)) e) (narrow n k)

-- what is laid out stands in order
pub bits_laid : (a : Valuation) (first : ℕ) → AreEntries a → ((n k : ℕ) → listed a n k ≤ 16) → AreInputBits first (laid_out first a)
bits_laid [] first h narrow = tt
bits_laid (g ∷ a) first h narrow =
    let few : g.word ≤ 16 = subst (λ (v : ℕ). v ≤ 16) (listed_head g a) (narrow g.node g.index) in
    (omega (arith, h.0), few, omega (arith, h.0), All-laid (record { node = g.node; index = g.index; width = g.word; lowest = first + g.word - 1 }) g a (first + g.word) refl refl h.1, bits_laid a (first + g.word) h.2 (narrow_rest g a h narrow))

-- one more entry is laid out
pub laid_more : (a : Valuation) (place first : ℕ) (g : Given) (out more all : List InputBits) (e : InputBits) → slice_get a place ≡ Some g → more ≡ out ++ e ∷ []
    → e ≡ record { node = g.node; index = g.index; width = g.word; lowest = first + g.word - 1 }
    → out ++ laid_out first (drop place a) ≡ all → more ++ laid_out (first + g.word) (drop (place + 1) a) ≡ all
laid_more a place first g out more all e is pushed same whole =
    let within : place < length a = slice_get_within a place g is in
    let front : drop place a ≡ g ∷ drop (place + 1) a = drop_more a place g within ∙ ap (λ (h : Given). h ∷ drop (place + 1) a) (get_or_from_slice_get a place g g is) in
    ap (λ (es : List InputBits). es ++ laid_out (first + g.word) (drop (place + 1) a)) pushed
    ∙ (append_assoc out (e ∷ []) (laid_out (first + g.word) (drop (place + 1) a))
    ∙ (ap (λ (f : InputBits). out ++ f ∷ laid_out (first + g.word) (drop (place + 1) a)) same
    ∙ (sym (ap (λ (xs : Valuation). out ++ laid_out first xs) front) ∙ whole)))

drop_all : (a : Valuation) (place : ℕ) → slice_get a place ≡ None → drop place a ≡ []
drop_all [] zero e = refl
drop_all [] (suc place) e = refl
drop_all (g ∷ a) zero e = absurd cc
drop_all (g ∷ a) (suc place) e = drop_all a place e

-- all entries are laid out
pub laid_whole : (a : Valuation) (place first : ℕ) (out all : List InputBits) → slice_get a place ≡ None → out ++ laid_out first (drop place a) ≡ all → out ≡ all
laid_whole a place first out all none whole = sym (append-nil out) ∙ (sym (ap (λ (xs : Valuation). out ++ laid_out first xs) (drop_all a place none)) ∙ whole)

pub bits_of-push : (es : List InputBits) (e : InputBits) → bits_of (es ++ e ∷ []) ≡ bits_of es + e.width
bits_of-push [] e = omega arith
bits_of-push (f ∷ es) e = omega (arith, bits_of-push es e)

pub word_positive : (a : Valuation) (place : ℕ) (g : Given) → AreEntries a → slice_get a place ≡ Some g → 0 < g.word
word_positive [] place g h e = absurd (omega (arith, slice_get_within [] place g e))
word_positive (f ∷ a) zero g h e = let same : f ≡ g = cc in subst (λ (x : Given). 0 < x.word) same h.0
word_positive (f ∷ a) (suc place) g h e = word_positive a place g h.2 e

-- where the bits of an entry stand
pub entry_bits : (first place : ℕ) (es : List InputBits) (e : InputBits) → AreInputBits first es → slice_get es place ≡ Some e → (e.width ≤ 16) × (e.width ≤ e.lowest + 1) × (e.lowest < first + bits_of es)
entry_bits first place [] e h is = absurd (omega (arith, slice_get_within [] place e is))
entry_bits first zero (f ∷ es) e h is =
    let same : f ≡ e = cc in
    subst (λ (x : InputBits). (x.width ≤ 16) × (x.width ≤ x.lowest + 1) × (x.lowest < first + bits_of (f ∷ es))) same (h.1, omega (arith, h.2), omega (arith, h.0, h.2))
entry_bits first (suc place) (f ∷ es) e h is =
    let rest = entry_bits (first + f.width) place es e h.4 is in
    (rest.0, rest.1, omega (arith, rest.2))

-- one more bit of a word
pub word_before-more : (bits : List Bool) (lowest place : ℕ) → word_before bits lowest (place + 1) ≡ word_before bits lowest place + weight (slice_index_or bits (lowest - place) false) place
word_before-more bits lowest place = let next : place + 1 ≡ suc place = omega arith in ap (word_before bits lowest) next

-- the lowest bits of a word
pub word_before-lt : (bits : List Bool) (lowest width : ℕ) → word_before bits lowest width < 2 ^ width
word_before-lt bits lowest zero = omega arith
word_before-lt bits lowest (suc width) = omega (arith, word_before-lt bits lowest width, weight-le (slice_index_or bits (lowest - width) false) width, pow-suc 2 width)
  where
    weight-le : (b : Bool) (i : ℕ) → weight b i ≤ 2 ^ i
    weight-le true i = omega arith
    weight-le false i = omega arith

word_before-high : (bits : List Bool) (lowest width more : ℕ) → (q : ℕ) × (word_before bits lowest (width + more) ≡ q * 2 ^ width + word_before bits lowest width)
word_before-high bits lowest width zero = let same : width + 0 ≡ width = omega arith in (0, ap (word_before bits lowest) same ∙ omega arith)
word_before-high bits lowest width (suc more) =
    let b = slice_index_or bits (lowest - (width + more)) false in
    let rest = word_before-high bits lowest width more in
    let top = high b in
    let next : word_before bits lowest (width + suc more) ≡ word_before bits lowest (width + more) + weight b (width + more) = let one : width + suc more ≡ suc (width + more) = omega arith in ap (word_before bits lowest) one in
    let parts : (rest.0 + top.0) * 2 ^ width ≡ rest.0 * 2 ^ width + top.0 * 2 ^ width = omega arith in
    (rest.0 + top.0, omega (arith, next, rest.1, top.1, parts))
  where
    high : (b : Bool) → (q : ℕ) × (weight b (width + more) ≡ q * 2 ^ width)
    high true = let turned : width + more ≡ more + width = omega arith in (2 ^ more, ap (λ (k : ℕ). 2 ^ k) turned ∙ pow-add 2 more width)
    high false = (0, omega arith)

-- the lowest bits of a word are a word of fewer bits
pub word_before-cut : (bits : List Bool) (lowest width whole : ℕ) → width ≤ whole → word_before bits lowest whole % 2 ^ width ≡ word_before bits lowest width
word_before-cut bits lowest width whole h =
    let high = word_before-high bits lowest width (whole - width) in
    let all : word_before bits lowest whole ≡ word_before bits lowest (width + (whole - width)) = ap (word_before bits lowest) (omega (arith, h)) in
    ap (λ (v : ℕ). v % 2 ^ width) (all ∙ high.1) ∙ mod-mul-add high.0 (2 ^ width) (word_before bits lowest width) (word_before-lt bits lowest width)

-- no entry
abbrev pub blank : InputBits
blank = record { node = 0; index = 0; width = 0; lowest = 0 }

pub entry_at : (es : List InputBits) (place : ℕ) (d : InputBits) → AreInputBits 0 es → place < length es → ((get_or es place d).width ≤ 16) × ((get_or es place d).width ≤ (get_or es place d).lowest + 1) × ((get_or es place d).lowest < bits_of es)
entry_at es place d h within = let at = entry_bits 0 place es (get_or es place d) h (slice_get-get_or es place d within) in (at.0, at.1, omega (arith, at.2))

-- the entry of an input, where those before it are of others
pub entry_found : (es : List InputBits) (place n k : ℕ) (d : InputBits) (is : Bool) → AreInputBits 0 es → place < length es
    → is ≡ (nat_eq (get_or es place d).node n && nat_eq (get_or es place d).index k) → is ≡ true
    → width_of es n k ≡ width_of (drop place es) n k → ((bits : List Bool) → listed (given_by bits es) n k ≡ listed (given_by bits (drop place es)) n k)
    → ((get_or es place d).width ≡ width_of es n k) × ((get_or es place d).width ≤ 16) × ((get_or es place d).width ≤ (get_or es place d).lowest + 1) × ((get_or es place d).lowest < bits_of es) × ((bits : List Bool) → listed (given_by bits es) n k ≡ word_before bits (get_or es place d).lowest (get_or es place d).width)
entry_found es place n k d is h within test t width given =
    let e = get_or es place d in
    let rest = drop (place + 1) es in
    let front : drop place es ≡ e ∷ rest = drop_more es place d within in
    let own : (nat_eq e.node n && nat_eq e.index k) ≡ true = sym test ∙ t in
    let at = entry_at es place d h within in (
      sym (width ∙ (ap (λ (xs : List InputBits). width_of xs n k) front ∙ ap (λ (b : Bool). cond b e.width (width_of rest n k)) own)),
      at.0,
      at.1,
      at.2,
      λ bits. given bits ∙ (ap (λ (xs : List InputBits). listed (given_by bits xs) n k) front ∙ ap (λ (b : Bool). cond b (word_before bits e.lowest e.width) (listed (given_by bits rest) n k)) own),
    )

pub next_count : (old new : List InputBits) (e : InputBits) (before after w : ℕ) → new ≡ old ++ e ∷ [] → e.width ≡ w → bits_of old ≡ before → after ≡ before + w → bits_of new ≡ after
next_count old new e before after w pushed width count next = ap bits_of pushed ∙ (bits_of-push old e ∙ omega (arith, width, count, next))

plus_none : (n k : ℕ) → n ≡ k → n + 0 ≡ k
plus_none n k e = omega (arith, e)

-- the edge at a place of an input's word
pub edge_has : (ns : List AigNode) (lowest place width : ℕ) → place < width → BeginsWithInputs ns (lowest + 1) → Has ns (record { node = 1 + (lowest - place); inverted = false }) (λ bits. nat_lt place width && slice_index_or bits (lowest - place) false)
edge_has ns lowest place width h all =
    let test : nat_lt place width ≡ true = grind (arith, h) in
    has_is ns (record { node = 1 + (lowest - place); inverted = false }) _ _ (input_has ns (lowest + 1) (lowest - place) all (omega arith)) (λ bits. sym (ap (λ (b : Bool). b && slice_index_or bits (lowest - place) false) test))

pub edges_step : (bits : List Bool) (lowest place width : ℕ) (v : Bool) → v ≡ (nat_lt place width && slice_index_or bits (lowest - place) false) → word_before bits lowest (min place width) + weight v place ≡ word_before bits lowest (min (place + 1) width)
edges_step bits lowest place width v is = elim (cases_lt place width) [
  | inl h ↦
      let test : nat_lt place width ≡ true = grind (arith, h) in
      let now : min place width ≡ place = omega (arith, h) in
      let next : min (place + 1) width ≡ place + 1 = omega (arith, h) in
      let same : v ≡ slice_index_or bits (lowest - place) false = is ∙ ap (λ (b : Bool). b && slice_index_or bits (lowest - place) false) test in
      ap (λ (k : ℕ). word_before bits lowest k + weight v place) now ∙ (ap (λ (b : Bool). word_before bits lowest place + weight b place) same ∙ (sym (word_before-more bits lowest place) ∙ sym (ap (word_before bits lowest) next)))
  | inr h ↦
      let test : nat_lt place width ≡ false = grind (arith, h) in
      let same : min place width ≡ min (place + 1) width = omega (arith, h) in
      let none : v ≡ false = is ∙ ap (λ (b : Bool). b && slice_index_or bits (lowest - place) false) test in
      ap (λ (b : Bool). word_before bits lowest (min place width) + weight b place) none ∙ plus_none _ _ (ap (word_before bits lowest) same)
]
