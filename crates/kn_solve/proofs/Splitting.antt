-- Bits as words of inputs, and the valuations of these words.
use Rattle.std.proofs.Common.{◌≡◌, ℕ, zero, suc, ◌+◌, ◌-◌, ◌*◌, ◌^◌, ◌%◌, ◌<◌, ◌≤◌, Bool, true, false, List, [], ◌∷◌, ◌++◌, length, take, drop, get_or, map, refl, sym, ap, subst, ◌∙◌, inl, inr, arith, length-append}
use Rattle.std.specs.Prelude.{◌&&◌, nat_eq, if◌then◌else◌, slice_index_or}
use Rattle.std.specs.List.{AllByRecursion}
use Rattle.std.proofs.lemmas.Bool.{cases_lt, eqb-true}
use Rattle.std.proofs.lemmas.List.{take-append-drop, length-take-le, length-drop, drop_more, drop-drop}
use Rattle.std.proofs.lemmas.List.Sums.{sum_by-cons}
use Rattle.std.proofs.lemmas.Nat.{pow_pos}
use Rattle.std.proofs.Math.Nat.{mod-lt, pow-succ'}
use Rattle.std.proofs.Math.Pow.{pow-add}
use Rattle.kn_built.proofs.Deciding.{both_true}
use Rattle.kn_term.specs.Terms.{Given, Valuation, listed}
use Rattle.kn_term.specs.Valuations.{precedes, AreEntries}
use Rattle.kn_term.proofs.Entries.{absent}
use Rattle.kn_cond.specs.Conditions.{Read, AreWords, valuation_of}
use Rattle.kn_sat.specs.Order.{number}
use Rattle.kn_sat.proofs.Numbers.{number-below}
use Rattle.kn_blast.specs.declared.inputs.InputBits.{InputBits}
use Rattle.kn_blast.specs.Spelling.{weight}
use Rattle.kn_blast.specs.Inputs.{bits_of, word_before, given_by, AreInputBits}
use Rattle.kn_solve.specs.Orders.{width_of, rank, word_at}
use Rattle.kn_solve.specs.Asking.{RisesBehind, AreRising, width_at, read_of}
use Rattle.kn_solve.proofs.Ranks.{rank-below, one_rank}

pub number-append : (xs ys : List Bool) → number (xs ++ ys) ≡ number xs * 2 ^ length ys + number ys
number-append [] ys = omega arith
number-append (false ∷ xs) ys = omega (arith, number-append xs ys)
number-append (true ∷ xs) ys =
    let whole : 2 ^ length (xs ++ ys) ≡ 2 ^ length xs * 2 ^ length ys = ap (λ (n : ℕ). 2 ^ n) (length-append xs ys) ∙ pow-add 2 (length xs) (length ys) in
    let parts : (2 ^ length xs + number xs) * 2 ^ length ys ≡ 2 ^ length xs * 2 ^ length ys + number xs * 2 ^ length ys = omega arith in
    omega (arith, number-append xs ys, whole, parts)

-- the words of inputs whose bits follow one another, the highest first
abbrev pub words_at : List Bool → List Read → List ℕ
words_at bits [] = []
words_at bits (r ∷ rs) = number (take r.width bits) ∷ words_at (drop r.width bits) rs

width_cons : (r : Read) (rs : List Read) → width_of (r ∷ rs) ≡ r.width + width_of rs
width_cons r rs = sum_by-cons (λ (x : Read). x.width) r rs

drop_long : (bits : List Bool) (w rest : ℕ) → length bits ≡ w + rest → length (drop w bits) ≡ rest
drop_long bits w rest h = omega (arith, length-drop w bits, h)

-- words of bits have the number of the bits as their rank
pub rank_words : (rs : List Read) (bits : List Bool) → length bits ≡ width_of rs → rank rs (words_at bits rs) ≡ number bits
rank_words [] [] h = refl
rank_words [] (b ∷ bits) h = absurd (omega (arith, h))
rank_words (r ∷ rs) bits h =
    let rest : length (drop r.width bits) ≡ width_of rs = drop_long bits r.width (width_of rs) (h ∙ width_cons r rs) in
    let split : number bits ≡ number (take r.width bits) * 2 ^ length (drop r.width bits) + number (drop r.width bits) = ap number (sym (take-append-drop r.width bits)) ∙ number-append (take r.width bits) (drop r.width bits) in
    let power : number (take r.width bits) * 2 ^ length (drop r.width bits) ≡ number (take r.width bits) * 2 ^ width_of rs = ap (λ (n : ℕ). number (take r.width bits) * 2 ^ n) rest in
    omega (arith, rank_words rs (drop r.width bits) rest, split, power)

pub are_words : (rs : List Read) (bits : List Bool) → length bits ≡ width_of rs → AreWords rs (words_at bits rs)
are_words [] bits h = tt
are_words (r ∷ rs) bits h =
    let count : length (take r.width bits) ≡ r.width = length-take-le r.width bits (omega (arith, h, width_cons r rs)) in
    (subst (λ (n : ℕ). number (take r.width bits) < 2 ^ n) count (number-below (take r.width bits)), are_words rs (drop r.width bits) (drop_long bits r.width (width_of rs) (h ∙ width_cons r rs)))

-- each number below a power is spelled by so many bits
pub spelled_by : (n k : ℕ) → k < 2 ^ n → (bits : List Bool) × (length bits ≡ n) × (number bits ≡ k)
spelled_by zero k h = ([], refl, omega (arith, h))
spelled_by (suc n) k h = elim (cases_lt k (2 ^ n)) [
  | inl low ↦ let rest = spelled_by n k low in (false ∷ rest.0, ap (λ (x : ℕ). suc x) rest.1, omega (arith, rest.2))
  | inr high ↦
      let rest = spelled_by n (k - 2 ^ n) (omega (arith, h, pow-succ' 2 n)) in
      let power : 2 ^ length rest.0 ≡ 2 ^ n = ap (λ (x : ℕ). 2 ^ x) rest.1 in
      (true ∷ rest.0, ap (λ (x : ℕ). suc x) rest.1, omega (arith, rest.2, power, high))
]

-- each list of words is that of some bits
pub bits_for : (rs : List Read) (ws : List ℕ) → AreWords rs ws → (bits : List Bool) × (length bits ≡ width_of rs) × (words_at bits rs ≡ ws)
bits_for rs ws are =
    let found = spelled_by (width_of rs) (rank rs ws) (rank-below rs ws are) in
    (found.0, found.1, one_rank rs (words_at found.0 rs) ws (are_words rs found.0 found.1) are (rank_words rs found.0 found.1 ∙ found.2))

-- the bits of one input
word_number : (bits : List Bool) (first width lowest : ℕ) → lowest + 1 ≡ first + width → first + width ≤ length bits → word_before bits lowest width ≡ number (take width (drop first bits))
word_number bits first zero lowest e h = refl
word_number bits first (suc width) lowest e h =
    let here : first < length bits = omega (arith, h) in
    let place : lowest - width ≡ first = omega (arith, e) in
    let rest : word_before bits lowest width ≡ number (take width (drop (first + 1) bits)) = word_number bits (first + 1) width lowest (omega (arith, e)) (omega (arith, h)) in
    let many : length (take width (drop (first + 1) bits)) ≡ width = length-take-le width (drop (first + 1) bits) (omega (arith, length-drop (first + 1) bits, h)) in
    let bit : weight (slice_index_or bits (lowest - width) false) width ≡ weight (get_or bits first false) (length (take width (drop (first + 1) bits))) = ap (λ (i : ℕ). weight (slice_index_or bits i false) width) place ∙ ap (weight (get_or bits first false)) (sym many) in
    let front : number (take (suc width) (drop first bits)) ≡ weight (get_or bits first false) (length (take width (drop (first + 1) bits))) + number (take width (drop (first + 1) bits)) = ap (λ (xs : List Bool). number (take (suc width) xs)) (drop_more bits first false here) in
    omega (arith, rest, bit, front)

-- the words that bits spell for the inputs of a circuit
abbrev pub entry_words : List Bool → List InputBits → List ℕ
entry_words bits es = map (λ (e : InputBits). word_before bits e.lowest e.width) es

pub entry_words_at : (bits : List Bool) (first : ℕ) (es : List InputBits) → AreInputBits first es → first + bits_of es ≤ length bits → entry_words bits es ≡ words_at (drop first bits) (map read_of es)
entry_words_at bits first [] are h = refl
entry_words_at bits first (e ∷ es) are h =
    let rest : entry_words bits es ≡ words_at (drop (first + e.width) bits) (map read_of es) = entry_words_at bits (first + e.width) es are.4 (omega (arith, h)) in
    ap (λ (w : ℕ). w ∷ entry_words bits es) (word_number bits first e.width e.lowest are.2 (omega (arith, h)))
    ∙ ap (λ (ws : List ℕ). number (take e.width (drop first bits)) ∷ ws) (rest ∙ ap (λ (xs : List Bool). words_at xs (map read_of es)) (sym (drop-drop e.width first bits)))

-- how many bits the inputs have
pub entries_width : (es : List InputBits) → width_of (map read_of es) ≡ bits_of es
entries_width [] = refl
entries_width (e ∷ es) = omega (arith, width_cons (read_of e) (map read_of es), entries_width es)

pub given_word : (bits : List Bool) (es : List InputBits) (n k : ℕ) → listed (given_by bits es) n k ≡ word_at (map read_of es) (entry_words bits es) n k
given_word bits [] n k = refl
given_word bits (e ∷ es) n k = ap (λ (rest : ℕ). if nat_eq e.node n && nat_eq e.index k then word_before bits e.lowest e.width else rest) (given_word bits es n k)

behind_valuation : (n k : ℕ) (rs : List Read) (ws : List ℕ) → AllByRecursion (RisesBehind n k) rs → AllByRecursion (λ (g : Given). precedes n k g.node g.index ≡ true) (valuation_of rs ws)
behind_valuation n k [] ws all = tt
behind_valuation n k (r ∷ rs) [] all = tt
behind_valuation n k (r ∷ rs) (w ∷ ws) all = go (behind_valuation n k rs ws all.1) (nat_eq w 0) where
  go : AllByRecursion (λ (g : Given). precedes n k g.node g.index ≡ true) (valuation_of rs ws) → (b : Bool) → AllByRecursion (λ (g : Given). precedes n k g.node g.index ≡ true) (if b then valuation_of rs ws else record { node = r.node; index = r.index; word = w } ∷ valuation_of rs ws)
  go more true = more
  go more false = (all.0, more)

-- the valuation of words gives each input its word
pub listed_word : (rs : List Read) (ws : List ℕ) (n k : ℕ) → AreRising rs → listed (valuation_of rs ws) n k ≡ word_at rs ws n k
listed_word [] ws n k h = refl
listed_word (r ∷ rs) [] n k h = refl
listed_word (r ∷ rs) (w ∷ ws) n k h = go (listed_word rs ws n k h.1) (nat_eq w 0) refl (nat_eq r.node n && nat_eq r.index k) refl where
  go : listed (valuation_of rs ws) n k ≡ word_at rs ws n k → (z : Bool) → nat_eq w 0 ≡ z → (b : Bool) → (nat_eq r.node n && nat_eq r.index k) ≡ b
      → listed (if z then valuation_of rs ws else record { node = r.node; index = r.index; word = w } ∷ valuation_of rs ws) n k ≡ (if b then w else word_at rs ws n k)
  go more true e true own =
      let s = both_true (nat_eq r.node n) (nat_eq r.index k) own in
      let none : listed (valuation_of rs ws) r.node r.index ≡ 0 = absent r.node r.index (valuation_of rs ws) (behind_valuation r.node r.index rs ws h.0) in
      ap (λ (m : ℕ). listed (valuation_of rs ws) m k) (sym (eqb-true r.node n s.0)) ∙ (ap (λ (j : ℕ). listed (valuation_of rs ws) r.node j) (sym (eqb-true r.index k s.1)) ∙ (none ∙ sym (eqb-true w 0 e)))
  go more true e false own = more
  go more false e true own = ap (λ (b : Bool). if b then w else listed (valuation_of rs ws) n k) own
  go more false e false own = ap (λ (b : Bool). if b then w else listed (valuation_of rs ws) n k) own ∙ more

positive_word : (w : ℕ) → nat_eq w 0 ≡ false → 0 < w
positive_word w e = grind arith

pub valuation_entries : (rs : List Read) (ws : List ℕ) → AreRising rs → AreEntries (valuation_of rs ws)
valuation_entries [] ws h = tt
valuation_entries (r ∷ rs) [] h = tt
valuation_entries (r ∷ rs) (w ∷ ws) h = go (valuation_entries rs ws h.1) (nat_eq w 0) refl where
  go : AreEntries (valuation_of rs ws) → (z : Bool) → nat_eq w 0 ≡ z → AreEntries (if z then valuation_of rs ws else record { node = r.node; index = r.index; word = w } ∷ valuation_of rs ws)
  go more true e = more
  go more false e = (positive_word w e, behind_valuation r.node r.index rs ws h.0, more)

-- the words that a table has for the inputs, cut to the widths
abbrev pub words_by : (ℕ → ℕ → ℕ) → List Read → List ℕ
words_by f rs = map (λ (r : Read). f r.node r.index % 2 ^ r.width) rs

pub words_by_are : (f : ℕ → ℕ → ℕ) (rs : List Read) → AreWords rs (words_by f rs)
words_by_are f [] = tt
words_by_are f (r ∷ rs) = (mod-lt (f r.node r.index) (pow_pos r.width), words_by_are f rs)

mod_one : (m : ℕ) → 0 ≡ m % 2 ^ 0
mod_one m = omega (arith, mod-lt m (pow_pos 0))

pub word_at_by : (f : ℕ → ℕ → ℕ) (rs : List Read) (n k : ℕ) → word_at rs (words_by f rs) n k ≡ f n k % 2 ^ width_at rs n k
word_at_by f [] n k = mod_one (f n k)
word_at_by f (r ∷ rs) n k = go (word_at_by f rs n k) (nat_eq r.node n && nat_eq r.index k) refl where
  go : word_at rs (words_by f rs) n k ≡ f n k % 2 ^ width_at rs n k → (b : Bool) → (nat_eq r.node n && nat_eq r.index k) ≡ b
      → (if b then f r.node r.index % 2 ^ r.width else word_at rs (words_by f rs) n k) ≡ f n k % 2 ^ (if b then r.width else width_at rs n k)
  go more true own =
      let s = both_true (nat_eq r.node n) (nat_eq r.index k) own in
      ap (λ (m : ℕ). f m r.index % 2 ^ r.width) (eqb-true r.node n s.0) ∙ ap (λ (j : ℕ). f n j % 2 ^ r.width) (eqb-true r.index k s.1)
  go more false own = more

-- the words of a valuation, cut to the widths
abbrev pub cut_words : Valuation → List Read → List ℕ
cut_words a rs = words_by (listed a) rs

pub cut_are_words : (a : Valuation) (rs : List Read) → AreWords rs (cut_words a rs)
cut_are_words a rs = words_by_are (listed a) rs

pub cut_word_at : (a : Valuation) (rs : List Read) (n k : ℕ) → word_at rs (cut_words a rs) n k ≡ listed a n k % 2 ^ width_at rs n k
cut_word_at a rs n k = word_at_by (listed a) rs n k
