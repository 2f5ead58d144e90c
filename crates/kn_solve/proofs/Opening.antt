-- The circuit of a term, as what is asked of it.
use Rattle.std.proofs.Common.{◌≡◌, ℕ, zero, suc, ◌+◌, ◌-◌, ◌^◌, ◌%◌, ◌<◌, ◌≤◌, Bool, true, false, List, [], ◌∷◌, ◌++◌, length, map, flat_map, max, get_or, Some, refl, sym, ap, subst, ◌∙◌, inl, inr, arith}
use Rattle.std.specs.Prelude.{◌&&◌, nat_eq, not, if◌then◌else◌, slice_get, Vec}
use Rattle.std.specs.declared.alloc.Global.{Global}
use Rattle.std.specs.List.{AllByRecursion}
use Rattle.std.proofs.lemmas.Bool.{cases_lt, eqb-true, eq-eqb}
use Rattle.std.proofs.lemmas.Option.{slice_get-get_or}
use Rattle.std.proofs.Math.Pow.{mod-mod-pow}
use Rattle.kn_built.proofs.Deciding.{both_true}
use Rattle.kn_aig.specs.declared.gates.Edge.{Edge}
use Rattle.kn_aig.specs.declared.gates.AigNode.{AigNode}
use Rattle.kn_term.specs.declared.node.Node.{Node}
use Rattle.kn_term.specs.declared.node.Node.TheVariants as nodes
use Rattle.kn_term.specs.declared.node.Ref.{Ref}
use Rattle.kn_term.specs.declared.node.Literal.{Literal as Listed}
use Rattle.kn_term.specs.Terms.{Term, Word, Input, Apply, Choice, Valuation, Reads, listed, ev, WordsByInputs}
use Rattle.kn_term.specs.Nodes.{term_of, terms_of, term_at, IsNodeAt, AreNodes}
use Rattle.kn_term.specs.Valuations.{OneList}
use Rattle.kn_term.proofs.Kept.{term_at-node}
use Rattle.kn_cond.specs.Conditions.{Read, Query, reads_in, reads_of, widest}
use Rattle.kn_cond.specs.Meanings.{condition_of, StandIn}
use Rattle.kn_cond.proofs.Kept.{StandIn-rest}
use Rattle.kn_blast.specs.declared.inputs.InputBits.{InputBits}
use Rattle.kn_blast.specs.Spelling.{number, Has}
use Rattle.kn_blast.specs.Inputs.{width_of, IsGivenBy, AreInputBits, Covers}
use Rattle.kn_blast.specs.Reached.{RootsRead}
use Rattle.kn_blast.proofs.Opened.{one_root}
use Rattle.kn_solve.specs.Formulas.{Asked, query_of, column_of, ColumnsStand}
use Rattle.kn_solve.specs.Wholes.{whole}
use Rattle.kn_solve.specs.Asking.{width_at, read_of, IsOfTerm, IsCircuitOf}
use Rattle.kn_solve.proofs.Widest.{greatest, greatest_append, widest_greatest, widest_rising, ArePositive, widest_positive, rising_width, same_reads}
use Rattle.kn_solve.proofs.Wholly.{all_reads, whole_widest}
use Rattle.kn_solve.proofs.Meeting.{meets_whole}
use Rattle.kn_solve.proofs.Answering.{entries_rising}

all_append : {A : Type 0} → (P : A → Type 0) (xs ys : List A) → AllByRecursion P xs → AllByRecursion P ys → AllByRecursion P (xs ++ ys)
all_append P [] ys h g = g
all_append P (x ∷ xs) ys h g = (h.0, all_append P xs ys h.1 g)

-- each input that a term of a list reads has a bit
node_positive : (ns : List Node) (place : ℕ) (n : Node) → IsNodeAt place n → ((earlier : ℕ) → earlier < place → ArePositive (reads_in (term_at ns earlier))) → ArePositive (reads_in (term_of (terms_of ns) n))
node_positive ns place (nodes.Konst w) h each = tt
node_positive ns place (nodes.Input n k width) h each = (omega (arith, h.0), tt)
node_positive ns place (nodes.Apply op x y) h each = all_append (λ (r : Read). 0 < r.width) (reads_in (term_at ns x.index)) (reads_in (term_at ns y.index)) (each x.index h.0) (each y.index h.1)
node_positive ns place (nodes.Ite c x y) h each =
    all_append (λ (r : Read). 0 < r.width) (reads_in (term_at ns c.index)) (reads_in (term_at ns x.index) ++ reads_in (term_at ns y.index)) (each c.index h.0)
    (all_append (λ (r : Read). 0 < r.width) (reads_in (term_at ns x.index)) (reads_in (term_at ns y.index)) (each x.index h.1) (each y.index h.2))

positive_below : (ns : List Node) → AreNodes ns → (count place : ℕ) → place < count → place < length ns → ArePositive (reads_in (term_at ns place))
positive_below ns are zero place h within = absurd (omega (arith, h))
positive_below ns are (suc count) place h within =
    let n = get_or ns place (nodes.Konst 0) in
    let is : slice_get ns place ≡ Some n = slice_get-get_or ns place (nodes.Konst 0) within in
    let stands : IsNodeAt place n = are place n is in
    let each : (earlier : ℕ) → earlier < place → ArePositive (reads_in (term_at ns earlier)) = λ earlier below. positive_below ns are count earlier (omega (arith, h, below)) (omega (arith, within, below)) in
    subst (λ (t : Term). ArePositive (reads_in t)) (sym (term_at-node ns place n within is stands)) (node_positive ns place n stands each)

pub term_positive : (ns : List Node) (place : ℕ) → AreNodes ns → place < length ns → ArePositive (reads_in (term_at ns place))
term_positive ns place are h = positive_below ns are (suc place) place (omega arith) h

condition_positive : (ns : List Node) (ls : List Listed) → AreNodes ns → StandIn ns ls → ArePositive (reads_of (condition_of ns ls))
condition_positive ns [] are stand = tt
condition_positive ns (l ∷ ls) are stand =
    all_append (λ (r : Read). 0 < r.width) (reads_in (term_at ns l.term.index)) (reads_of (condition_of ns ls)) (term_positive ns l.term.index are (stand zero l refl)) (condition_positive ns ls are (StandIn-rest ns l ls stand))

column_positive : (ns : List Node) (cs : List (List Listed)) → AreNodes ns → AllByRecursion (StandIn ns) cs → ArePositive (flat_map reads_of (map (condition_of ns) cs))
column_positive ns [] are all = tt
column_positive ns (c ∷ cs) are all = all_append (λ (r : Read). 0 < r.width) (reads_of (condition_of ns c)) (flat_map reads_of (map (condition_of ns) cs)) (condition_positive ns c are all.0) (column_positive ns cs are all.1)

columns_positive : (ns : List Node) (css : List (Vec (List Listed) Global)) → AreNodes ns → ColumnsStand ns css → ArePositive (flat_map (λ cs. flat_map reads_of cs) (map (column_of ns) css))
columns_positive ns [] are all = tt
columns_positive ns (cs ∷ css) are all =
    all_append (λ (r : Read). 0 < r.width) (flat_map reads_of (column_of ns cs)) (flat_map (λ ds. flat_map reads_of ds) (map (column_of ns) css)) (column_positive ns cs.items are all.0) (columns_positive ns css are all.1)

-- each input that a formula reads has a bit
pub formula_positive : (ns : List Node) (ls : List Listed) (css : List (Vec (List Listed) Global)) → AreNodes ns → StandIn ns ls → ColumnsStand ns css → ArePositive (all_reads (record { condition = condition_of ns ls; columns = map (column_of ns) css }))
formula_positive ns ls css are stand all =
    all_append (λ (r : Read). 0 < r.width) (reads_of (condition_of ns ls)) (flat_map (λ cs. flat_map reads_of cs) (map (column_of ns) css)) (condition_positive ns ls are stand) (columns_positive ns css are all)

-- what a formula asks is that its term is not 0
pub formula_of_term : OneList → (f : Asked) (t : Term) → t ≡ whole f → ArePositive (all_reads f) → ArePositive (reads_in t) → IsOfTerm (query_of f) t
formula_of_term law f t is positive own = record {
  reads = same_reads law (widest (all_reads f)) (widest (reads_in t)) (widest_rising (all_reads f)) (widest_rising (reads_in t)) (widest_positive (all_reads f) positive) (widest_positive (reads_in t) own) (λ n k.
      rising_width (widest (all_reads f)) n k (widest_rising (all_reads f))
      ∙ (widest_greatest (all_reads f) n k
      ∙ (sym (whole_widest f n k)
      ∙ (ap (λ (u : Term). greatest (reads_in u) n k) (sym is)
      ∙ (sym (widest_greatest (reads_in t) n k)
      ∙ sym (rising_width (widest (reads_in t)) n k (widest_rising (reads_in t))))))));
  meets = λ a. meets_whole f a ∙ ap (λ (u : Term). not (nat_eq (ev a u) 0)) (sym is);
}

-- the greatest width with which a term reads an input is covered
covered_widest : (es : List InputBits) (t : Term) (n k : ℕ) → Covers es t → greatest (reads_in t) n k ≤ width_of es n k
covered_widest es (Word w) n k covers = omega arith
covered_widest es (Input m j bits) n k covers = go (nat_eq m n && nat_eq j k) refl where
  go : (b : Bool) → (nat_eq m n && nat_eq j k) ≡ b → max (if b then bits else 0) 0 ≤ width_of es n k
  go true e = let s = both_true (nat_eq m n) (nat_eq j k) e in omega (arith, covers n k bits (sym (eqb-true m n s.0), sym (eqb-true j k s.1), refl))
  go false e = omega arith
covered_widest es (Apply op x y) n k covers =
    omega (arith, greatest_append (reads_in x) (reads_in y) n k, covered_widest es x n k (λ m j w r. covers m j w (inl r)), covered_widest es y n k (λ m j w r. covers m j w (inr r)))
covered_widest es (Choice c x y) n k covers =
    omega (arith, greatest_append (reads_in c) (reads_in x ++ reads_in y) n k, greatest_append (reads_in x) (reads_in y) n k, covered_widest es c n k (λ m j w r. covers m j w (inl r)), covered_widest es x n k (λ m j w r. covers m j w (inr (inl r))), covered_widest es y n k (λ m j w r. covers m j w (inr (inr r))))

-- each width with which a term reads an input is at most the greatest
pub read_widest : (t : Term) (n k width : ℕ) → Reads n k width t → width ≤ greatest (reads_in t) n k
read_widest (Word w) n k width h = absurd h
read_widest (Input m j bits) n k width h =
    let own : (if nat_eq m n && nat_eq j k then bits else 0) ≡ bits = rw (eq-eqb m n (sym h.0), eq-eqb j k (sym h.1)) refl in
    omega (arith, own, h.2)
read_widest (Apply op x y) n k width (inl h) = omega (arith, greatest_append (reads_in x) (reads_in y) n k, read_widest x n k width h)
read_widest (Apply op x y) n k width (inr h) = omega (arith, greatest_append (reads_in x) (reads_in y) n k, read_widest y n k width h)
read_widest (Choice c x y) n k width (inl h) = omega (arith, greatest_append (reads_in c) (reads_in x ++ reads_in y) n k, read_widest c n k width h)
read_widest (Choice c x y) n k width (inr (inl h)) = omega (arith, greatest_append (reads_in c) (reads_in x ++ reads_in y) n k, greatest_append (reads_in x) (reads_in y) n k, read_widest x n k width h)
read_widest (Choice c x y) n k width (inr (inr h)) = omega (arith, greatest_append (reads_in c) (reads_in x ++ reads_in y) n k, greatest_append (reads_in x) (reads_in y) n k, read_widest y n k width h)

-- the widths that were opened are the greatest
opened_widest : (es : List InputBits) (t : Term) (n k : ℕ) → Covers es t → (0 < width_of es n k → Reads n k (width_of es n k) t) → greatest (reads_in t) n k ≡ width_of es n k
opened_widest es t n k covers read = elim (cases_lt 0 (width_of es n k)) [
  | inl h ↦ omega (arith, covered_widest es t n k covers, read_widest t n k (width_of es n k) (read h))
  | inr h ↦ omega (arith, covered_widest es t n k covers, h)
]

entries_width_at : (es : List InputBits) (n k : ℕ) → width_at (map read_of es) n k ≡ width_of es n k
entries_width_at [] n k = refl
entries_width_at (e ∷ es) n k = ap (λ (rest : ℕ). if nat_eq e.node n && nat_eq e.index k then e.width else rest) (entries_width_at es n k)

entries_positive : (first : ℕ) (es : List InputBits) → AreInputBits first es → ArePositive (map read_of es)
entries_positive first [] h = tt
entries_positive first (e ∷ es) h = (omega (arith, h.0), entries_positive (first + e.width) es h.4)

-- the words of a valuation, cut to fewer bits
pub cut_shorter : (w width whole : ℕ) → width ≤ whole → w % 2 ^ whole % 2 ^ width ≡ w % 2 ^ width
cut_shorter w width whole h = let parts : whole ≡ (whole - width) + width = omega (arith, h) in ap (λ (n : ℕ). w % 2 ^ n % 2 ^ width) parts ∙ mod-mod-pow w (whole - width) width

-- the inputs that were opened for a term are those that it reads
pub opened_reads : OneList → (q : Query) (ns : List Node) (r : Ref) (es : List InputBits) → IsOfTerm q (term_at ns r.index) → AreNodes ns → r.index < length ns → AreInputBits 0 es → Covers es (term_at ns r.index)
    → ((n k : ℕ) → 0 < width_of es n k → RootsRead ns (r ∷ []) n k (width_of es n k)) → q.reads ≡ map read_of es
opened_reads law q ns r es asked are within order covers read =
    let t = term_at ns r.index in
    let of_root : (n k : ℕ) → 0 < width_of es n k → Reads n k (width_of es n k) t = λ n k h.
    let found = read n k h in one_root (λ (s : Ref). Reads n k (width_of es n k) (term_at ns s.index) → Reads n k (width_of es n k) t) r (λ x. x) found.0 found.1 found.2 found.3 in
    let widths : (n k : ℕ) → width_at (widest (reads_in t)) n k ≡ greatest (reads_in t) n k = λ n k. rising_width (widest (reads_in t)) n k (widest_rising (reads_in t)) ∙ widest_greatest (reads_in t) n k in
    asked.reads
    ∙ same_reads law (widest (reads_in t)) (map read_of es) (widest_rising (reads_in t)) (entries_rising 0 es order) (widest_positive (reads_in t) (term_positive ns r.index are within)) (entries_positive 0 es order) (λ n k.
    widths n k ∙ (opened_widest es t n k covers (of_root n k) ∙ sym (entries_width_at es n k)))

-- the circuit of a term that is asked not to be 0
pub circuit_of_term : OneList → WordsByInputs → (q : Query) (ns : List Node) (r : Ref) (es : List InputBits) (old new : List AigNode) (word : List Edge) (e : Edge) → IsOfTerm q (term_at ns r.index) → AreNodes ns → r.index < length ns → AreInputBits 0 es → Covers es (term_at ns r.index)
    → ((n k : ℕ) → 0 < width_of es n k → RootsRead ns (r ∷ []) n k (width_of es n k)) → ((bits : List Bool) (a : Valuation) → IsGivenBy bits es a → number bits old word ≡ ev a (term_at ns r.index))
    → Has new e (λ bits. not (nat_eq (number bits old word) 0)) → IsCircuitOf q es new e
circuit_of_term law words q ns r es old new word e asked are within order covers read value has =
    let t = term_at ns r.index in
    let widths : (n k : ℕ) → width_at (widest (reads_in t)) n k ≡ greatest (reads_in t) n k = λ n k. rising_width (widest (reads_in t)) n k (widest_rising (reads_in t)) ∙ widest_greatest (reads_in t) n k in
    let all : (n k width : ℕ) → Reads n k width t → width ≤ width_at q.reads n k = λ n k width reads.
    subst (λ (w : ℕ). width ≤ w) (sym (ap (λ (rs : List Read). width_at rs n k) asked.reads ∙ widths n k)) (read_widest t n k width reads) in
    record {
      reads = opened_reads law q ns r es asked are within order covers read;
      value = λ bits a given. has.value bits ∙ (ap (λ (w : ℕ). not (nat_eq w 0)) (value bits a given) ∙ sym (asked.meets a));
      depends = λ a b same.
          asked.meets a
          ∙ (ap (λ (w : ℕ). not (nat_eq w 0)) (words t a b (λ n k width reads.
          sym (cut_shorter (listed a n k) width (width_at q.reads n k) (all n k width reads)) ∙ (ap (λ (w : ℕ). w % 2 ^ width) (same n k) ∙ cut_shorter (listed b n k) width (width_at q.reads n k) (all n k width reads))))
          ∙ sym (asked.meets b));
    }
