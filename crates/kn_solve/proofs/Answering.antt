-- From what a search over clauses found to what is known of the inputs of a network.
use Rattle.std.proofs.Common.{◌≡◌, ℕ, zero, suc, ◌+◌, ◌^◌, ◌%◌, ◌<◌, ◌≤◌, Bool, true, false, List, [], ◌∷◌, length, map, refl, sym, ap, subst, ◌∙◌, inl, inr, arith}
use Rattle.std.specs.Prelude.{Contains}
use Rattle.std.specs.List.{AllByRecursion}
use Rattle.std.proofs.lemmas.Bool.{cases_lt}
use Rattle.std.proofs.Math.Nat.{mod-mod}
use Rattle.kn_built.proofs.Sorted.{All-each}
use Rattle.kn_aig.specs.declared.gates.Edge.{Edge}
use Rattle.kn_aig.specs.declared.gates.AigNode.{AigNode}
use Rattle.kn_aig.specs.Circuits.{value_of, inputs_of}
use Rattle.kn_term.specs.Terms.{Valuation, listed}
use Rattle.kn_term.specs.Valuations.{AreEntries, OneList}
use Rattle.kn_cond.specs.Conditions.{Read, Query, AreWords, valuation_of, ComesBefore, MeetsWith, IsLeast, IsImpossible, IsFar, AreDistinct}
use Rattle.kn_cnf.specs.Formulas.{Formula}
use Rattle.kn_cnf.specs.Truth.{AreNeverMet}
use Rattle.kn_cnf.specs.Encoding.{IsEncoding, IsExtendable}
use Rattle.kn_sat.specs.Order.{number, Extends, AreRefuted}
use Rattle.kn_blast.specs.declared.inputs.InputBits.{InputBits}
use Rattle.kn_blast.specs.Inputs.{bits_of, IsGivenBy, AreInputBits, IsBefore}
use Rattle.kn_solve.specs.Orders.{width_of, rank, word_at}
use Rattle.kn_solve.specs.Asking.{RisesBehind, AreRising, width_at, read_of, IsCircuitOf}
use Rattle.kn_solve.proofs.Ranks.{lower_before, before_lower}
use Rattle.kn_solve.proofs.Splitting.{words_at, rank_words, are_words, spelled_by, bits_for, entry_words_at, entries_width, given_word, listed_word, valuation_entries, cut_words, cut_are_words, cut_word_at}

behind_entries : (e : InputBits) (es : List InputBits) → AllByRecursion (IsBefore e) es → AllByRecursion (RisesBehind e.node e.index) (map read_of es)
behind_entries e [] all = tt
behind_entries e (f ∷ es) all = (all.0, behind_entries e es all.1)

-- the inputs of a circuit are in order
pub entries_rising : (first : ℕ) (es : List InputBits) → AreInputBits first es → AreRising (map read_of es)
entries_rising first [] h = tt
entries_rising first (e ∷ es) h = (behind_entries e es h.3, entries_rising (first + e.width) es h.4)

-- the words of bits are what the bits spell
given_words : (bits : List Bool) (es : List InputBits) → AreInputBits 0 es → length bits ≡ bits_of es → IsGivenBy bits es (valuation_of (map read_of es) (words_at bits (map read_of es)))
given_words bits es h long n k =
    listed_word (map read_of es) (words_at bits (map read_of es)) n k (entries_rising 0 es h)
    ∙ (ap (λ (ws : List ℕ). word_at (map read_of es) ws n k) (sym (entry_words_at bits 0 es h (omega (arith, long)))) ∙ sym (given_word bits es n k))

-- what is known where a circuit has the value of what is asked
module _ (q : Query) (es : List InputBits) (ns : List AigNode) (e : Edge) (circuit : IsCircuitOf q es ns e) (order : AreInputBits 0 es) (many : inputs_of ns ≡ bits_of es) where
  all_bits : width_of q.reads ≡ inputs_of ns
  all_bits = ap width_of circuit.reads ∙ (entries_width es ∙ sym many)

  rising : AreRising q.reads
  rising = subst AreRising (sym circuit.reads) (entries_rising 0 es order)

  given : (bits : List Bool) → length bits ≡ inputs_of ns → IsGivenBy bits es (valuation_of q.reads (words_at bits q.reads))
  given bits long = subst (λ (rs : List Read). IsGivenBy bits es (valuation_of rs (words_at bits rs))) (sym circuit.reads) (given_words bits es order (long ∙ many))

  meets_at : (bits : List Bool) → length bits ≡ inputs_of ns → value_of bits ns e ≡ q.meets (valuation_of q.reads (words_at bits q.reads))
  meets_at bits long = circuit.value bits (valuation_of q.reads (words_at bits q.reads)) (given bits long)

  -- words that meet it are not among those that were refuted
  none_below : (f : Formula) (below : ℕ) → IsExtendable ns e f → AreRefuted (inputs_of ns) f.clauses below → (ws : List ℕ) → MeetsWith q ws → rank q.reads ws < below → ⊥
  none_below f below extends refuted ws meets h =
      let found = bits_for q.reads ws meets.0 in
      let long : length found.0 ≡ inputs_of ns = found.1 ∙ all_bits in
      let place : number found.0 ≡ rank q.reads ws = sym (rank_words q.reads found.0 found.1) ∙ ap (rank q.reads) found.2 in
      let holds : value_of found.0 ns e ≡ true = meets_at found.0 long ∙ (ap (λ (vs : List ℕ). q.meets (valuation_of q.reads vs)) found.2 ∙ meets.1) in
      let extended = extends found.0 long holds in
      refuted found.0 long (omega (arith, place, h)) (extended.0, extended.1, extended.2)

  -- the least model is that of the least inputs
  pub model_least : (f : Formula) (bits : List Bool) (a : Valuation) → OneList → IsEncoding ns e f → IsExtendable ns e f → length bits ≡ inputs_of ns → Extends (inputs_of ns) f.clauses bits → AreRefuted (inputs_of ns) f.clauses (number bits) → IsGivenBy bits es a → AreEntries a → IsLeast q a
  model_least f bits a law exact extends long model refuted spelled entries =
      let words = words_at bits q.reads in
      let wide : length bits ≡ width_of q.reads = long ∙ sym all_bits in
      let made = exact.meets model.0 model.2 in
      let holds : value_of bits ns e ≡ true = subst (λ (bs : List Bool). value_of bs ns e ≡ true) model.1 made.1 in
      let are = are_words q.reads bits wide in
      record {
        given_words = words;
        is = law a (valuation_of q.reads words) entries (valuation_entries q.reads words rising) (λ n k. spelled n k ∙ sym (given bits long n k));
        meet = (are, sym (meets_at bits long) ∙ holds);
        least = λ ws meets before. none_below f (number bits) extends refuted ws meets (subst (λ (n : ℕ). rank q.reads ws < n) (rank_words q.reads bits wide) (before_lower q.reads ws words meets.0 are before));
      }

  -- clauses that are never met
  pub never_meets : (f : Formula) → IsExtendable ns e f → AreNeverMet f.clauses → IsImpossible q
  never_meets f extends never a = go (q.meets a) refl where
    cut : q.meets (valuation_of q.reads (cut_words a q.reads)) ≡ q.meets a
    cut = circuit.depends (valuation_of q.reads (cut_words a q.reads)) a (λ n k.
        ap (λ (w : ℕ). w % 2 ^ width_at q.reads n k) (listed_word q.reads (cut_words a q.reads) n k rising ∙ cut_word_at a q.reads n k) ∙ mod-mod (listed a n k) (2 ^ width_at q.reads n k))

    go : (b : Bool) → q.meets a ≡ b → b ≡ false
    go false h = refl
    go true h =
        let found = bits_for q.reads (cut_words a q.reads) (cut_are_words a q.reads) in
        let long : length found.0 ≡ inputs_of ns = found.1 ∙ all_bits in
        let holds : value_of found.0 ns e ≡ true = meets_at found.0 long ∙ (ap (λ (vs : List ℕ). q.meets (valuation_of q.reads vs)) found.2 ∙ (cut ∙ h)) in
        let extended = extends found.0 long holds in
        absurd (never extended.0 extended.2)

-- so many different lists of words, all of a lower rank
record Tried (rs : List Read) (count : ℕ) : Type 0 where
  lists : List (List ℕ)
  many : length lists ≡ count
  distinct : AreDistinct lists
  each : AllByRecursion (λ (ws : List ℕ). AreWords rs ws × (rank rs ws < count)) lists

pub contained : {A : Type 0} → (P : A → Type 0) (xs : List A) (x : A) → AllByRecursion P xs → Contains xs x → P x
contained P [] x all (i, h, e) = absurd (omega (arith, h))
contained P (y ∷ ys) x all (zero, h, e) = subst P e all.0
contained P (y ∷ ys) x all (suc i, h, e) = contained P ys x all.1 (i, omega (arith, h), e)

tried : (rs : List Read) (count : ℕ) → count ≤ 2 ^ width_of rs → Tried rs count
tried rs zero h = record { lists = []; many = refl; distinct = tt; each = tt }
tried rs (suc k) h =
    let before = tried rs k (omega (arith, h)) in
    let found = spelled_by (width_of rs) k (omega (arith, h)) in
    let words = words_at found.0 rs in
    let place : rank rs words ≡ k = rank_words rs found.0 found.1 ∙ found.2 in
    let apart : Contains before.lists words → ⊥ = λ among. omega (arith, (contained (λ (ws : List ℕ). AreWords rs ws × (rank rs ws < k)) before.lists words before.each among).1, place) in
    record {
      lists = words ∷ before.lists;
      many = ap (λ (n : ℕ). suc n) before.many;
      distinct = (apart, before.distinct);
      each = ((are_words rs found.0 found.1, omega (arith, place)), All-each (λ (ws : List ℕ). AreWords rs ws × (rank rs ws < k)) (λ (ws : List ℕ). AreWords rs ws × (rank rs ws < suc k)) (λ ws h. (h.0, omega (arith, h.1))) before.lists before.each);
    }

-- a budget that was spent
pub spent_far : (q : Query) (es : List InputBits) (ns : List AigNode) (e : Edge) (f : Formula) (budget : ℕ) → IsCircuitOf q es ns e → AreInputBits 0 es → inputs_of ns ≡ bits_of es → IsExtendable ns e f → budget < 2 ^ inputs_of ns → AreRefuted (inputs_of ns) f.clauses budget → IsFar budget q
spent_far q es ns e f budget circuit order many extends few refuted =
    let power : 2 ^ width_of q.reads ≡ 2 ^ inputs_of ns = ap (λ (n : ℕ). 2 ^ n) (all_bits q es ns e circuit order many) in
    let first = tried q.reads budget (omega (arith, power, few)) in
    let behind : (ws : List ℕ) → AreWords q.reads ws × (rank q.reads ws < budget) → (vs : List ℕ) → MeetsWith q vs → ComesBefore ws vs =
    λ ws h vs meets. elim (cases_lt (rank q.reads vs) budget) [
      | inl low ↦ absurd (none_below q es ns e circuit order many f budget extends refuted vs meets low)
      | inr high ↦ lower_before q.reads ws vs h.0 meets.0 (omega (arith, h.1, high))
    ] in
    record {
      large = λ small. omega (arith, small, power, few);
      tried = first.lists;
      many = first.many;
      distinct = first.distinct;
      each = All-each (λ (ws : List ℕ). AreWords q.reads ws × (rank q.reads ws < budget)) (AreWords q.reads) (λ ws h. h.0) first.lists first.each;
      before = All-each (λ (ws : List ℕ). AreWords q.reads ws × (rank q.reads ws < budget)) (λ (ws : List ℕ). (vs : List ℕ) → MeetsWith q vs → ComesBefore ws vs) behind first.lists first.each;
    }
