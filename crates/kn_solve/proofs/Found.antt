-- What a search found, as an answer to what is asked.
use Rattle.std.proofs.Common.{◌≡◌, ℕ, ◌^◌, ◌<◌, Bool, List, length, map, ap, subst, ◌∙◌}
use Rattle.std.specs.Prelude.{Vec}
use Rattle.std.specs.declared.alloc.Global.{Global}
use Rattle.kn_aig.specs.declared.gates.Edge.{Edge}
use Rattle.kn_aig.specs.declared.gates.AigNode.{AigNode}
use Rattle.kn_aig.specs.Circuits.{inputs_of}
use Rattle.kn_term.specs.declared.node.Node.{Node}
use Rattle.kn_term.specs.declared.node.Literal.{Literal as Listed}
use Rattle.kn_term.specs.Terms.{Word, Valuation}
use Rattle.kn_term.specs.Nodes.{term_at, AreNodes}
use Rattle.kn_term.specs.Valuations.{AreEntries, OneList}
use Rattle.kn_cond.specs.Conditions.{Query, IsLeast, IsImpossible, IsFar}
use Rattle.kn_cond.specs.Meanings.{condition_of, StandIn}
use Rattle.kn_cnf.specs.Formulas.{Formula, Step}
use Rattle.kn_cnf.specs.Truth.{AreNeverMet}
use Rattle.kn_cnf.specs.Encoding.{IsEncoding, IsExtendable}
use Rattle.kn_sat.specs.declared.searching.Found.{Found}
use Rattle.kn_sat.specs.declared.searching.Found.TheVariants as found
use Rattle.kn_sat.specs.Order.{number, Extends, AreRefuted}
use Rattle.kn_sat.specs.Answers.{OnModel, OnClosed, OnSpent}
use Rattle.kn_blast.specs.declared.inputs.InputBits.{InputBits}
use Rattle.kn_blast.specs.Inputs.{bits_of, IsGivenBy, AreInputBits}
use Rattle.kn_solve.specs.declared.asking.Verdict.{Verdict}
use Rattle.kn_solve.specs.declared.asking.Verdict.TheVariants as verdicts
use Rattle.kn_solve.specs.Formulas.{Asked, query_of, column_of, ColumnsStand}
use Rattle.kn_solve.specs.Wholes.{with_columns, with_condition, whole}
use Rattle.kn_solve.specs.Asking.{IsOfTerm, IsCircuitOf}
use Rattle.kn_solve.specs.Verdicts.{OnMet, OnNever, OnUndecided, IsVerdict}
use Rattle.kn_solve.proofs.Stating.{stated}
use Rattle.kn_solve.proofs.Widest.{ArePositive}
use Rattle.kn_solve.proofs.Wholly.{all_reads}
use Rattle.kn_solve.proofs.Answering.{model_least, never_meets, spent_far}
use Rattle.kn_solve.proofs.Opening.{term_positive, formula_positive, formula_of_term}

pub model_verdict : (q : Query) (es : List InputBits) (ns : List AigNode) (e : Edge) (f : Formula) (n : ℕ) (o : Found) (v : Vec Bool Global) (bits : List Bool) (a : Valuation) → OneList → IsEncoding ns e f → IsExtendable ns e f → AreInputBits 0 es → inputs_of ns ≡ bits_of es → n ≡ inputs_of ns → o ≡ found.Model v
    → OnModel (λ bs. (length bs ≡ n) × Extends n f.clauses bs) o → OnModel (λ bs. AreRefuted n f.clauses (number bs)) o → bits ≡ v.items → IsGivenBy bits es a → AreEntries a → IsCircuitOf q es ns e → IsLeast q a
model_verdict q es ns e f n o v bits a law exact extends order many same is model least items given entries circuit =
    let found_model : (length v.items ≡ n) × Extends n f.clauses v.items = subst (OnModel (λ bs. (length bs ≡ n) × Extends n f.clauses bs)) is model in
    let found_least : AreRefuted n f.clauses (number v.items) = subst (OnModel (λ bs. AreRefuted n f.clauses (number bs))) is least in
    let here : (length v.items ≡ inputs_of ns) × Extends (inputs_of ns) f.clauses v.items = subst (λ (m : ℕ). (length v.items ≡ m) × Extends m f.clauses v.items) same found_model in
    let first : AreRefuted (inputs_of ns) f.clauses (number v.items) = subst (λ (m : ℕ). AreRefuted m f.clauses (number v.items)) same found_least in
    model_least q es ns e circuit order many f v.items a law exact extends here.0 here.1 first (subst (λ (bs : List Bool). IsGivenBy bs es a) items given) entries

pub closed_verdict : (q : Query) (es : List InputBits) (ns : List AigNode) (e : Edge) (f : Formula) (o : Found) (log : List Step) → IsExtendable ns e f → AreInputBits 0 es → inputs_of ns ≡ bits_of es → o ≡ found.Closed log → OnClosed (λ x. AreNeverMet f.clauses) o → IsCircuitOf q es ns e → IsImpossible q
closed_verdict q es ns e f o log extends order many is never circuit = never_meets q es ns e circuit order many f extends (subst (OnClosed (λ x. AreNeverMet f.clauses)) is never)

pub spent_verdict : (q : Query) (es : List InputBits) (ns : List AigNode) (e : Edge) (f : Formula) (n budget : ℕ) (o : Found) (count : ℕ) → IsExtendable ns e f → AreInputBits 0 es → inputs_of ns ≡ bits_of es → n ≡ inputs_of ns → o ≡ found.Spent count
    → OnSpent (λ c. c ≡ budget) o → OnSpent (λ c. budget < 2 ^ n) o → OnSpent (λ c. AreRefuted n f.clauses budget) o → IsCircuitOf q es ns e → (count ≡ budget) × IsFar budget q
spent_verdict q es ns e f n budget o count extends order many same is all few refuted circuit =
    let left : budget < 2 ^ n = subst (OnSpent (λ c. budget < 2 ^ n)) is few in
    let closed : AreRefuted n f.clauses budget = subst (OnSpent (λ c. AreRefuted n f.clauses budget)) is refuted in (
      subst (OnSpent (λ c. c ≡ budget)) is all,
      spent_far q es ns e f budget circuit order many extends (subst (λ (m : ℕ). budget < 2 ^ m) same left) (subst (λ (m : ℕ). AreRefuted m f.clauses budget) same closed),
    )

-- each of the three answers
pub verdict_met : (budget : ℕ) (q : Query) (v : Verdict) → IsVerdict budget q v → OnMet (IsLeast q) v
verdict_met budget q (verdicts.Met a) h = h
verdict_met budget q (verdicts.Never log) h = tt
verdict_met budget q (verdicts.Undecided leaves) h = tt

pub verdict_never : (budget : ℕ) (q : Query) (v : Verdict) → IsVerdict budget q v → OnNever (IsImpossible q) v
verdict_never budget q (verdicts.Met a) h = tt
verdict_never budget q (verdicts.Never log) h = h
verdict_never budget q (verdicts.Undecided leaves) h = tt

pub verdict_undecided : (budget : ℕ) (q : Query) (v : Verdict) → IsVerdict budget q v → OnUndecided (λ leaves. (leaves ≡ budget) × IsFar budget q) v
verdict_undecided budget q (verdicts.Met a) h = tt
verdict_undecided budget q (verdicts.Never log) h = tt
verdict_undecided budget q (verdicts.Undecided leaves) h = h

-- the term of a formula, over a copy of its terms, is what the formula asks
pub asked_of_formula : OneList → (own copied new : List Node) (ls : List Listed) (css vs : List (Vec (List Listed) Global)) (f : Asked) (root : ℕ) → copied ≡ own → vs ≡ css → StandIn own ls → ColumnsStand own css → stated own ls css ≡ f → AreNodes copied → AreNodes new → root < length new
    → term_at new root ≡ with_columns (map (column_of copied) vs) (with_condition (condition_of copied ls) (Word 1)) → IsOfTerm (query_of f) (term_at new root)
asked_of_formula law own copied new ls css vs f root same equal stand all is are after within made =
    formula_of_term law f (term_at new root)
    (made ∙ (ap (λ (xs : List (Vec (List Listed) Global)). whole (stated copied ls xs)) equal ∙ (ap (λ (ns : List Node). whole (stated ns ls css)) same ∙ ap whole is)))
    (subst (λ (g : Asked). ArePositive (all_reads g)) is (formula_positive own ls css (subst AreNodes same are) stand all))
    (term_positive new root after within)
