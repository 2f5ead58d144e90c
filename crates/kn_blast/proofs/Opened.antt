-- What was opened for roots.
use Rattle.std.proofs.Common.{◌≡◌, ℕ, zero, suc, ◌<◌, ◌≤◌, List, [], ◌∷◌, length, Some, ap, sym, subst, ◌∙◌, arith}
use Rattle.std.specs.Prelude.{◌↔◌, slice_get}
use Rattle.std.proofs.lemmas.Option.{slice_get_within}
use Rattle.kn_term.specs.declared.node.Node.{Node}
use Rattle.kn_term.specs.declared.node.Ref.{Ref}
use Rattle.kn_term.specs.Terms.{Valuation, listed}
use Rattle.kn_term.specs.Nodes.{term_at, AreNodes}
use Rattle.kn_term.specs.Valuations.{AreEntries}
use Rattle.kn_blast.specs.declared.inputs.InputBits.{InputBits}
use Rattle.kn_blast.specs.Inputs.{width_of, AreInputBits, Covers, laid_out}
use Rattle.kn_term.specs.Reached.{RootsStand, IsReached, Root, IsAmong}
use Rattle.kn_blast.specs.Reached.{RootsRead, AreWide, AreRead}
use Rattle.kn_blast.proofs.Reading.{all_wide, reached_reads, width_read, width_narrow}
use Rattle.kn_blast.proofs.Laying.{width_laid, bits_laid}

pub opened_order : (ns : List Node) (places : List ℕ) (a : Valuation) (entries : List InputBits) → AreNodes ns → AreRead ns places a → AreEntries a → entries ≡ laid_out 0 a → AreInputBits 0 entries
opened_order ns places a entries are read h e = subst (AreInputBits 0) (sym e) (bits_laid a 0 h (width_narrow ns places a are read))

width_opened : (a : Valuation) (entries : List InputBits) (n k : ℕ) → entries ≡ laid_out 0 a → width_of entries n k ≡ listed a n k
width_opened a entries n k e = ap (λ (es : List InputBits). width_of es n k) e ∙ width_laid a 0 n k

pub opened_covers : (ns : List Node) (roots : List Ref) (places ps : List ℕ) (a : Valuation) (entries : List InputBits) → ps ≡ places → AreNodes ns → RootsStand (length ns) roots → ((place : ℕ) → IsAmong places place ↔ IsReached ns roots place)
    → AreWide ns ps a → entries ≡ laid_out 0 a → (i : ℕ) (r : Ref) → slice_get roots i ≡ Some r → Covers entries (term_at ns r.index)
opened_covers ns roots places ps a entries same are stand exact wide e i r is n k width reads =
    subst (λ (v : ℕ). width ≤ v) (sym (width_opened a entries n k e)) (all_wide ns roots places a are exact (subst (λ (l : List ℕ). AreWide ns l a) same wide) r.index (stand i r is) (Root r.index (i, is)) n k width reads)

pub opened_read : (ns : List Node) (roots : List Ref) (places ps : List ℕ) (a : Valuation) (entries : List InputBits) → ps ≡ places → AreNodes ns → ((place : ℕ) → IsAmong places place ↔ IsReached ns roots place) → AreRead ns ps a → entries ≡ laid_out 0 a
    → (n k : ℕ) → 0 < width_of entries n k → RootsRead ns roots n k (width_of entries n k)
opened_read ns roots places ps a entries same are exact read e n k h =
    let width = width_opened a entries n k e in
    subst (λ (v : ℕ). RootsRead ns roots n k v) (sym width) (width_read ns roots places a are exact (subst (λ (l : List ℕ). AreRead ns l a) same read) n k (subst (λ (v : ℕ). 0 < v) width h))

-- what the roots read is covered, so what a term at a place that they reach reads is
pub covered_reached : (ns : List Node) (roots : List Ref) (entries : List InputBits) (place : ℕ) → AreNodes ns → IsReached ns roots place → ((i : ℕ) (r : Ref) → slice_get roots i ≡ Some r → Covers entries (term_at ns r.index)) → Covers entries (term_at ns place)
covered_reached ns roots entries place are up covers n k width reads =
    let read = reached_reads ns roots place n k width are up reads in
    covers read.0 read.1 read.2 n k width read.3

-- what is so of one root is so of each of a list of it alone
pub one_root : (P : Ref → Type 0) (r : Ref) → P r → (i : ℕ) (s : Ref) → slice_get (r ∷ []) i ≡ Some s → P s
one_root P r one zero s e = let same : r ≡ s = cc in subst P same one
one_root P r one (suc i) s e = absurd (omega (arith, slice_get_within (r ∷ []) (suc i) s e))
