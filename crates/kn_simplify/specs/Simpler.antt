-- When one term may stand for another.
use Rattle.std.specs.Prelude.{◌≡◌, ℕ, ◌<◌, List, length, nat_eq, unwrap_or}
use Rattle.std.specs.HashMap.{HashMap, get}
use Rattle.kn_term.specs.declared.node.Node.{Node}
use Rattle.kn_term.specs.declared.node.Ref.{Ref}
use Rattle.kn_term.specs.Terms.{Term, Word, Valuation, ev, Reads}
use Rattle.kn_term.specs.Nodes.{term_at}
use Rattle.kn_simplify.specs.Folded.{IsFolded, HasFoldedOperands}
use Rattle.kn_simplify.specs.declared.form.Form.{Form}
use Rattle.kn_simplify.specs.declared.form.Form.TheVariants as forms

-- it has the other's word under each valuation, and reads no input that the other does not read
pub record StandsFor (new old : Term) : Type 0 where
  pub value : (a : Valuation) → ev a new ≡ ev a old
  pub inputs : (n k width : ℕ) → Reads n k width new → Reads n k width old

-- the term of a form
abbrev pub form_term : List Node → Form → Term
form_term ns (forms.Word w) = Word w
form_term ns (forms.Term r) = term_at ns r.index

-- a form names no term past the end of a list of so many nodes
abbrev pub IsFormIn : ℕ → Form → Type 0
IsFormIn count (forms.Word w) = Unit {0}
IsFormIn count (forms.Term r) = r.index < count

-- a form that may stand for a term, and is folded where the term's operands are
pub record IsFormOf (ns : List Node) (f : Form) (t : Term) : Type 0 where
  pub stands : IsFormIn (length ns) f
  pub term : StandsFor (form_term ns f) t
  pub folded : HasFoldedOperands t → IsFolded (form_term ns f)

-- a Ref names a term that may stand for the one at a place
pub record IsSimpler (ns : List Node) (place : ℕ) (r : Ref) : Type 0 where
  pub stands : r.index < length ns
  pub term : StandsFor (term_at ns r.index) (term_at ns place)

-- what a map has for a place, or the place itself
abbrev pub simpler_in : {S : Type 0} → HashMap ℕ Ref S → ℕ → Ref
simpler_in table place = unwrap_or (get nat_eq table place) (record { index = place })

-- for each of so many places there is a Ref that may stand for it
abbrev pub AreSimpler : List Node → ℕ → (ℕ → Ref) → Type 0
AreSimpler ns count to = (place : ℕ) → place < count → IsSimpler ns place (to place)
