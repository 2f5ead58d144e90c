-- Where no fault is given at a key, what stands there is as it is wanted.
use Rattle.std.proofs.Common.{◌≡◌, ℕ, ◌≤◌, ℤ, pos, negsuc, Bool, true, false, ltb, leb, ◌&&◌, List, [], ◌∷◌, length, Option, Some, None, refl, sym, inl, inr, arith}
use Rattle.std.specs.List.{AllByRecursion}
use Rattle.std.proofs.lemmas.Bool.{and_parts, or_parts, cases_Bool, ltb-false, not-false}
use Rattle.std.proofs.lemmas.Bool.Decides.{nat_tests}
use Rattle.std.proofs.lemmas.Option.{none-some}
use Rattle.toml.specs.Data.{Data, Members, as_integer, as_str, as_array}
use Rattle.kn_netfile.specs.Faults.{Fault, fault_if, lower}
use Rattle.kn_netfile.specs.Keys.{number_within, number_at, number_fault, number_or, text_within, text_fault, text_or_none, text_at, tables_in, count_fault, tables_fault, tables_or_none, tables_at}

-- ---- the lower of two faults

pub both_none : (a b : Option Fault) → lower a b ≡ None → (a ≡ None) × (b ≡ None)
both_none None b e = (refl, e)
both_none (Some x) None e = absurd cc
both_none (Some x) (Some y) e = absurd (elim (cases_Bool (ltb y.number x.number)) [ inl t ↦ none-some y (sym (rw t at e)) | inr f ↦ none-some x (sym (rw f at e)) ])

pub lower_none : (a : Option Fault) → lower a None ≡ a
lower_none None = refl
lower_none (Some a) = refl

pub lower_assoc : (a b c : Option Fault) → lower (lower a b) c ≡ lower a (lower b c)
lower_assoc None b c = refl
lower_assoc (Some x) None c = refl
lower_assoc (Some x) (Some y) None = lower_none (lower (Some x) (Some y))
lower_assoc (Some x) (Some y) (Some z) = grind (arith, nat_tests)

pub not_wrong : (wrong : Bool) (number : ℕ) (place : List ℕ) → fault_if wrong number place ≡ None → wrong ≡ false
not_wrong true number place e = absurd cc
not_wrong false number place e = refl

-- ---- numbers

-- a number from one to another
pub record IsWithin (low high n : ℕ) : Type 0 where
  pub least : low ≤ n
  pub most : n ≤ high

pos_within : (low high number : ℕ) (needed : Bool) (place : List ℕ) (default n : ℕ) → number_fault needed number place (number_within low high (Some (pos n))) ≡ None
    → IsWithin low high (number_or default (number_within low high (Some (pos n))))
pos_within low high number needed place default n e =
    elim (cases_Bool (leb low n && leb n high)) [
      | inl y ↦ let (a, b) = and_parts (leb low n) (leb n high) y in let c : low ≤ n = grind (arith, nat_tests) in let d : n ≤ high = grind (arith, nat_tests) in rw y (record { least = c; most = d })
      | inr out ↦ absurd (let g = rw out at e in cc)
    ]

int_within : (low high number : ℕ) (needed : Bool) (place : List ℕ) (default : ℕ) (o : Option ℤ) → number_fault needed number place (number_within low high o) ≡ None
    → IsWithin low high (number_or default (number_within low high o))
int_within low high number needed place default None e = absurd cc
int_within low high number needed place default (Some (pos n)) e = pos_within low high number needed place default n e
int_within low high number needed place default (Some (negsuc n)) e = absurd cc

pub needed_within : (low high number : ℕ) (place : List ℕ) (default : ℕ) (o : Option Data) → number_fault true number place (number_at low high o) ≡ None
    → IsWithin low high (number_or default (number_at low high o))
needed_within low high number place default None e = absurd cc
needed_within low high number place default (Some d) e = int_within low high number true place default (as_integer d) e

pub optional_within : (low high number : ℕ) (place : List ℕ) (default : ℕ) (o : Option Data) → IsWithin low high default → number_fault false number place (number_at low high o) ≡ None
    → IsWithin low high (number_or default (number_at low high o))
optional_within low high number place default None d e = d
optional_within low high number place default (Some o) d e = int_within low high number false place default (as_integer o) e

-- ---- texts

pub within_meets : (meets : List ℕ → Bool) (number : ℕ) (place : List ℕ) (o : Option (List ℕ)) → text_within meets number place o ≡ None → meets (text_or_none o) ≡ true
within_meets meets number place None e = absurd cc
within_meets meets number place (Some s) e = not-false (meets s) (not_wrong _ number place e)

pub text_meets : (meets : List ℕ → Bool) (number : ℕ) (place : List ℕ) (o : Option Data) → text_fault meets number place o ≡ None → meets (text_at o) ≡ true
text_meets meets number place None e = absurd cc
text_meets meets number place (Some d) e = within_meets meets number place (as_str d) e

-- ---- arrays of tables

counted : (least most : ℕ) (place : List ℕ) (o : Option (List Members)) → count_fault least most place o ≡ None → IsWithin least most (length (tables_or_none o))
counted least most place None e = absurd cc
counted least most place (Some tables) e =
    let (few, many) = or_parts (ltb (length tables) least) (ltb most (length tables)) (not_wrong _ _ place e) in
    record { least = ltb-false (length tables) least few; most = ltb-false most (length tables) many }

pub tables_counted : (least most : ℕ) (place : List ℕ) (o : Option Data) → tables_fault least most place o ≡ None → IsWithin least most (length (tables_at o))
tables_counted least most place None e = let h : least ≤ 0 = ltb-false 0 least (not_wrong (ltb 0 least) _ place e) in record { least = h; most = omega arith }
tables_counted least most place (Some d) e = counted least most place (tables_in (as_array d)) e

-- ---- lists

pub all-weaker : {A : Type 0} (P Q : A → Type 0) → ((x : A) → P x → Q x) → (xs : List A) → AllByRecursion P xs → AllByRecursion Q xs
all-weaker P Q f [] h = tt
all-weaker P Q f (x ∷ xs) h = (f x h.0, all-weaker P Q f xs h.1)
