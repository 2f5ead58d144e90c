-- A term reads an input exactly where the input is in its list of reads.
use Rattle.std.proofs.Common.{◌≡◌, ◌⊎◌, inl, inr, ℕ, zero, suc, List, [], ◌∷◌, ◌++◌, sym, ap, ◌∙◌, arith}
use Rattle.std.specs.Prelude.{Contains}
use Rattle.std.proofs.lemmas.List.Elements.{Contains-append_left, Contains-append_right, Contains-append_cases}
use Rattle.kn_term.specs.Terms.{Term, Word, Input, Apply, Choice, Reads}
use Rattle.kn_cond.specs.Conditions.{Read, reads_in}

-- an input of a node by its index, read with a width
abbrev read_of : ℕ → ℕ → ℕ → Read
read_of n k width = record { node = n; index = k; width = width }

read_is : (m j bits n k width : ℕ) → m ≡ n → j ≡ k → bits ≡ width → read_of m j bits ≡ read_of n k width
read_is m j bits n k width a b c = ap (λ (v : ℕ). read_of v j bits) a ∙ (ap (λ (v : ℕ). read_of n v bits) b ∙ ap (λ (v : ℕ). read_of n k v) c)

one_read : (r q : Read) → Contains (r ∷ []) q → r ≡ q
one_read r q (zero, h, e) = e
one_read r q (suc i, h, e) = absurd (omega (arith, h))

-- what a term reads is listed
pub reads_listed : (t : Term) (n k width : ℕ) → Reads n k width t → Contains (reads_in t) (read_of n k width)
reads_listed (Word w) n k width h = absurd h
reads_listed (Input m j bits) n k width h = (0, omega arith, read_is m j bits n k width (sym h.0) (sym h.1) (sym h.2))
reads_listed (Apply op x y) n k width (inl h) = Contains-append_left (reads_in x) (reads_in y) _ (reads_listed x n k width h)
reads_listed (Apply op x y) n k width (inr h) = Contains-append_right (reads_in x) (reads_in y) _ (reads_listed y n k width h)
reads_listed (Choice c x y) n k width (inl h) = Contains-append_left (reads_in c) (reads_in x ++ reads_in y) _ (reads_listed c n k width h)
reads_listed (Choice c x y) n k width (inr (inl h)) =
    Contains-append_right (reads_in c) (reads_in x ++ reads_in y) _ (Contains-append_left (reads_in x) (reads_in y) _ (reads_listed x n k width h))
reads_listed (Choice c x y) n k width (inr (inr h)) =
    Contains-append_right (reads_in c) (reads_in x ++ reads_in y) _ (Contains-append_right (reads_in x) (reads_in y) _ (reads_listed y n k width h))

-- what stands in one of two lists is in the one or in the other
of_either : (rs qs : List Read) (r : Read) (P Q : Type 0) → (Contains rs r → P) → (Contains qs r → Q) → Contains (rs ++ qs) r → P ⊎ Q
of_either rs qs r P Q f g h = elim (Contains-append_cases rs qs r h) [ inl d ↦ inl (f d) | inr d ↦ inr (g d) ]

-- what is listed is read
pub listed_reads : (t : Term) (n k width : ℕ) → Contains (reads_in t) (read_of n k width) → Reads n k width t
listed_reads (Word w) n k width h = let below = h.1 in absurd (omega (arith, below))
listed_reads (Input m j bits) n k width h =
    let e = one_read (read_of m j bits) (read_of n k width) h in
    (sym (ap (λ (r : Read). r.node) e), sym (ap (λ (r : Read). r.index) e), sym (ap (λ (r : Read). r.width) e))
listed_reads (Apply op x y) n k width h =
    of_either (reads_in x) (reads_in y) _ (Reads n k width x) (Reads n k width y) (listed_reads x n k width) (listed_reads y n k width) h
listed_reads (Choice c x y) n k width h =
    of_either (reads_in c) (reads_in x ++ reads_in y) _ (Reads n k width c) (Reads n k width x ⊎ Reads n k width y) (listed_reads c n k width)
    (of_either (reads_in x) (reads_in y) _ (Reads n k width x) (Reads n k width y) (listed_reads x n k width) (listed_reads y n k width)) h
