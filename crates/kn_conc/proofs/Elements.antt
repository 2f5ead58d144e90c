-- Words of memory at an index: over words the choices come to one word.
use Rattle.std.proofs.Common.{◌≡◌, ℕ, zero, suc, ◌+◌, ◌<◌, ◌≤◌, Bool, true, false, cond, List, [], ◌∷◌, ◌++◌, length, take, drop, set, refl, sym, ap, ◌∙◌, arith}
use Rattle.std.specs.Prelude.{nat_eq, nat_lt, slice_index_or, slice_set}
use Rattle.std.proofs.lemmas.List.{append_assoc, length-take-le, length-drop, get_or-take, get_or-drop, take-append-drop, take-set-le, drop-set-add, drop-set-lt, drop-drop}
use Rattle.std.proofs.Math.Seq.{take-set-lt}
use Rattle.std.proofs.lemmas.Bool.{eqb-true, eq-eqb, lt-ltb}
use Rattle.kn_word.specs.Words.{one_if}
use Rattle.kn_model.specs.Terms.{Valuation, words, chosen_word}
use Rattle.kn_code.specs.declared.program.Instr.TheVariants as instrs
use Rattle.kn_model.specs.Rows.{Here, Way, Effect, Goes, Decides, effect, element, next, register, sets, span, with_element, with_memory, with_register}
use Rattle.kn_conc.specs.Ways.{bare, taken, with_bit}

pick : (b : Bool) (x y : ℕ) → chosen_word (one_if b) x y ≡ cond b x y
pick true x y = refl
pick false x y = refl

here_it_is : (b : Bool) (x y : ℕ) → b ≡ true → chosen_word (one_if b) x y ≡ x
here_it_is b x y e = ap (λ (c : Bool). chosen_word (one_if c) x y) e

not_here : (b : Bool) (x y : ℕ) → b ≡ false → chosen_word (one_if b) x y ≡ y
not_here b x y e = ap (λ (c : Bool). chosen_word (one_if c) x y) e

differ : (m n : ℕ) → (m ≡ n → ⊥) → nat_eq m n ≡ false
differ m n d = go (nat_eq m n) refl
  where
    go : (b : Bool) → nat_eq m n ≡ b → nat_eq m n ≡ false
    go false e = e
    go true e = absurd (d (eqb-true m n e))

same : (m n : ℕ) → m ≡ n → nat_eq m n ≡ true
same m n e = eq-eqb m n e

module _ (a : Valuation) where
  element_at : (xs : List ℕ) (index place i : ℕ) → index ≡ place + i → i < length xs → element (words a) index place xs ≡ slice_index_or xs i 0
  element_at [] index place i e h = absurd (omega (arith, h))
  element_at (x ∷ xs) index place zero e h = here_it_is (nat_eq index place) x (element (words a) index (place + 1) xs) (same index place (omega (arith, e)))
  element_at (x ∷ xs) index place (suc i) e h =
      not_here (nat_eq index place) x (element (words a) index (place + 1) xs) (differ index place (λ s. omega (arith, e, s)))
      ∙ element_at xs index (place + 1) i (omega (arith, e)) (omega (arith, h))

  behind : (xs : List ℕ) (index new place : ℕ) → index < place → with_element (words a) index new place xs ≡ xs
  behind [] index new place h = refl
  behind (x ∷ xs) index new place h =
      ap (λ (y : ℕ). y ∷ with_element (words a) index new (place + 1) xs) (not_here (nat_eq index place) new x (differ index place (λ s. omega (arith, h, s))))
      ∙ ap (λ (l : List ℕ). x ∷ l) (behind xs index new (place + 1) (omega (arith, h)))

  with_at : (xs : List ℕ) (index new place i : ℕ) → index ≡ place + i → with_element (words a) index new place xs ≡ slice_set xs i new
  with_at [] index new place i e = refl
  with_at (x ∷ xs) index new place zero e =
      ap (λ (y : ℕ). y ∷ with_element (words a) index new (place + 1) xs) (here_it_is (nat_eq index place) new x (same index place (omega (arith, e))))
      ∙ ap (λ (l : List ℕ). new ∷ l) (behind xs index new (place + 1) (omega (arith, e)))
  with_at (x ∷ xs) index new place (suc i) e =
      ap (λ (y : ℕ). y ∷ with_element (words a) index new (place + 1) xs) (not_here (nat_eq index place) new x (differ index place (λ s. omega (arith, e, s))))
      ∙ ap (λ (l : List ℕ). x ∷ l) (with_at xs index new (place + 1) i (omega (arith, e)))

  -- a word of a span is read
  pub read_at : (ms : List ℕ) (m n index : ℕ) → m + n ≤ length ms → index < n → element (words a) index 0 (span (words a) ms m n) ≡ slice_index_or ms (m + index) 0
  read_at ms m n index fits inside =
      element_at (span (words a) ms m n) index 0 index (omega arith) (omega (arith, length-take-le n (drop m ms) (omega (arith, length-drop m ms, fits)), inside))
      ∙ (get_or-take n (drop m ms) index 0 inside ∙ get_or-drop m ms index 0)

  -- and written
  pub written_at : (ms : List ℕ) (m n index new : ℕ) → index < n → take m ms ++ with_element (words a) index new 0 (span (words a) ms m n) ++ drop (m + n) ms ≡ slice_set ms (m + index) new
  written_at ms m n index new inside =
      let next = set ms (m + index) new in
      let front : take m next ≡ take m ms = take-set-le m ms (m + index) new (omega arith) in
      let behind : drop m next ≡ set (drop m ms) index new = drop-set-add m ms index new in
      let middle : take n (drop m next) ≡ set (take n (drop m ms)) index new = ap (take n) behind ∙ take-set-lt n (drop m ms) index new inside in
      let rest : drop n (drop m next) ≡ drop (m + n) ms = ap (drop n) behind ∙ (drop-set-lt n (drop m ms) index new inside ∙ drop-drop n m ms) in
      let set_span = set (take n (drop m ms)) index new in
      ap (λ (l : List ℕ). take m ms ++ l ++ drop (m + n) ms) (with_at (span (words a) ms m n) index new 0 index (omega arith))
      ∙ (append_assoc (take m ms) set_span (drop (m + n) ms)
      ∙ (ap (λ (l : List ℕ). l ++ (set_span ++ drop (m + n) ms)) (sym front)
      ∙ (ap (λ (l : List ℕ). take m next ++ (l ++ drop (m + n) ms)) (sym middle)
      ∙ (ap (λ (l : List ℕ). take m next ++ (take n (drop m next) ++ l)) (sym rest)
      ∙ (ap (λ (l : List ℕ). take m next ++ l) (take-append-drop n (drop m next))
      ∙ take-append-drop m next)))))

  -- an index in range
  ranged : (t : Bool) (w v : Way ℕ) → t ≡ true → taken (Decides (record { value = one_if t; truth = true }) w v) ≡ Goes (with_bit false w)
  ranged t w v e = ap (λ (u : Bool). taken (Decides (record { value = one_if u; truth = true }) w v)) e

  below : (x index n : ℕ) → index ≡ x → index < n → nat_lt x n ≡ true
  below x index n e h = lt-ltb x n (omega (arith, e, h))

  -- reading and writing a word at an index in range, and an index out of range
  pub loads : (here : Here ℕ) (v : Way ℕ) (r b m n index word : ℕ) (e : Effect ℕ) → index ≡ register (words []) v b → index < n → m + n ≤ length v.state.memory → word ≡ slice_index_or v.state.memory (m + index) 0
      → e ≡ sets (words []) (with_bit false v) r word → bare e ≡ bare (taken (effect (words a) here (instrs.Ldx r b m n) v))
  loads here v r b m n index word e at inside fits read is =
      let reg = register (words a) v b in
      let inside_too : reg < n = omega (arith, at, inside) in
      let found : word ≡ element (words a) reg 0 (span (words a) v.state.memory m n) =
      read ∙ (ap (λ (i : ℕ). slice_index_or v.state.memory (m + i) 0) at ∙ sym (read_at v.state.memory m n reg fits inside_too)) in
      ap bare (is ∙ (ap (λ (z : ℕ). Goes (next (words a) (with_register (words a) (with_bit false v) r z))) found ∙ sym (ranged (nat_lt reg n) _ _ (below reg index n at inside))))

  pub stores : (here : Here ℕ) (v w : Way ℕ) (r b m n index word : ℕ) → index ≡ register (words []) v b → index < n → word ≡ register (words []) v r
      → w ≡ next (words []) (with_memory (words []) (with_bit false v) (slice_set v.state.memory (m + index) word)) → bare (Goes w) ≡ bare (taken (effect (words a) here (instrs.Stx r b m n) v))
  stores here v w r b m n index word at inside read is =
      let reg = register (words a) v b in
      let inside_too : reg < n = omega (arith, at, inside) in
      let made : slice_set v.state.memory (m + index) word ≡ take m v.state.memory ++ with_element (words a) reg (register (words a) v r) 0 (span (words a) v.state.memory m n) ++ drop (m + n) v.state.memory =
      ap (λ (i : ℕ). slice_set v.state.memory (m + i) word) at ∙ (ap (slice_set v.state.memory (m + reg)) read ∙ sym (written_at v.state.memory m n reg (register (words a) v r) inside_too)) in
      ap (λ (x : Way ℕ). bare (Goes x)) (is ∙ ap (λ (ms : List ℕ). next (words a) (with_memory (words a) (with_bit false v) ms)) made)
      ∙ ap bare (sym (ranged (nat_lt reg n) _ _ (below reg index n at inside)))
