-- Where reading items stops, and what was read before.
use Rattle.std.proofs.Common.{◌≡◌, ℕ, zero, suc, ◌+◌, ◌*◌, ◌-◌, ◌<◌, List, ◌∷◌, drop, Result, Ok, Err, refl, sym, ap, ◌∙◌, arith}
use Rattle.std.proofs.lemmas.List.{drop-drop}
use Rattle.kn_code.specs.declared.decoding.CodeFault.{CodeFault}
use Rattle.kn_code.specs.Decoding.{◌>>=◌, items_from}
use Rattle.kn_code.proofs.Readings.{bind_ok}

-- the step of an item
abbrev pub step_at : {X : Type 0} → (ℕ → ℕ → List ℕ → Result X CodeFault) → (width n place : ℕ) → List ℕ → ℕ → Result X CodeFault
step_at step width n place bytes k = step (n - 1 - k) (place + width * k) (drop (width * k) bytes)

-- the items before one are read
abbrev pub ReadsBefore : {X : Type 0} → (ℕ → ℕ → List ℕ → Result X CodeFault) → (width n place : ℕ) → List ℕ → ℕ → Type 0
ReadsBefore {X = X} step width n place bytes index = (k : ℕ) → k < index → (x : X) × (step_at step width n place bytes k ≡ Ok x)

pub record StopsAt {X : Type 0} (step : ℕ → ℕ → List ℕ → Result X CodeFault) (width n place : ℕ) (bytes : List ℕ) (f : CodeFault) : Type 0 where
  pub index : ℕ
  pub below : index < n
  pub here : step_at step width n place bytes index ≡ Err f
  pub before : ReadsBefore step width n place bytes index

first_step : {X : Type 0} (step : ℕ → ℕ → List ℕ → Result X CodeFault) (width n place : ℕ) (bytes : List ℕ) → step_at step width (suc n) place bytes 0 ≡ step n place bytes
first_step step width n place bytes =
    let left : suc n - 1 - 0 ≡ n = omega arith in
    let none : width * 0 ≡ 0 = omega arith in
    let here : place + 0 ≡ place = omega arith in
    rw (left, none, here) refl

later_step : {X : Type 0} (step : ℕ → ℕ → List ℕ → Result X CodeFault) (width n place : ℕ) (bytes : List ℕ) (k : ℕ) → step_at step width (suc n) place bytes (suc k) ≡ step_at step width n (place + width) (drop width bytes) k
later_step step width n place bytes k =
    let left : suc n - 1 - suc k ≡ n - 1 - k = omega arith in
    let more : width * suc k ≡ width + width * k = grind arith in
    let here : place + (width + width * k) ≡ place + width + width * k = omega arith in
    rw (left, more, here, drop-drop (width * k) width bytes) refl

reads_more : {X : Type 0} (step : ℕ → ℕ → List ℕ → Result X CodeFault) (width n place : ℕ) (bytes : List ℕ) (index : ℕ) (x : X) → step n place bytes ≡ Ok x → ReadsBefore step width n (place + width) (drop width bytes) index → ReadsBefore step width (suc n) place bytes (suc index)
reads_more step width n place bytes index x is others zero below = (x, first_step step width n place bytes ∙ is)
reads_more step width n place bytes index x is others (suc k) below =
    let h = others k (omega (arith, below)) in
    (h.0, later_step step width n place bytes k ∙ h.1)

-- all are read
pub items_read : {X : Type 0} (step : ℕ → ℕ → List ℕ → Result X CodeFault) (width n place : ℕ) (bytes : List ℕ) (xs : List X) → items_from step width n place bytes ≡ Ok xs → ReadsBefore step width n place bytes n
unfolding items_from
items_read step width zero place bytes xs e = λ k below. absurd (omega (arith, below))
items_read step width (suc n) place bytes xs e =
    let a = bind_ok (step n place bytes) (λ first. items_from step width n (place + width) (drop width bytes) >>= λ others. Ok (first ∷ others)) xs e in
    let b = bind_ok (items_from step width n (place + width) (drop width bytes)) (λ others. Ok (a.0 ∷ others)) xs a.2 in
    reads_more step width n place bytes n a.0 a.1 (items_read step width n (place + width) (drop width bytes) b.0 b.1)

err_is : {X : Type 0} (g f : CodeFault) → ◌≡◌ {A = Result X CodeFault} (Err g) (Err f) → g ≡ f
err_is g f e = cc

fault_is : {X Y : Type 0} (g f : CodeFault) → ◌≡◌ {A = Result X CodeFault} (Err g) (Err f) → ◌≡◌ {A = Result Y CodeFault} (Err g) (Err f)
fault_is g f e = ap (λ (h : CodeFault). Err h) (err_is g f e)

-- one is not
pub items_stop : {X : Type 0} (step : ℕ → ℕ → List ℕ → Result X CodeFault) (width n place : ℕ) (bytes : List ℕ) (f : CodeFault) → items_from step width n place bytes ≡ Err f → StopsAt step width n place bytes f
unfolding items_from
items_stop step width zero place bytes f e = absurd cc
items_stop {X = X} step width (suc n) place bytes f e = go (items_stop step width n (place + width) (drop width bytes) f) (step n place bytes) refl e
  where
    rest : Result (List X) CodeFault
    rest = items_from step width n (place + width) (drop width bytes)

    further : (x : X) → (rest >>= λ others. Ok (x ∷ others)) ≡ Err f → (r : Result (List X) CodeFault) → rest ≡ r → rest ≡ Err f
    further x h (Ok xs) is = absurd (let wrong : Ok (x ∷ xs) ≡ Err f = sym (ap (λ (q : Result (List X) CodeFault). q >>= λ others. Ok (x ∷ others)) is) ∙ h in cc)
    further x h (Err g) is = is ∙ sym (ap (λ (q : Result (List X) CodeFault). q >>= λ others. Ok (x ∷ others)) is) ∙ h

    go : (rest ≡ Err f → StopsAt step width n (place + width) (drop width bytes) f) → (r : Result X CodeFault) → step n place bytes ≡ r → (r >>= λ first. rest >>= λ others. Ok (first ∷ others)) ≡ Err f → StopsAt step width (suc n) place bytes f
    go others (Err g) is h = record {
      index = 0;
      below = omega arith;
      here = first_step step width n place bytes ∙ is ∙ fault_is g f h;
      before = λ k below. absurd (omega (arith, below));
    }
    go others (Ok x) is h =
        let s = others (further x h rest refl) in
        record {
          index = suc s.index;
          below = omega (arith, s.below);
          here = later_step step width n place bytes s.index ∙ s.here;
          before = reads_more step width n place bytes s.index x is s.before;
        }
