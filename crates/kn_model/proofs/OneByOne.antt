-- Lists that are related one by one.
use Rattle.std.proofs.Common.{◌≡◌, ℕ, zero, suc, Bool, true, false, cond, List, [], ◌∷◌, ◌++◌, length, map, take, drop, get_or, set, refl, ap}
use Rattle.kn_model.specs.Alikes.{OneByOne}
use Rattle.kn_model.specs.Packets.{put_in}

module _ {A B : Type 0} (R : A → B → Type 0) where
  pub pairs-append : (xs : List A) (ys : List B) (us : List A) (vs : List B) → OneByOne R xs ys → OneByOne R us vs → OneByOne R (xs ++ us) (ys ++ vs)
  pairs-append [] [] us vs h i = i
  pairs-append [] (y ∷ ys) us vs h i = absurd h
  pairs-append (x ∷ xs) [] us vs h i = absurd h
  pairs-append (x ∷ xs) (y ∷ ys) us vs h i = (h.0, pairs-append xs ys us vs h.1 i)

  pub pairs-take : (n : ℕ) (xs : List A) (ys : List B) → OneByOne R xs ys → OneByOne R (take n xs) (take n ys)
  pairs-take zero xs ys h = tt
  pairs-take (suc n) [] [] h = tt
  pairs-take (suc n) [] (y ∷ ys) h = absurd h
  pairs-take (suc n) (x ∷ xs) [] h = absurd h
  pairs-take (suc n) (x ∷ xs) (y ∷ ys) h = (h.0, pairs-take n xs ys h.1)

  pub pairs-drop : (n : ℕ) (xs : List A) (ys : List B) → OneByOne R xs ys → OneByOne R (drop n xs) (drop n ys)
  pairs-drop zero xs ys h = h
  pairs-drop (suc n) [] [] h = tt
  pairs-drop (suc n) [] (y ∷ ys) h = absurd h
  pairs-drop (suc n) (x ∷ xs) [] h = absurd h
  pairs-drop (suc n) (x ∷ xs) (y ∷ ys) h = pairs-drop n xs ys h.1

  pub pairs-get : (xs : List A) (ys : List B) (n : ℕ) (x : A) (y : B) → OneByOne R xs ys → R x y → R (get_or xs n x) (get_or ys n y)
  pairs-get [] [] n x y h r = r
  pairs-get [] (v ∷ ys) n x y h r = absurd h
  pairs-get (u ∷ xs) [] n x y h r = absurd h
  pairs-get (u ∷ xs) (v ∷ ys) zero x y h r = h.0
  pairs-get (u ∷ xs) (v ∷ ys) (suc n) x y h r = pairs-get xs ys n x y h.1 r

  pub pairs-set : (xs : List A) (ys : List B) (n : ℕ) (x : A) (y : B) → OneByOne R xs ys → R x y → OneByOne R (set xs n x) (set ys n y)
  pairs-set [] [] n x y h r = tt
  pairs-set [] (v ∷ ys) n x y h r = absurd h
  pairs-set (u ∷ xs) [] n x y h r = absurd h
  pairs-set (u ∷ xs) (v ∷ ys) zero x y h r = (r, h.1)
  pairs-set (u ∷ xs) (v ∷ ys) (suc n) x y h r = (h.0, pairs-set xs ys n x y h.1 r)

  pub pairs-length : (xs : List A) (ys : List B) → OneByOne R xs ys → length xs ≡ length ys
  pairs-length [] [] h = refl
  pairs-length [] (y ∷ ys) h = absurd h
  pairs-length (x ∷ xs) [] h = absurd h
  pairs-length (x ∷ xs) (y ∷ ys) h = ap suc (pairs-length xs ys h.1)

  pub pairs-put : (le : A → A → Bool) (le' : B → B → Bool) → ((u : A) (v : B) (x : A) (y : B) → R u v → R x y → le u x ≡ le' v y)
      → (x : A) (y : B) (xs : List A) (ys : List B) → R x y → OneByOne R xs ys → OneByOne R (put_in le x xs) (put_in le' y ys)
  pairs-put le le' same x y [] [] r h = (r, tt)
  pairs-put le le' same x y [] (v ∷ ys) r h = absurd h
  pairs-put le le' same x y (u ∷ xs) [] r h = absurd h
  pairs-put le le' same x y (u ∷ xs) (v ∷ ys) r h = go (le x u) (le' y v) (same x y u v r h.0) (pairs-put le le' same x y xs ys r h.1)
    where
      go : (b c : Bool) → b ≡ c → OneByOne R (put_in le x xs) (put_in le' y ys) → OneByOne R (cond b (x ∷ u ∷ xs) (u ∷ put_in le x xs)) (cond c (y ∷ v ∷ ys) (v ∷ put_in le' y ys))
      go true true e rest = (r, h)
      go true false e rest = absurd cc
      go false true e rest = absurd cc
      go false false e rest = (h.0, rest)

-- what is made of each
pub pairs-map : {A B X Y : Type 0} (R : A → B → Type 0) (Q : X → Y → Type 0) (f : A → X) (g : B → Y) → ((x : A) (y : B) → R x y → Q (f x) (g y))
    → (xs : List A) (ys : List B) → OneByOne R xs ys → OneByOne Q (map f xs) (map g ys)
pairs-map R Q f g more [] [] h = tt
pairs-map R Q f g more [] (y ∷ ys) h = absurd h
pairs-map R Q f g more (x ∷ xs) [] h = absurd h
pairs-map R Q f g more (x ∷ xs) (y ∷ ys) h = (more x y h.0, pairs-map R Q f g more xs ys h.1)

-- each with itself, and through a third
pub pairs-self : {A : Type 0} (R : A → A → Type 0) → ((x : A) → R x x) → (xs : List A) → OneByOne R xs xs
pairs-self R self [] = tt
pairs-self R self (x ∷ xs) = (self x, pairs-self R self xs)

pub pairs-through : {A B D : Type 0} (R : A → B → Type 0) (Q : B → D → Type 0) (S : A → D → Type 0) → ((x : A) (y : B) (z : D) → R x y → Q y z → S x z)
    → (xs : List A) (ys : List B) (zs : List D) → OneByOne R xs ys → OneByOne Q ys zs → OneByOne S xs zs
pairs-through R Q S both [] [] [] h i = tt
pairs-through R Q S both [] [] (z ∷ zs) h i = absurd i
pairs-through R Q S both [] (y ∷ ys) zs h i = absurd h
pairs-through R Q S both (x ∷ xs) [] zs h i = absurd h
pairs-through R Q S both (x ∷ xs) (y ∷ ys) [] h i = absurd i
pairs-through R Q S both (x ∷ xs) (y ∷ ys) (z ∷ zs) h i = (both x y z h.0 i.0, pairs-through R Q S both xs ys zs h.1 i.1)
