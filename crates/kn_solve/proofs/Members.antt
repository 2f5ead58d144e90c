-- Lists whose elements are among those of others.
use Rattle.std.proofs.Common.{◌≡◌, zero, suc, Bool, true, false, List, [], ◌∷◌, ◌++◌, map, refl, sym, ap, subst, ◌∙◌, inl, inr, arith}
use Rattle.std.specs.Prelude.{Contains, ◌⊎◌, cond, not}
use Rattle.std.specs.List.{AllByRecursion, filter}
use Rattle.std.proofs.lemmas.List.Elements.{Contains-append_left, Contains-append_right, Contains-append_cases}
use Rattle.kn_solve.specs.Parts.{AreAmong, IsSplit}
use Rattle.kn_solve.proofs.Answering.{contained}

later : {A : Type 0} (x : A) (xs : List A) (y : A) → Contains xs y → Contains (x ∷ xs) y
later x xs y (k, h, e) = (suc k, omega (arith, h), e)

front : {A : Type 0} (x : A) (xs : List A) → Contains (x ∷ xs) x
front x xs = (0, omega arith, refl)

one_of : {A : Type 0} (x : A) (xs : List A) (y : A) → Contains (x ∷ xs) y → (x ≡ y) ⊎ Contains xs y
one_of x xs y (zero, h, e) = inl e
one_of x xs y (suc k, h, e) = inr (k, omega (arith, h), e)

-- what holds of each member holds of all
pub each_member : {A : Type 0} (P : A → Type 0) (xs : List A) → ((x : A) → Contains xs x → P x) → AllByRecursion P xs
each_member P [] f = tt
each_member P (x ∷ xs) f = (f x (front x xs), each_member P xs (λ y h. f y (later x xs y h)))

-- what holds of all holds of all among them
pub all_among : {A : Type 0} (P : A → Type 0) (xs ys : List A) → AreAmong xs ys → AllByRecursion P ys → AllByRecursion P xs
all_among P xs ys among all = each_member P xs (λ x h. contained P ys x all (among x h))

-- what holds of a part and of the rest holds of all
pub all_split : {A : Type 0} (P : A → Type 0) (whole earlier part rest : List A) → IsSplit whole earlier part rest → AllByRecursion P part → AllByRecursion P rest → AllByRecursion P whole
all_split P whole earlier part rest split one other = each_member P whole (λ x h. elim (split.each x h) [
  | inl in_part ↦ contained P part x one in_part
  | inr in_rest ↦ contained P rest x other in_rest
])

-- ---- mapped lists

mapped : {A B : Type 0} (f : A → B) (xs : List A) (x : A) → Contains xs x → Contains (map f xs) (f x)
mapped f [] x (k, h, e) = absurd (omega (arith, h))
mapped f (y ∷ ys) x h = elim (one_of y ys x h) [
  | inl e ↦ subst (λ z. Contains (map f (y ∷ ys)) (f z)) e (front (f y) (map f ys))
  | inr more ↦ later (f y) (map f ys) (f x) (mapped f ys x more)
]

mapped_back : {A B : Type 0} (f : A → B) (xs : List A) (y : B) → Contains (map f xs) y → (x : A) × Contains xs x × (f x ≡ y)
mapped_back f [] y (k, h, e) = absurd (omega (arith, h))
mapped_back f (x ∷ xs) y h = elim (one_of (f x) (map f xs) y h) [
  | inl e ↦ (x, front x xs, e)
  | inr more ↦ let found = mapped_back f xs y more in (found.0, later x xs found.0 found.1, found.2)
]

pub mapped_among : {A B : Type 0} (f : A → B) (xs ys : List A) → AreAmong xs ys → AreAmong (map f xs) (map f ys)
mapped_among f xs ys among y h = let found = mapped_back f xs y h in subst (Contains (map f ys)) found.2 (mapped f ys found.0 (among found.0 found.1))

pub mapped_split : {A B : Type 0} (f : A → B) (whole earlier part rest : List A) → IsSplit whole earlier part rest → IsSplit (map f whole) (map f earlier) (map f part) (map f rest)
mapped_split f whole earlier part rest split = record {
  part_in = mapped_among f part whole split.part_in;
  rest_in = mapped_among f rest earlier split.rest_in;
  earlier_in = mapped_among f earlier whole split.earlier_in;
  each = λ y h.
      let found = mapped_back f whole y h in
      elim (split.each found.0 found.1) [
        | inl in_part ↦ inl (subst (Contains (map f part)) found.2 (mapped f part found.0 in_part))
        | inr in_rest ↦ inr (subst (Contains (map f rest)) found.2 (mapped f rest found.0 in_rest))
      ];
}

pub all_mapped : {A B : Type 0} (P : B → Type 0) (f : A → B) (xs : List A) → AllByRecursion (λ x. P (f x)) xs → AllByRecursion P (map f xs)
all_mapped P f [] all = tt
all_mapped P f (x ∷ xs) all = (all.0, all_mapped P f xs all.1)

pub all_unmapped : {A B : Type 0} (P : B → Type 0) (f : A → B) (xs : List A) → AllByRecursion P (map f xs) → AllByRecursion (λ x. P (f x)) xs
all_unmapped P f [] all = tt
all_unmapped P f (x ∷ xs) all = (all.0, all_unmapped P f xs all.1)

-- ---- what passes a test

pub filtered : {A : Type 0} (p : A → Bool) (xs : List A) → AreAmong (filter p xs) xs
filtered p [] y h = h
filtered {A} p (x ∷ xs) y h = go (p x) (filtered p xs y) h where
  go : (b : Bool) → (Contains (filter p xs) y → Contains xs y) → Contains (cond b (x ∷ filter p xs) (filter p xs)) y → Contains (x ∷ xs) y
  go true among c = elim (one_of x (filter p xs) y c) [ inl e ↦ subst (Contains (x ∷ xs)) e (front x xs) | inr more ↦ later x xs y (among more) ]
  go false among c = later x xs y (among c)

passes : {A : Type 0} (p : A → Bool) (xs : List A) (y : A) → p y ≡ true → Contains xs y → Contains (filter p xs) y
passes p [] y e h = h
passes {A} p (x ∷ xs) y e h = go (passes p xs y e) (p x) refl where
  go : (Contains xs y → Contains (filter p xs) y) → (b : Bool) → p x ≡ b → Contains (cond b (x ∷ filter p xs) (filter p xs)) y
  go among true own = elim (one_of x xs y h) [ inl same ↦ subst (Contains (x ∷ filter p xs)) same (front x (filter p xs)) | inr more ↦ later x (filter p xs) y (among more) ]
  go among false own = elim (one_of x xs y h) [
    | inl same ↦ let wrong : false ≡ true = sym own ∙ (ap p same ∙ e) in absurd cc
    | inr more ↦ among more
  ]

-- what passes a test goes from the rest into the part
pub split_more : {A : Type 0} (whole earlier part rest : List A) (p q : A → Bool) → ((x : A) → q x ≡ not (p x)) → IsSplit whole earlier part rest → IsSplit whole earlier (part ++ filter p rest) (filter q rest)
split_more {A} whole earlier part rest p q other split = record {
  part_in = λ x h. elim (Contains-append_cases part (filter p rest) x h) [
    | inl in_part ↦ split.part_in x in_part
    | inr moved ↦ split.earlier_in x (split.rest_in x (filtered p rest x moved))
  ];
  rest_in = λ x h. split.rest_in x (filtered q rest x h);
  earlier_in = split.earlier_in;
  each = λ x h. elim (split.each x h) [
    | inl in_part ↦ inl (Contains-append_left part (filter p rest) x in_part)
    | inr in_rest ↦ go x (p x) refl in_rest
  ];
} where
  go : (x : A) (b : Bool) → p x ≡ b → Contains rest x → Contains (part ++ filter p rest) x ⊎ Contains (filter q rest) x
  go x true e h = inl (Contains-append_right part (filter p rest) x (passes p rest x e h))
  go x false e h = inr (passes q rest x (other x ∙ ap not e) h)

-- at first the part is what is new
pub split_first : {A : Type 0} (earlier more : List A) → IsSplit (earlier ++ more) earlier more earlier
split_first earlier more = record {
  part_in = λ x h. Contains-append_right earlier more x h;
  rest_in = λ x h. h;
  earlier_in = λ x h. Contains-append_left earlier more x h;
  each = λ x h. elim (Contains-append_cases earlier more x h) [ inl a ↦ inr a | inr b ↦ inl b ];
}
