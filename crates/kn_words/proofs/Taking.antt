-- Settings taken one by one: each option at most once, each with a value that it takes.
use Rattle.std.proofs.Common.{◌≡◌, ◌∙◌, ℕ, ◌+◌, ◌≤◌, Bool, true, false, not, cond, ◌&&◌, ◌||◌, if◌then◌else◌, List, [], ◌∷◌, refl, sym, ap, ap₂, subst, arith, Option, Some, None, is_some, IfSome, inl, inr, ◌⊎◌}
use Rattle.std.specs.Option.{option_map, option_and_then}
use Rattle.std.specs.List.{count_by, find}
use Rattle.std.specs.Str.{bytes_eq}
use Rattle.std.proofs.lemmas.Bool.{and_parts, not-true, or_right}
use Rattle.std.proofs.lemmas.List.Sums.{sum_by-cons}
use Rattle.kn_words.specs.Options.{Setting, name_text, is_of, value_of}
use Rattle.kn_words.specs.Reading.{giving, is_given, is_value, with_option}
use Rattle.kn_words.specs.declared.options.Given.{Given}
use Rattle.kn_words.specs.declared.options.Name.{Name}
use Rattle.kn_words.specs.declared.options.Name.TheVariants as names
use Rattle.kn_words.proofs.Spelling.{taken}

-- ---- names

abbrev pub same : Name → Name → Bool
same a b = bytes_eq (name_text a) (name_text b)

same_self : (n : Name) → same n n ≡ true
same_self names.Mapping = refl
same_self names.Workers = refl
same_self names.Make = refl

pub name_cases : (a b : Name) → (a ≡ b) ⊎ (bytes_eq (name_text a) (name_text b) ≡ false)
name_cases names.Mapping names.Mapping = inl refl
name_cases names.Mapping names.Workers = inr refl
name_cases names.Mapping names.Make = inr refl
name_cases names.Workers names.Mapping = inr refl
name_cases names.Workers names.Workers = inl refl
name_cases names.Workers names.Make = inr refl
name_cases names.Make names.Mapping = inr refl
name_cases names.Make names.Workers = inr refl
name_cases names.Make names.Make = inl refl

pub given_after : (n name : Name) (g : Given) → is_given name (giving n g) ≡ (same n name || is_given name g)
given_after names.Mapping names.Mapping g = refl
given_after names.Mapping names.Workers g = refl
given_after names.Mapping names.Make g = refl
given_after names.Workers names.Mapping g = refl
given_after names.Workers names.Workers g = refl
given_after names.Workers names.Make g = refl
given_after names.Make names.Mapping g = refl
given_after names.Make names.Workers g = refl
given_after names.Make names.Make g = refl

given_now : (n : Name) (g : Given) → is_given n (giving n g) ≡ true
given_now n g = given_after n n g ∙ ap (λ (b : Bool). b || is_given n g) (same_self n)

given_still : (n name : Name) (g : Given) → same n name ≡ false → is_given name (giving n g) ≡ is_given name g
given_still n name g other = given_after n name g ∙ ap (λ (b : Bool). b || is_given name g) other

-- ---- how often an option is set, and to what

abbrev count : Name → List Setting → ℕ
count name settings = count_by (is_of name) settings

count_here : (s : Setting) (rest : List Setting) → count s.name (s ∷ rest) ≡ 1 + count s.name rest
count_here s rest = sum_by-cons _ s rest ∙ ap (λ (b : Bool). cond b 1 0 + count s.name rest) (same_self s.name)

count_there : (s : Setting) (rest : List Setting) (name : Name) → same s.name name ≡ false → count name (s ∷ rest) ≡ count name rest
count_there s rest name other =
    let e : count name (s ∷ rest) ≡ 0 + count name rest = sum_by-cons _ s rest ∙ ap (λ (b : Bool). cond b 1 0 + count name rest) other in
    omega (arith, e)

pub value_here : (s : Setting) (rest : List Setting) → value_of s.name (s ∷ rest) ≡ Some s.value
value_here s rest = ap (λ (b : Bool). option_map (λ (t : Setting). t.value) (cond b (Some s) (find (is_of s.name) rest))) (same_self s.name)

pub value_there : (s : Setting) (rest : List Setting) (name : Name) → same s.name name ≡ false → value_of name (s ∷ rest) ≡ value_of name rest
value_there s rest name other = ap (λ (b : Bool). option_map (λ (t : Setting). t.value) (cond b (Some s) (find (is_of name) rest))) other

pub no_value : (name : Name) (settings : List Setting) → count name settings ≡ 0 → value_of name settings ≡ None
no_value name [] none = refl
no_value name (s ∷ rest) none = elim (name_cases s.name name) [
  | inl e ↦
      let here : count name (s ∷ rest) ≡ 1 + count name rest = subst (λ (n : Name). count n (s ∷ rest) ≡ 1 + count n rest) e (count_here s rest) in
      absurd (omega (arith, here))
  | inr other ↦ value_there s rest name other ∙ no_value name rest (sym (count_there s rest name other) ∙ none)
]

-- ---- settings after those that are given

abbrev load : Bool → ℕ
load b = if b then 1 else 0

-- no option is given twice, and each has a value that it takes
pub record Fits (g : Given) (settings : List Setting) : Type 0 where
  pub once : (name : Name) → count_by (is_of name) settings + (if is_given name g then 1 else 0) ≤ 1
  pub values : (name : Name) → IfSome (value_of name settings) (λ value. is_value name value ≡ true)

-- what is given at the end
pub record Takes (g : Given) (settings : List Setting) (h : Given) : Type 0 where
  pub fits : Fits g settings
  pub given : (name : Name) → is_given name h ≡ (is_given name g || is_some (value_of name settings))

pub fits_after : (s : Setting) (rest : List Setting) (g : Given) → Fits g (s ∷ rest) → Fits (giving s.name g) rest
fits_after s rest g fits = record {
  once = λ name. elim (name_cases s.name name) [
    | inl e ↦ subst (λ (n : Name). count n rest + load (is_given n (giving s.name g)) ≤ 1) e
        (rw (given_now s.name g) (omega (arith, fits.once s.name, count_here s rest)))
    | inr other ↦ rw (given_still s.name name g other) (subst (λ (k : ℕ). k + load (is_given name g) ≤ 1) (count_there s rest name other) (fits.once name))
  ];
  values = λ name. elim (name_cases s.name name) [
    | inl e ↦
        let none : count s.name rest ≡ 0 = omega (arith, fits.once s.name, count_here s rest) in
        subst (λ (n : Name). IfSome (value_of n rest) (λ value. is_value n value ≡ true)) e (rw (no_value s.name rest none) tt)
    | inr other ↦ subst (λ (o : Option (List ℕ)). IfSome o (λ value. is_value name value ≡ true)) (value_there s rest name other) (fits.values name)
  ];
}

not_given : (s : Setting) (rest : List Setting) (g : Given) (b : Bool) → is_given s.name g ≡ b → Fits g (s ∷ rest) → b ≡ false
not_given s rest g true is fits =
    let once : count s.name (s ∷ rest) + load true ≤ 1 = subst (λ (b : Bool). count s.name (s ∷ rest) + load b ≤ 1) is (fits.once s.name) in
    absurd (omega (arith, once, count_here s rest))
not_given s rest g false is fits = refl

-- an option that fits is not given yet, and has a value that it takes
pub new_option : (s : Setting) (rest : List Setting) (g : Given) → Fits g (s ∷ rest) → is_given s.name g ≡ false
new_option s rest g fits = not_given s rest g (is_given s.name g) refl fits

pub right_value : (s : Setting) (rest : List Setting) (g : Given) → Fits g (s ∷ rest) → is_value s.name s.value ≡ true
right_value s rest g fits = subst (λ (o : Option (List ℕ)). IfSome o (λ v. is_value s.name v ≡ true)) (value_here s rest) (fits.values s.name)

one_taken : (s : Setting) (rest : List Setting) (g : Given) → Fits g (s ∷ rest) → with_option s.name s.value g ≡ Some (giving s.name g)
one_taken s rest g fits = ap₂ (λ (given right : Bool). if not given && right then Some (giving s.name g) else None) (new_option s rest g fits) (right_value s rest g fits)

pub all_taken : (settings : List Setting) (g : Given) → Fits g settings → (h : Given) × (taken settings g ≡ Some h)
all_taken [] g fits = (g, refl)
all_taken (s ∷ rest) g fits =
    let more = all_taken rest (giving s.name g) (fits_after s rest g fits) in
    (more.0, ap (option_and_then (taken rest)) (one_taken s rest g fits) ∙ more.1)

takes_before : (s : Setting) (rest : List Setting) (g h : Given) → is_given s.name g ≡ false → is_value s.name s.value ≡ true → Takes (giving s.name g) rest h → Takes g (s ∷ rest) h
takes_before s rest g h new right takes = record {
  fits = record {
    once = λ name. elim (name_cases s.name name) [
      | inl e ↦
          let none : count s.name rest + load true ≤ 1 = subst (λ (b : Bool). count s.name rest + load b ≤ 1) (given_now s.name g) (takes.fits.once s.name) in
          subst (λ (n : Name). count n (s ∷ rest) + load (is_given n g) ≤ 1) e (rw new (omega (arith, none, count_here s rest)))
      | inr other ↦
          let once : count name rest + load (is_given name g) ≤ 1 = subst (λ (b : Bool). count name rest + load b ≤ 1) (given_still s.name name g other) (takes.fits.once name) in
          subst (λ (k : ℕ). k + load (is_given name g) ≤ 1) (sym (count_there s rest name other)) once
    ];
    values = λ name. elim (name_cases s.name name) [
      | inl e ↦ subst (λ (n : Name). IfSome (value_of n (s ∷ rest)) (λ value. is_value n value ≡ true)) e
          (subst (λ (o : Option (List ℕ)). IfSome o (λ value. is_value s.name value ≡ true)) (sym (value_here s rest)) right)
      | inr other ↦ subst (λ (o : Option (List ℕ)). IfSome o (λ value. is_value name value ≡ true)) (sym (value_there s rest name other)) (takes.fits.values name)
    ];
  };
  given = λ name. elim (name_cases s.name name) [
    | inl e ↦ subst (λ (n : Name). is_given n h ≡ (is_given n g || is_some (value_of n (s ∷ rest)))) e
        (takes.given s.name ∙ ap (λ (b : Bool). b || is_some (value_of s.name rest)) (given_now s.name g)
        ∙ sym (or_right (is_given s.name g) (is_some (value_of s.name (s ∷ rest))) (ap is_some (value_here s rest))))
    | inr other ↦ takes.given name ∙ ap₂ (λ (b : Bool) (o : Option (List ℕ)). b || is_some o) (given_still s.name name g other) (sym (value_there s rest name other))
  ];
}

split_taken : (s : Setting) (rest : List Setting) (g h : Given) (b : Bool) → (not (is_given s.name g) && is_value s.name s.value) ≡ b
    → ((k : Given) → taken rest k ≡ Some h → Takes k rest h)
    → option_and_then (taken rest) (if b then Some (giving s.name g) else None) ≡ Some h → Takes g (s ∷ rest) h
split_taken s rest g h false is more e = absurd cc
split_taken s rest g h true is more e =
    let both = and_parts (not (is_given s.name g)) (is_value s.name s.value) is in
    takes_before s rest g h (not-true _ both.0) both.1 (more (giving s.name g) e)

load_small : (b : Bool) → 0 + load b ≤ 1
load_small true = omega arith
load_small false = omega arith

or_nothing : (b : Bool) → b ≡ (b || false)
or_nothing true = refl
or_nothing false = refl

pub taken_all : (settings : List Setting) (g h : Given) → taken settings g ≡ Some h → Takes g settings h
taken_all [] g h e = record {
  fits = record { once = λ name. load_small (is_given name g); values = λ name. tt };
  given = λ name. let same_given : h ≡ g = cc in ap (is_given name) same_given ∙ or_nothing (is_given name g);
}
taken_all (s ∷ rest) g h e = split_taken s rest g h (not (is_given s.name g) && is_value s.name s.value) refl (λ k is. taken_all rest k h is) e
