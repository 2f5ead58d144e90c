-- Numbers, columns and entries of a line, one behind another.
use Rattle.std.proofs.Common.{◌≡◌, ◌≢◌, ℕ, ◌<◌, ◌^◌, ◌+◌, inl, inr, List, [], ◌∷◌, ◌++◌, length, refl, ap, sym, subst, ◌∙◌, arith, append_assoc, append-nil}
use Rattle.std.specs.Prelude.{codes, flat_map, Vec}
use Rattle.std.specs.declared.alloc.Global.{Global}
use Rattle.std.specs.Fmt.{decimal}
use Rattle.std.specs.List.{AllByRecursion}
use Rattle.std.specs.Str.Parse.{AllDigits}
use Rattle.std.proofs.lemmas.Bool.{ne_eqb}
use Rattle.std.proofs.lemmas.Str.Parse.{digit_from_value}
use Rattle.std.proofs.lemmas.List.Concat.{flat_map-cons}
use Rattle.kn_term.specs.Valuations.{with_word, AreEntries, Precedes}
use Rattle.kn_model.specs.Terms.{Given, Valuation}
use Rattle.kn_cond.specs.declared.standing.Standing.{Standing}
use Rattle.kn_cond.specs.declared.standing.Standing.TheVariants.{Inputs, Open}
use Rattle.kn_model.specs.Reports.{Reach, At, Undecided, Nowhere}
use Rattle.kn_report.specs.Forms.{GivenFits, InputsFit, StandingFits, ReachFits, ColumnsFit}
use Rattle.kn_report.specs.Texts.{input_text, further, inputs_text, standing_text, behind_comma, behind_blank, column_text, column_word, reach_text}
use Rattle.kn_report.specs.Views.{lists_of}
use Rattle.kn_report.specs.Words.{Without, BeginsWith, EndsNumbers}
use Rattle.kn_report.proofs.Cut.{cut_once, head_is, tail_is, decimal_digits, decimal_some, decimal_without}
use Rattle.kn_report.proofs.Blanks.{letters, input_without, column_without}

-- a number is no word
no_word : (c : ℕ) (cs : List ℕ) (n : ℕ) → 57 < c → n < 2 ^ 64 → decimal n ≡ c ∷ cs → ⊥
no_word c cs n high small e = go (decimal n) (decimal_digits n small) e
  where
    go : (ds : List ℕ) → AllDigits 10 ds → ds ≡ c ∷ cs → ⊥
    go [] d e = cc
    go (x ∷ ds) d e = let r = digit_from_value x d.0 in let is : x ≡ c = head_is x c ds cs e in omega (arith, r, is, high)

-- a number behind such a byte
abbrev pub behind_byte : ℕ → ℕ → List ℕ
behind_byte byte i = byte ∷ decimal i

-- what is left of the numbers
abbrev pub LeftNumbers : ℕ → List ℕ → List ℕ → List ℕ → List ℕ → List ℕ → Type 0
LeftNumbers byte start is more done rest = (tail : List ℕ) × (start ++ is ≡ done ++ tail) × AllByRecursion (λ (i : ℕ). i < 2 ^ 64) tail × (rest ≡ flat_map (behind_byte byte) tail ++ more)

module _ (byte : ℕ) (low : byte < 48) where
  numbers_begin : (is more : List ℕ) → EndsNumbers byte more → BeginsWith byte (flat_map (behind_byte byte) is ++ more)
  numbers_begin [] more (inl e) = subst (BeginsWith byte) (sym e) tt
  numbers_begin [] more (inr e) = subst (BeginsWith byte) (sym e.1) refl
  numbers_begin (i ∷ is) more ends = subst (λ (l : List ℕ). BeginsWith byte (l ++ more)) (sym (flat_map-cons (behind_byte byte) i is)) refl

  module _ (start is more done rest : List ℕ) (left : LeftNumbers byte start is more done rest) (ends : EndsNumbers byte more) where
    -- no byte in front: all numbers were read
    pub numbers_none : ((w : List ℕ) → rest ≢ byte ∷ w) → (done ≡ start ++ is) × (rest ≡ more)
    numbers_none none = go left.0 left.1 left.3
      where
        go : (tail : List ℕ) → start ++ is ≡ done ++ tail → rest ≡ flat_map (behind_byte byte) tail ++ more → (done ≡ start ++ is) × (rest ≡ more)
        go [] e r = (sym (e ∙ append-nil done), r)
        go (i ∷ ts) e r = absurd (none ((decimal i ++ flat_map (behind_byte byte) ts) ++ more) (r ∙ ap (λ (l : List ℕ). l ++ more) (flat_map-cons (behind_byte byte) i ts)))

    module _ (word after : List ℕ) (is_word : rest ≡ byte ∷ (word ++ after)) (w : Without byte word) (b : BeginsWith byte after) where
      next_is : (i : ℕ) (ts : List ℕ) → i < 2 ^ 64 → rest ≡ flat_map (behind_byte byte) (i ∷ ts) ++ more → (word ≡ decimal i) × (after ≡ flat_map (behind_byte byte) ts ++ more)
      next_is i ts small r =
          let apart : rest ≡ byte ∷ (decimal i ++ (flat_map (behind_byte byte) ts ++ more)) = r ∙ ap (λ (l : List ℕ). l ++ more) (flat_map-cons (behind_byte byte) i ts) ∙ ap (λ (l : List ℕ). byte ∷ l) (append_assoc (decimal i) (flat_map (behind_byte byte) ts) more) in
          cut_once byte word after (decimal i) (flat_map (behind_byte byte) ts ++ more) w b (decimal_without byte i low small) (numbers_begin ts more ends) (tail_is byte byte _ _ (sym is_word ∙ apart))

      -- the word behind the numbers
      pub numbers_end : word ≡ codes "inputs" → (done ≡ start ++ is) × (rest ≡ more)
      numbers_end last = go left.0 left.1 left.2 left.3
        where
          go : (tail : List ℕ) → start ++ is ≡ done ++ tail → AllByRecursion (λ (i : ℕ). i < 2 ^ 64) tail → rest ≡ flat_map (behind_byte byte) tail ++ more → (done ≡ start ++ is) × (rest ≡ more)
          go [] e s r = (sym (e ∙ append-nil done), r)
          go (i ∷ ts) e s r = absurd (no_word 105 (codes "nputs") i (omega arith) s.0 (sym (next_is i ts s.0 r).0 ∙ last))

      -- another word is the next number
      pub numbers_next : (word ≡ codes "inputs" → ⊥) → (i : ℕ) × (i < 2 ^ 64) × (word ≡ decimal i) × LeftNumbers byte start is more (done ++ i ∷ []) after
      numbers_next other = go left.0 left.1 left.2 left.3
        where
          at_end : rest ≡ more → EndsNumbers byte more → ⊥
          at_end r (inl e) = let wrong : byte ∷ (word ++ after) ≡ [] = sym is_word ∙ r ∙ e in cc
          at_end r (inr e) = other (cut_once byte word after (codes "inputs") e.0 w b (letters 48 byte (codes "inputs") low refl) e.2 (tail_is byte byte _ _ (sym is_word ∙ r ∙ e.1))).0

          go : (tail : List ℕ) → start ++ is ≡ done ++ tail → AllByRecursion (λ (i : ℕ). i < 2 ^ 64) tail → rest ≡ flat_map (behind_byte byte) tail ++ more → (i : ℕ) × (i < 2 ^ 64) × (word ≡ decimal i) × LeftNumbers byte start is more (done ++ i ∷ []) after
          go [] e s r = absurd (at_end r ends)
          go (i ∷ ts) e s r = let n = next_is i ts s.0 r in (i, s.0, n.0, (ts, e ∙ sym (append_assoc done (i ∷ []) ts), s.1, n.1))

-- a column: its first number
commas_begin : (is : List ℕ) → BeginsWith 44 (flat_map behind_comma is)
commas_begin [] = tt
commas_begin (i ∷ is) = subst (BeginsWith 44) (sym (flat_map-cons behind_comma i is)) refl

pub column_first : (i : ℕ) (is word rest text : List ℕ) → i < 2 ^ 64 → text ≡ column_text (i ∷ is) → text ≡ word ++ rest → Without 44 word → BeginsWith 44 rest → (word ≡ decimal i) × (rest ≡ flat_map behind_comma is ++ [])
column_first i is word rest text small from cut w b =
    let c = cut_once 44 word rest (decimal i) (flat_map behind_comma is) w b (decimal_without 44 i (omega arith) small) (commas_begin is) (sym cut ∙ from) in
    (c.0, c.1 ∙ sym (append-nil (flat_map behind_comma is)))

-- what is left of the columns
columns_begin : (cs : List (List ℕ)) → BeginsWith 32 (flat_map column_word cs)
columns_begin [] = tt
columns_begin (c ∷ cs) = subst (BeginsWith 32) (sym (flat_map-cons column_word c cs)) refl

module _ (cs : List (List ℕ)) (done : List (Vec ℕ Global)) (rest : List ℕ) where
  abbrev pub LeftColumns : Type 0
  LeftColumns = (tail : List (List ℕ)) × (cs ≡ lists_of done ++ tail) × ColumnsFit tail × AllByRecursion (λ (c : List ℕ). 0 < length c) tail × (rest ≡ flat_map column_word tail)

lists_last : (done : List (Vec ℕ Global)) (v : Vec ℕ Global) (tail : List (List ℕ)) → lists_of (done ++ v ∷ []) ++ tail ≡ lists_of done ++ (v.items ∷ tail)
lists_last [] v tail = refl
lists_last (u ∷ done) v tail = ap (λ (l : List (List ℕ)). u.items ∷ l) (lists_last done v tail)

module _ (cs : List (List ℕ)) (done : List (Vec ℕ Global)) (rest : List ℕ) (left : LeftColumns cs done rest) where
  pub columns_none : ((w : List ℕ) → rest ≢ 32 ∷ w) → lists_of done ≡ cs
  columns_none none = go left.0 left.1 left.4
    where
      go : (tail : List (List ℕ)) → cs ≡ lists_of done ++ tail → rest ≡ flat_map column_word tail → lists_of done ≡ cs
      go [] e r = sym (e ∙ append-nil (lists_of done))
      go (c ∷ ts) e r = absurd (none (column_text c ++ flat_map column_word ts) (r ∙ flat_map-cons column_word c ts))

  pub columns_next : (word after : List ℕ) → rest ≡ 32 ∷ (word ++ after) → Without 32 word → BeginsWith 32 after
      → (i : ℕ) × (is : List ℕ) × AllByRecursion (λ (j : ℕ). j < 2 ^ 64) (i ∷ is) × (word ≡ column_text (i ∷ is)) × ((v : Vec ℕ Global) → v.items ≡ i ∷ is → LeftColumns cs (done ++ v ∷ []) after)
  columns_next word after is w b = go left.0 left.1 left.2 left.3 left.4
    where
      go : (tail : List (List ℕ)) → cs ≡ lists_of done ++ tail → ColumnsFit tail → AllByRecursion (λ (c : List ℕ). 0 < length c) tail → rest ≡ flat_map column_word tail
          → (i : ℕ) × (is : List ℕ) × AllByRecursion (λ (j : ℕ). j < 2 ^ 64) (i ∷ is) × (word ≡ column_text (i ∷ is)) × ((v : Vec ℕ Global) → v.items ≡ i ∷ is → LeftColumns cs (done ++ v ∷ []) after)
      go [] e fits some r = let wrong : 32 ∷ (word ++ after) ≡ [] = sym is ∙ r in absurd cc
      go ([] ∷ ts) e fits some r = let none = some.0 in absurd (omega (arith, none))
      go ((i ∷ js) ∷ ts) e fits some r =
          let apart : rest ≡ 32 ∷ (column_text (i ∷ js) ++ flat_map column_word ts) = r ∙ flat_map-cons column_word (i ∷ js) ts in
          let cut = cut_once 32 word after (column_text (i ∷ js)) (flat_map column_word ts) w b (column_without 32 (i ∷ js) (omega arith) fits.0) (columns_begin ts) (tail_is 32 32 _ _ (sym is ∙ apart)) in
          (i, js, fits.0, cut.0, λ v same. (ts, e ∙ ap (λ (c : List ℕ). lists_of done ++ (c ∷ ts)) (sym same) ∙ sym (lists_last done v ts), fits.1, some.1, cut.1))

-- an entry behind all that come before it
each_before : (h g : Given) (a tail : Valuation) → AllByRecursion (Precedes h) (a ++ g ∷ tail) → Precedes h g
each_before h g [] tail all = all.0
each_before h g (x ∷ a) tail all = each_before h g a tail all.1

pub entered_last : (g : Given) (a tail : Valuation) → AreEntries (a ++ g ∷ tail) → with_word g.node g.index g.word a ≡ a ++ g ∷ []
entered_last g [] tail are = let some = are.0 in rw (ne_eqb g.word 0 (λ e. omega (arith, e, some))) refl
entered_last g (h ∷ a) tail are = rw (each_before h g a tail are.1) (ap (λ (l : Valuation). h ∷ l) (entered_last g a tail are.2))

inputs_begin : (a : Valuation) → BeginsWith 32 (flat_map further a)
inputs_begin [] = tt
inputs_begin (g ∷ a) = subst (BeginsWith 32) (sym (flat_map-cons further g a)) refl

module _ (a done : Valuation) (rest : List ℕ) where
  -- what is left of the entries
  abbrev pub LeftInputs : Type 0
  LeftInputs = (tail : Valuation) × (a ≡ done ++ tail) × AllByRecursion GivenFits tail × (rest ≡ flat_map further tail)

module _ (a done : Valuation) (rest : List ℕ) (left : LeftInputs a done rest) where
  pub inputs_none : ((w : List ℕ) → rest ≢ 32 ∷ w) → done ≡ a
  inputs_none none = go left.0 left.1 left.3
    where
      go : (tail : Valuation) → a ≡ done ++ tail → rest ≡ flat_map further tail → done ≡ a
      go [] e r = sym (e ∙ append-nil done)
      go (g ∷ ts) e r = absurd (none (input_text g ++ flat_map further ts) (r ∙ flat_map-cons further g ts))

  pub inputs_next : (word after : List ℕ) → AreEntries a → rest ≡ 32 ∷ (word ++ after) → Without 32 word → BeginsWith 32 after
      → (g : Given) × GivenFits g × (word ≡ input_text g) × (with_word g.node g.index g.word done ≡ done ++ g ∷ []) × LeftInputs a (done ++ g ∷ []) after
  inputs_next word after are is w b = go left.0 left.1 left.2 left.3
    where
      go : (tail : Valuation) → a ≡ done ++ tail → AllByRecursion GivenFits tail → rest ≡ flat_map further tail → (g : Given) × GivenFits g × (word ≡ input_text g) × (with_word g.node g.index g.word done ≡ done ++ g ∷ []) × LeftInputs a (done ++ g ∷ []) after
      go [] e fits r = let wrong : 32 ∷ (word ++ after) ≡ [] = sym is ∙ r in absurd cc
      go (g ∷ ts) e fits r =
          let apart : rest ≡ 32 ∷ (input_text g ++ flat_map further ts) = r ∙ flat_map-cons further g ts in
          let cut = cut_once 32 word after (input_text g) (flat_map further ts) w b (input_without 32 g (omega arith) fits.0) (inputs_begin ts) (tail_is 32 32 _ _ (sym is ∙ apart)) in
          (g, fits.0, cut.0, entered_last g done ts (subst AreEntries e are), (ts, e ∙ sym (append_assoc done (g ∷ []) ts), fits.1, cut.1))

-- listed inputs behind a blank, where there is one
pub no_inputs : (a : Valuation) (text : List ℕ) → InputsFit a → text ≡ 32 ∷ inputs_text a → text ≡ codes " -" → [] ≡ a
no_inputs [] text fits is dash = refl
no_inputs (g ∷ a) text fits is dash = absurd (go (decimal g.node) _ (decimal_digits g.node small) (decimal_some g.node small) behind)
  where
    small : g.node < 2 ^ 64
    small = let s = fits.numbers.0.node in omega (arith, s)

    go : (ds more : List ℕ) → AllDigits 10 ds → 0 < length ds → ds ++ more ≡ codes "-" → ⊥
    go [] more d some e = omega (arith, some)
    go (x ∷ ds) more d some e = let r = digit_from_value x d.0 in let is : x ≡ 45 = head_is x 45 (ds ++ more) [] e in omega (arith, r, is)

    rest : List ℕ
    rest = (codes "." ++ (decimal g.index ++ (codes "=" ++ decimal g.word))) ++ flat_map further a

    behind : decimal g.node ++ rest ≡ codes "-"
    behind = sym (append_assoc (decimal g.node) (codes "." ++ (decimal g.index ++ (codes "=" ++ decimal g.word))) (flat_map further a)) ∙ tail_is 32 32 _ _ (sym is ∙ dash)

pub some_inputs : (a : Valuation) (text : List ℕ) → text ≡ 32 ∷ inputs_text a → (text ≡ codes " -" → ⊥) → text ≡ flat_map further a
some_inputs [] text is other = absurd (other is)
some_inputs (g ∷ a) text is other = is ∙ sym (flat_map-cons further g a)

-- what is known: inputs, or a number
module _ (s : Standing) (text kind rest : List ℕ) (fits : StandingFits s) (is : text ≡ standing_text s) (cut : text ≡ kind ++ rest) (w : Without 32 kind) (b : BeginsWith 32 rest) where
  pub standing_open : kind ≡ codes "open" → (n : ℕ) × (n < 2 ^ 64) × (s ≡ Open n) × (rest ≡ codes " " ++ decimal n)
  standing_open e = go s fits is
    where
      go : (t : Standing) → StandingFits t → text ≡ standing_text t → (n : ℕ) × (n < 2 ^ 64) × (t ≡ Open n) × (rest ≡ codes " " ++ decimal n)
      go (Inputs a) f i =
          let c = cut_once 32 kind rest (codes "inputs") (32 ∷ inputs_text a) w b (letters 45 32 (codes "inputs") (omega arith) refl) refl (sym cut ∙ i) in
          absurd (omega (arith, head_is 111 105 _ _ (sym e ∙ c.0)))
      go (Open n) f i =
          let c = cut_once 32 kind rest (codes "open") (32 ∷ decimal n) w b (letters 45 32 (codes "open") (omega arith) refl) refl (sym cut ∙ i) in
          (n, f, refl, c.1)

  pub standing_inputs : (kind ≡ codes "open" → ⊥) → (a : Valuation) × InputsFit a × (s ≡ Inputs a) × (rest ≡ 32 ∷ inputs_text a)
  standing_inputs other = go s fits is
    where
      go : (t : Standing) → StandingFits t → text ≡ standing_text t → (a : Valuation) × InputsFit a × (t ≡ Inputs a) × (rest ≡ 32 ∷ inputs_text a)
      go (Inputs a) f i =
          let c = cut_once 32 kind rest (codes "inputs") (32 ∷ inputs_text a) w b (letters 45 32 (codes "inputs") (omega arith) refl) refl (sym cut ∙ i) in
          (a, f, refl, c.1)
      go (Open n) f i =
          let c = cut_once 32 kind rest (codes "open") (32 ∷ decimal n) w b (letters 45 32 (codes "open") (omega arith) refl) refl (sym cut ∙ i) in
          absurd (other c.0)

-- what a failure line says: a place, or a word
abbrev pub place_text : ℕ → List ℕ → Valuation → List ℕ
place_text d is a = codes " dstate " ++ (decimal d ++ (codes " pick" ++ (flat_map behind_blank is ++ (codes " inputs " ++ inputs_text a))))

module _ (x : Reach) (text kind rest : List ℕ) (fits : ReachFits x) (is : text ≡ reach_text x) (cut : text ≡ kind ++ rest) (w : Without 32 kind) (b : BeginsWith 32 rest) where
  kind_is : (name more : List ℕ) → Without 32 name → BeginsWith 32 more → text ≡ name ++ more → (kind ≡ name) × (rest ≡ more)
  kind_is name more n m from = cut_once 32 kind rest name more w b n m (sym cut ∙ from)

  pub reach_open : kind ≡ codes "open" → Undecided ≡ x
  reach_open e = go x is
    where
      go : (y : Reach) → text ≡ reach_text y → Undecided ≡ y
      go (At d pick a) i = let c = kind_is (codes "reached") (place_text d pick a) (letters 45 32 (codes "reached") (omega arith) refl) refl i in absurd (omega (arith, head_is 111 114 _ _ (sym e ∙ c.0)))
      go Undecided i = refl
      go Nowhere i = let c = kind_is (codes "nowhere") [] (letters 45 32 (codes "nowhere") (omega arith) refl) tt i in absurd (omega (arith, head_is 111 110 _ _ (sym e ∙ c.0)))

  pub reach_nowhere : kind ≡ codes "nowhere" → Nowhere ≡ x
  reach_nowhere e = go x is
    where
      go : (y : Reach) → text ≡ reach_text y → Nowhere ≡ y
      go (At d pick a) i = let c = kind_is (codes "reached") (place_text d pick a) (letters 45 32 (codes "reached") (omega arith) refl) refl i in absurd (omega (arith, head_is 110 114 _ _ (sym e ∙ c.0)))
      go Undecided i = let c = kind_is (codes "open") [] (letters 45 32 (codes "open") (omega arith) refl) tt i in absurd (omega (arith, head_is 110 111 _ _ (sym e ∙ c.0)))
      go Nowhere i = refl

  pub reach_place : (kind ≡ codes "open" → ⊥) → (kind ≡ codes "nowhere" → ⊥) → (d : ℕ) × (pick : List ℕ) × (a : Valuation) × ReachFits (At d pick a) × (x ≡ At d pick a) × (rest ≡ place_text d pick a)
  reach_place other further_other = go x fits is
    where
      go : (y : Reach) → ReachFits y → text ≡ reach_text y → (d : ℕ) × (pick : List ℕ) × (a : Valuation) × ReachFits (At d pick a) × (y ≡ At d pick a) × (rest ≡ place_text d pick a)
      go (At d pick a) f i = let c = kind_is (codes "reached") (place_text d pick a) (letters 45 32 (codes "reached") (omega arith) refl) refl i in (d, pick, a, f, refl, c.1)
      go Undecided f i = absurd (other (kind_is (codes "open") [] (letters 45 32 (codes "open") (omega arith) refl) tt i).0)
      go Nowhere f i = absurd (further_other (kind_is (codes "nowhere") [] (letters 45 32 (codes "nowhere") (omega arith) refl) tt i).0)
