-- Words, and what a line's text is taken apart into.
use Rattle.std.proofs.Common.{◌≡◌, ◌≢◌, ℕ, ◌+◌, ◌<◌, ◌≤◌, ◌^◌, Bool, true, false, List, [], ◌∷◌, ◌++◌, length, take, drop, get_or, refl, ap, sym, subst, ◌∙◌, arith, append_assoc, append-nil, length-append}
use Rattle.std.specs.Prelude.{Some, None, flat_map, if◌then◌else◌}
use Rattle.std.specs.Fmt.{decimal}
use Rattle.std.specs.List.{AllByRecursion}
use Rattle.std.specs.Str.Parse.{AllDigits}
use Rattle.std.proofs.lemmas.Fmt.{decimal_is_IsNumeral_wide}
use Rattle.std.proofs.lemmas.Str.Parse.{digit_from_value}
use Rattle.std.proofs.lemmas.List.{take_more, take-append-drop}
use Rattle.std.proofs.Math.Seq.{take-append_seam, drop-append_seam}
use Rattle.std.proofs.lemmas.List.Concat.{flat_map-cons}
use Rattle.kn_cnf.specs.declared.clauses.Lit.{Lit}
use Rattle.kn_cnf.specs.Formulas.{Step}
use Rattle.kn_unsat.specs.Text.{literal_text, literal_word, hint_word, hints_text, body_text, line_text, IsNumbered}
use Rattle.kn_unsat.specs.Words.{Without, BeginsWith, IsLineRead}

-- what is there is one thing
pub some_is : {X : Type 0} (x y : X) → Some x ≡ Some y → x ≡ y
some_is x y e = cc

pub none_is : {X P : Type 0} (x : X) → None ≡ Some x → P
none_is x e = absurd cc

-- the digits of a number
pub decimal_digits : (n : ℕ) → n ≤ 2 ^ 64 → AllDigits 10 (decimal n)
decimal_digits n h = (decimal_is_IsNumeral_wide n (omega (arith, h))).0.1

pub decimal_some : (n : ℕ) → n ≤ 2 ^ 64 → 0 < length (decimal n)
decimal_some n h = (decimal_is_IsNumeral_wide n (omega (arith, h))).0.0

-- digits are not bytes below 48
digits_without : (b : ℕ) (ds : List ℕ) → b < 48 → AllDigits 10 ds → Without b ds
digits_without b [] h d = tt
digits_without b (c ∷ ds) h d = (λ e. let r = digit_from_value c d.0 in omega (arith, r, e, h), digits_without b ds h d.1)

without_append : (b : ℕ) (xs ys : List ℕ) → Without b xs → Without b ys → Without b (xs ++ ys)
without_append b [] ys p q = q
without_append b (x ∷ xs) ys p q = (p.0, without_append b xs ys p.1 q)

-- one byte more
pub without_more : (b : ℕ) (text : List ℕ) (place : ℕ) → place < length text → Without b (take place text) → get_or text place 0 ≢ b → Without b (take (place + 1) text)
without_more b text place inside so_far other =
    subst (Without b) (sym (take_more text place 0 inside)) (without_append b (take place text) (get_or text place 0 ∷ []) so_far (other, tt))

-- the heads and the tails of equal lists
pub head_is : (x y : ℕ) (xs ys : List ℕ) → x ∷ xs ≡ y ∷ ys → x ≡ y
head_is x y xs ys e = ap (λ (l : List ℕ). get_or l 0 0) e

pub tail_is : (x y : ℕ) (xs ys : List ℕ) → x ∷ xs ≡ y ∷ ys → xs ≡ ys
tail_is x y xs ys e = ap (λ (l : List ℕ). drop 1 l) e

-- a text is cut in one way at the first such byte
pub cut_once : (b : ℕ) (xs ys us vs : List ℕ) → Without b xs → BeginsWith b ys → Without b us → BeginsWith b vs → xs ++ ys ≡ us ++ vs → (xs ≡ us) × (ys ≡ vs)
cut_once b [] ys [] vs p q r s e = (refl, e)
cut_once b [] [] (u ∷ us) vs p q r s e = absurd cc
cut_once b [] (y ∷ ys) (u ∷ us) vs p q r s e = absurd (r.0 (sym (head_is y u ys (us ++ vs) e) ∙ q))
cut_once b (x ∷ xs) ys [] [] p q r s e = absurd cc
cut_once b (x ∷ xs) ys [] (v ∷ vs) p q r s e = absurd (p.0 (head_is x v (xs ++ ys) vs e ∙ s))
cut_once b (x ∷ xs) ys (u ∷ us) vs p q r s e =
    let rest = cut_once b xs ys us vs p.1 q r.1 s (tail_is x u (xs ++ ys) (us ++ vs) e) in
    (ap (λ (n : ℕ). n ∷ xs) (head_is x u (xs ++ ys) (us ++ vs) e) ∙ ap (λ (l : List ℕ). u ∷ l) rest.0, rest.1)

-- the text of a literal has neither spaces nor line feeds
pub literal_without : (b : ℕ) (l : Lit) → b < 45 → l.var < 2 ^ 64 → Without b (literal_text l)
literal_without b l h small = go l.neg
  where
    go : (n : Bool) → Without b ((if n then 45 ∷ [] else []) ++ decimal (l.var + 1))
    go true = (λ e. omega (arith, e, h), digits_without b (decimal (l.var + 1)) (omega (arith, h)) (decimal_digits (l.var + 1) (omega (arith, small))))
    go false = digits_without b (decimal (l.var + 1)) (omega (arith, h)) (decimal_digits (l.var + 1) (omega (arith, small)))

pub hint_without : (b h : ℕ) → b < 45 → h < 2 ^ 64 → Without b (decimal h)
hint_without b h low small = digits_without b (decimal h) (omega (arith, low)) (decimal_digits h (omega (arith, small)))

-- the text of a literal is not `h`
pub literal_no_h : (l : Lit) → l.var < 2 ^ 64 → literal_text l ≡ 104 ∷ [] → ⊥
literal_no_h l small e = go l.neg e
  where
    no_digit : (ds : List ℕ) → AllDigits 10 ds → ds ≡ 104 ∷ [] → ⊥
    no_digit [] d e = cc
    no_digit (c ∷ ds) d e = let r = digit_from_value c d.0 in let is : c ≡ 104 = head_is c 104 ds [] e in omega (arith, r, is)

    go : (n : Bool) → (if n then 45 ∷ [] else []) ++ decimal (l.var + 1) ≡ 104 ∷ [] → ⊥
    go true e = omega (arith, head_is 45 104 (decimal (l.var + 1)) [] e)
    go false e = no_digit (decimal (l.var + 1)) (decimal_digits (l.var + 1) (omega (arith, small))) e

-- words begin with a space
pub hints_begin : (hs : List ℕ) → BeginsWith 32 (flat_map hint_word hs)
hints_begin [] = tt
hints_begin (h ∷ hs) = subst (BeginsWith 32) (sym (flat_map-cons hint_word h hs)) refl

pub literals_begin : (c : List Lit) (hs : List ℕ) → BeginsWith 32 (flat_map literal_word c ++ hints_text hs)
literals_begin [] hs = refl
literals_begin (l ∷ c) hs = subst (λ (t : List ℕ). BeginsWith 32 (t ++ hints_text hs)) (sym (flat_map-cons literal_word l c)) refl

-- what is left of the literals
abbrev pub LeftLiterals : List Lit → List ℕ → List Lit → List ℕ → Type 0
LeftLiterals c hs done rest = (tail : List Lit) × (c ≡ done ++ tail) × AllByRecursion (λ (m : Lit). m.var < 2 ^ 64) tail × (rest ≡ flat_map literal_word tail ++ hints_text hs)

abbrev pub LeftHints : List ℕ → List ℕ → List ℕ → Type 0
LeftHints hs done rest = (tail : List ℕ) × (hs ≡ done ++ tail) × AllByRecursion (λ (h : ℕ). h < 2 ^ 64) tail × (rest ≡ flat_map hint_word tail)

module _ (c : List Lit) (hs : List ℕ) (done : List Lit) (rest word after : List ℕ) where
  -- no word is left only where nothing is spelled
  pub literals_none : LeftLiterals c hs done rest → ((w : List ℕ) → rest ≢ 32 ∷ w) → ⊥
  literals_none left none = go left.0 left.3
    where
      go : (tail : List Lit) → rest ≡ flat_map literal_word tail ++ hints_text hs → ⊥
      go [] e = none (104 ∷ flat_map hint_word hs) e
      go (l ∷ ls) e = none ((literal_text l ++ flat_map literal_word ls) ++ hints_text hs) (e ∙ ap (λ (t : List ℕ). t ++ hints_text hs) (flat_map-cons literal_word l ls))

  -- the word `h` ends the literals
  pub literals_end : LeftLiterals c hs done rest → rest ≡ 32 ∷ (word ++ after) → Without 32 word → BeginsWith 32 after → word ≡ 104 ∷ [] → (done ≡ c) × (after ≡ flat_map hint_word hs)
  literals_end left is w b h = go left.0 left.1 left.2 left.3
    where
      go : (tail : List Lit) → c ≡ done ++ tail → AllByRecursion (λ (m : Lit). m.var < 2 ^ 64) tail → rest ≡ flat_map literal_word tail ++ hints_text hs → (done ≡ c) × (after ≡ flat_map hint_word hs)
      go [] e s r =
          let cut = cut_once 32 word after (104 ∷ []) (flat_map hint_word hs) w b (λ e. omega (arith, e), tt) (hints_begin hs) (tail_is 32 32 _ _ (sym is ∙ r)) in
          (sym (e ∙ append-nil done), cut.1)
      go (l ∷ ls) e s r =
          let apart : rest ≡ 32 ∷ (literal_text l ++ (flat_map literal_word ls ++ hints_text hs)) = r ∙ (ap (λ (t : List ℕ). t ++ hints_text hs) (flat_map-cons literal_word l ls) ∙ ap (λ (t : List ℕ). 32 ∷ t) (append_assoc (literal_text l) (flat_map literal_word ls) (hints_text hs))) in
          let cut = cut_once 32 word after (literal_text l) (flat_map literal_word ls ++ hints_text hs) w b (literal_without 32 l (omega arith) s.0) (literals_begin ls hs) (tail_is 32 32 _ _ (sym is ∙ apart)) in
          absurd (literal_no_h l s.0 (sym cut.0 ∙ h))

  -- another word is the next literal
  pub literals_next : LeftLiterals c hs done rest → rest ≡ 32 ∷ (word ++ after) → Without 32 word → BeginsWith 32 after → (word ≡ 104 ∷ [] → ⊥) → (l : Lit) × (l.var < 2 ^ 64) × (word ≡ literal_text l) × LeftLiterals c hs (done ++ l ∷ []) after
  literals_next left is w b no_h = go left.0 left.1 left.2 left.3
    where
      go : (tail : List Lit) → c ≡ done ++ tail → AllByRecursion (λ (m : Lit). m.var < 2 ^ 64) tail → rest ≡ flat_map literal_word tail ++ hints_text hs → (l : Lit) × (l.var < 2 ^ 64) × (word ≡ literal_text l) × LeftLiterals c hs (done ++ l ∷ []) after
      go [] e s r =
          let cut = cut_once 32 word after (104 ∷ []) (flat_map hint_word hs) w b (λ e. omega (arith, e), tt) (hints_begin hs) (tail_is 32 32 _ _ (sym is ∙ r)) in
          absurd (no_h cut.0)
      go (l ∷ ls) e s r =
          let apart : rest ≡ 32 ∷ (literal_text l ++ (flat_map literal_word ls ++ hints_text hs)) = r ∙ (ap (λ (t : List ℕ). t ++ hints_text hs) (flat_map-cons literal_word l ls) ∙ ap (λ (t : List ℕ). 32 ∷ t) (append_assoc (literal_text l) (flat_map literal_word ls) (hints_text hs))) in
          let cut = cut_once 32 word after (literal_text l) (flat_map literal_word ls ++ hints_text hs) w b (literal_without 32 l (omega arith) s.0) (literals_begin ls hs) (tail_is 32 32 _ _ (sym is ∙ apart)) in
          (l, s.0, cut.0, (ls, e ∙ sym (append_assoc done (l ∷ []) ls), s.1, cut.1))

module _ (hs done rest word after : List ℕ) where
  pub hints_none : LeftHints hs done rest → ((w : List ℕ) → rest ≢ 32 ∷ w) → done ≡ hs
  hints_none left none = go left.0 left.1 left.3
    where
      go : (tail : List ℕ) → hs ≡ done ++ tail → rest ≡ flat_map hint_word tail → done ≡ hs
      go [] e r = sym (e ∙ append-nil done)
      go (h ∷ ts) e r = absurd (none (decimal h ++ flat_map hint_word ts) (r ∙ flat_map-cons hint_word h ts))

  pub hints_next : LeftHints hs done rest → rest ≡ 32 ∷ (word ++ after) → Without 32 word → BeginsWith 32 after → (h : ℕ) × (h < 2 ^ 64) × (word ≡ decimal h) × LeftHints hs (done ++ h ∷ []) after
  hints_next left is w b = go left.0 left.1 left.2 left.3
    where
      go : (tail : List ℕ) → hs ≡ done ++ tail → AllByRecursion (λ (h : ℕ). h < 2 ^ 64) tail → rest ≡ flat_map hint_word tail → (h : ℕ) × (h < 2 ^ 64) × (word ≡ decimal h) × LeftHints hs (done ++ h ∷ []) after
      go [] e s r = let wrong : 32 ∷ (word ++ after) ≡ [] = sym is ∙ r in absurd cc
      go (h ∷ ts) e s r =
          let apart : rest ≡ 32 ∷ (decimal h ++ flat_map hint_word ts) = r ∙ flat_map-cons hint_word h ts in
          let cut = cut_once 32 word after (decimal h) (flat_map hint_word ts) w b (hint_without 32 h (omega arith) s.0) (hints_begin ts) (tail_is 32 32 _ _ (sym is ∙ apart)) in
          (h, s.0, cut.0, (ts, e ∙ sym (append_assoc done (h ∷ []) ts), s.1, cut.1))

-- the sign of a literal and its digits
pub signed_minus : (word : List ℕ) (l : Lit) → l.var < 2 ^ 64 → word ≡ literal_text l → get_or word 0 0 ≡ 45 → (true ≡ l.neg) × (drop 1 word ≡ decimal (l.var + 1))
signed_minus word l small is minus = go l.neg is
  where
    digits_first : (ds : List ℕ) → AllDigits 10 ds → get_or ds 0 0 ≡ 45 → ⊥
    digits_first [] d e = omega (arith, e)
    digits_first (c ∷ ds) d e = let r = digit_from_value c d.0 in omega (arith, r, e)

    go : (n : Bool) → word ≡ (if n then 45 ∷ [] else []) ++ decimal (l.var + 1) → (true ≡ n) × (drop 1 word ≡ decimal (l.var + 1))
    go true e = (refl, ap (drop 1) e)
    go false e = absurd (digits_first (decimal (l.var + 1)) (decimal_digits (l.var + 1) (omega (arith, small))) (sym (ap (λ (w : List ℕ). get_or w 0 0) e) ∙ minus))

literals_without : (b : ℕ) (c : List Lit) → b < 32 → AllByRecursion (λ (m : Lit). m.var < 2 ^ 64) c → Without b (flat_map literal_word c)
literals_without b [] low s = tt
literals_without b (l ∷ c) low s =
    subst (Without b) (sym (flat_map-cons literal_word l c)) ((λ e. omega (arith, e, low)), without_append b (literal_text l) (flat_map literal_word c) (literal_without b l (omega (arith, low)) s.0) (literals_without b c low s.1))

hints_without : (b : ℕ) (hs : List ℕ) → b < 32 → AllByRecursion (λ (h : ℕ). h < 2 ^ 64) hs → Without b (flat_map hint_word hs)
hints_without b [] low s = tt
hints_without b (h ∷ hs) low s =
    subst (Without b) (sym (flat_map-cons hint_word h hs)) ((λ e. omega (arith, e, low)), without_append b (decimal h) (flat_map hint_word hs) (hint_without b h (omega (arith, low)) s.0) (hints_without b hs low s.1))

-- the text of a line has no line feed within
pub body_without : (s : Step) → IsNumbered s → Without 10 (body_text s)
body_without s n =
    ((λ e. omega (arith, e)), without_append 10 (flat_map literal_word s.clause) (hints_text s.hints) (literals_without 10 s.clause (omega arith) n.variables) ((λ e. omega (arith, e)), ((λ e. omega (arith, e)), hints_without 10 s.hints (omega arith) n.hints)))

-- a text that begins with a line is cut at its end
pub line_cut : (text body rest : List ℕ) (s : Step) (after : List ℕ) → text ≡ body ++ rest → Without 10 body → BeginsWith 10 rest → IsNumbered s → text ≡ line_text s ++ after → (body ≡ body_text s) × (rest ≡ 10 ∷ after)
line_cut text body rest s after is w b n spelled =
    cut_once 10 body rest (body_text s) (10 ∷ after) w b (body_without s n) refl (sym is ∙ (spelled ∙ append_assoc (body_text s) (10 ∷ []) after))

-- the line and what follows it
pub line_front : (text body : List ℕ) (s : Step) (after : List ℕ) → body ≡ body_text s → text ≡ line_text s ++ after → (take (length body + 1) text ≡ line_text s) × (drop (length body + 1) text ≡ after)
line_front text body s after is spelled =
    let count : length body + 1 ≡ length (line_text s) = omega (arith, ap length is, length-append (body_text s) (10 ∷ [])) in (
      ap (λ (n : ℕ). take n text) count ∙ (ap (take (length (line_text s))) spelled ∙ take-append_seam (line_text s) after),
      ap (λ (n : ℕ). drop n text) count ∙ (ap (drop (length (line_text s))) spelled ∙ drop-append_seam (line_text s) after),
    )

-- a line that was read and is spelled as it stands is the line of the text
pub line_read : (text body rest : List ℕ) (line : Step) → text ≡ body ++ rest → Without 10 body → BeginsWith 10 rest → ((s : Step) → IsNumbered s → body ≡ body_text s → Some line ≡ Some s) → IsNumbered line → line_text line ≡ take (length body + 1) text
    → IsLineRead text line (drop (length body + 1) text)
line_read text body rest line is w b reads numbered spelled = record {
  whole = sym (take-append-drop (length body + 1) text) ∙ ap (λ (front : List ℕ). front ++ drop (length body + 1) text) (sym spelled);
  numbered = numbered;
  one = λ s more n from.
      let cut = line_cut text body rest s more is w b n from in
      (sym (some_is line s (reads s n cut.0)), sym (line_front text body s more cut.0 from).1);
}

-- a line that was read and is spelled otherwise is no line of the text
pub line_differs : (text body rest : List ℕ) (line s : Step) (after : List ℕ) → text ≡ body ++ rest → Without 10 body → BeginsWith 10 rest → ((s : Step) → IsNumbered s → body ≡ body_text s → Some line ≡ Some s) → (line_text line ≡ take (length body + 1) text → ⊥) → IsNumbered s → text ≡ line_text s ++ after → ⊥
line_differs text body rest line s after is w b reads differs n from =
    let cut = line_cut text body rest s after is w b n from in
    let same = some_is line s (reads s n cut.0) in
    differs (ap (λ (t : Step). line_text t) same ∙ sym (line_front text body s after cut.0 from).0)
