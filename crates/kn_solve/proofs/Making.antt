-- The term of a formula, as it is made.
use Rattle.std.proofs.Common.{◌≡◌, ℕ, zero, suc, ◌+◌, ◌<◌, ◌≤◌, Bool, true, false, List, [], ◌∷◌, length, drop, get_or, map, sym, ap, subst, ◌∙◌, arith}
use Rattle.std.specs.Prelude.{if◌then◌else◌, Vec}
use Rattle.std.specs.declared.alloc.Global.{Global}
use Rattle.std.specs.List.{AllByRecursion}
use Rattle.std.proofs.lemmas.List.{at_drop_more, drop_all}
use Rattle.std.proofs.lemmas.Option.{slice_get-get_or}
use Rattle.kn_built.specs.Built.{Extends}
use Rattle.kn_built.proofs.BuiltLaws.{extends-twice}
use Rattle.kn_term.specs.declared.node.Node.{Node}
use Rattle.kn_term.specs.declared.node.Ref.{Ref}
use Rattle.kn_term.specs.declared.node.Literal.{Literal as Listed}
use Rattle.kn_term.specs.Terms.{Term, Word, Choice}
use Rattle.kn_term.specs.Nodes.{term_at}
use Rattle.kn_term.proofs.Kept.{term_at-extends}
use Rattle.kn_cond.specs.Conditions.{Condition}
use Rattle.kn_cond.specs.Meanings.{literal_of, condition_of, StandIn}
use Rattle.kn_cond.proofs.Kept.{condition_of-extends}
use Rattle.kn_solve.specs.Formulas.{column_of, ColumnStands, ColumnsStand}
use Rattle.kn_solve.specs.Wholes.{taken_in, with_literal, with_condition, with_alternative, some_alternative, with_column, with_columns}
use Rattle.kn_solve.proofs.Stating.{alternatives_kept, columns_kept}

-- one element more is taken in
pub taken_step : {X Y : Type 0} → (f : X → Term → Term) (g : Y → X) (ys : List Y) (i : ℕ) (d : Y) (before after all : Term) → taken_in f (map g (drop i ys)) before ≡ all → i < length ys → after ≡ f (g (get_or ys i d)) before → taken_in f (map g (drop (i + 1) ys)) after ≡ all
taken_step f g ys i d before after all so_far h e =
    ap (taken_in f (map g (drop (i + 1) ys))) e ∙ (sym (at_drop_more (λ l. taken_in f (map g l) before) ys i d h) ∙ so_far)

-- all elements are taken in
pub taken_done : {X Y : Type 0} → (f : X → Term → Term) (g : Y → X) (ys : List Y) (i : ℕ) (t all : Term) → length ys ≤ i → taken_in f (map g (drop i ys)) t ≡ all → t ≡ all
taken_done f g ys i t all h so_far = ap (λ l. taken_in f (map g l) t) (sym (drop_all i ys h)) ∙ so_far

choice_is : (t a b c d e f : Term) → t ≡ Choice a b c → a ≡ d → b ≡ e → c ≡ f → t ≡ Choice d e f
choice_is t a b c d e f is p q r = is ∙ (ap (λ (x : Term). Choice x b c) p ∙ (ap (λ (x : Term). Choice d x c) q ∙ ap (Choice d e) r))

-- a choice by a literal
pub literal_true : (old mid : List Node) (l : Listed) (rest nil : Ref) (t : Term) → Extends old mid → l.term.index < length old → rest.index < length old → term_at mid nil.index ≡ Word 0 → l.truth ≡ true
    → t ≡ Choice (term_at mid l.term.index) (term_at mid rest.index) (term_at mid nil.index) → t ≡ with_literal (literal_of old l) (term_at old rest.index)
literal_true old mid l rest nil t e h g nought truth is =
    let v = term_at old l.term.index in
    let w = term_at old rest.index in
    choice_is t _ _ _ v w (Word 0) is (term_at-extends old mid l.term.index e h) (term_at-extends old mid rest.index e g) nought
    ∙ sym (ap (λ (b : Bool). if b then Choice v w (Word 0) else Choice v (Word 0) w) truth)

pub literal_false : (old mid : List Node) (l : Listed) (rest nil : Ref) (t : Term) → Extends old mid → l.term.index < length old → rest.index < length old → term_at mid nil.index ≡ Word 0 → l.truth ≡ false
    → t ≡ Choice (term_at mid l.term.index) (term_at mid nil.index) (term_at mid rest.index) → t ≡ with_literal (literal_of old l) (term_at old rest.index)
literal_false old mid l rest nil t e h g nought truth is =
    let v = term_at old l.term.index in
    let w = term_at old rest.index in
    choice_is t _ _ _ v (Word 0) w is (term_at-extends old mid l.term.index e h) nought (term_at-extends old mid rest.index e g)
    ∙ sym (ap (λ (b : Bool). if b then Choice v w (Word 0) else Choice v (Word 0) w) truth)

-- what was made over a longer list
pub literal_kept : (old mid : List Node) (l : Listed) (t before : Term) → Extends old mid → l.term.index < length old → t ≡ with_literal (literal_of mid l) before → t ≡ with_literal (literal_of old l) before
literal_kept old mid l t before e h is = is ∙ ap (λ (v : Term). with_literal (record { value = v; truth = l.truth }) before) (term_at-extends old mid l.term.index e h)

pub alternative_kept : (old mid : List Node) (c : List Listed) (t before : Term) → Extends old mid → StandIn old c → t ≡ with_alternative (condition_of mid c) before → t ≡ with_alternative (condition_of old c) before
alternative_kept old mid c t before e stand is = is ∙ ap (λ (d : Condition). with_alternative d before) (condition_of-extends old mid c e stand)

pub column_made_kept : (old mid : List Node) (v : Vec (List Listed) Global) (cs : List (List Listed)) (t before : Term) → Extends old mid → cs ≡ v.items → ColumnStands old v → t ≡ with_column (map (condition_of mid) cs) before → t ≡ with_column (column_of old v) before
column_made_kept old mid v cs t before e same stand is =
    is ∙ (ap (λ (xs : List (List Listed)). with_column (map (condition_of mid) xs) before) same ∙ ap (λ (ds : List Condition). with_column ds before) (alternatives_kept old mid v.items e stand))

-- a condition that is taken into 1
condition_made : (old first : List Node) (c ls : List Listed) (one : Ref) (t : Term) → Extends old first → StandIn old c → ls ≡ c → term_at first one.index ≡ Word 1 → t ≡ with_condition (condition_of first ls) (term_at first one.index) → t ≡ with_condition (condition_of old c) (Word 1)
condition_made old first c ls one t e stand same unit is =
    is ∙ (ap (λ (x : Term). with_condition (condition_of first ls) x) unit ∙ (ap (λ (x : List Listed). with_condition (condition_of first x) (Word 1)) same ∙ ap (λ (d : Condition). with_condition d (Word 1)) (condition_of-extends old first c e stand)))

pub alternative_made : (old first second : List Node) (c ls : List Listed) (holds one other : Ref) (t : Term) → Extends old first → Extends first second → StandIn old c → ls ≡ c → term_at first one.index ≡ Word 1 → one.index < length first → term_at second holds.index ≡ with_condition (condition_of first ls) (term_at first one.index)
    → other.index < length old → t ≡ Choice (term_at second holds.index) (term_at second one.index) (term_at second other.index) → t ≡ with_alternative (condition_of old c) (term_at old other.index)
alternative_made old first second c ls holds one other t e f stand same unit within made h is =
    choice_is t _ _ _ (with_condition (condition_of old c) (Word 1)) (Word 1) (term_at old other.index) is
    (condition_made old first c ls one (term_at second holds.index) e stand same unit made)
    (term_at-extends first second one.index f within ∙ unit)
    (term_at-extends old second other.index (extends-twice old first second e f) h)

pub column_made : (old first second : List Node) (ds : List Condition) (some nil rest : Ref) (t : Term) → Extends old first → Extends first second → term_at first some.index ≡ some_alternative ds → some.index < length first → rest.index < length old → term_at second nil.index ≡ Word 0
    → t ≡ Choice (term_at second some.index) (term_at second rest.index) (term_at second nil.index) → t ≡ with_column ds (term_at old rest.index)
column_made old first second ds some nil rest t e f made within h nought is =
    choice_is t _ _ _ (some_alternative ds) (term_at old rest.index) (Word 0) is
    (term_at-extends first second some.index f within ∙ made)
    (term_at-extends old second rest.index (extends-twice old first second e f) h)
    nought

pub whole_made : (old first second : List Node) (c ls : List Listed) (css vs : List (Vec (List Listed) Global)) (holds one : Ref) (t : Term) → Extends old first → Extends first second → StandIn old c → ColumnsStand old css → ls ≡ c → vs ≡ css → term_at first one.index ≡ Word 1
    → term_at second holds.index ≡ with_condition (condition_of first ls) (term_at first one.index) → t ≡ with_columns (map (column_of second) vs) (term_at second holds.index)
    → t ≡ with_columns (map (column_of old) css) (with_condition (condition_of old c) (Word 1))
whole_made old first second c ls css vs holds one t e f stand all same equal unit made is =
    is
    ∙ (ap (λ (x : Term). with_columns (map (column_of second) vs) x) (condition_made old first c ls one (term_at second holds.index) e stand same unit made)
    ∙ (ap (λ (x : List (Vec (List Listed) Global)). with_columns (map (column_of second) x) (with_condition (condition_of old c) (Word 1))) equal
    ∙ ap (λ (ds : List (List Condition)). with_columns ds (with_condition (condition_of old c) (Word 1))) (columns_kept old second css (extends-twice old first second e f) all)))

-- a literal among those that stand
pub literal_stands : (ns : List Node) (ls : List Listed) (i : ℕ) (d : Listed) → StandIn ns ls → i < length ls → (get_or ls i d).term.index < length ns
literal_stands ns ls i d stand h = stand i (get_or ls i d) (slice_get-get_or ls i d h)

-- an element of a list of such
pub each_at : {A : Type 0} → (P : A → Type 0) (xs : List A) (i : ℕ) (d : A) → AllByRecursion P xs → i < length xs → P (get_or xs i d)
each_at P [] i d all h = absurd (omega (arith, h))
each_at P (x ∷ xs) zero d all h = all.0
each_at P (x ∷ xs) (suc i) d all h = each_at P xs i d all.1 (omega (arith, h))

-- the same of an element as it was read
pub taken_item : {X Y : Type 0} → (f : X → Term → Term) (g : Y → X) (ys : List Y) (i : ℕ) (y d : Y) (before after all : Term) → y ≡ get_or ys i d → taken_in f (map g (drop i ys)) before ≡ all → i < length ys → after ≡ f (g y) before → taken_in f (map g (drop (i + 1) ys)) after ≡ all
taken_item {X} {Y} f g ys i y d before after all is so_far h e = taken_step f g ys i d before after all so_far h (e ∙ ap (λ (v : Y). f (g v) before) is)

pub each_item : {A : Type 0} → (P : A → Type 0) (xs : List A) (i : ℕ) (x d : A) → x ≡ get_or xs i d → AllByRecursion P xs → i < length xs → P x
each_item P xs i x d is all h = subst P (sym is) (each_at P xs i d all h)
